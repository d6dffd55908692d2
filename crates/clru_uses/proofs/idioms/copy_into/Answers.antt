use Rattle.std.proofs.Common.{rules, ◌≡◌, ℕ, suc, ◌≤◌, [], ◌∷◌, ◌++◌, List, length, nat_eq, sym, ap, ◌∙◌, arith, append_assoc, append-nil, subst, length-append}
use Rattle.std.specs.Cmp.{nat_eq_equiv}
use Rattle.std.specs.List.{IsDistinct}
use Rattle.std.specs.Map.{keys_of}
use Rattle.std.specs.Map.Iter.{deref_pair}
use Rattle.clru.proofs.CallerLemmas.{plain_put-before}
use Rattle.clru_uses.proofs.idioms.copy_into.Goals as goal

pub loop-page-init : goal.loop-page-init
loop-page-init c = record {
  whole = ap (λ l. c.iter-walk.result ++ l) c.requires.empty ∙ append-nil c.iter-walk.result ∙ c.iter-walk.ensures;
  capacity = search rules;
}

pub loop-page-smaller : goal.loop-page-smaller
loop-page-smaller c =
    let last = deref_pair (c.in-Some.page, c.in-Some.text) in
    omega (arith, ap length c.in-Some.ensures.steps, length-append c.next_back.new.self (last ∷ []))

pub loop-page-preserved : goal.loop-page-preserved
loop-page-preserved c =
    let e : ℕ × ℕ = deref_pair (c.in-Some.page, c.in-Some.text) in
    let front = c.next_back.new.self in
    let back = c.loop-page.to.entries in
    let k = c.loop-page.to.capacity in
    let es = c.args.from.now.entries in
    let split : front ++ e ∷ back ≡ es =
    sym (append_assoc front (e ∷ []) back) ∙ ap (λ l. l ++ back) (sym c.in-Some.ensures.steps) ∙ c.loop-page.invariant.whole in
    let distinct : IsDistinct nat_eq (keys_of (front ++ e ∷ back)) =
    subst (λ (l : List (ℕ × ℕ)). IsDistinct nat_eq (keys_of l)) (sym split) c.len.ensures.valid.distinct in
    let long = ap length split in
    let parts = length-append front (e ∷ back) in
    let fits : suc (length back) ≤ k = omega (arith, long, parts, c.len.ensures.valid.fits, c.requires.room, c.loop-page.invariant.capacity) in
    record {
      whole = ap (λ l. front ++ l) (c.in_ok-put.ensures.entries ∙ plain_put-before nat_eq_equiv front back e k distinct fits) ∙ split;
      capacity = search rules;
    }

pub returns : goal.returns
returns c = search rules
