use Rattle.std.proofs.Common.{rules, ◌≡◌, ℕ, ◌%◌, ◌≤◌, nat_eq, ap, ◌∙◌, arith}
use Rattle.std.proofs.lemmas.Bool.{eqb-true}
use Rattle.std.proofs.lemmas.Fn.{filter_same}
use Rattle.std.proofs.lemmas.Result.{IfOk-weaker}
use Rattle.std.specs.Int.NonZero.{non_zero_usize_get}
use Rattle.std.specs.List.{filter}
use Rattle.clru_model.specs.Requests.{misses}
use Rattle.clru_uses.proofs.parts.misses_of_sample.Goals as goal

pub returns : goal.returns
returns c =
    let k = non_zero_usize_get c.args.capacity in
    let pages = c.args.pages.items in
    let test = λ (page : ℕ). nat_eq (page % 8) 0 in
    let sample : c.retain.new.self.items ≡ filter test pages = filter_same _ test _ (λ x b f' called. search rules) _ _ c.retain.ensures.filtered in
    let less = c.law_parts.ensures.some_keys k test pages (λ x y same. ap test (eqb-true x y same)) in
    let same : misses nat_eq k c.deref.result.now ≡ misses nat_eq k (filter test pages) = ap (misses nat_eq k) (c.deref.ensures.value ∙ sample) in
    IfOk-weaker c.misses_of.result (λ n. n ≡ misses nat_eq k c.deref.result.now) (λ n. n ≤ misses nat_eq k pages)
    (λ n is. omega (arith, is, same, less)) c.misses_of.ensures
