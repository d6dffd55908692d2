use Rattle.std.proofs.Common.{◌≡◌, ℕ, ◌+◌, ◌++◌, ◌∷◌, [], get_or, length, map, min, refl, sym, ap, ◌∙◌, arith}
use Rattle.std.proofs.lemmas.List.{append-nil, append_assoc, get_or_append_left, length-append}
use Rattle.std.proofs.lemmas.List.FromFn.{map-range_with_len_more}
use Rattle.std.specs.List.{range_with_len}
use Rattle.clru_curve.proofs.FetchBlocks.{read_at}
use Rattle.clru_curve.proofs.fetches.copy_times.Goals as goal

pub loop-place-init : goal.loop-place-init
loop-place-init g c = record {
  items = sym (append-nil c.args.times.now.items);
  len = omega arith;
  capacity = refl;
}

pub loop-place-preserved : goal.loop-place-preserved
loop-place-preserved g c =
    let inv = c.loop-place.invariant in let old = c.args.times.now.items in let now = c.loop-place.times.items in let i = c.loop-place.place in
    let copy : ℕ → ℕ = λ p. get_or old (c.args.first + min p c.args.last) 0 in let at = c.args.first + min i c.args.last in
    let copied = map copy (range_with_len 0 i) in
    let time : c.index-time.result.now ≡ copy i =
    read_at now at c.index-time.result.now (omega (arith, c.requires.inside, ap (λ l. length l) inv.items, length-append old copied))
    (c.index-time.ensures ∙ ap (λ m. get_or now (c.args.first + m) c.index-time.result.now) c.min.ensures)
    ∙ ap (λ l. get_or l at 0) inv.items ∙ get_or_append_left old copied 0 at (omega (arith, c.requires.inside)) in
    record {
      items = c.push_reserved.ensures.items ∙ ap (λ l. l ++ c.index-time.result.now ∷ []) inv.items
          ∙ append_assoc old copied (c.index-time.result.now ∷ [])
          ∙ ap (λ l. old ++ l) (ap (λ t. copied ++ t ∷ []) time ∙ sym (map-range_with_len_more copy 0 i i (omega arith)));
      len = omega (arith, c.push_reserved.ensures.len, inv.len);
      capacity = c.push_reserved.ensures.capacity ∙ inv.capacity;
    }
