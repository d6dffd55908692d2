use Rattle.std.proofs.Common.{rules, ◌≡◌, nat_eq, slice_index, ◌∙◌, subst, arith}
use Rattle.std.specs.Int.NonZero.{non_zero_usize_get}
use Rattle.std.proofs.lemmas.List.{length-set}
use Rattle.clru_c.specs.Arrays.{IsLeastOf}
use Rattle.clru_c.proofs.Below.{below_more}
use Rattle.clru_c.proofs.arrays.least_by_room.Goals as goal

pub loop-index-preserved : goal.loop-index-preserved
loop-index-preserved g c =
    let keys = c.args.keys.now in let rooms = c.args.rooms.now in let l = c.loop-index in
    let misses = c.in-Ok-least_of.misses in let room = non_zero_usize_get c.in-Some.room in
    let is : room ≡ slice_index rooms l.index = search rules in
    let of_keys = subst (λ ks. IsLeastOf nat_eq ks room misses) c.in-Ok.ensures.requests c.in-Ok-least_of.ensures in (
      length-set l.answers.items l.index misses ∙ l.invariant.0,
      below_more (λ i n. IsLeastOf nat_eq keys (slice_index rooms i) n) l.answers.items l.index misses
          (omega (arith, c.loop-index-test.true, l.invariant.0)) l.invariant.1
          (subst (λ r. IsLeastOf nat_eq keys r misses) is of_keys),
    )
