use Rattle.std.proofs.Common.{ℕ, ◌-◌, inl, inr, ap, arith, rules, slice_index_or}
use Rattle.std.proofs.lemmas.Bool.{cases_lt, eqb-true}
use Rattle.std.specs.Int.NonZero.{non_zero_usize_get}
use Rattle.clru_uses.proofs.sized_curves.missed_bytes.Goals as goal

pub returns : goal.returns
returns c =
    let weight = λ (file : ℕ). slice_index_or c.args.bytes.now file 1 - 1 in
    let room = non_zero_usize_get c.args.capacity in
    let curve = c.in_ok-curve.ensures.curve (λ x y e. ap weight (eqb-true x y e)) in
    elim (cases_lt c.in_ok-curve.curve.greatest_weight room) [
      | inl lt ↦ rw (c.missed_size.ensures.answer lt) (record {
        missed = curve.missed_size room;
        too_small = (λ none. cc none, λ low. absurd (omega (arith, low, lt, curve.greatest_weight)));
      })
      | inr ge ↦ let none = c.missed_size.ensures.refused ge in record {
        missed = search rules;
        too_small = (λ _. omega (arith, ge, curve.greatest_weight), λ _. none);
      }
    ]
