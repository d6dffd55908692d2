use Rattle.std.proofs.Common.{◌≡◌, ℕ, ◌++◌, [], ◌∷◌, nat_lt, true, false, map, rules, sym, ap, ◌∙◌}
use Rattle.std.specs.Prelude.{◌==◌, if◌then◌else◌}
use Rattle.std.proofs.lemmas.List.{append-nil}
use Rattle.std.specs.Int.NonZero.{non_zero_usize_get}
use Rattle.clru_text.specs.RoundNumbers.{round_number}
use Rattle.clru_report.proofs.CapacityLemmas.{passing, passing_one, passing_none}
use Rattle.clru_report.proofs.capacities.usual_capacities.Goals as goal
use Rattle.clru_report.proofs.capacities.usual_capacities.Goals.{then-capacity-distinct+in_ok-push_capacity, else-capacity-distinct, then-distinct-gt0+in_ok-push_capacity-2, else-distinct-gt0}

pub loop-index-preserved : goal.loop-index-preserved
loop-index-preserved g c =
    let p = λ (k : ℕ). nat_lt k c.args.distinct in let i = c.loop-index.index in
    let round = c.round_at-capacity.ensures.value in
    elim c.if-capacity-distinct.branch [
      | then-capacity-distinct+in_ok-push_capacity w ↦
          let less : nat_lt (round_number i) c.args.distinct ≡ true = rw (sym round) (search rules) in
          ap (λ v. map non_zero_usize_get v.items) w.chosen-is ∙ w.in_ok-push_capacity.ensures
          ∙ ap (λ ks. ks ++ c.round_at-capacity.result ∷ []) c.loop-index.invariant
          ∙ ap (λ n. passing p round_number i ++ n ∷ []) round
          ∙ sym (passing_one p round_number i less)
      | else-capacity-distinct w ↦
          let more : nat_lt (round_number i) c.args.distinct ≡ false = rw (sym round) (search rules) in
          ap (λ v. map non_zero_usize_get v.items) w.chosen-is ∙ c.loop-index.invariant
          ∙ sym (passing_none p round_number i more ∙ append-nil (passing p round_number i))
    ]

pub returns : goal.returns
returns g c =
    let d = c.args.distinct in let p = λ (k : ℕ). nat_lt k d in
    let all = passing p round_number 60 in
    let whole : c.loop-index.index ≡ 60 = search rules in
    let before = c.loop-index.invariant ∙ ap (passing p round_number) whole in
    elim c.if-distinct-gt0.branch [
      | then-distinct-gt0+in_ok-push_capacity-2 w ↦
          let some : (d == 0) ≡ false = search rules in
          ap (λ v. map non_zero_usize_get v.items) w.chosen-is ∙ w.in_ok-push_capacity-2.ensures ∙ ap (λ ks. ks ++ d ∷ []) before
          ∙ ap (λ b. all ++ (if b then [] else d ∷ [])) (sym some)
      | else-distinct-gt0 w ↦
          let zero : d ≡ 0 = search rules in
          ap (λ v. map non_zero_usize_get v.items) w.chosen-is ∙ before ∙ sym (append-nil all)
          ∙ ap (λ b. all ++ (if b then [] else d ∷ [])) (sym (ap (λ n. n == 0) zero))
    ]
