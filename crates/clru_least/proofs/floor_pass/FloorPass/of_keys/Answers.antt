use Rattle.std.proofs.Common.{◌≡◌, ◌+◌, ◌++◌, ◌^◌, cond, ◌∷◌, [], length, reverse, take, Some, inl, inr, sym, ap, ◌∙◌, subst, arith, take_all, rules}
use Rattle.std.specs.Borrow.{Bor}
use Rattle.std.specs.HashMap.{get}
use Rattle.std.specs.List.{sum_by}
use Rattle.std.proofs.lemmas.Bool.{cases_lt}
use Rattle.std.proofs.lemmas.List.{length-reverse, length-take-le, reverse-append, take_more}
use Rattle.std.proofs.lemmas.List.Sorted.{IsPermutation-reverse, sum_by-IsPermutation}
use Rattle.std.proofs.lemmas.List.Sums.{sum_by_push, sum_by-take-le}
use Rattle.clru_model.specs.Requests.{IsLatestOf}
use Rattle.clru_model.proofs.LatestRequests.{latest_more}
use Rattle.clru_least.specs.Reuses.{IsFloorPass}
use Rattle.clru_least.proofs.Reusing.{latest_before}
use Rattle.clru_least.proofs.floor_pass.FloorPass.of_keys.Goals as goal

pub request-requires : goal.request-requires
request-requires g c =
    let eq = g.K.PartialEq.eq in
    let key : Bor g.row.K.Denot = record { ref_ptr = c.args.keys.ref_ptr; now = c.index-keys-position.result } in
    let past = reverse (take c.loop-position.position c.args.keys.now) in
    latest_before eq past key.now c.loop-position.pass.requests c.in-Ok.before c.loop-position.invariant.taken.requests
    (subst (λ o. IsLatestOf eq past key.now o) (sym c.in-Ok.ensures.old) (c.loop-position.invariant.known key))

pub loop-position-preserved : goal.loop-position-preserved
loop-position-preserved g c =
    let eq = g.K.PartialEq.eq in let keys = c.args.keys.now in let i = c.loop-position.position in
    let w = λ (x : g.row.K.Denot). g.W.WeightScale.weight c.args.scale x tt in
    let same = λ (x : Bor g.row.K.Denot) (y : Bor g.row.K.Denot). eq x.now y.now in
    let key : Bor g.row.K.Denot = record { ref_ptr = c.args.keys.ref_ptr; now = c.index-keys-position.result } in
    let past = reverse (take i keys) in
    let one : reverse (take (i + 1) keys) ≡ key.now ∷ past =
    ap (λ l. reverse l) (take_more keys i key.now c.loop-position-test.true ∙ ap (λ k. take i keys ++ k ∷ []) (sym c.index-keys-position.is))
    ∙ reverse-append (take i keys) (key.now ∷ []) in
    let many : i ≡ length past =
    omega (arith, length-reverse (take i keys), length-take-le i keys (omega (arith, c.loop-position-test.true))) in
    let of = subst (λ o. IsLatestOf eq past key.now o) (sym c.in-Ok.ensures.old) (c.loop-position.invariant.known key) in
    record {
      taken = subst (λ l. IsFloorPass eq w l c.request.new.self) (sym one)
          (c.in-Ok-request.ensures.taken w past key.now c.loop-position.invariant.taken of (sym c.weight-weight.ensures));
      known = λ z. subst (λ l. IsLatestOf eq l z.now (get same c.insert.new.self z)) (sym one)
          (latest_more eq past key.now z.now i many (get same c.loop-position.latest z) (get same c.insert.new.self z) (c.loop-position.invariant.known z)
          (c.in-Ok.ensures.updates.0 z ∙ ap (λ b. cond b (Some i) (get same c.loop-position.latest z)) (g.met.K.Eq.laws.symm key.now z.now)));
      fits = elim (cases_lt c.request.new.self.size (2 ^ 64)) [
        | inl lt ↦ lt
        | inr ge ↦ let bad = c.in-Ok-request.ensures.too_large.1 (omega (arith, ge, c.in-Ok-request.ensures.size)) in elim bad [ ]
      ];
    }

pub returns-in-Err-clause-too_large : goal.returns-in-Err-clause-too_large
returns-in-Err-clause-too_large g c large =
    let keys = c.args.keys.now in let i = c.loop-position.position in
    let w = λ (x : g.row.K.Denot). g.W.WeightScale.weight c.args.scale x tt in
    let key = c.index-keys-position.result in
    let more : take (i + 1) keys ≡ take i keys ++ key ∷ [] =
    take_more keys i key c.loop-position-test.true ∙ ap (λ k. take i keys ++ k ∷ []) (sym c.index-keys-position.is) in
    omega (
      arith,
      c.in-Err.ensures.too_large.0 large,
      c.loop-position.invariant.taken.size,
      sum_by-IsPermutation (λ x. 1 + w x) (take i keys) (reverse (take i keys)) (IsPermutation-reverse (take i keys)),
      c.weight-weight.ensures,
      sum_by_push (λ x. 1 + w x) (take i keys) key,
      ap (λ l. sum_by (λ x. 1 + w x) l) more,
      sum_by-take-le (λ x. 1 + w x) keys (i + 1),
    )

pub returns-clause-passes : goal.returns-clause-passes
returns-clause-passes g c far =
    let keys = c.args.keys.now in let i = c.loop-position.position in
    let w = λ (x : g.row.K.Denot). g.W.WeightScale.weight c.args.scale x tt in
    let whole = ap (λ l. sum_by (λ x. 1 + w x) l) (take_all i keys (omega (arith, c.loop-position-test.false))) in
    let bad : ⊥ = omega (
      arith,
      far,
      whole,
      c.loop-position.invariant.taken.size,
      sum_by-IsPermutation (λ x. 1 + w x) (take i keys) (reverse (take i keys)) (IsPermutation-reverse (take i keys)),
      c.loop-position.invariant.fits,
    ) in elim bad [ ]

pub loop-position-init : goal.loop-position-init
loop-position-init g c =
    let eq = g.K.PartialEq.eq in
    let w = λ (x : g.row.K.Denot). g.W.WeightScale.weight c.args.scale x tt in
    record {
      taken = c.new-pass.ensures w;
      known = search rules;
      fits = omega (arith, (c.new-pass.ensures w).size);
    }
