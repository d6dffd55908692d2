use Rattle.std.proofs.Common.{◌≡◌, ℕ, ◌-◌, List, [], ◌++◌, length, take, replicate, ap, ◌∙◌, arith}
use Rattle.std.proofs.lemmas.List.{take_all}
use Rattle.clru_curve.proofs.fetches.Fetches.new.Goals as goal

-- an empty list that is resized has zeros alone
zeros_resized : (n : ℕ) {len : ℕ} {old new : List ℕ} → new ≡ take n old ++ replicate (n - len) 0 → old ≡ [] → len ≡ 0 → new ≡ replicate n 0
zeros_resized n {len} resized empty none =
    let all : n - len ≡ n = omega (arith, none) in
    resized ∙ ap (λ l. take n l ++ replicate (n - len) 0) empty ∙ ap (λ l. l ++ replicate (n - len) 0) (take_all {A = ℕ} n [] (omega arith))
    ∙ ap (λ k. replicate k 0) all

pub returns-clause-misses : goal.returns-clause-misses
returns-clause-misses g c =
    zeros_resized (length c.args.capacities.now) c.in-Ok-resize.ensures.items c.new-misses.ensures.items c.new-misses.ensures.len

pub returns-clause-missed_sizes : goal.returns-clause-missed_sizes
returns-clause-missed_sizes g c =
    zeros_resized (length c.args.capacities.now) c.in-Ok-resize-2.ensures.items c.new-missed_sizes.ensures.items c.new-missed_sizes.ensures.len
