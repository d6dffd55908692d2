-- What the weight of some pairs is made of.
use Rattle.std.proofs.Common.{◌≡◌, ℕ, ◌+◌, List, [], ◌∷◌, ◌++◌, refl, arith}
use Rattle.std.proofs.lemmas.List.Sums.{sum_by-cons, sum_by-append}
use Rattle.clru_model.specs.Entries.{weight_of}

pub weight_of-cons : {K V : Type 0} (weight : K → V → ℕ) (e : K × V) (es : List (K × V))
    → weight_of weight (e ∷ es) ≡ weight e.0 e.1 + weight_of weight es
weight_of-cons {K} {V} weight e es = sum_by-cons (λ (e : K × V). weight e.0 e.1) e es

pub weight_of-push : {K V : Type 0} (weight : K → V → ℕ) (es : List (K × V)) (e : K × V)
    → weight_of weight (es ++ e ∷ []) ≡ weight_of weight es + weight e.0 e.1
weight_of-push {K} {V} weight es e =
    let both : weight_of weight (es ++ e ∷ []) ≡ weight_of weight es + weight_of weight (e ∷ []) = sum_by-append
    (λ (d : K × V). weight d.0 d.1) es (e ∷ []) in omega (arith, both, weight_of-cons weight e [])

pub weight_of-zero : {K V : Type 0} (es : List (K × V)) → weight_of (λ (k : K) (v : V). 0) es ≡ 0
weight_of-zero [] = refl
weight_of-zero {K} {V} (e ∷ es) = let cons : weight_of (λ (k : K) (v : V). 0) (e ∷ es) ≡ 0 + weight_of
    (λ (k : K) (v : V). 0) es = sum_by-cons (λ (d : K × V). 0) e es in omega (arith, cons, weight_of-zero es)
