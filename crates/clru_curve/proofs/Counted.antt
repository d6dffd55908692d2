-- A tree of nodes above counts: the same counts, and one more node.
use Rattle.std.proofs.Common.{◌≡◌, ℕ, zero, suc, ◌+◌, List, [], ◌∷◌, ◌++◌, length, get_or, set, replicate, inl, inr, refl, sym, ap, ◌∙◌, arith, length-set}
use Rattle.std.proofs.lemmas.Bool.{cases_lt}
use Rattle.std.proofs.lemmas.List.{get_or_past, get_or-set_other, length_push}
use Rattle.clru_curve.specs.Tree.{node_after, IsCounted}
use Rattle.clru_curve.proofs.Nodes.{node_after-greater}

pub get_or_push : (xs : List ℕ) (j : ℕ) → get_or (xs ++ 0 ∷ []) j 0 ≡ get_or xs j 0
get_or_push [] zero = refl
get_or_push [] (suc j) = refl
get_or_push (x ∷ xs) zero = refl
get_or_push (x ∷ xs) (suc j) = get_or_push xs j

-- a count that is the same from each number on
pub IsCounted-same : (f g : ℕ → ℕ) (nodes : List ℕ) → ((j : ℕ) → f j ≡ g j) → IsCounted f nodes → IsCounted g nodes
IsCounted-same f g nodes same is = record {
  node = λ j some within. ap (λ n. get_or nodes j 0 + n) (sym (same (node_after j))) ∙ is.node j some within ∙ same j;
  none = λ j far. sym (same j) ∙ is.none j far;
}

-- the first node is above no count
pub IsCounted-first : (f : ℕ → ℕ) (nodes : List ℕ) (n : ℕ) → IsCounted f nodes → IsCounted f (set nodes 0 n)
IsCounted-first f nodes n is = record {
  node = λ j some within.
      ap (λ k. k + f (node_after j)) (get_or-set_other nodes 0 j n 0 (λ same. omega (arith, same, some)))
      ∙ is.node j some (omega (arith, within, length-set nodes 0 n));
  none = λ j far. is.none j (omega (arith, far, length-set nodes 0 n));
}

-- one more node, above nothing yet
pub IsCounted-push : (f : ℕ → ℕ) (nodes : List ℕ) → IsCounted f nodes → IsCounted f (nodes ++ 0 ∷ [])
IsCounted-push f nodes counted =
    let longer = length_push nodes 0 in
    record {
      node = λ j some within.
          let item = get_or_push nodes j in
          let e : get_or (nodes ++ 0 ∷ []) j 0 + f (node_after j) ≡ f j = elim (cases_lt j (length nodes)) [
            | inl lt ↦ let is = counted.node j some lt in omega (arith, item, is)
            | inr past ↦
                let less = node_after-greater j some in
                omega (arith, item, get_or_past nodes j 0 past, counted.none j past, counted.none (node_after j) (omega arith))
          ] in e;
      none = λ j far. counted.none j (omega (arith, far, longer));
    }

-- nodes above nothing
pub IsCounted-none : (n : ℕ) → IsCounted (λ j. 0) (replicate n 0)
IsCounted-none n = record { node = λ j some within. omega (arith, zeros n j); none = λ j far. refl }
  where
    zeros : (n j : ℕ) → ◌≡◌ {A = ℕ} (get_or (replicate n 0) j 0) 0
    zeros zero j = refl
    zeros (suc n) zero = refl
    zeros (suc n) (suc j) = zeros n j
