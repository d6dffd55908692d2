-- Requests for keys: which of them hit. No cache is in sight here. Public clauses cite them.
use Rattle.std.specs.Prelude.{◌≡◌, ℕ, ◌+◌, Bool, if◌then◌else◌, not, ◌&&◌, nat_lt, List, [], ◌∷◌, length, Option, is_some, IfSome}
use Rattle.std.specs.List.{list_any, take_while, count_by}

module _ {K : Type 0} (eq : K → K → Bool) where
  -- some key of ks is the same as x
  abbrev pub holds : K → List K → Bool
  holds x ks = list_any (eq x) ks

  -- the sum of f over the requests, the latest first, that ask for a key that no earlier one asked for
  abbrev pub sum_distinct : (K → ℕ) → List K → ℕ
  sum_distinct f [] = 0
  sum_distinct f (x ∷ earlier) = if holds x earlier then sum_distinct f earlier else f x + sum_distinct f earlier

  -- how many distinct keys the requests ask for
  abbrev pub distinct : List K → ℕ
  distinct past = sum_distinct (λ _. 1) past

  -- of the requests, the latest first, those after the latest one of x
  abbrev pub since : K → List K → List K
  since x past = take_while (λ y. not (eq x y)) past

  -- the position of the latest request of the key among those of the past, the latest first, or none
  pub record IsLatestOf (past : List K) (key : K) (latest : Option ℕ) : Type 0 where
    pub known : is_some latest ≡ holds key past
    pub position : IfSome latest (λ p. p + 1 + length (since key past) ≡ length past)

  -- x was requested before, and since then fewer than k distinct keys were
  abbrev pub hit : ℕ → K → List K → Bool
  hit k x past = holds x past && nat_lt (distinct (since x past)) k

  -- for each request in order whether it hits, after the requests of the past, the latest first
  abbrev pub marks_after : ℕ → List K → List K → List Bool
  marks_after k past [] = []
  marks_after k past (x ∷ rs) = hit k x past ∷ marks_after k (x ∷ past) rs

  -- for each request in order whether it hits at capacity k
  abbrev pub marks : ℕ → List K → List Bool
  marks k rs = marks_after k [] rs

  -- how many requests don't hit at capacity k
  abbrev pub misses : ℕ → List K → ℕ
  misses k rs = count_by not (marks k rs)
