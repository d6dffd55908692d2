-- A sample of the requests: which lines are kept, and what a number of the kept ones says of all. Public clauses cite it.
use Rattle.std.specs.Prelude.{ℕ, ◌*◌, ◌%◌, ◌^◌, ◌==◌, Bool, List, min, bit_xor, filter, fold}

-- the hash FNV-1a of 64 bits
abbrev pub fnv : List ℕ → ℕ
fnv bytes = fold (λ s b. (bit_xor s b * 1099511628211) % 2 ^ 64) 14695981039346656037 bytes

-- a key is kept where its hash is a multiple of n: all of its requests are, or none
abbrev pub is_kept : ℕ → List ℕ → Bool
is_kept n line = fnv line % n == 0

abbrev pub kept_of : ℕ → List (List ℕ) → List (List ℕ)
kept_of n lines = filter (is_kept n) lines

-- n times a number, or the bound where that is less
abbrev pub times : ℕ → ℕ → ℕ → ℕ
times n bound number = min (number * n) bound
