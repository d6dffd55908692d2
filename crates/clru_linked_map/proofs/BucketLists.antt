-- Numbers of buckets, and behind them those of links.
use Rattle.std.proofs.Common.{◌≡◌, ℕ, zero, suc, ◌+◌, ◌<◌, List, [], ◌∷◌, length, take, drop, set, replicate, refl, ap, arith}
use Rattle.std.proofs.lemmas.List.{take-set-le, drop-set-lt, drop-set-add}
use Rattle.std.proofs.Math.Seq.{take-set-lt}
use Rattle.clru_linked_map.specs.Buckets.{number_in}

-- new buckets lead nowhere
pub none_led : (size len h : ℕ) → number_in (take size (replicate len 0)) h ≡ 0
none_led zero len h = refl
none_led (suc size) zero h = refl
none_led (suc size) (suc len) zero = refl
none_led (suc size) (suc len) (suc h) = none_led size len h

-- buckets and links that are written over with 0
pub buckets_cleared : (size : ℕ) (xs : List ℕ) → take {A = ℕ} size (replicate (length xs) 0) ≡ replicate (length (take size xs)) 0
buckets_cleared zero xs = refl
buckets_cleared (suc size) [] = refl
buckets_cleared (suc size) (x ∷ xs) = ap (λ ps. 0 ∷ ps) (buckets_cleared size xs)

pub links_cleared : (size : ℕ) (xs : List ℕ) → drop {A = ℕ} size (replicate (length xs) 0) ≡ replicate (length (drop size xs)) 0
links_cleared zero xs = refl
links_cleared (suc size) [] = refl
links_cleared (suc size) (x ∷ xs) = links_cleared size xs

module _ (size : ℕ) (xs : List ℕ) (k n : ℕ) where
  -- the number of a bucket is written
  pub bucket_written : k < size → take size (set xs k n) ≡ set (take size xs) k n
  bucket_written within = take-set-lt size xs k n within

  pub links_stay : k < size → drop size (set xs k n) ≡ drop size xs
  links_stay within = drop-set-lt size xs k n within

  -- the number of a link is written
  pub link_written : drop size (set xs (size + k) n) ≡ set (drop size xs) k n
  link_written = drop-set-add size xs k n

  pub buckets_stay : take size (set xs (size + k) n) ≡ take size xs
  buckets_stay = take-set-le size xs (size + k) n (omega arith)
