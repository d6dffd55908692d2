-- Lines with times after one more.
use Rattle.std.proofs.Common.{◌≡◌, ℕ, Bool, List, [], ◌∷◌, ◌++◌, length, Option, None, Some, IsSome, refl, sym, ap, ◌∙◌, subst}
use Rattle.std.specs.Prelude.{unwrap_or}
use Rattle.std.specs.Map.{keys_of}
use Rattle.std.proofs.lemmas.List.{length-map, map-append}
use Rattle.std.proofs.lemmas.List.Elements.{All-nil, All-push}
use Rattle.clru_text.specs.Times.{request_of, requests_of, rest_of_line, rests_of, time_of_line}
use Rattle.clru_shares.proofs.SampleLemmas.{nothing_kept, sample_next}
use Rattle.clru_shares.specs.Passes.{HasTakenAll, HasTakenLines, next_kept}
use Rattle.clru_shares.specs.Sampled.{is_in, kept_in}
use Rattle.clru_shares.specs.Times.{AreTimed, limit_of, requests_in, rests_in}
use Rattle.clru_shares.specs.declared.reading.Passes.{Passes}

-- the keys of the requests are the lines without their times
pub keys_are_rests : (idle : Option ℕ) (lines : List (List ℕ)) → keys_of (requests_in idle lines) ≡ rests_in idle lines
keys_are_rests None [] = refl
keys_are_rests None (line ∷ lines) = ap (λ ls. line ∷ ls) (keys_are_rests None lines)
keys_are_rests (Some limit) [] = refl
keys_are_rests (Some limit) (line ∷ lines) = ap (λ ls. rest_of_line line ∷ ls) (keys_are_rests (Some limit) lines)

pub as_many_rests : (idle : Option ℕ) (lines : List (List ℕ)) → length (rests_in idle lines) ≡ length lines
as_many_rests None lines = refl
as_many_rests (Some limit) lines = length-map lines rest_of_line

pub as_many_requests : (idle : Option ℕ) (lines : List (List ℕ)) → length (requests_in idle lines) ≡ length lines
as_many_requests None lines = length-map lines (λ (line : List ℕ). (line, 0))
as_many_requests (Some limit) lines = length-map lines request_of

-- with lines behind
pub rests_behind : (limit : ℕ) (lines more : List (List ℕ)) (line : List ℕ)
    → rests_in (Some limit) (lines ++ line ∷ more) ≡ rests_of lines ++ rest_of_line line ∷ rests_of more
rests_behind limit lines more line = map-append rest_of_line lines (line ∷ more)

module _ {S A H : Type 0} (sizes : Bool) (sample : Option ℕ) (lines : List (List ℕ)) (line : List ℕ) (next : Passes S A H) where
  -- one more line without a time
  pub untimed_more : HasTakenAll sizes (limit_of None) (lines ++ line ∷ []) (next_kept (is_in sample line) (kept_in sample (requests_in None lines)) (line, 0)) next
      → HasTakenLines sizes None sample (lines ++ line ∷ []) next
  untimed_more taken = record {
    timed = tt;
    taken = subst (λ rs. HasTakenAll sizes (limit_of None) (lines ++ line ∷ []) rs next)
        (sym (ap (kept_in sample) (map-append (λ (l : List ℕ). (l, 0)) lines (line ∷ [])) ∙ sample_next sample (requests_in None lines) (line, 0))) taken;
  }

  -- or with one
  pub timed_more : (limit time : ℕ) → AreTimed (Some limit) lines → time_of_line line ≡ Some time
      → HasTakenAll sizes limit (rests_of lines ++ rest_of_line line ∷ [])
      (next_kept (is_in sample (rest_of_line line)) (kept_in sample (requests_of lines)) (rest_of_line line, time)) next
      → HasTakenLines sizes (Some limit) sample (lines ++ line ∷ []) next
  timed_more limit time before timed taken = record {
    timed = All-push (λ l. IsSome (time_of_line l)) lines line before (rw timed refl);
    taken = subst (λ ls. HasTakenAll sizes limit ls (kept_in sample (requests_of (lines ++ line ∷ []))) next) (sym (rests_behind limit lines [] line))
        (subst (λ rs. HasTakenAll sizes limit (rests_of lines ++ rest_of_line line ∷ []) rs next) (sym requests_more) taken);
  }
    where
      requests_more : kept_in sample (requests_of (lines ++ line ∷ []))
          ≡ next_kept (is_in sample (rest_of_line line)) (kept_in sample (requests_of lines)) (rest_of_line line, time)
      requests_more = ap (kept_in sample) (map-append request_of lines (line ∷ []))
          ∙ sample_next sample (requests_of lines) (request_of line)
          ∙ ap (λ o. next_kept (is_in sample (rest_of_line line)) (kept_in sample (requests_of lines)) (rest_of_line line, unwrap_or o 0)) timed

-- before the first line
pub no_lines : {S A H : Type 0} (sizes : Bool) (idle sample : Option ℕ) (passes : Passes S A H) → HasTakenAll sizes (limit_of idle) [] [] passes
    → HasTakenLines sizes idle sample [] passes
no_lines sizes None sample passes taken =
    record { timed = tt; taken = subst (λ rs. HasTakenAll sizes (limit_of None) [] rs passes) (sym (nothing_kept sample)) taken }
no_lines sizes (Some limit) sample passes taken = record {
  timed = All-nil (λ line. IsSome (time_of_line line));
  taken = subst (λ rs. HasTakenAll sizes limit [] rs passes) (sym (nothing_kept sample)) taken;
}
