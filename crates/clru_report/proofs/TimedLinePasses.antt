-- What a table of lines with times notes after one more request, and what it says of one.
use Rattle.std.proofs.Common.{◌≡◌, ℕ, ◌-◌, Bool, false, cond, nat_le, List, ◌∷◌, length, Option, Some, sym, ap, ◌∙◌, subst}
use Rattle.std.specs.Map.{keys_of, lookup}
use Rattle.std.specs.Option.{option_map_or}
use Rattle.std.specs.Prelude.{bytes_eq}
use Rattle.std.proofs.lemmas.Map.Entries.{length-keys_of}
use Rattle.clru_linked_map.specs.BytesMaps.{with_bytes}
use Rattle.clru_linked_map.proofs.BytesMaps.{lookup-with_bytes}
use Rattle.clru_model.proofs.Cases.{split}
use Rattle.clru_model.proofs.LatestRequests.{latest_here, latest_there}
use Rattle.clru_model.specs.Ages.{is_recent}
use Rattle.clru_text.specs.Keys.{line_of, same_line}
use Rattle.clru_text.specs.declared.lines.OwnedKey.{OwnedKey}
use Rattle.clru_report.specs.TimedPasses.{IsLatestAt, position_of, soon_of}
use Rattle.clru_report.specs.declared.timed.line_pass.Seen.{Seen}

module _ {A : Type 0} (past : List (OwnedKey A × ℕ)) where
  -- a request comes soon enough if its key was requested recently
  pub soon_recent : (limit time : ℕ) (key : OwnedKey A) (before : Option Seen) → IsLatestAt past key before
      → soon_of limit time before ≡ is_recent same_line (Some limit) (key, time) past
  soon_recent limit time key before is = ap (λ o. option_map_or (λ at. nat_le (time - at) limit) o false) is.timed

  -- where the latest request of each line is noted
  module _ (noted : List (List ℕ × Seen)) (each : (y : OwnedKey A) → IsLatestAt past y (lookup (bytes_eq (line_of y)) noted))
      (key : OwnedKey A) (line : List ℕ) (is : line ≡ line_of key) where
    pub seen_noted : (before : Option Seen) → before ≡ lookup (bytes_eq line) noted → IsLatestAt past key before
    seen_noted before found = subst (IsLatestAt past key) (sym (found ∙ ap (λ l. lookup (bytes_eq l) noted) is)) (each key)

    -- that of one more is
    pub seen_more : (here : Seen) (next : List (List ℕ × Seen)) → here.position ≡ length past → next ≡ with_bytes line here noted
        → (y : OwnedKey A) → IsLatestAt ((key, here.time) ∷ past) y (lookup (bytes_eq (line_of y)) next)
    seen_more here next at to y =
        let before = lookup (bytes_eq (line_of y)) noted in
        let found = λ (b : Bool). cond b (Some here) before in
        let moved : lookup (bytes_eq (line_of y)) next ≡ found (same_line y key) =
        ap (lookup (bytes_eq (line_of y))) to ∙ lookup-with_bytes (line_of y) line here noted ∙ ap (λ l. found (bytes_eq (line_of y) l)) is in
        let timed = λ (b : Bool). cond b (Some here.time) (lookup (same_line y) past) in
        split (same_line y key)
        (λ t. subst (IsLatestAt ((key, here.time) ∷ past) y) (sym (moved ∙ ap found t)) (record {
          position = latest_here same_line (keys_of past) key y t here.position (at ∙ sym (length-keys_of past));
          timed = sym (ap timed t);
        }))
        (λ f. subst (IsLatestAt ((key, here.time) ∷ past) y) (sym (moved ∙ ap found f)) (record {
          position = latest_there same_line (keys_of past) key y f (position_of before) (each y).position;
          timed = (each y).timed ∙ sym (ap timed f);
        }))
