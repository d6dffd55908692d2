-- What a pass over lines knows after one more, and in which order it holds them.
use Rattle.std.proofs.Common.{◌≡◌, ℕ, cond, List, ◌∷◌, map, length, Option, Some, sym, ap, ◌∙◌, subst}
use Rattle.std.proofs.lemmas.List.{length-map}
use Rattle.std.proofs.lemmas.Map.{keys-set_value}
use Rattle.std.proofs.lemmas.Map.Made.{is_some-lookup}
use Rattle.std.specs.Cmp.Lexicographic.{nat_list_eq_equiv}
use Rattle.std.specs.List.{list_any}
use Rattle.std.specs.Map.{keys_of, lookup}
use Rattle.std.specs.Prelude.{bytes_eq, is_some}
use Rattle.clru_linked_map.specs.BytesMaps.{with_bytes}
use Rattle.clru_linked_map.proofs.BytesMaps.{lookup-with_bytes}
use Rattle.clru_model.proofs.Cases.{split}
use Rattle.clru_model.proofs.LatestRequests.{latest_more, latest_view}
use Rattle.clru_model.proofs.Parts.{holds-lasts}
use Rattle.clru_model.specs.Parts.{lasts}
use Rattle.clru_model.specs.Requests.{IsLatestOf, holds}
use Rattle.clru_text.specs.Keys.{line_of, same_line}
use Rattle.clru_text.specs.declared.lines.OwnedKey.{OwnedKey}

module _ {A : Type 0} (past : List (OwnedKey A)) where
  -- where the latest request of each line is noted
  module _ (noted : List (List ℕ × ℕ)) (each : (line : List ℕ) → IsLatestOf bytes_eq (map line_of past) line (lookup (bytes_eq line) noted))
      (key : OwnedKey A) (line : List ℕ) (is : line ≡ line_of key) where
    pub latest_noted : (latest : Option ℕ) → latest ≡ lookup (bytes_eq line) noted → IsLatestOf same_line past key latest
    latest_noted latest found = latest_view bytes_eq line_of past key latest
        (subst (IsLatestOf bytes_eq (map line_of past) (line_of key)) (sym (found ∙ ap (λ l. lookup (bytes_eq l) noted) is)) (each (line_of key)))

    -- that of one more is
    pub noted_more : (here : ℕ) (next : List (List ℕ × ℕ)) → here ≡ length past → next ≡ with_bytes line here noted
        → (y : List ℕ) → IsLatestOf bytes_eq (map line_of (key ∷ past)) y (lookup (bytes_eq y) next)
    noted_more here next at to y =
        let before = lookup (bytes_eq y) noted in
        latest_more bytes_eq (map line_of past) (line_of key) y here (at ∙ sym (length-map past line_of)) before (lookup (bytes_eq y) next) (each y)
        (ap (lookup (bytes_eq y)) to ∙ lookup-with_bytes y line here noted ∙ ap (λ l. cond (bytes_eq y l) (Some here) before) is)

-- one more line leaves the others in the order of their first requests
pub keys_more : (past : List (List ℕ)) (es : List (List ℕ × ℕ)) (line : List ℕ) (at : ℕ) → keys_of es ≡ lasts bytes_eq past
    → keys_of (with_bytes line at es) ≡ lasts bytes_eq (line ∷ past)
keys_more past es line at keys =
    let held : is_some (lookup (bytes_eq line) es) ≡ holds bytes_eq line past =
    is_some-lookup (bytes_eq line) es ∙ ap (list_any (bytes_eq line)) keys ∙ holds-lasts bytes_eq nat_list_eq_equiv line past in
    split (holds bytes_eq line past)
    (λ t. rw (held, t) (keys-set_value (bytes_eq line) es at ∙ keys))
    (λ f. rw (held, f) (ap (λ l. line ∷ l) keys))
