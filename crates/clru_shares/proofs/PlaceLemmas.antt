-- Where and when the latest request of each line is after one more.
use Rattle.std.proofs.Common.{◌≡◌, ℕ, ◌-◌, false, cond, nat_le, List, [], ◌∷◌, ◌++◌, length, map, reverse, Option, Some, refl, sym, ap, ◌∙◌, subst}
use Rattle.std.specs.Prelude.{bytes_eq}
use Rattle.std.specs.Map.{keys_of, lookup}
use Rattle.std.specs.Option.{option_map_or}
use Rattle.std.proofs.lemmas.Map.Entries.{length-keys_of}
use Rattle.std.proofs.lemmas.List.{length-reverse, reverse-append, reverse-reverse}
use Rattle.clru_model.specs.Ages.{is_recent}
use Rattle.clru_model.specs.Requests.{IsLatestOf}
use Rattle.clru_model.proofs.Cases.{split}
use Rattle.clru_model.proofs.LatestRequests.{latest_here, latest_there, latest_view}
use Rattle.clru_model.proofs.Views.{map-reverse}
use Rattle.clru_curve.proofs.TimedViews.{keys-view, recent-view}
use Rattle.clru_linked_map.proofs.BytesMaps.{lookup-with_bytes}
use Rattle.clru_linked_map.specs.BytesMaps.{with_bytes}
use Rattle.clru_text.specs.Keys.{line_of, same_line}
use Rattle.clru_text.specs.TakenRequests.{shown_of}
use Rattle.clru_text.specs.declared.lines.OwnedKey.{OwnedKey}
use Rattle.clru_text.proofs.ByteLemmas.{bytes_laws, same_bytes}
use Rattle.clru_shares.proofs.ClassLemmas.{none_asked, one_asked}
use Rattle.clru_shares.specs.Classes.{class_in, of_class}
use Rattle.clru_shares.specs.Places.{AreLatest, IsAskedOf, IsLatestAt, IsNoted, all_of, own_of, soon_of, time_of}
use Rattle.clru_shares.specs.declared.latest.Places.{Places}
use Rattle.clru_shares.specs.declared.pass.Asked.{Asked}

-- what is told of requests of lines is told of those of their keys
module _ {A : Type 0} (limit : ℕ) (requests : List (List ℕ × ℕ)) (past : List (OwnedKey A × ℕ)) (request : OwnedKey A × ℕ) (asked : Asked)
    (shown : map shown_of (reverse past) ≡ requests) (is : IsAskedOf limit requests (shown_of request) asked) where
  behind : reverse requests ≡ map shown_of past
  behind = ap reverse (sym shown ∙ map-reverse shown_of past) ∙ reverse-reverse (map shown_of past)

  pub latest_shown : IsLatestOf same_line (keys_of past) request.0 asked.latest
  latest_shown = latest_view bytes_eq line_of (keys_of past) request.0 asked.latest
      (subst (λ ls. IsLatestOf bytes_eq ls (line_of request.0) asked.latest) (ap keys_of behind ∙ keys-view bytes_eq line_of past) is.latest)

  pub soon_shown : asked.soon ≡ is_recent same_line (Some limit) request past
  soon_shown = is.soon ∙ ap (is_recent bytes_eq (Some limit) (shown_of request)) behind ∙ recent-view bytes_eq line_of (Some limit) request past

-- with one more request behind
module _ (requests : List (List ℕ × ℕ)) (r : List ℕ × ℕ) where
  back : reverse (requests ++ r ∷ []) ≡ r ∷ reverse requests
  back = reverse-append requests (r ∷ [])

  at_here : (p : ℕ) → p ≡ length requests → IsLatestAt (requests ++ r ∷ []) r.0 (Some p) (Some r.1)
  at_here p here = record {
    position = subst (λ past. IsLatestOf bytes_eq (keys_of past) r.0 (Some p)) (sym back)
        (latest_here bytes_eq (keys_of (reverse requests)) r.0 r.0 (bytes_laws.refl r.0) p
        (here ∙ sym (length-keys_of (reverse requests) ∙ length-reverse requests)));
    timed = sym (ap (lookup (bytes_eq r.0)) back ∙ ap (λ b. cond b (Some r.1) (lookup (bytes_eq r.0) (reverse requests))) (bytes_laws.refl r.0));
  }

  at_there : (other : List ℕ) (latest time : Option ℕ) → bytes_eq other r.0 ≡ false → IsLatestAt requests other latest time
      → IsLatestAt (requests ++ r ∷ []) other latest time
  at_there other latest time apart is = record {
    position = subst (λ past. IsLatestOf bytes_eq (keys_of past) other latest) (sym back)
        (latest_there bytes_eq (keys_of (reverse requests)) r.0 other apart latest is.position);
    timed = is.timed ∙ sym (ap (lookup (bytes_eq other)) back ∙ ap (λ b. cond b (Some r.1) (lookup (bytes_eq other) (reverse requests))) apart);
  }

module _ (requests : List (List ℕ × ℕ)) (line : List ℕ) where
  -- it is noted where and when it was requested
  places_here : (here : Places) → here.all ≡ length requests → here.own ≡ length (of_class (class_in line) requests)
      → AreLatest (requests ++ (line, here.time) ∷ []) line (Some here)
  places_here here all own = let r : List ℕ × ℕ = (line, here.time) in record {
    all = at_here requests r here.all all;
    own = subst (λ rs. IsLatestAt rs line (Some here.own) (Some here.time))
        (sym (one_asked (class_in line) requests r (bytes_laws.refl (class_in line))))
        (at_here (of_class (class_in line) requests) r here.own own);
  }

  places_there : (t : ℕ) (other : List ℕ) (places : Option Places) → bytes_eq other line ≡ false → AreLatest requests other places
      → AreLatest (requests ++ (line, t) ∷ []) other places
  places_there t other places apart is = let r : List ℕ × ℕ = (line, t) in record {
    all = at_there requests r other (all_of places) (time_of places) apart is.all;
    own = split (bytes_eq (class_in other) (class_in line))
        (λ u. subst (λ rs. IsLatestAt rs other (own_of places) (time_of places)) (sym (one_asked (class_in other) requests r u))
        (at_there (of_class (class_in other) requests) r other (own_of places) (time_of places) apart is.own))
        (λ f. subst (λ rs. IsLatestAt rs other (own_of places) (time_of places)) (sym (none_asked (class_in other) requests r f)) is.own);
  }

  -- once its place is noted, the places of all lines are
  pub noted_more : (noted : List (List ℕ × Places)) (here : Places) → IsNoted requests noted → here.all ≡ length requests
      → here.own ≡ length (of_class (class_in line) requests) → IsNoted (requests ++ (line, here.time) ∷ []) (with_bytes line here noted)
  noted_more noted here is all own = record {
    each = λ other. rw (lookup-with_bytes other line here noted) (split (bytes_eq other line)
        (λ t. rw (t, same_bytes other line t) (places_here here all own))
        (λ f. rw f (places_there here.time other (lookup (bytes_eq other) noted) f (is.each other))));
  }

-- before the first line none is noted
pub none_noted : (noted : List (List ℕ × Places)) → noted ≡ [] → IsNoted [] noted
none_noted noted empty = record {
  each = λ line. subst (λ es. AreLatest [] line (lookup (bytes_eq line) es)) (sym empty) (record {
    all = record { position = record { known = refl; position = tt }; timed = refl };
    own = record { position = record { known = refl; position = tt }; timed = refl };
  });
}

-- what the noted places say of one more request
module _ (limit : ℕ) (requests : List (List ℕ × ℕ)) (request : List ℕ × ℕ) (places : Option Places) (asked : Asked)
    (soon : asked.soon ≡ soon_of limit request.1 places) (are : AreLatest requests request.0 places) where
  asked_at : (rs : List (List ℕ × ℕ)) (latest : Option ℕ) → IsLatestAt rs request.0 latest (time_of places) → asked.latest ≡ latest
      → IsAskedOf limit rs request asked
  asked_at rs latest is at = record {
    latest = subst (IsLatestOf bytes_eq (keys_of (reverse rs)) request.0) (sym at) is.position;
    soon = soon ∙ ap (λ o. option_map_or (λ before. nat_le (request.1 - before) limit) o false) is.timed;
  }

  pub asked_all : asked.latest ≡ all_of places → IsAskedOf limit requests request asked
  asked_all at = asked_at requests (all_of places) are.all at

  pub asked_own : asked.latest ≡ own_of places → IsAskedOf limit (of_class (class_in request.0) requests) request asked
  asked_own at = asked_at (of_class (class_in request.0) requests) (own_of places) are.own at
