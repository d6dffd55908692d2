-- A form of a key in a pass: it finds what is noted of it just where a key that it is equal to was requested.
use Rattle.std.proofs.Common.{◌≡◌, Bool, true, false, List, [], ◌∷◌, Option, Some, None, is_some, IfSome, refl, sym, ap, ◌∙◌, subst}
use Rattle.std.specs.Cmp.{IsEquivalence}
use Rattle.std.specs.List.{list_any}
use Rattle.std.specs.Map.{lookup}
use Rattle.clru_model.specs.Requests.{holds}
use Rattle.clru_model.proofs.Cases.{split}
use Rattle.clru_model.proofs.Finding.{held}
use Rattle.clru_model.proofs.Forms.{IsForm, form_is}

module _ {K : Type 0} (eq : K → K → Bool) (laws : IsEquivalence eq) (test : K → Bool) where
  -- a key that passes, of those that were requested
  record IsRequested (past : List K) : Type 0 where
    key : K
    passes : test key ≡ true
    before : holds eq key past ≡ true

  requested : (past : List K) → list_any test past ≡ true → IsRequested past
  requested [] any = cc
  requested (y ∷ ys) any = split (test y)
      (λ t. record { key = y; passes = t; before = rw (laws.refl y) refl })
      (λ f. let rest = requested ys (rw f at any) in record {
        key = rest.key;
        passes = rest.passes;
        before = split (eq rest.key y) (λ t. rw t refl) (λ g. rw g rest.before);
      })

  module _ (form : IsForm eq test) {V : Type 0} (positions : List (K × V)) where
    -- the key of the position that the form finds
    pub record IsKeyAt (p : V) : Type 0 where
      pub key : K
      pub same : test ≡ eq key
      pub found : lookup (eq key) positions ≡ Some p

    pub key_at : (p : V) → lookup test positions ≡ Some p → IsKeyAt p
    key_at p there =
        let entry = held test {es = positions} (rw there refl) in
        let is = form_is eq test form entry.entry.0 entry.passes in
        record { key = entry.entry.0; same = is; found = subst (λ t. lookup t positions ≡ Some p) is there }

    -- each key that the form is equal to is found as the form is
    pub found_as : (x : K) (o : Option V) → test x ≡ true → lookup test positions ≡ o → lookup (eq x) positions ≡ o
    found_as x o passes there = subst (λ t. lookup t positions ≡ o) (form_is eq test form x passes) there

    pub form_known : (past : List K) → ((x : K) → is_some (lookup (eq x) positions) ≡ holds eq x past)
        → is_some (lookup test positions) ≡ list_any test past
    form_known past known = (elim (lookup test positions) as (λ o. lookup test positions ≡ o → is_some o ≡ list_any test past) [
      | None ↦ λ absent. split (list_any test past)
          (λ any. let one = requested past any in
          let no : false ≡ true = sym (ap is_some (found_as one.key None one.passes absent)) ∙ known one.key ∙ one.before in cc)
          (λ none. sym none)
      | Some p ↦ λ there. let at = key_at p there in
          subst (λ t. true ≡ list_any t past) (sym at.same) (sym (ap is_some at.found) ∙ known at.key)
    ]) refl

-- what holds of each value that is found
pub some_by : {X : Type 0} {P : X → Type 0} (o : Option X) → ((x : X) → o ≡ Some x → P x) → IfSome o P
some_by None f = tt
some_by (Some x) f = f x refl
