-- What keeps the fingers of a list at their places.
use Rattle.std.proofs.Common.{◌≡◌, ℕ, List, false, sym, ap, ◌∙◌, subst}
use Rattle.std.specs.Map.{keys_of}
use Rattle.clru_list.specs.Fingers.{IsPointed}
use Rattle.clru_list.specs.Places.{nowhere}
use Rattle.clru_list.specs.Links.{LinkMap, walk, IsSound}
use Rattle.clru_list.specs.declared.fingers.Fingers.{Fingers}
use Rattle.clru_list.proofs.Soundness.{walk-is}

-- a list without fingers
pub pointed-none : (places : List ℕ) (f : Fingers) → f.kept ≡ false → IsPointed places f
pointed-none places f none = record { up = λ kept. absurd (cc); down = λ kept. absurd (cc) }

-- a list whose places stay
pub pointed-still : {T : Type 0} (l m : LinkMap T) (len capacity places allotted len' capacity' places' allotted' : ℕ) (es fs : List (ℕ × T)) (f : Fingers)
    → IsSound l len capacity places allotted es → IsSound m len' capacity' places' allotted' fs → keys_of fs ≡ keys_of es
    → IsPointed (keys_of (walk l (l.next nowhere) len)) f → IsPointed (keys_of (walk m (m.next nowhere) len')) f
pointed-still l m len capacity places allotted len' capacity' places' allotted' es fs f old new same pointed =
    subst (λ ps. IsPointed ps f)
    (ap (λ e. keys_of e) (walk-is l len capacity places allotted es old) ∙ sym same ∙ sym (ap (λ e. keys_of e) (walk-is m len' capacity' places' allotted' fs new)))
    pointed
