-- What a fault says of lines.
use Rattle.std.proofs.Common.{◌≡◌, ℕ, ◌+◌, ◌≤◌, ◌^◌, Bool, true, false, Option, Some, IsSome, Result, Ok, Err, IfErr, List, ◌∷◌, ◌++◌, length, map, take, refl, sym, ap, ◌∙◌, subst, arith}
use Rattle.std.proofs.Math.Seq.{take-append-add}
use Rattle.std.proofs.lemmas.List.{length-map}
use Rattle.std.proofs.lemmas.List.Elements.{All-push}
use Rattle.clru_text.specs.Times.{HaveTimes, time_of_line}
use Rattle.clru_shares.specs.Classes.{has_class}
use Rattle.clru_shares.specs.Faults.{IsNumbered, comes_of_a_line}
use Rattle.clru_shares.specs.Passes.{HasTakenAll, name_of}
use Rattle.clru_shares.specs.Refusals.{AreTimedUpTo, HaveNoFault, IsSaidOfLines, IsSaidOfRests, IsShownOf, most_shown}
use Rattle.clru_shares.specs.Sizes.{is_sized, own_size, size_in}
use Rattle.clru_shares.specs.Times.{rests_in}
use Rattle.clru_shares.proofs.TakenClasses.{names_are}
use Rattle.clru_shares.specs.declared.reading.Passes.{Passes}
use Rattle.clru_shares.specs.declared.fault.SplitFault.{SplitFault}
use Rattle.clru_shares.specs.declared.fault.SplitFault.TheVariants.{NoTime, NoClass, TooManyClasses, NoSize, TooLarge, NoRoom, Other}

-- lines that were taken have no fault
pub taken_faultless : {S A H : Type 0} (sizes : Bool) (limit : ℕ) (lines : List (List ℕ)) (kept : List (List ℕ × ℕ)) (passes : Passes S A H)
    → HasTakenAll sizes limit lines kept passes → HaveNoFault sizes lines
taken_faultless sizes limit lines kept passes is =
    let classes = passes.classes.items in
    record {
      classed = is.classed;
      few = (map name_of classes, names_are sizes limit lines kept classes is.classes, omega (arith, is.few, length-map classes name_of));
      sized = is.sized;
      fit = omega (arith, is.fit, is.summed);
    }

pub without_size : (sizes : Bool) (lines rest : List (List ℕ)) (line : List ℕ) (n : ℕ) → n ≡ length lines + 1
    → HaveNoFault sizes lines → has_class line ≡ true → is_sized sizes line ≡ false → IsSaidOfRests sizes (NoSize n) (lines ++ line ∷ rest)
without_size false lines rest line n counted faultless own none = absurd (cc)
without_size true lines rest line n counted faultless own none = (
  refl,
  record { before = lines; line = line; rest = rest; is = refl; number = counted; faultless = faultless; own = own; none = none },
)

-- by keys no size is counted
pub sizes_large : (sizes : Bool) (lines rest : List (List ℕ)) (line : List ℕ)
    → HaveNoFault sizes lines → has_class line ≡ true → is_sized sizes line ≡ true
    → 2 ^ 64 ≤ size_in sizes lines + own_size sizes line → IsSaidOfRests sizes TooLarge (lines ++ line ∷ rest)
sizes_large false lines rest line faultless own has large = absurd (omega (arith, large))
sizes_large true lines rest line faultless own has large = (
  refl,
  record { before = lines; line = line; rest = rest; is = refl; faultless = faultless; own = own; has_size = has; large = large },
)

-- the line at fault is shown by its beginning
pub shown_of : (fault : SplitFault) (n : ℕ) (lines rest : List (List ℕ)) (line beginning : List ℕ) → IsNumbered n fault → n ≡ length lines + 1
    → beginning ≡ take most_shown line → IsShownOf fault (lines ++ line ∷ rest) beginning
shown_of (NoTime m) n lines rest line beginning is counted shown =
    record { before = lines; line = line; rest = rest; is = refl; number = is ∙ counted; shown = shown }
shown_of (NoClass m) n lines rest line beginning is counted shown =
    record { before = lines; line = line; rest = rest; is = refl; number = is ∙ counted; shown = shown }
shown_of (TooManyClasses m) n lines rest line beginning is counted shown =
    record { before = lines; line = line; rest = rest; is = refl; number = is ∙ counted; shown = shown }
shown_of (NoSize m) n lines rest line beginning is counted shown =
    record { before = lines; line = line; rest = rest; is = refl; number = is ∙ counted; shown = shown }
shown_of TooLarge n lines rest line beginning is counted shown = tt
shown_of (NoRoom size) n lines rest line beginning is counted shown = absurd is
shown_of (Other fault) n lines rest line beginning is counted shown = tt

-- the lines up to one that begins with a time, where those before do
pub timed_up_to : (limit time n : ℕ) (lines more : List (List ℕ)) (line : List ℕ) → HaveTimes lines → time_of_line line ≡ Some time
    → n ≡ length lines + 1 → AreTimedUpTo (Some limit) n (lines ++ line ∷ more)
timed_up_to limit time n lines more line before timed counted =
    subst HaveTimes (sym (ap (λ m. take m (lines ++ line ∷ more)) counted ∙ take-append-add lines (line ∷ more) 1))
    (All-push (λ l. IsSome (time_of_line l)) lines line before (rw timed refl))

-- what is said of the lines without their times is said of the lines, where those up to the one at fault have times
pub said_of_rests : (idle : Option ℕ) (sizes : Bool) (fault : SplitFault) (n : ℕ) (lines : List (List ℕ)) → AreTimedUpTo idle n lines
    → IsNumbered n fault → IsSaidOfRests sizes fault (rests_in idle lines) → IsSaidOfLines idle sizes fault lines
said_of_rests idle sizes (NoTime m) n lines timed is said = absurd said
said_of_rests idle sizes (NoClass m) n lines timed is said = (subst (λ k. AreTimedUpTo idle k lines) (sym is) timed, said)
said_of_rests idle sizes (TooManyClasses m) n lines timed is said = (subst (λ k. AreTimedUpTo idle k lines) (sym is) timed, said)
said_of_rests idle sizes (NoSize m) n lines timed is said = (subst (λ k. AreTimedUpTo idle k lines) (sym is) timed, said)
said_of_rests idle sizes TooLarge n lines timed is said = said
said_of_rests idle sizes (NoRoom size) n lines timed is said = absurd said
said_of_rests idle sizes (Other fault) n lines timed is said = said

pub said_of_result : {T : Type 0} (idle : Option ℕ) (sizes : Bool) (n : ℕ) (lines : List (List ℕ)) (result : Result T SplitFault)
    → AreTimedUpTo idle n lines → IfErr result (IsNumbered n)
    → IfErr result (λ fault. comes_of_a_line fault ≡ true → IsSaidOfRests sizes fault (rests_in idle lines))
    → IfErr result (λ fault. comes_of_a_line fault ≡ true → IsSaidOfLines idle sizes fault lines)
said_of_result idle sizes n lines (Ok x) timed is said = said
said_of_result idle sizes n lines (Err fault) timed is said = λ of. said_of_rests idle sizes fault n lines timed is (said of)
