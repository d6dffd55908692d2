-- Which inputs have no split, and why. Public clauses cite them.
use Rattle.std.specs.Prelude.{◌≡◌, ℕ, ◌+◌, ◌^◌, ◌<◌, ◌≤◌, Bool, true, false, List, ◌∷◌, ◌++◌, length, take, bytes_eq, Option, IsNone, IsSome, ⊤}
use Rattle.std.specs.List.{All, list_any}
use Rattle.clru_text.specs.Times.{HaveTimes, rests_of, time_of_line}
use Rattle.clru_shares.specs.Classes.{AreClasses, class_in, has_class, most_classes, of_class}
use Rattle.clru_shares.specs.Sampled.{kept_in}
use Rattle.clru_shares.specs.Shares.{HasRoom, greatest_size}
use Rattle.clru_shares.specs.Sizes.{is_sized, own_size, size_in}
use Rattle.clru_shares.specs.Times.{AreTimed, requests_in, rests_in}
use Rattle.clru_shares.specs.declared.fault.SplitFault.{SplitFault}
use Rattle.clru_shares.specs.declared.fault.SplitFault.TheVariants.{NoTime, NoClass, TooManyClasses, NoSize, TooLarge, NoRoom, Other}

-- there are no more classes than can be
abbrev pub HaveFewClasses : List (List ℕ) → Type 0
HaveFewClasses lines = (names : List (List ℕ)) × AreClasses lines names × (length names ≤ most_classes)

-- no line has a fault: each has a class, of as many as can be, and by size a size, and the sizes together are a number
pub record HaveNoFault (sizes : Bool) (lines : List (List ℕ)) : Type 0 where
  pub classed : All (λ l. has_class l ≡ true) lines
  pub few : HaveFewClasses lines
  pub sized : All (λ l. is_sized sizes l ≡ true) lines
  pub fit : size_in sizes lines < 2 ^ 64

-- the line of this number, counted from 1, is the first with a fault, and has no class
pub record IsFirstWithoutClass (sizes : Bool) (n : ℕ) (lines : List (List ℕ)) : Type 0 where
  pub before : List (List ℕ)
  pub line : List ℕ
  pub rest : List (List ℕ)
  pub is : lines ≡ before ++ line ∷ rest
  pub number : n ≡ length before + 1
  pub faultless : HaveNoFault sizes before
  pub none : has_class line ≡ false

-- it is the first with a fault: it has a class, and a size that is not too large, but those before it have as many classes as can be, and
-- its own is another one
pub record IsOneTooMany (sizes : Bool) (n : ℕ) (lines : List (List ℕ)) : Type 0 where
  pub before : List (List ℕ)
  pub line : List ℕ
  pub rest : List (List ℕ)
  pub is : lines ≡ before ++ line ∷ rest
  pub number : n ≡ length before + 1
  pub faultless : HaveNoFault sizes before
  pub own : has_class line ≡ true
  pub has_size : is_sized sizes line ≡ true
  pub fits : size_in sizes before + own_size sizes line < 2 ^ 64
  pub names : List (List ℕ)
  pub classes : AreClasses before names
  pub full : length names ≡ most_classes
  pub other : list_any (bytes_eq (class_in line)) names ≡ false

-- it is the first with a fault: it has a class, but no size behind it
pub record IsFirstWithoutSize (n : ℕ) (lines : List (List ℕ)) : Type 0 where
  pub before : List (List ℕ)
  pub line : List ℕ
  pub rest : List (List ℕ)
  pub is : lines ≡ before ++ line ∷ rest
  pub number : n ≡ length before + 1
  pub faultless : HaveNoFault true before
  pub own : has_class line ≡ true
  pub none : is_sized true line ≡ false

-- a line is the first with a fault: it has a class and a size, but the sizes up to it are too large together for a number
pub record HasLargeSizes (lines : List (List ℕ)) : Type 0 where
  pub before : List (List ℕ)
  pub line : List ℕ
  pub rest : List (List ℕ)
  pub is : lines ≡ before ++ line ∷ rest
  pub faultless : HaveNoFault true before
  pub own : has_class line ≡ true
  pub has_size : is_sized true line ≡ true
  pub large : 2 ^ 64 ≤ size_in true before + own_size true line

-- what a fault says of the lines without their times: by size, or by keys
abbrev pub IsSaidOfRests : Bool → SplitFault → List (List ℕ) → Type 0
IsSaidOfRests sizes (NoTime n) lines = ⊥
IsSaidOfRests sizes (NoClass n) lines = IsFirstWithoutClass sizes n lines
IsSaidOfRests sizes (TooManyClasses n) lines = IsOneTooMany sizes n lines
IsSaidOfRests sizes (NoSize n) lines = (sizes ≡ true) × IsFirstWithoutSize n lines
IsSaidOfRests sizes TooLarge lines = (sizes ≡ true) × HasLargeSizes lines
IsSaidOfRests sizes (NoRoom size) lines = ⊥
IsSaidOfRests sizes (Other fault) lines = ⊥

-- the line of this number, counted from 1, begins with no time, but each before it does, and has no fault behind it
pub record IsFirstWithoutTime (sizes : Bool) (n : ℕ) (lines : List (List ℕ)) : Type 0 where
  pub before : List (List ℕ)
  pub line : List ℕ
  pub rest : List (List ℕ)
  pub is : lines ≡ before ++ line ∷ rest
  pub number : n ≡ length before + 1
  pub timed : HaveTimes before
  pub faultless : HaveNoFault sizes (rests_of before)
  pub none : IsNone (time_of_line line)

-- under a limit each line up to that of this number begins with a time
abbrev pub AreTimedUpTo : Option ℕ → ℕ → List (List ℕ) → Type 0
AreTimedUpTo idle n lines = AreTimed idle (take n lines)

-- what a fault says of the lines: that one has no time, under an idle limit, or what it says of those without their times, where the
-- lines up to the one that it names have them
abbrev pub IsSaidOfLines : Option ℕ → Bool → SplitFault → List (List ℕ) → Type 0
IsSaidOfLines idle sizes (NoTime n) lines = IsSome idle × IsFirstWithoutTime sizes n lines
IsSaidOfLines idle sizes (NoClass n) lines = AreTimedUpTo idle n lines × IsSaidOfRests sizes (NoClass n) (rests_in idle lines)
IsSaidOfLines idle sizes (TooManyClasses n) lines = AreTimedUpTo idle n lines × IsSaidOfRests sizes (TooManyClasses n) (rests_in idle lines)
IsSaidOfLines idle sizes (NoSize n) lines = AreTimedUpTo idle n lines × IsSaidOfRests sizes (NoSize n) (rests_in idle lines)
IsSaidOfLines idle sizes TooLarge lines = IsSaidOfRests sizes TooLarge (rests_in idle lines)
IsSaidOfLines idle sizes (NoRoom size) lines = ⊥
IsSaidOfLines idle sizes (Other fault) lines = ⊥

-- so many bytes of a line at fault are shown
abbrev pub most_shown : ℕ
most_shown = 60

-- how the line of this number, counted from 1, begins
pub record BeginsLine (n : ℕ) (lines : List (List ℕ)) (beginning : List ℕ) : Type 0 where
  pub before : List (List ℕ)
  pub line : List ℕ
  pub rest : List (List ℕ)
  pub is : lines ≡ before ++ line ∷ rest
  pub number : n ≡ length before + 1
  pub shown : beginning ≡ take most_shown line

-- how the line begins that a fault names
abbrev pub IsShownOf : SplitFault → List (List ℕ) → List ℕ → Type 0
IsShownOf (NoTime n) lines beginning = BeginsLine n lines beginning
IsShownOf (NoClass n) lines beginning = BeginsLine n lines beginning
IsShownOf (TooManyClasses n) lines beginning = BeginsLine n lines beginning
IsShownOf (NoSize n) lines beginning = BeginsLine n lines beginning
IsShownOf TooLarge lines beginning = ⊤
IsShownOf (NoRoom size) lines beginning = ⊥
IsShownOf (Other fault) lines beginning = ⊤

-- of the classes of these names this one is the first with a kept request that is larger than the budget, and its greatest has this size
pub record IsFirstWithoutRoom (sizes : Bool) (sample : Option ℕ) (budget size : ℕ) (requests : List (List ℕ × ℕ)) (names : List (List ℕ))
    (name : List ℕ) : Type 0 where
  pub before : List (List ℕ)
  pub rest : List (List ℕ)
  pub is : names ≡ before ++ name ∷ rest
  pub room : All (HasRoom sizes sample budget requests) before
  pub requested : 0 < length (of_class name (kept_in sample requests))
  pub greatest : size ≡ greatest_size sizes (of_class name (kept_in sample requests))
  pub below : budget < size

-- the same among the classes of these lines, in the order of bytes, where no line has a fault. By keys there is none
pub record HasNoRoom (sizes : Bool) (idle sample : Option ℕ) (budget size : ℕ) (lines : List (List ℕ)) (name : List ℕ) : Type 0 where
  pub sized : sizes ≡ true
  pub timed : AreTimed idle lines
  pub faultless : HaveNoFault sizes (rests_in idle lines)
  pub names : List (List ℕ)
  pub classes : AreClasses (rests_in idle lines) names
  pub first : IsFirstWithoutRoom sizes sample budget size (requests_in idle lines) names name
