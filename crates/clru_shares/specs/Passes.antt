-- What the passes of classes have taken. No public clause cites it.
use Rattle.std.specs.Prelude.{Option, ◌≡◌, ◌==◌, ℕ, ◌+◌, ◌-◌, ◌^◌, ◌<◌, ◌≤◌, Bool, List, [], ◌∷◌, ◌++◌, length, map, true, false, bytes_eq, slice_index_or, Result, Ok, Err, None, Some, ⊤, if◌then◌else◌}
use Rattle.std.specs.List.{All, AllZip, list_any, sum_by}
use Rattle.std.specs.Map.{keys_of}
use Rattle.clru_shares.specs.Classes.{AreAscending, IsBefore, has_class, most_classes, of_class, requests_of}
use Rattle.clru_shares.specs.Forms.{Part}
use Rattle.clru_shares.specs.LinePasses.{HasTakenBy, IsCurveBy}
use Rattle.clru_shares.specs.Places.{IsNoted}
use Rattle.clru_shares.specs.Sampled.{kept_in, told_of, told_pair}
use Rattle.clru_shares.specs.ShareCurves.{missed_pair, sample_of}
use Rattle.clru_shares.specs.Shares.{part_with, with_missed}
use Rattle.clru_shares.specs.Sizes.{is_sized, size_in}
use Rattle.clru_shares.specs.Times.{AreTimed, limit_of, requests_in, rests_in}
use Rattle.clru_shares.specs.declared.classes.Class.{Class}
use Rattle.clru_shares.specs.declared.reading.Passes.{Passes}
use Rattle.clru_shares.specs.declared.share.Share.{Share}
use Rattle.clru_shares.specs.declared.table.Row.{Row}
use Rattle.clru_shares.specs.declared.table.Table.{Table}

-- one more request, if it is kept
abbrev pub next_kept : Bool → List (List ℕ × ℕ) → List ℕ × ℕ → List (List ℕ × ℕ)
next_kept false kept request = kept
next_kept true kept request = kept ++ request ∷ []

abbrev pub next_number : Bool → ℕ → ℕ
next_number false n = n
next_number true n = n + 1

-- the class is held at this place
pub record IsHeldAt (names : List (List ℕ)) (name : List ℕ) (at : ℕ) : Type 0 where
  pub within : at < length names
  pub is : slice_index_or names at [] ≡ name

-- it belongs at this place, behind those before it and before the others
pub record BelongsAt (names : List (List ℕ)) (name : List ℕ) (at : ℕ) : Type 0 where
  pub within : at ≤ length names
  pub behind : (k : ℕ) → k < at → IsBefore (slice_index_or names k []) name
  pub before : (k : ℕ) → at ≤ k → k < length names → IsBefore name (slice_index_or names k [])

-- it is held at this place, or else belongs there
abbrev pub IsPlaceOf : List (List ℕ) → List ℕ → Result ℕ ℕ → Type 0
IsPlaceOf names name (Ok at) = IsHeldAt names name at
IsPlaceOf names name (Err at) = BelongsAt names name at

module _ {A : Type 0} where
  abbrev pub name_of : Class A → List ℕ
  name_of class = class.name.items

  -- the pass of the class took those of its requests that are kept under the limit, by size or by keys, and all lines are counted
  pub record HasTaken (sizes : Bool) (limit : ℕ) (lines : List (List ℕ)) (kept : List (List ℕ × ℕ)) (class : Class A) : Type 0 where
    pub taken : HasTakenBy sizes limit (of_class (name_of class) kept) class.pass
    pub numbered : class.kept ≡ length (of_class (name_of class) kept)
    pub fewer : class.kept ≤ class.requests
    pub counted : class.requests ≡ length (requests_of (name_of class) lines)
    pub summed : class.size ≡ size_in sizes (requests_of (name_of class) lines)

  -- each class took its lines, and no other class has any
  pub record HaveTaken (sizes : Bool) (limit : ℕ) (lines : List (List ℕ)) (kept : List (List ℕ × ℕ)) (classes : List (Class A)) : Type 0 where
    pub ascending : AreAscending (map name_of classes)
    pub each : All (HasTaken sizes limit lines kept) classes
    pub some : All (λ class. 0 < class.requests) classes
    pub no_other : (name : List ℕ) → list_any (bytes_eq name) (map name_of classes) ≡ false
        → (requests_of name lines ≡ []) × (of_class name kept ≡ [])

module _ {S A H : Type 0} where
  -- the passes took those of these lines that are kept, each with its time. Each line begins with a class, and by size then with a size
  pub record HasTakenAll (sizes : Bool) (limit : ℕ) (lines : List (List ℕ)) (kept : List (List ℕ × ℕ)) (passes : Passes S A H) : Type 0 where
    pub classed : All (λ line. has_class line ≡ true) lines
    pub sized : All (λ line. is_sized sizes line ≡ true) lines
    pub classes : HaveTaken sizes limit lines kept passes.classes.items
    pub few : length passes.classes.items ≤ most_classes
    pub all : HasTakenBy sizes limit kept passes.all
    pub latest : IsNoted kept passes.latest
    pub numbered : passes.kept ≡ length kept
    pub fewer : passes.kept ≤ passes.requests
    pub counted : passes.requests ≡ length lines
    pub summed : passes.size ≡ size_in sizes lines
    pub fit : passes.size < 2 ^ 64

  -- the passes took these lines, under the idle limit if there is one, or those of a sample
  pub record HasTakenLines (sizes : Bool) (idle sample : Option ℕ) (lines : List (List ℕ)) (passes : Passes S A H) : Type 0 where
    pub timed : AreTimed idle lines
    pub taken : HasTakenAll sizes (limit_of idle) (rests_in idle lines) (kept_in sample (requests_in idle lines)) passes

-- without a limit requests have no times
abbrev pub AreTimeless : Option ℕ → List (List ℕ × ℕ) → Type 0
AreTimeless None requests = All (λ r. r.1 ≡ 0) requests
AreTimeless (Some limit) requests = ⊤

-- the curve of those of these requests that a sample has, with the number and the size of all
pub record IsShare {A : Type 0} (sizes : Bool) (idle sample : Option ℕ) (requests : List (List ℕ × ℕ)) (name : List ℕ) (share : Share A) : Type 0 where
  pub is : share.name.items ≡ name
  pub counted : share.requests ≡ length requests
  pub summed : share.size ≡ size_in sizes (keys_of requests)
  pub numbered : share.kept ≡ length (kept_in sample requests)
  pub curve : IsCurveBy sizes (limit_of idle) (kept_in sample requests) share.curve
  pub timeless : AreTimeless idle (kept_in sample requests)
  pub sampled : sample_of share ≡ sample

-- that of a class's requests
abbrev pub IsShareOf : {A : Type 0} → Bool → Option ℕ → Option ℕ → List (List ℕ × ℕ) → List ℕ → Share A → Type 0
IsShareOf sizes idle sample requests name share = IsShare sizes idle sample (of_class name requests) name share

-- those of the classes of these names
abbrev pub HaveShares : {A : Type 0} → Bool → Option ℕ → Option ℕ → List (List ℕ × ℕ) → List (List ℕ) → List (Share A) → Type 0
HaveShares sizes idle sample requests names shares = AllZip (IsShareOf sizes idle sample requests) names shares

-- the row of it
abbrev pub part_of_share : {A : Type 0} → Share A → ℕ → Part
part_of_share share c = part_with share.name.items (told_of (sample_of share) (2 ^ 64 - 1) c) share.requests share.size
    (told_pair (sample_of share) share.requests share.size (missed_pair share.curve c))

abbrev pub parts_of_shares : {A : Type 0} → List (Share A) → List ℕ → List Part
parts_of_shares [] cs = []
parts_of_shares (share ∷ shares) [] = []
parts_of_shares (share ∷ shares) (c ∷ cs) = part_of_share share c ∷ parts_of_shares shares cs

-- a share's requests, or their size, if the sample has none of them
abbrev pub unsampled_by : {A : Type 0} → (Share A → ℕ) → Share A → ℕ
unsampled_by of share = if share.kept == 0 then of share else 0

-- the row of all shares, where those of which the sample has no request miss all
abbrev pub part_of_all : {A : Type 0} → List (Share A) → Share A → ℕ → Part
part_of_all shares all c = with_missed (sum_by (unsampled_by (λ share. share.requests)) shares)
    (sum_by (unsampled_by (λ share. share.size)) shares) (part_of_share all c)

abbrev pub part_of_row : {A : Type 0} → Row A → Part
part_of_row row = record {
  name = row.name.items;
  capacity = row.capacity;
  misses = row.misses;
  requests = row.requests;
  missed_size = row.missed_size;
  size = row.size;
}

-- the rows in their order
abbrev pub parts_of_table : {A : Type 0} → Table A → List Part
parts_of_table table = map part_of_row table.parts.items ++ (part_of_row table.best ∷ part_of_row table.equal ∷ part_of_row table.one ∷ [])
