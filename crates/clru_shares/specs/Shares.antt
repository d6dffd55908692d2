-- The table of a split. The numbers are those of the definitions of requests: no cache and no algorithm is in sight. Public clauses cite it.
use Rattle.std.specs.Prelude.{◌≡◌, ℕ, zero, suc, ◌+◌, ◌*◌, ◌/◌, ◌≤◌, ◌<◌, ◌==◌, nat_lt, ◌-◌, ◌^◌, Bool, true, false, List, [], ◌∷◌, ◌++◌, length, map, max, min, replicate, reverse, Option, Some, None, codes, bytes_eq, if◌then◌else◌}
use Rattle.std.specs.List.{All, sum_by}
use Rattle.std.specs.Map.{keys_of}
use Rattle.clru_curve.specs.IdlePasses.{idle_misses}
use Rattle.clru_curve.specs.SizedCurves.{greatest_of}
use Rattle.clru_curve.specs.SizedIdlePasses.{idle_missed_size, idle_misses_by_size}
use Rattle.clru_model.specs.Requests.{misses}
use Rattle.clru_model.specs.Sizes.{misses_by_size, missed_size as missed_size_of}
use Rattle.clru_curve.specs.Splits.{IsBestSplit}
use Rattle.clru_shares.specs.Classes.{AreClasses, has_class, most_classes, of_class}
use Rattle.clru_shares.specs.Forms.{IsTextOf, Part}
use Rattle.clru_shares.specs.Sampled.{kept_in, part_in, told_missed, told_of, told_pair}
use Rattle.clru_shares.specs.Sizes.{is_sized, size_in, weight_behind}
use Rattle.clru_shares.specs.Times.{AreTimed, requests_in, rests_in}
use Rattle.clru_shares.specs.declared.form.SplitForm.{SplitForm}

-- the least step of which at most a thousand are within the budget
abbrev pub step_for : ℕ → ℕ
step_for budget = budget / 1001 + 1

-- each request of a class has room at a capacity that is greater than this
abbrev pub greatest_weight : List (List ℕ × ℕ) → ℕ
greatest_weight requests = greatest_of weight_behind (reverse (keys_of requests))

-- the greatest size that is requested, or 1 if nothing is; by keys no size is counted
abbrev pub greatest_size : Bool → List (List ℕ × ℕ) → ℕ
greatest_size false requests = 0
greatest_size true requests = 1 + greatest_weight requests

-- the budget has room for each request of the class that is kept
abbrev pub HasRoom : Bool → Option ℕ → ℕ → List (List ℕ × ℕ) → List ℕ → Type 0
HasRoom sizes sample budget requests name = greatest_size sizes (of_class name (kept_in sample requests)) ≤ budget

-- what misses without a cache: requests, or by size their size
abbrev pub all_of : Bool → List (List ℕ × ℕ) → ℕ
all_of false requests = length requests
all_of true requests = size_in true (keys_of requests)

-- how many miss in a cache of so many keys, under the idle limit, if there is one
abbrev pub misses_under : Option ℕ → ℕ → List (List ℕ × ℕ) → ℕ
misses_under None c requests = misses bytes_eq c (keys_of requests)
misses_under (Some idle) c requests = idle_misses bytes_eq idle c requests

-- how many miss in a cache of that size
abbrev pub sized_misses_under : Option ℕ → ℕ → List (List ℕ × ℕ) → ℕ
sized_misses_under None c requests = misses_by_size bytes_eq weight_behind c (keys_of requests)
sized_misses_under (Some idle) c requests = idle_misses_by_size bytes_eq weight_behind idle c requests

-- and their size
abbrev pub missed_size_under : Option ℕ → ℕ → List (List ℕ × ℕ) → ℕ
missed_size_under None c requests = missed_size_of bytes_eq weight_behind c (keys_of requests)
missed_size_under (Some idle) c requests = idle_missed_size bytes_eq weight_behind idle c requests

-- what misses in a cache: by size where each request has room
abbrev pub missed_by : Bool → Option ℕ → List (List ℕ × ℕ) → ℕ → Option ℕ
missed_by false idle requests c = Some (misses_under idle c requests)
missed_by true idle requests c = if nat_lt (greatest_weight requests) c then Some (missed_size_under idle c requests) else None

-- the requests that miss in a cache where each has room, and by size their size
abbrev pub missed_in : Bool → Option ℕ → List (List ℕ × ℕ) → ℕ → Option (ℕ × ℕ)
missed_in false idle requests zero = None
missed_in false idle requests (suc c) = Some (misses_under idle (suc c) requests, 0)
missed_in true idle requests zero = None
missed_in true idle requests (suc c) = if nat_lt (greatest_weight requests) (suc c) then
    Some (sized_misses_under idle (suc c) requests, missed_size_under idle (suc c) requests) else None

-- what is told of all these requests by those that are kept of them
abbrev pub missed_told : Bool → Option ℕ → Option ℕ → List (List ℕ × ℕ) → ℕ → Option ℕ
missed_told sizes idle sample requests c = told_missed sample (all_of sizes requests) (missed_by sizes idle (kept_in sample requests) c)

-- a row of so many requests of this size: where one has no room there is no cache, so all miss
abbrev pub part_with : List ℕ → ℕ → ℕ → ℕ → Option (ℕ × ℕ) → Part
part_with name c n s None = record { name = name; capacity = 0; misses = n; requests = n; missed_size = s; size = s }
part_with name c n s (Some m) = record { name = name; capacity = c; misses = m.0; requests = n; missed_size = m.1; size = s }

-- requests with a capacity of their own: as told of all by those that are kept, whose capacity this is
abbrev pub part_of : Bool → Option ℕ → Option ℕ → List (List ℕ × ℕ) → List ℕ → ℕ → Part
part_of sizes idle sample requests name c =
    part_with name (told_of sample (2 ^ 64 - 1) c) (length requests) (size_in sizes (keys_of requests))
    (told_pair sample (length requests) (size_in sizes (keys_of requests)) (missed_in sizes idle (kept_in sample requests) c))

-- each class with its capacity
abbrev pub parts_of : Bool → Option ℕ → Option ℕ → List (List ℕ × ℕ) → List (List ℕ) → List ℕ → List Part
parts_of sizes idle sample requests [] cs = []
parts_of sizes idle sample requests (name ∷ names) [] = []
parts_of sizes idle sample requests (name ∷ names) (c ∷ cs) =
    part_of sizes idle sample (of_class name requests) name c ∷ parts_of sizes idle sample requests names cs

-- all of them together, of so many requests of this size
abbrev pub together : List ℕ → ℕ → ℕ → List Part → Part
together name requests size parts = record {
  name = name;
  capacity = sum_by (λ p. p.capacity) parts;
  misses = sum_by (λ p. p.misses) parts;
  requests = requests;
  missed_size = sum_by (λ p. p.missed_size) parts;
  size = size;
}

-- these requests, if none of them is kept: what they miss is unknown
abbrev pub unsampled_in : Option ℕ → List (List ℕ × ℕ) → List (List ℕ × ℕ)
unsampled_in sample requests = if length (kept_in sample requests) == 0 then requests else []

-- those of a class
abbrev pub unsampled_of : Option ℕ → List (List ℕ × ℕ) → List ℕ → List (List ℕ × ℕ)
unsampled_of sample requests name = unsampled_in sample (of_class name requests)

-- a row where so many more requests of this size miss, at most all
abbrev pub with_missed : ℕ → ℕ → Part → Part
with_missed n s part = record {
  name = part.name;
  capacity = part.capacity;
  misses = min (part.misses + n) part.requests;
  requests = part.requests;
  missed_size = min (part.missed_size + s) part.size;
  size = part.size;
}

-- one cache for all classes. Those without a request that is kept miss all here, as they do in the other rows
abbrev pub one_for_all : Bool → Option ℕ → Option ℕ → List (List ℕ × ℕ) → List (List ℕ) → ℕ → Part
one_for_all sizes idle sample requests names c = with_missed (sum_by (λ name. length (unsampled_of sample requests name)) names)
    (sum_by (λ name. size_in sizes (keys_of (unsampled_of sample requests name))) names)
    (part_of sizes idle sample requests (codes "one for all") c)

-- as much for each class, in whole steps
abbrev pub equal_part : ℕ → ℕ → ℕ
equal_part budget classes = budget / max 1 classes / step_for budget * step_for budget

-- a row for each class, and one for each of the three ways to spend the budget
abbrev pub rows : ℕ → ℕ → List Part → List Part → Part → List Part
rows requests size best equal one = best ++ (together (codes "best split") requests size best
    ∷ together (codes "equal parts") requests size equal ∷ one ∷ [])

-- this budget and these capacities are those of the requests that are kept
abbrev pub split_rows : Bool → Option ℕ → Option ℕ → ℕ → List (List ℕ × ℕ) → List (List ℕ) → List ℕ → List Part
split_rows sizes idle sample budget requests names capacities = rows (length requests) (size_in sizes (keys_of requests))
    (parts_of sizes idle sample requests names capacities)
    (parts_of sizes idle sample requests names (replicate (length names) (equal_part budget (length names))))
    (one_for_all sizes idle sample requests names budget)

-- the table of a best split of the budget among the classes of these lines, in a form: by keys, or by size, where each line has one and
-- the budget has room for each that is kept. Under an idle limit each begins with a time, and a reuse after more than the limit is a first
-- request. Of a sample it is a best split of its part of the budget, by what its lines tell of all
pub record IsSplitTable (form : SplitForm) (sizes : Bool) (idle sample : Option ℕ) (budget : ℕ) (lines : List (List ℕ)) (text : List ℕ) : Type 0 where
  pub names : List (List ℕ)
  pub capacities : List ℕ
  pub timed : AreTimed idle lines
  pub classed : All (λ line. has_class line ≡ true) (rests_in idle lines)
  pub sized : All (λ line. is_sized sizes line ≡ true) (rests_in idle lines)
  pub fit : size_in sizes (rests_in idle lines) < 2 ^ 64
  pub classes : AreClasses (rests_in idle lines) names
  pub few : length names ≤ most_classes
  pub room : All (HasRoom sizes sample budget (requests_in idle lines)) names
  pub best : IsBestSplit (all_of sizes) (missed_told sizes idle sample) (step_for (part_in sample budget)) (part_in sample budget)
      (map (λ name. of_class name (requests_in idle lines)) names) capacities
  pub is : IsTextOf form sizes (split_rows sizes idle sample (part_in sample budget) (requests_in idle lines) names capacities) text
