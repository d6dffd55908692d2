-- Which class has a request that is larger than the budget.
use Rattle.std.proofs.Common.{◌≡◌, ℕ, zero, suc, ◌+◌, ◌-◌, ◌^◌, ◌<◌, Bool, true, false, List, [], ◌∷◌, ◌++◌, length, take, drop, take-append-drop, get_or, map, min, reverse, Option, refl, sym, ap, ◌∙◌, subst, arith}
use Rattle.std.specs.List.{All}
use Rattle.std.specs.Map.{keys_of}
use Rattle.std.specs.Prelude.{bytes_eq}
use Rattle.std.proofs.lemmas.List.{drop_more}
use Rattle.clru_curve.specs.SizedCurves.{CurveBySize}
use Rattle.clru_curve.specs.SizedIdlePasses.{IsSizedIdleCurveOf}
use Rattle.clru_curve.proofs.GreatestWeights.{greatest_below}
use Rattle.clru_model.specs.Sizes.{SameWeights}
use Rattle.clru_text.proofs.ByteLemmas.{bytes_laws, same_bytes}
use Rattle.clru_shares.specs.Classes.{AreClasses, of_class}
use Rattle.clru_shares.specs.LinePasses.{IsCurveBy}
use Rattle.clru_shares.specs.Passes.{AreTimeless, HasTakenLines, HaveShares, HaveTaken, IsShareOf, name_of}
use Rattle.clru_shares.specs.Refusals.{HasNoRoom, HaveNoFault, IsFirstWithoutRoom}
use Rattle.clru_shares.specs.Sampled.{kept_in}
use Rattle.clru_shares.specs.Shares.{HasRoom, greatest_size}
use Rattle.clru_shares.specs.Sizes.{weight_behind}
use Rattle.clru_shares.specs.Times.{AreTimed, limit_of, requests_in, rests_in}
use Rattle.clru_shares.specs.declared.classes.Class.{Class}
use Rattle.clru_shares.specs.declared.curve.LineCurve.{LineCurve}
use Rattle.clru_shares.specs.declared.curve.LineCurve.TheVariants.{ByKeys, BySize}
use Rattle.clru_shares.specs.declared.reading.Passes.{Passes}
use Rattle.clru_shares.specs.declared.share.Share.{Share}
use Rattle.clru_shares.proofs.SampleLemmas.{class_kept}
use Rattle.clru_shares.proofs.TimedLines.{keys_are_rests}
use Rattle.clru_shares.proofs.Timeless.{timeless_lines}

lines_weigh : SameWeights bytes_eq weight_behind
lines_weigh x y t = ap weight_behind (same_bytes x y t)

-- the greatest size of a curve is that of its requests
module _ {A : Type 0} (limit : ℕ) (requests : List (List ℕ × ℕ)) (all : LineCurve A) where
  pub size_by_keys : (sizes : Bool) (curve : List ℕ) → all ≡ ByKeys curve → IsCurveBy sizes limit requests all → 0 ≡ greatest_size sizes requests
  size_by_keys false curve is of = refl
  size_by_keys true curve is of = absurd (subst (IsCurveBy true limit requests) is of)

  pub size_by_size : (sizes : Bool) (curve : CurveBySize) (size : ℕ) → all ≡ BySize curve → curve.distinct_size < 2 ^ 64
      → size ≡ min (curve.greatest_weight + 1) (2 ^ 64 - 1) → IsCurveBy sizes limit requests all → size ≡ greatest_size sizes requests
  size_by_size false curve size is fits made of = absurd (subst (IsCurveBy false limit requests) is of)
  size_by_size true curve size is fits made of =
      let has : IsSizedIdleCurveOf bytes_eq weight_behind limit requests curve = subst (IsCurveBy true limit requests) is of in
      let below = greatest_below bytes_eq bytes_laws weight_behind lines_weigh (reverse (keys_of requests)) in
      omega (arith, made, fits, below, has.distinct_size, has.greatest_weight)

-- only by size is there one above a budget
by_size : (sizes : Bool) (requests : List (List ℕ × ℕ)) (budget : ℕ) → budget < greatest_size sizes requests → sizes ≡ true
by_size false requests budget above = absurd (omega (arith, above))
by_size true requests budget above = refl

-- and then there is a request
some_request : (sizes : Bool) (requests : List (List ℕ × ℕ)) (budget : ℕ) → 0 < budget → budget < greatest_size sizes requests → 0 < length requests
some_request false requests budget some above = absurd (omega (arith, above))
some_request true [] budget some above = absurd (omega (arith, some, above))
some_request true (r ∷ rs) budget some above = omega arith

module _ {A : Type 0} (sizes : Bool) (idle sample : Option ℕ) (requests : List (List ℕ × ℕ)) where
  share_at : (names : List (List ℕ)) (shares : List (Share A)) (i : ℕ) (share : Share A) → HaveShares sizes idle sample requests names shares
      → i < length shares → share ≡ get_or shares i share → IsShareOf sizes idle sample requests (get_or names i []) share
  share_at [] [] i share have low is = absurd (omega (arith, low))
  share_at [] (s ∷ ss) i share have low is = elim have [ ]
  share_at (n ∷ ns) [] i share have low is = elim have [ ]
  share_at (n ∷ ns) (s ∷ ss) zero share have low is = subst (IsShareOf {A = A} sizes idle sample requests n) (sym is) have.0
  share_at (n ∷ ns) (s ∷ ss) (suc i) share have low is = share_at ns ss i share have.1 (omega (arith, low)) is

  module _ (names : List (List ℕ)) (shares : List (Share A)) (i : ℕ) (share : Share A) (have : HaveShares sizes idle sample requests names shares)
      (low : i < length shares) (is : share ≡ get_or shares i share) where
    pub named_at : share.name.items ≡ get_or names i []
    named_at = (share_at names shares i share have low is).is

    -- the greatest size of its curve is that of the class at its place
    pub size_at : (size : ℕ) → ((s : Bool) (limit : ℕ) (rs : List (List ℕ × ℕ)) → IsCurveBy s limit rs share.curve → size ≡ greatest_size s rs)
        → size ≡ greatest_size sizes (of_class (get_or names i []) (kept_in sample requests))
    size_at size made =
        let name = get_or names i [] in
        made sizes (limit_of idle) (kept_in sample (of_class name requests)) (share_at names shares i share have low is).curve
        ∙ ap (greatest_size sizes) (sym (class_kept sample name requests))

-- the first that is above a budget
pub first_without : (sizes : Bool) (sample : Option ℕ) (budget size : ℕ) (requests : List (List ℕ × ℕ)) (names : List (List ℕ)) (i : ℕ)
    → i < length names → 0 < budget → All (HasRoom sizes sample budget requests) (take i names)
    → size ≡ greatest_size sizes (of_class (get_or names i []) (kept_in sample requests)) → budget < size
    → IsFirstWithoutRoom sizes sample budget size requests names (get_or names i [])
first_without sizes sample budget size requests names i low some room greatest below = record {
  before = take i names;
  rest = drop (i + 1) names;
  is = sym (take-append-drop i names) ∙ ap (λ l. take i names ++ l) (drop_more names i [] low);
  room = room;
  requested = some_request sizes (of_class (get_or names i []) (kept_in sample requests)) budget some (omega (arith, greatest, below));
  greatest = greatest;
  below = below;
}

pub no_room_in : (sizes : Bool) (idle sample : Option ℕ) (budget size : ℕ) (lines : List (List ℕ)) (names : List (List ℕ)) (name : List ℕ)
    → AreTimed idle lines → HaveNoFault sizes (rests_in idle lines) → AreClasses (rests_in idle lines) names
    → IsFirstWithoutRoom sizes sample budget size (requests_in idle lines) names name → HasNoRoom sizes idle sample budget size lines name
no_room_in sizes idle sample budget size lines names name timed faultless classes first = record {
  sized = by_size sizes (of_class name (kept_in sample (requests_in idle lines))) budget (omega (arith, first.greatest, first.below));
  timed = timed;
  faultless = faultless;
  names = names;
  classes = classes;
  first = first;
}

-- the shares of passes that took these lines
pub shares_taken : {S A H : Type 0} (sizes : Bool) (idle sample : Option ℕ) (lines : List (List ℕ)) (passes : Passes S A H) (classes : List (Class A))
    (shares : List (Share A)) → HasTakenLines sizes idle sample lines passes → classes ≡ passes.classes.items
    → ((s : Bool) (i : Option ℕ) (requests : List (List ℕ × ℕ)) → AreTimeless i requests
    → HaveTaken s (limit_of i) (keys_of requests) (kept_in sample requests) classes → HaveShares s i sample requests (map name_of classes) shares)
    → HaveShares sizes idle sample (requests_in idle lines) (map name_of passes.classes.items) shares
shares_taken sizes idle sample lines passes classes shares has same made =
    let requests = requests_in idle lines in
    subst (λ cs. HaveShares sizes idle sample requests (map name_of cs) shares) same
    (made sizes idle requests (timeless_lines idle lines) (subst (HaveTaken sizes (limit_of idle) (keys_of requests) (kept_in sample requests)) (sym same)
    (subst (λ ls. HaveTaken sizes (limit_of idle) ls (kept_in sample requests) passes.classes.items) (sym (keys_are_rests idle lines)) has.taken.classes)))
