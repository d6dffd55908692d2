-- The rows of faithful tables.
use Rattle.std.proofs.Common.{◌≡◌, ℕ, ◌<◌, ◌≤◌, List, [], ◌∷◌, ◌++◌, refl, sym, ap, subst, ◌∙◌, append_assoc, arith}
use Rattle.std.specs.List.{AllByRecursion}
use Rattle.clru_report.specs.Faithful.{AreAdded, AreNearLines, AreNearLinesFrom, AreWithAdded, IsFaithful, IsFurthest, IsNearLine, more, next, none, off, off_at, point, point_at}
use Rattle.clru_report.specs.Knees.{is_foot, knees, knees_from}
use Rattle.clru_report.specs.Scans.{LeadTo}
use Rattle.std.specs.Prelude.{if◌then◌else◌}

module _ (m : ℕ → ℕ) (whole : ℕ) where
  -- no row is added, or one is and perhaps more on both its sides
  pub lead_one : (a b : ℕ) → IsNearLine m whole a b → LeadTo m whole a b (b ∷ [])
  lead_one a b near bs cs after = next a b bs cs near after

  pub lead_two : (a b x : ℕ) (left right : List ℕ) → IsFurthest m whole a b x → LeadTo m whole a x left → LeadTo m whole x b right
      → LeadTo m whole a b (left ++ right)
  lead_two a b x left right far one two bs cs after =
      more a b x bs ((left ++ right) ++ cs) far
      (subst (AreAdded m whole a (x ∷ b ∷ bs)) (sym (append_assoc left right cs)) (one (b ∷ bs) (right ++ cs) (two bs cs after)))

  near_lines : (a : ℕ) (bs cs : List ℕ) → AreAdded m whole a bs cs → AreNearLinesFrom m whole a cs
  near_lines a _ _ (none _) = tt
  near_lines a _ _ (next _ b bs cs near after) = (near, near_lines b bs cs after)
  near_lines a _ _ (more _ b x bs cs far after) = near_lines a (x ∷ b ∷ bs) cs after

  -- a table that was made so is faithful
  pub faithful : (capacities table : List ℕ) → AreWithAdded m whole capacities table → IsFaithful m whole capacities table
  faithful [] table is = record { near = subst (AreNearLines m whole) (sym is) tt; added = is }
  faithful (a ∷ bs) table is = record {
    near = subst (AreNearLines m whole) (sym is.1) (near_lines a bs is.0 is.2);
    added = is;
  }

  -- no row is below the first
  module _ (g : ℕ) where
    added_from : (a : ℕ) (bs cs : List ℕ) → AreAdded m whole a bs cs → g ≤ a → AllByRecursion (λ c. g ≤ c) bs → AllByRecursion (λ c. g ≤ c) cs
    added_from a _ _ (none _) low all = tt
    added_from a _ _ (next _ b bs cs near after) low all = (all.0, added_from b bs cs after all.0 all.1)
    added_from a _ _ (more _ b x bs cs far after) low all =
        let above : g ≤ x = omega (arith, low, far.above) in added_from a (x ∷ b ∷ bs) cs after low (above, all)

    pub table_from : (capacities table : List ℕ) → AreWithAdded m whole capacities table → AllByRecursion (λ c. g ≤ c) capacities
        → AllByRecursion (λ c. g ≤ c) table
    table_from [] table is all = subst (AllByRecursion (λ c. g ≤ c)) (sym is) tt
    table_from (a ∷ bs) table is all =
        subst (AllByRecursion (λ c. g ≤ c)) (sym is.1) (all.0, added_from a bs is.0 is.2 all.0 all.1)

-- curves that are the same from capacity 1 on have the same faithful tables and knees
module _ (m n : ℕ → ℕ) (alike : (k : ℕ) → 0 < k → m k ≡ n k) (whole : ℕ) where
  same_point : (c : ℕ) → 0 < c → point_at m c ≡ point_at n c
  same_point c some = ap (point c) (alike c some)

  same_off : (a b x : ℕ) → 0 < a → 0 < b → 0 < x → off_at m a b x ≡ off_at n a b x
  same_off a b x left right middle =
      ap (λ p. off p (point_at m b) (point_at m x)) (same_point a left)
      ∙ ap (λ p. off (point_at n a) p (point_at m x)) (same_point b right)
      ∙ ap (off (point_at n a) (point_at n b)) (same_point x middle)

  same_near : (a b : ℕ) → 0 < a → 0 < b → IsNearLine m whole a b → IsNearLine n whole a b
  same_near a b left right near x from below =
      let same = same_off a b x left right (omega (arith, from)) in omega (arith, near x from below, same)

  same_furthest : (a b x : ℕ) → 0 < a → IsFurthest m whole a b x → IsFurthest n whole a b x
  same_furthest a b x left far =
      let right : 0 < b = omega (arith, far.above, far.below) in
      let at = same_off a b x left right (omega (arith, far.above)) in
      record {
        above = far.above;
        below = far.below;
        far = omega (arith, far.far, at);
        furthest = λ y from below. omega (arith, far.furthest y from below, at, same_off a b y left right (omega (arith, from)));
        least = λ y from below. omega (arith, far.least y from below, at, same_off a b y left right (omega (arith, from)));
      }

  same_added : (a : ℕ) (bs cs : List ℕ) → AreAdded m whole a bs cs → 0 < a → AllByRecursion (λ c. 0 < c) bs → AreAdded n whole a bs cs
  same_added a _ _ (none _) some all = none a
  same_added a _ _ (next _ b bs cs near after) some all =
      next a b bs cs (same_near a b some all.0 near) (same_added b bs cs after all.0 all.1)
  same_added a _ _ (more _ b x bs cs far after) some all =
      let above : 0 < x = omega (arith, some, far.above) in
      more a b x bs cs (same_furthest a b x some far) (same_added a (x ∷ b ∷ bs) cs after some (above, all))

  same_table : (capacities table : List ℕ) → AllByRecursion (λ c. 0 < c) capacities → AreWithAdded m whole capacities table
      → AreWithAdded n whole capacities table
  same_table [] table all is = is
  same_table (a ∷ bs) table all is = (is.0, is.1, same_added a bs is.0 is.2 all.0 all.1)

  same_from : (a c : ℕ) (table : List ℕ) → 0 < a → 0 < c → AllByRecursion (λ k. 0 < k) table
      → knees_from m whole a c table ≡ knees_from n whole a c table
  same_from a c [] left some all = refl
  same_from a c (b ∷ table) left some all =
      let foot : is_foot whole (point_at m a) (point_at m c) (point_at m b) ≡ is_foot whole (point_at n a) (point_at n c) (point_at n b) =
      ap (λ p. is_foot whole p (point_at m c) (point_at m b)) (same_point a left)
      ∙ ap (λ p. is_foot whole (point_at n a) p (point_at m b)) (same_point c some)
      ∙ ap (is_foot whole (point_at n a) (point_at n c)) (same_point b all.0) in
      ap (λ t. (if t then c ∷ [] else []) ++ knees_from m whole c b table) foot
      ∙ ap (λ ks. (if is_foot whole (point_at n a) (point_at n c) (point_at n b) then c ∷ [] else []) ++ ks) (same_from c b table some all.0 all.1)

  same_knees : (table : List ℕ) → AllByRecursion (λ k. 0 < k) table → knees m whole table ≡ knees n whole table
  same_knees [] all = refl
  same_knees (a ∷ []) all = refl
  same_knees (a ∷ c ∷ table) all = same_from a c table all.0 all.1.0 all.1.1

  -- so a table that was made of one is faithful to the other, and has its knees
  pub faithful_alike : (capacities table : List ℕ) → AllByRecursion (λ c. 0 < c) capacities → AreWithAdded m whole capacities table
      → IsFaithful n whole capacities table
  faithful_alike capacities table all is = faithful n whole capacities table (same_table capacities table all is)

  pub knees_alike : (capacities table : List ℕ) → AllByRecursion (λ c. 0 < c) capacities → AreWithAdded m whole capacities table
      → knees m whole table ≡ knees n whole table
  knees_alike capacities table all is = same_knees table (table_from m whole 1 capacities table is all)
