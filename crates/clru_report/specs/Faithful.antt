-- The usual table: which capacities it has, so that one may interpolate between its rows. Public clauses cite it.
use Rattle.std.specs.Prelude.{◌≡◌, ℕ, ◌+◌, ◌-◌, ◌*◌, ◌<◌, ◌≤◌, List, [], ◌∷◌, ⊤}
use Rattle.clru_report.specs.declared.faithful.Point.{Point}

abbrev pub point : ℕ → ℕ → Point
point c m = record { capacity = c; misses = m }

-- how far two numbers lie apart
abbrev pub apart : ℕ → ℕ → ℕ
apart x y = (x - y) + (y - x)

-- how far the point x lies above or below the straight line from a to b, times the length of that line
abbrev pub off : Point → Point → Point → ℕ
off a b x = apart (x.misses * (b.capacity - a.capacity))
    (a.misses * (b.capacity - x.capacity) + b.misses * (x.capacity - a.capacity))

-- what misses at each capacity
module _ (misses : ℕ → ℕ) where
  abbrev pub point_at : ℕ → Point
  point_at c = point c (misses c)

  abbrev pub off_at : ℕ → ℕ → ℕ → ℕ
  off_at a b x = off (point_at a) (point_at b) (point_at x)

  module _ (whole : ℕ) where
    -- at every capacity between a and b the misses lie within one fiftieth of the whole of the straight line from a to b
    abbrev pub IsNearLine : ℕ → ℕ → Type 0
    IsNearLine a b = (x : ℕ) → a < x → x < b → 50 * off_at a b x ≤ whole * (b - a)

    -- so they do between all neighbours of the list a, cs
    abbrev pub AreNearLinesFrom : ℕ → List ℕ → Type 0
    AreNearLinesFrom a [] = ⊤
    AreNearLinesFrom a (b ∷ cs) = IsNearLine a b × AreNearLinesFrom b cs

    abbrev pub AreNearLines : List ℕ → Type 0
    AreNearLines [] = ⊤
    AreNearLines (a ∷ cs) = AreNearLinesFrom a cs

    -- x lies further off than that, and of all between a and b the furthest, the least of several
    pub record IsFurthest (a b x : ℕ) : Type 0 where
      pub above : a < x
      pub below : x < b
      pub far : whole * (b - a) < 50 * off_at a b x
      pub furthest : (y : ℕ) → a < y → y < b → off_at a b y ≤ off_at a b x
      pub least : (y : ℕ) → a < y → y < x → off_at a b y < off_at a b x

-- which capacities come after a, where bs are to be among them: as long as some capacity before the next of bs lies too far off, the
-- furthest one is added to bs
pub data AreAdded (misses : ℕ → ℕ) (whole : ℕ) : ℕ → List ℕ → List ℕ → Type 0 where
  none : (a : ℕ) → AreAdded misses whole a [] []
  next : (a b : ℕ) (bs cs : List ℕ) → IsNearLine misses whole a b → AreAdded misses whole b bs cs
      → AreAdded misses whole a (b ∷ bs) (b ∷ cs)
  more : (a b x : ℕ) (bs cs : List ℕ) → IsFurthest misses whole a b x → AreAdded misses whole a (x ∷ b ∷ bs) cs
      → AreAdded misses whole a (b ∷ bs) cs

abbrev pub AreWithAdded : (ℕ → ℕ) → ℕ → List ℕ → List ℕ → Type 0
AreWithAdded misses whole [] table = table ≡ []
AreWithAdded misses whole (a ∷ bs) table = (cs : List ℕ) × (table ≡ a ∷ cs) × AreAdded misses whole a bs cs

-- the faithful table of some capacities: these, and each that it takes so that the misses at every capacity lie within one fiftieth
-- of the whole of the straight line between the rows next to it
pub record IsFaithful (misses : ℕ → ℕ) (whole : ℕ) (capacities table : List ℕ) : Type 0 where
  pub near : AreNearLines misses whole table
  pub added : AreWithAdded misses whole capacities table
