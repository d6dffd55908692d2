-- What is known of a list of requests, to be joined to that of the next one. Public clauses cite it.
use Rattle.std.specs.Prelude.{◌≡◌, ℕ, ◌+◌, ◌-◌, Bool, List, ◌++◌, reverse}
use Rattle.clru_model.specs.Parts.{missed_cost, firsts, lasts, IsByLatest}
use Rattle.clru_model.specs.Requests.{sum_distinct}

-- the first and the latest request for each key, in order, and the cost of the requests that miss
pub record Part (K : Type 0) : Type 0 where
  pub first : List K
  pub latest : List K
  pub missed : ℕ

module _ {K : Type 0} (eq : K → K → Bool) (hits : K → List K → Bool) (cost : K → ℕ) where
  abbrev pub part_of : List K → Part K
  part_of requests = record { first = firsts eq requests; latest = lasts eq requests; missed = missed_cost hits cost requests }

  -- what both count: the latest requests of one and the first ones of two
  abbrev pub counted_twice : Part K → Part K → ℕ
  counted_twice one two = sum_distinct eq cost one.latest + sum_distinct eq cost (reverse two.first)

  -- the part of both, the second one behind the first
  abbrev pub join : Part K → Part K → Part K
  join one two = record {
    first = firsts eq (one.first ++ two.first);
    latest = lasts eq (one.latest ++ two.latest);
    missed = one.missed + (missed_cost hits cost (one.latest ++ two.first) + two.missed) - counted_twice one two;
  }

module _ {K : Type 0} (eq : K → K → Bool) where
  -- the join of the parts of two lists is the part of both in a row
  abbrev pub JoinIsOfBoth : Type 0
  JoinIsOfBoth = (hits : K → List K → Bool) (cost : K → ℕ) (one two : List K) → IsByLatest eq hits
      → join eq hits cost (part_of eq hits cost one) (part_of eq hits cost two) ≡ part_of eq hits cost (one ++ two)

  -- so parts can be joined in any tree
  abbrev pub JoinsAssociate : Type 0
  JoinsAssociate = (hits : K → List K → Bool) (cost : K → ℕ) (one two three : List K) → IsByLatest eq hits
      → join eq hits cost (join eq hits cost (part_of eq hits cost one) (part_of eq hits cost two)) (part_of eq hits cost three)
      ≡ join eq hits cost (part_of eq hits cost one) (join eq hits cost (part_of eq hits cost two) (part_of eq hits cost three))
