use Rattle.std.proofs.Common.{ℕ, ◌≤◌, length, arith, sym, ap, subst, inl, inr}
use Rattle.std.proofs.lemmas.Bool.{cases_eq}
use Rattle.clru_linked_map.specs.Buckets.{key_at, IsChainedAs}
use Rattle.clru_linked_map.specs.LinkedMap.{hash_by}
use Rattle.clru_linked_map.proofs.indexed_list.IndexedList.grow.Goals as goal

pub returns-clause-indexed : goal.returns-clause-indexed
returns-clause-indexed g c =
    let hash = hash_by g.S.Hasher.Hasher.finish g.S.Hasher.Hasher.write g.S.BuildHasher.build_hasher g.K.Hash.hash_input in
    let x = c.make_index.new.self in let old = c.make_index.ensures.indexed in let list = c.make_index.ensures.keeps.list in
    let l = c.make_ready.new.self in let e = c.make_ready.ensures in
    -- the list has no more places than it had, or than buckets were found for
    let reach : (b : ℕ) → c.grown_places-places.result ≤ b → x.list.places ≤ b → l.places ≤ b = λ b grown before. elim (cases_eq x.list.places (length x.list.entries)) [
      | inl full ↦ omega (
        arith,
        e.reach,
        e.places.capacity,
        e.places.bounded (omega (arith, c.requires.below, ap (λ m. length m.entries) list, ap (λ m. m.capacity) list), full),
        ap (λ m. m.places) list,
        ap (λ m. m.capacity) list,
        grown,
        c.grown_places-places.ensures.grown,
      )
      | inr free ↦ omega (arith, e.places.stays (λ needs. free needs.1), before)
    ] in
    record {
      chained = subst (λ es. IsChainedAs hash (key_at es) x) (sym e.entries) old.chained;
      held = e.valid.held;
      spread = old.spread;
      linked = reach (length x.index.links) c.in_ok-make_index.ensures.linked old.linked;
      named = reach x.index.bound c.in_ok-make_index.ensures.named old.named;
    }
