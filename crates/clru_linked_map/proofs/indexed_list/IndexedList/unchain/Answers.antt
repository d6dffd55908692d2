use Rattle.std.proofs.Common.{refl, sym, ◌∙◌, arith, inl, inr}
use Rattle.std.proofs.lemmas.Bool.{cases_Bool}
use Rattle.clru_linked_map.specs.Chained.{IsPlace}
use Rattle.clru_linked_map.specs.Buckets.{key_at, home_at}
use Rattle.clru_linked_map.specs.LinkedMap.{hash_by}
use Rattle.clru_linked_map.proofs.Chaining.{key_met}
use Rattle.clru_linked_map.proofs.ChainWalks.{walk_weaker}
use Rattle.clru_linked_map.proofs.Cuts.{passed_met}
use Rattle.clru_linked_map.proofs.Indexed.{walk_of_chain, live_at_cut, live_met, live_of_key}
use Rattle.clru_linked_map.proofs.Placed.{live_below}
use Rattle.clru_linked_map.proofs.Steps.{chained_taken}
use Rattle.clru_linked_map.proofs.indexed_list.IndexedList.unchain.Goals as goal

pub before-before-requires-clause-walk : goal.before-before-requires-clause-walk
before-before-requires-clause-walk g c =
    let x = c.args.self.now in let es = x.list.entries in let homed = c.requires.home in
    let hash = hash_by g.S.Hasher.Hasher.finish g.S.Hasher.Hasher.write g.S.BuildHasher.build_hasher g.K.Hash.hash_input in
    walk_weaker (walk_of_chain (home_at hash x) es c.requires.chained.chains (live_of_key es) c.args.bucket (IsPlace c.args.place)
    (λ q w. (λ e. w.1 (sym w.0 ∙ e), key_met (home_at hash x) c.args.bucket (key_at es) q homed.item.0 (rw (w.0, homed.held) refl) homed.home)))
    (λ q live. omega (arith, live_below x.list c.requires.valid q live, c.requires.linked))
    (omega (arith, c.requires.valid.held, c.requires.linked))

pub next-next-requires : goal.next-next-requires
next-next-requires g c =
    let h = c.requires.home in
    omega (arith, live_below c.args.self.now.list c.requires.valid c.args.place (h.item, h.held), c.requires.linked)

pub link-requires-clause-place : goal.link-requires-clause-place
link-requires-clause-place g c =
    let x = c.args.self.now in let es = x.list.entries in let chains = c.requires.chained.chains in
    let cut = c.before-before.ensures.cut _ (chains.chain c.args.bucket) in
    λ off. omega (
      arith,
      live_below x.list c.requires.valid _ (live_at_cut _ es chains (live_of_key es) c.args.bucket _ cut.cut off),
      c.requires.linked,
    )

pub note-requires-clause-place : goal.note-requires-clause-place
note-requires-clause-place g c =
    let x = c.args.self.now in let es = x.list.entries in let chains = c.requires.chained.chains in
    let cut = c.before-before.ensures.cut _ (chains.chain c.args.bucket) in
    λ off. omega (
      arith,
      live_below x.list c.requires.valid _ (live_met _ es chains (live_of_key es) c.args.bucket _ (passed_met cut) off),
      c.requires.linked,
      c.link.ensures.same.links,
    )

pub returns-clause-chained : goal.returns-clause-chained
returns-clause-chained g c =
    let x = c.args.self.now in let note = c.note.ensures in let before = c.before-before.ensures in
    let hash = hash_by g.S.Hasher.Hasher.finish g.S.Hasher.Hasher.write g.S.BuildHasher.build_hasher g.K.Hash.hash_input in
    chained_taken (hash x.hash_builder) (key_at x.list.entries) c.args.place c.requires.home.off c.requires.chained
    before.leads before.behind before.cut c.next-next.ensures.number c.link.ensures.written c.link.ensures.same note.none note.written
    (λ off short. elim (cases_Bool c.is_named-leads.result) [
      | inl t ↦ let more = note.leads off t in absurd (omega (arith, more, short))
      | inr f ↦ c.is_named-leads.ensures.none f
    ])
    (λ off more. elim (cases_Bool c.is_named-leads.result) [
      | inl t ↦ c.is_named-leads.ensures.some t
      | inr f ↦ let short = note.ends off f in absurd (omega (arith, more, short))
    ])
    note.same
