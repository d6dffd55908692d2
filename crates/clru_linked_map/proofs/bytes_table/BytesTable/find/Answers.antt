use Rattle.std.proofs.Common.{◌<◌, ℕ, sym, ap, ◌∙◌, subst, arith}
use Rattle.std.proofs.lemmas.Map.{lookup-none}
use Rattle.std.specs.Prelude.{bytes_eq}
use Rattle.clru_linked_map.specs.BucketList.{place_named}
use Rattle.clru_linked_map.specs.Buckets.{number_in}
use Rattle.clru_linked_map.specs.BytesTable.{IsFoundAt, IsSought, bytes_hash_by, entries_of, places_to}
use Rattle.clru_linked_map.proofs.Sought.{Seeks, found_named, found_next, found_none, found_same, found_within, sought_first, sought_nearer}
use Rattle.clru_linked_map.proofs.bytes_table.BytesTable.find.Goals as goal

pub chain-init : goal.chain-init
chain-init g c =
    let t = c.args.self.now in let key = c.args.bytes.now in let h = c.bucket_of-bucket.result in
    let hash = bytes_hash_by g.S.Hasher.Hasher.finish g.S.Hasher.Hasher.write g.S.BuildHasher.build_hasher t.hash_builder in
    subst (λ (n : ℕ). IsSought hash (bytes_eq key) t.index h n (entries_of t)) (sym c.first-number.ensures.number)
    (sought_first hash (bytes_eq key) t.index h (entries_of t) c.requires.table.stacked)

pub is_other-requires-clause-place : goal.is_other-requires-clause-place
is_other-requires-clause-place g c =
    let t = c.args.self.now in let i = c.chain.invariant in
    let hash = bytes_hash_by g.S.Hasher.Hasher.finish g.S.Hasher.Hasher.write g.S.BuildHasher.build_hasher t.hash_builder in
    let k : Seeks hash t.index c.args.bytes.now c.args.hash c.bucket_of-bucket.result t.held.items =
    record { hashed_is = c.requires.hash; home = c.bucket_of-bucket.ensures.bucket; short = omega (arith, c.requires.table.linked, c.first-number.ensures.countable) } in
    λ off. let within = found_within k t.buffer.items i off in omega (arith, within, t.held.ok.0)

pub returns-then-is_last-clause-absent : goal.returns-then-is_last-clause-absent
returns-then-is_last-clause-absent g c =
    let t = c.args.self.now in let i = c.chain.invariant in
    let hash = bytes_hash_by g.S.Hasher.Hasher.finish g.S.Hasher.Hasher.write g.S.BuildHasher.build_hasher t.hash_builder in
    let k : Seeks hash t.index c.args.bytes.now c.args.hash c.bucket_of-bucket.result t.held.items =
    record { hashed_is = c.requires.hash; home = c.bucket_of-bucket.ensures.bucket; short = omega (arith, c.requires.table.linked, c.first-number.ensures.countable) } in
    lookup-none (bytes_eq c.args.bytes.now) (entries_of t)
    (found_none k t.buffer.items i (c.is_other.ensures.other c.chain-test.true) (c.is_last.ensures.last c.if-is_last.true))

pub next-number-requires : goal.next-number-requires
next-number-requires g c =
    let t = c.args.self.now in let i = c.chain.invariant in
    let hash = bytes_hash_by g.S.Hasher.Hasher.finish g.S.Hasher.Hasher.write g.S.BuildHasher.build_hasher t.hash_builder in
    let k : Seeks hash t.index c.args.bytes.now c.args.hash c.bucket_of-bucket.result t.held.items =
    record { hashed_is = c.requires.hash; home = c.bucket_of-bucket.ensures.bucket; short = omega (arith, c.requires.table.linked, c.first-number.ensures.countable) } in
    let off = found_named k t.buffer.items i (c.is_last.ensures.more c.if-is_last.false) in
    let within = found_within k t.buffer.items i off in
    omega (arith, within, c.place-place.ensures, c.requires.table.linked)

pub chain-smaller : goal.chain-smaller
chain-smaller g c =
    let t = c.args.self.now in let i = c.chain.invariant in
    let hash = bytes_hash_by g.S.Hasher.Hasher.finish g.S.Hasher.Hasher.write g.S.BuildHasher.build_hasher t.hash_builder in
    let k : Seeks hash t.index c.args.bytes.now c.args.hash c.bucket_of-bucket.result t.held.items =
    record { hashed_is = c.requires.hash; home = c.bucket_of-bucket.ensures.bucket; short = omega (arith, c.requires.table.linked, c.first-number.ensures.countable) } in
    let off = found_named k t.buffer.items i (c.is_last.ensures.more c.if-is_last.false) in
    subst (λ (n : ℕ). places_to (place_named t.index.bound n) < places_to (place_named t.index.bound c.chain.number))
    (sym (c.next-number.ensures.number ∙ ap (number_in t.index.links) c.place-place.ensures))
    (sought_nearer hash (bytes_eq c.args.bytes.now) t.index i off)

pub chain-preserved : goal.chain-preserved
chain-preserved g c =
    let t = c.args.self.now in let i = c.chain.invariant in
    let hash = bytes_hash_by g.S.Hasher.Hasher.finish g.S.Hasher.Hasher.write g.S.BuildHasher.build_hasher t.hash_builder in
    let k : Seeks hash t.index c.args.bytes.now c.args.hash c.bucket_of-bucket.result t.held.items =
    record { hashed_is = c.requires.hash; home = c.bucket_of-bucket.ensures.bucket; short = omega (arith, c.requires.table.linked, c.first-number.ensures.countable) } in
    let off = found_named k t.buffer.items i (c.is_last.ensures.more c.if-is_last.false) in
    subst (λ (n : ℕ). IsSought hash (bytes_eq c.args.bytes.now) t.index c.bucket_of-bucket.result n (entries_of t))
    (sym (c.next-number.ensures.number ∙ ap (number_in t.index.links) c.place-place.ensures))
    (found_next k t.buffer.items i (c.is_other.ensures.other c.chain-test.true) off)

pub returns-clause-found : goal.returns-clause-found
returns-clause-found g c =
    let t = c.args.self.now in let i = c.chain.invariant in
    let hash = bytes_hash_by g.S.Hasher.Hasher.finish g.S.Hasher.Hasher.write g.S.BuildHasher.build_hasher t.hash_builder in
    let k : Seeks hash t.index c.args.bytes.now c.args.hash c.bucket_of-bucket.result t.held.items =
    record { hashed_is = c.requires.hash; home = c.bucket_of-bucket.ensures.bucket; short = omega (arith, c.requires.table.linked, c.first-number.ensures.countable) } in
    subst (λ (p : ℕ). IsFoundAt (bytes_eq c.args.bytes.now) p (entries_of t)) (sym c.place.ensures)
    (found_same k t.buffer.items i (c.is_other.ensures.named c.chain-test.false) (c.is_other.ensures.same c.chain-test.false))

pub returns-clause-place : goal.returns-clause-place
returns-clause-place g c =
    let t = c.args.self.now in let i = c.chain.invariant in
    let hash = bytes_hash_by g.S.Hasher.Hasher.finish g.S.Hasher.Hasher.write g.S.BuildHasher.build_hasher t.hash_builder in
    let k : Seeks hash t.index c.args.bytes.now c.args.hash c.bucket_of-bucket.result t.held.items =
    record { hashed_is = c.requires.hash; home = c.bucket_of-bucket.ensures.bucket; short = omega (arith, c.requires.table.linked, c.first-number.ensures.countable) } in
    let within = found_within k t.buffer.items i (c.is_other.ensures.named c.chain-test.false) in
    omega (arith, within, t.held.ok.0, c.place.ensures)
