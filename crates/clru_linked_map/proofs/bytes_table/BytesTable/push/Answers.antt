use Rattle.std.proofs.Common.{◌≡◌, ◌+◌, ◌∷◌, ℕ, length, refl, sym, ap, ◌∙◌, subst, arith}
use Rattle.std.proofs.lemmas.List.{length-map}
use Rattle.std.specs.Map.{lookup}
use Rattle.std.specs.Prelude.{bytes_eq}
use Rattle.clru_linked_map.specs.BytesTable.{bytes_hash_by, entries_of, hashes_of}
use Rattle.clru_linked_map.specs.Stacked.{IsStacked}
use Rattle.clru_linked_map.specs.declared.bytes_table.BytesTable.{BytesTable}
use Rattle.clru_linked_map.specs.declared.bytes_table.Item.{Item}
use Rattle.clru_linked_map.proofs.Strings.{length-entries}
use Rattle.clru_linked_map.proofs.Tables.{entries_kept, entries_taken, table_taken}
use Rattle.clru_linked_map.proofs.bytes_table.BytesTable.push.Goals as goal

pub returns-clause-taken : goal.returns-clause-taken
returns-clause-taken g c =
    let m = c.make_room.new.self in let room = c.make_room.ensures in let more = c.args.bytes.now in
    let i : Item g.row.V.Denot = record { end = c.len-end.result; value = c.args.value } in
    let u : BytesTable g.row.V.Denot g.row.S.Denot g.row.A.Denot =
    record { buffer = c.extend_from_slice.new.self; held = c.push_reserved.new.self; index = c.link_place.new.index; hash_builder = m.hash_builder } in
    let ends : c.len-end.result ≡ length m.buffer.items + length more = omega (arith, c.len-end.ensures, c.in-Ok.ensures.len, m.buffer.ok.0) in
    entries_taken m u more i c.in-Ok.ensures.items c.push_reserved.ensures.items ends room.table.fills
    ∙ ap (λ es. (more, c.args.value) ∷ es) (entries_kept c.args.self.now m room.keeps)

pub returns-clause-table : goal.returns-clause-table
returns-clause-table g c =
    let m = c.make_room.new.self in let room = c.make_room.ensures in let more = c.args.bytes.now in let linked = c.link_place.ensures in
    let i : Item g.row.V.Denot = record { end = c.len-end.result; value = c.args.value } in
    let u : BytesTable g.row.V.Denot g.row.S.Denot g.row.A.Denot =
    record { buffer = c.extend_from_slice.new.self; held = c.push_reserved.new.self; index = c.link_place.new.index; hash_builder = m.hash_builder } in
    let ends : c.len-end.result ≡ length m.buffer.items + length more = omega (arith, c.len-end.ensures, c.in-Ok.ensures.len, m.buffer.ok.0) in
    let hash = bytes_hash_by g.S.Hasher.Hasher.finish g.S.Hasher.Hasher.write g.S.BuildHasher.build_hasher in
    let hashes = hashes_of (hash m.hash_builder) (entries_of m) in
    let long : length hashes ≡ c.len-place.result =
    omega (arith, length-map (entries_of m) (λ e. hash m.hash_builder e.0), length-entries m.buffer.items m.held.items, m.held.ok.0, c.len-place.ensures) in
    let hashed : c.args.hash ≡ hash m.hash_builder more = c.requires.hash ∙ ap (λ b. hash b more) (sym room.keeps.builder) in
    table_taken m u more i c.in-Ok.ensures.items c.push_reserved.ensures.items ends {hash = hash} room.table
    (ap (λ es. lookup (bytes_eq more) es) (entries_kept c.args.self.now m room.keeps) ∙ c.requires.absent) refl
    (subst (λ (n : ℕ). IsStacked c.link_place.new.index (n ∷ hashes)) hashed (linked.stacked hashes long room.table.stacked))
    (omega (arith, c.in_ok-make_room.ensures.linked, m.held.ok.0, linked.same.links)) (omega (arith, room.table.named, linked.same.links, linked.same.bound))
