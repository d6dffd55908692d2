use Rattle.std.proofs.Common.{ℕ, List, length, sym, subst, arith}
use Rattle.std.proofs.lemmas.List.{length-set}
use Rattle.clru_linked_map.specs.BytesTable.{bytes_hash_by}
use Rattle.clru_linked_map.specs.Stacked.{IsStacked}
use Rattle.clru_linked_map.proofs.Strings.{apart_written, fills_valued, found_set, found_value, hashes_written, valued}
use Rattle.clru_linked_map.proofs.bytes_table.BytesTable.replace.Goals as goal

pub returns-clause-before : goal.returns-clause-before
returns-clause-before g c = λ test found.
    let t = c.args.self.now in
    found_value test t.buffer.items t.held.items c.args.place c.index.result.now (omega (arith, t.held.ok.0, c.requires.place)) c.index.ensures found

pub returns-clause-replaced : goal.returns-clause-replaced
returns-clause-replaced g c = λ test found.
    let t = c.args.self.now in
    found_set test t.buffer.items t.held.items c.args.place c.index_mut.result.now (omega (arith, t.held.ok.0, c.requires.place)) c.index_mut.ensures.value found c.args.value

pub returns-clause-table : goal.returns-clause-table
returns-clause-table g c =
    let t = c.args.self.now in let p = c.args.place in let i = c.index_mut.result.now in let table = c.requires.table in
    let hash = bytes_hash_by g.S.Hasher.Hasher.finish g.S.Hasher.Hasher.write g.S.BuildHasher.build_hasher t.hash_builder in
    record {
      fills = fills_valued 0 (length t.buffer.items) t.held.items p i c.args.value table.fills c.index_mut.ensures.value;
      apart = apart_written t.buffer.items t.held.items p i c.args.value (omega (arith, t.held.ok.0, c.requires.place)) c.index_mut.ensures.value table.apart;
      stacked = subst (λ (hashes : List ℕ). IsStacked t.index hashes)
          (sym (hashes_written hash t.buffer.items t.held.items p i c.args.value (omega (arith, t.held.ok.0, c.requires.place)) c.index_mut.ensures.value))
          table.stacked;
      linked = omega (arith, table.linked, length-set t.held.items p (valued i c.args.value));
      named = table.named;
    }
