use Rattle.std.proofs.Common.{◌≡◌, ◌-◌, ℕ, suc, sym, subst, arith}
use Rattle.clru_linked_map.specs.BytesTable.{start_from}
use Rattle.clru_linked_map.proofs.Strings.{start_behind}
use Rattle.clru_linked_map.proofs.bytes_table.BytesTable.start_at.Goals as goal

pub returns-else-place-eq0 : goal.returns-else-place-eq0
returns-else-place-eq0 g c =
    let t = c.args.self.now in let p = c.args.place - 1 in let next : suc p ≡ c.args.place = omega arith in
    subst (λ (q : ℕ). c.index.result.now.end ≡ start_from 0 t.held.items q) next
    (sym (start_behind 0 t.held.items p c.index.result.now (omega (arith, t.held.ok.0, c.requires)) c.index.ensures))
