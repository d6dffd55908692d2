use Rattle.std.proofs.Common.{length, sym, arith}
use Rattle.clru_linked_map.proofs.Strings.{string_spans}
use Rattle.clru_linked_map.proofs.bytes_table.BytesTable.bytes_at.Goals as goal

pub slice_bounds-result-count : goal.slice_bounds-result-count
slice_bounds-result-count g c =
    let t = c.args.self.now in
    let spans = string_spans t.buffer.items 0 (length t.buffer.items) t.held.items c.args.place c.index.result.now c.requires.fills
    (omega (arith, t.held.ok.0, c.requires.place)) c.index.ensures in
    omega (arith, c.start_at-start.ensures, spans.0)

pub slice_bounds-result-start : goal.slice_bounds-result-start
slice_bounds-result-start g c =
    let t = c.args.self.now in
    let spans = string_spans t.buffer.items 0 (length t.buffer.items) t.held.items c.args.place c.index.result.now c.requires.fills
    (omega (arith, t.held.ok.0, c.requires.place)) c.index.ensures in
    omega (arith, c.start_at-start.ensures, spans.0)

pub slice_bounds-result-end : goal.slice_bounds-result-end
slice_bounds-result-end g c =
    let t = c.args.self.now in
    let spans = string_spans t.buffer.items 0 (length t.buffer.items) t.held.items c.args.place c.index.result.now c.requires.fills
    (omega (arith, t.held.ok.0, c.requires.place)) c.index.ensures in
    omega (arith, spans.1, c.deref.ensures.len, t.buffer.ok.0)

pub returns : goal.returns
returns g c =
    let t = c.args.self.now in
    let spans = string_spans t.buffer.items 0 (length t.buffer.items) t.held.items c.args.place c.index.result.now c.requires.fills
    (omega (arith, t.held.ok.0, c.requires.place)) c.index.ensures in
    rw (c.deref.ensures.value, c.start_at-start.ensures) (sym spans.2)
