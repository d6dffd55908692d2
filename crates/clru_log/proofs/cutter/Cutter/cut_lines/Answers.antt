use Rattle.std.proofs.Common.{◌≡◌, ◌==◌, Some, position, sym, ◌∙◌}
use Rattle.std.proofs.lemmas.List.Quantifiers.{position-Some}
use Rattle.clru_log.proofs.CutLemmas.{cut_first}
use Rattle.clru_log.proofs.cutter.Cutter.cut_lines.Goals as goal

pub consume_line-requires : goal.consume_line-requires
consume_line-requires g c =
    let found : position (λ b. b == 10) c.lines.self.input ≡ Some c.in-Some.at = sym c.newline_at.ensures.at ∙ c.in-Some.is in
    rw (c.in_ok-cut.ensures.same, c.newline_at.ensures.same) (position-Some (λ b. b == 10) c.lines.self.input c.in-Some.at 0 found).0

pub lines-preserved : goal.lines-preserved
lines-preserved g c =
    let s = c.lines.self in let at = c.in-Some.at in
    let found : position (λ b. b == 10) s.input ≡ Some at = sym c.newline_at.ensures.at ∙ c.in-Some.is in
    let cut = rw c.newline_at.ensures.same at c.in_ok-cut.ensures.ok in
    let left = rw (c.in_ok-cut.ensures.same, c.newline_at.ensures.same) at c.consume_line.ensures in (
      λ more. rw (c.in_ok-cut.ensures.same, cut, left) (cut_first s.format s.wanted s.output s.input more at found) ∙ c.lines.invariant.0 more,
      rw c.in_ok-cut.ensures.same c.lines.invariant.1,
    )
