use Rattle.std.proofs.Common.{length, ap, ◌∙◌, arith}
use Rattle.std.proofs.lemmas.List.{take_all}
use Rattle.clru_log.proofs.CutLemmas.{cut_rest}
use Rattle.clru_log.proofs.cutter.Cutter.cut_last.Goals as goal

pub returns-clause-last : goal.returns-clause-last
returns-clause-last g c =
    let s = c.args.self.now in
    let len = ap length c.as_slice-len.ensures in
    let all = take_all (length c.as_slice-len.result.now) s.input (omega (arith, len)) in
    rw all at c.in_ok-cut.ensures.ok ∙ cut_rest s.format s.wanted s.output s.input c.requires (omega (arith, len, c.if-len-eq0.false))
