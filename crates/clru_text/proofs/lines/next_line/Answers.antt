use Rattle.std.proofs.Common.{◌+◌, rules, inl}
use Rattle.std.proofs.lemmas.List.{take_rest}
use Rattle.clru_text.proofs.LineLemmas.{cut_at, lines_of-at, lines_of-last}
use Rattle.clru_text.proofs.lines.next_line.Goals as goal

pub returns-in-Some-clause-line : goal.returns-in-Some-clause-line
returns-in-Some-clause-line c =
    let first = lines_of-at c.args.bytes.now c.in-Some.at (cc) in let rest = take_rest c.args.bytes.now (c.in-Some.at + 1) in cc

pub returns-in-Some-clause-bytes : goal.returns-in-Some-clause-bytes
returns-in-Some-clause-bytes c =
    let cut = cut_at c.args.bytes.now c.in-Some.at (cc) in let rest = take_rest c.args.bytes.now (c.in-Some.at + 1) in inl (cc)

pub returns-in-None-2-clause-line : goal.returns-in-None-2-clause-line
returns-in-None-2-clause-line c = lines_of-last c.args.bytes.now (cc) (search rules)
