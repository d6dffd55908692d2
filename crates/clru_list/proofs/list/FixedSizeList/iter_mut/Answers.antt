use Rattle.std.proofs.Common.{◌+◌, refl, rules, arith}
use Rattle.std.proofs.lemmas.List.{take_all, drop_all}
use Rattle.clru_list.proofs.Windows.{whole}
use Rattle.clru_list.proofs.list.FixedSizeList.iter_mut.Goals as goal

pub returns-clause-start : goal.returns-clause-start
returns-clause-start g c =
    let es = c.args.self.now.entries in
    let left = c.len-left.result in
    record {
      can = search (rules, whole);
      list = refl;
      rest = take_all left es (omega arith);
      before = refl;
      after = drop_all (0 + left) es (omega arith);
    }
