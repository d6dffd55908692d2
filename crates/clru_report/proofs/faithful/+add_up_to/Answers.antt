use Rattle.std.proofs.Common.{◌++◌, [], ◌∷◌, map, ap, ◌∙◌, append_assoc}
use Rattle.std.specs.Int.NonZero.{non_zero_usize_get}
use Rattle.clru_text.proofs.ResultLemmas.{on_ok_map}
use Rattle.clru_report.proofs.FaithfulTables.{lead_one, lead_two}
use Rattle.clru_report.proofs.faithful.+add_up_to.Goals as goal

pub returns-in-None : goal.returns-in-None
returns-in-None g t c =
    let m = g.C.Curve.misses c.args.curve.now in let b = c.args.b in
    on_ok_map c.push_capacity.result (λ is. (b ∷ [], is, lead_one m c.args.whole c.args.a b c.in-None.ensures.none)) c.push_capacity.ensures

pub returns-in_ok-add_up_to-in-Some : goal.returns-in_ok-add_up_to-in-Some
returns-in_ok-add_up_to-in-Some g t c =
    let m = g.C.Curve.misses c.args.curve.now in
    let one = c.in_ok-add_up_to-in-Some.ensures in
    on_ok_map c.add_up_to-in-Some.result
    (λ two. (
      one.0 ++ two.0,
      two.1 ∙ ap (λ ns. ns ++ two.0) one.1 ∙ append_assoc (map non_zero_usize_get c.args.table.now.items) one.0 two.0,
      lead_two m c.args.whole c.args.a c.args.b c.in-Some.x one.0 two.0 c.in-Some.ensures.found one.2 two.2,
    ))
    c.add_up_to-in-Some.ensures
