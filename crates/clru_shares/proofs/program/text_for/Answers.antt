use Rattle.std.proofs.Common.{◌≡◌, length, map, refl, sym, ap, ◌∙◌, subst, arith}
use Rattle.std.specs.Prelude.{codes}
use Rattle.std.specs.Int.NonZero.{non_zero_usize_get}
use Rattle.std.specs.Map.{keys_of}
use Rattle.std.specs.Option.{option_map}
use Rattle.std.proofs.lemmas.List.{length-map}
use Rattle.clru_curve.specs.Splits.{IsBestSplit}
use Rattle.clru_text.proofs.ResultLemmas.{ok_map}
use Rattle.clru_shares.specs.Classes.{of_class}
use Rattle.clru_shares.specs.Forms.{IsTextOf}
use Rattle.clru_shares.specs.Passes.{IsShare, name_of, part_of_all, parts_of_table}
use Rattle.clru_shares.specs.Sampled.{kept_in, part_in}
use Rattle.clru_shares.specs.ShareCurves.{all_of_share, missed_of_share}
use Rattle.clru_shares.specs.Shares.{all_of, missed_told, split_rows, step_for}
use Rattle.clru_shares.specs.Sizes.{size_in}
use Rattle.clru_shares.specs.Times.{limit_of, requests_in, rests_in}
use Rattle.clru_shares.specs.declared.share.Share.{Share}
use Rattle.clru_shares.proofs.ShareLemmas.{all_row_same, best_same, shares_same, table_same}
use Rattle.clru_shares.proofs.TakenClasses.{names_are}
use Rattle.clru_shares.proofs.TimedLines.{as_many_requests, as_many_rests, keys_are_rests}
use Rattle.clru_shares.proofs.Timeless.{timeless_kept, timeless_lines}
use Rattle.clru_shares.proofs.program.text_for.Goals as goal

pub returns : goal.returns
returns g c lines has have room =
    let passes = c.args.passes.now in let classes = passes.classes.items in let names = map name_of classes in
    let sizes = c.args.options.sizes in let sample = option_map non_zero_usize_get c.args.options.sample in let idle = c.args.options.idle in
    let requests = requests_in idle lines in let kept = kept_in sample requests in let taken = has.taken in
    let keys : rests_in idle lines ≡ keys_of requests = sym (keys_are_rests idle lines) in
    let timeless = timeless_lines idle lines in
    let counted : passes.requests ≡ length requests = omega (arith, taken.counted, as_many_rests idle lines, as_many_requests idle lines) in
    let summed : passes.size ≡ size_in sizes (keys_of requests) = taken.summed ∙ ap (size_in sizes) keys in
    let shares = c.args.shares.now in let cs = c.in_ok-capacities.capacities.items in
    let budget = c.part_in-budget.result in let step = step_for budget in
    let all = all_of_share {A = g.row.A.Denot} in let missed = missed_of_share {A = g.row.A.Denot} in
    let whole : Share g.row.A.Denot = record { name = c.in_ok-from_slice.field-0; requests = passes.requests; size = passes.size; sample = c.args.options.sample; kept = passes.kept; curve = c.in_ok-curve_of.field-0 } in
    let whole_is : IsShare sizes idle sample requests (codes "one for all") whole = record {
      is = c.in_ok-from_slice.ensures.items;
      counted = counted;
      summed = summed;
      numbered = taken.numbered;
      curve = c.in_ok-curve_of.ensures sizes (limit_of idle) kept taken.all;
      timeless = timeless_kept idle sample requests timeless;
      sampled = refl;
    } in
    let whole_budget = non_zero_usize_get c.args.options.budget in
    let parted : budget ≡ part_in sample whole_budget = c.part_in-budget.ensures ∙ ap (part_in sample) c.get.ensures.value in
    let best : IsBestSplit all missed step budget shares cs = subst (λ s. IsBestSplit all missed s budget shares cs) c.step_of-step.ensures
    c.in_ok-capacities.ensures.best in
    let rows : parts_of_table c.in_ok-table.table ≡ split_rows sizes idle sample (part_in sample whole_budget) requests names cs = c.in_ok-table.ensures.rows ∙ rw c.deref.ensures.value
    (table_same sizes idle sample requests names shares cs have budget (non_zero_usize_get c.step_of-step.result) passes.requests passes.size (part_of_all shares whole budget)
    c.step_of-step.ensures counted summed (all_row_same sizes idle sample requests names shares whole budget have whole_is))
    ∙ ap (λ b. split_rows sizes idle sample b requests names cs) parted in
    ok_map c.text_of.result (λ text is. record {
      names = names;
      capacities = cs;
      timed = has.timed;
      classed = taken.classed;
      sized = taken.sized;
      fit = omega (arith, taken.fit, taken.summed);
      classes = names_are sizes (limit_of idle) (rests_in idle lines) kept classes taken.classes;
      few = omega (arith, taken.few, length-map classes name_of);
      room = room;
      best = subst (λ b. IsBestSplit (all_of sizes) (missed_told sizes idle sample) (step_for b) b (map (λ name. of_class name requests) names) cs) parted
          (best_same all missed (all_of sizes) (missed_told sizes idle sample) step budget shares (map (λ name. of_class name requests) names) cs
          (shares_same sizes idle sample requests names shares have) best);
      is = subst (λ ps. IsTextOf c.args.options.form sizes ps text.items) rows
          (subst (λ b. IsTextOf c.args.options.form b (parts_of_table c.in_ok-table.table) text.items) c.in_ok-table.ensures.by_size is);
    }) c.text_of.ensures
