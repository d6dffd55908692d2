use Rattle.std.proofs.Common.{◌≡◌, true, false, sym, ap, subst, ◌∙◌}
use Rattle.std.specs.Int.NonZero.{non_zero_usize_get}
use Rattle.std.specs.Option.{is_none, is_some}
use Rattle.clru_text.specs.Arguments.{asked_by, form_of as form_by, one_in}
use Rattle.clru_text.specs.Choices.{is_aged_table, is_of_all, is_untimed}
use Rattle.clru_text.proofs.Choices.{least_alone}
use Rattle.clru_text.proofs.CutsAlone.{alone, asked_for_age, asked_for_times, none_viewed, parts_of, sizes_alone, some_viewed, table_for_age, timed_alone}
use Rattle.clru_text.proofs.arguments.finish.Goals as goal

pub invariant_of-result-clause-least_of_all : goal.invariant_of-result-clause-least_of_all
invariant_of-result-clause-least_of_all g c least =
    let asked = asked_by c.args.draft in
    let parts = parts_of asked (sym c.conflict_in.ensures ∙ ap is_none c.in_default.is) in
    least_alone asked least c.sample_of-sample.result c.sample_of-sample.ensures parts.forms parts.samples

pub invariant_of-result-clause-after_rows : goal.invariant_of-result-clause-after_rows
invariant_of-result-clause-after_rows g c some =
    let draft = c.args.draft in let asked = asked_by draft in
    let parts = parts_of asked (sym c.conflict_in.ensures ∙ ap is_none c.in_default.is) in
    subst (λ f. is_of_all draft.least draft.floor c.sample_of-sample.result f ≡ false) (sym c.form_of-form.ensures)
    (alone asked c.sample_of-sample.result parts.after c.sample_of-sample.ensures (some_viewed non_zero_usize_get draft.after some))

pub invariant_of-result-clause-after_sizes : goal.invariant_of-result-clause-after_sizes
invariant_of-result-clause-after_sizes g c some =
    let draft = c.args.draft in let asked = asked_by draft in
    let parts = parts_of asked (sym c.conflict_in.ensures ∙ ap is_none c.in_default.is) in
    sizes_alone asked parts.after (some_viewed non_zero_usize_get draft.after some)

pub invariant_of-result-clause-timed : goal.invariant_of-result-clause-timed
invariant_of-result-clause-timed g c some =
    let draft = c.args.draft in let asked = asked_by draft in
    let parts = parts_of asked (sym c.conflict_in.ensures ∙ ap is_none c.in_default.is) in
    let times = asked_for_times draft.times draft.max_idle draft.max_age c.times_of.result c.times_of.ensures some in
    subst (λ f. is_untimed draft.least draft.floor draft.one_size (is_some draft.after) f ≡ false) (sym c.form_of-form.ensures)
    (subst (λ b. is_untimed draft.least draft.floor draft.one_size b (form_by asked) ≡ false) (none_viewed non_zero_usize_get draft.after)
    (timed_alone asked parts.times times))

pub invariant_of-result-clause-aged : goal.invariant_of-result-clause-aged
invariant_of-result-clause-aged g c some =
    let draft = c.args.draft in let asked = asked_by draft in
    let parts = parts_of asked (sym c.conflict_in.ensures ∙ ap is_none c.in_default.is) in
    let age = asked_for_age draft.times draft.max_idle draft.max_age c.times_of.result c.times_of.ensures some in
    subst (λ f. is_aged_table c.capacities_of.result f ≡ true) (sym c.form_of-form.ensures)
    (table_for_age asked parts.ages age (one_in c.sample_of-sample.result) c.capacities_of.result c.capacities_of.ensures.asked)

pub invariant_of-result-clause-ascending : goal.invariant_of-result-clause-ascending
invariant_of-result-clause-ascending g c = c.capacities_of.ensures.ascending
