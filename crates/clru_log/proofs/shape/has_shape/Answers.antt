use Rattle.std.proofs.Common.{◌≡◌, false, true, get_or, sym, ◌∙◌, arith}
use Rattle.clru_log.specs.Shapes.{fits}
use Rattle.clru_log.proofs.ShapeLemmas.{digits, ended, fit, too_short, unfit}
use Rattle.clru_log.proofs.shape.has_shape.Goals as goal

pub returns-then-text-shape-clause-value : goal.returns-then-text-shape-clause-value
returns-then-text-shape-clause-value c = sym (too_short c.args.shape.now c.args.text.now c.if-text-shape.true)

pub returns-then-not-fits-clause-value : goal.returns-then-not-fits-clause-value
returns-then-not-fits-clause-value c =
    let at = c.loop-at.at in let shape = c.args.shape.now in let text = c.args.text.now in
    let other : fits (get_or shape at 0) (get_or text at 0) ≡ false = sym c.fits.ensures ∙ c.if-not-fits.true in
    sym (unfit shape text at c.loop-at-test.true (omega arith) other) ∙ c.loop-at.invariant.rest

pub loop-at-preserved : goal.loop-at-preserved
loop-at-preserved c =
    let at = c.loop-at.at in let shape = c.args.shape.now in let text = c.args.text.now in
    let same : fits (get_or shape at 0) (get_or text at 0) ≡ true = sym c.fits.ensures ∙ c.if-not-fits.false in
    record {
      enough = c.loop-at.invariant.enough;
      rest = sym (fit shape text at c.loop-at-test.true (omega arith) same) ∙ c.loop-at.invariant.rest;
    }

pub returns-clause-value : goal.returns-clause-value
returns-clause-value c = sym (ended c.args.shape.now c.args.text.now c.loop-at.at (omega arith)) ∙ c.loop-at.invariant.rest

pub returns-clause-digits : goal.returns-clause-digits
returns-clause-digits c = λ _ from count marks. digits from count c.args.shape.now c.args.text.now (sym (returns-clause-value c)) marks
