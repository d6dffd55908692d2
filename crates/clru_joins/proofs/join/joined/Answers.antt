use Rattle.std.proofs.Common.{◌∙◌, ◌+◌, ◌<◌, ◌^◌, ap, sym, subst, length, length-append, arith}
use Rattle.std.specs.Prelude.{bytes_eq}
use Rattle.clru_model.specs.Parts.{firsts}
use Rattle.clru_text.specs.Lines.{lines_of}
use Rattle.clru_text.specs.Texts.{bytes_of}
use Rattle.clru_report.specs.Parts.{AreKnown, IsPart}
use Rattle.clru_joins.proofs.join.joined.Goals as goal

pub returns : goal.returns
returns g c log more one two cut both =
    let lines = lines_of log in
    let others = lines_of more in
    let p = c.args.one.now in
    let q = c.args.two.now in
    let known : AreKnown lines c.as_slice-3.result.now c.as_slice-4.result.now =
    subst (λ l. AreKnown lines c.as_slice-3.result.now l) (sym c.as_slice-4.ensures.value)
    (subst (λ k. AreKnown lines k p.lasts.items) (sym c.as_slice-3.ensures.value) one.known.known) in
    let part : IsPart others q.counts.requests c.as_slice-5.result.now c.as_slice-7.result.now c.as_slice-6.result.now =
    subst (λ k. IsPart others q.counts.requests k c.as_slice-7.result.now c.as_slice-6.result.now) (sym c.as_slice-5.ensures.value)
    (subst (λ f. IsPart others q.counts.requests q.curve.items f c.as_slice-6.result.now) (sym c.as_slice-7.ensures.value)
    (subst (λ l. IsPart others q.counts.requests q.curve.items q.firsts.items l) (sym c.as_slice-6.ensures.value) two.known)) in
    let few : length lines + length others < 2 ^ 64 = omega (arith, both.few, both.requests, one.known.counted, two.known.counted) in
    let first : IsPart lines p.counts.requests p.curve.items c.as_slice.result.now p.lasts.items =
    subst (λ f. IsPart lines p.counts.requests p.curve.items f p.lasts.items) (sym c.as_slice.ensures.value) one.known in
    let second : IsPart others q.counts.requests q.curve.items c.as_slice-2.result.now q.lasts.items =
    subst (λ f. IsPart others q.counts.requests q.curve.items f q.lasts.items) (sym c.as_slice-2.ensures.value) two.known in
    record {
      whole = both.whole;
      in_bytes = omega (arith, both.bytes, one.in_bytes, two.in_bytes, length-append log more);
      known = record {
        known = subst (λ ls. AreKnown ls c.in_ok-curve.curve.items c.in_ok-curve.lasts.items) (sym cut)
            (c.in_ok-curve.ensures lines others q.counts.requests known part few);
        counted = omega (arith, both.requests, one.known.counted, two.known.counted, ap length cut, length-append lines others);
        first_lines = c.in_ok-firsts.ensures lines others _ _ _ _ _ _ first second ∙ ap (λ ls. bytes_of (firsts bytes_eq ls)) (sym cut);
      };
    }
