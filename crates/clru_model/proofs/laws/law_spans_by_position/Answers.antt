use Rattle.std.proofs.Common.{[]}
use Rattle.clru_model.proofs.SpansByPosition.{spans_by_position, length-spans_after, total_by_position}
use Rattle.clru_model.proofs.laws.law_spans_by_position.Goals as goal

pub returns : goal.returns
returns g c = record {
  spans = spans_by_position g.K.PartialEq.eq g.met.K.Eq.laws;
  one_span_each = λ weight requests. length-spans_after g.K.PartialEq.eq weight [] requests;
  total = λ weight requests. total_by_position g.K.PartialEq.eq weight requests;
}
