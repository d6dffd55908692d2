use Rattle.std.proofs.Common.{◌≡◌, ◌*◌, length, sym, ap, ◌∙◌, arith}
use Rattle.clru_curve.proofs.FetchRows.{rows_length}
use Rattle.clru_curve.specs.Fetches.{time_at}
use Rattle.clru_curve.proofs.fetches.Fetches.make_ready.Goals as goal

pub returns-clause-first : goal.returns-clause-first
returns-clause-first g c =
    let f = c.args.self.now in let n = length f.capacities.items in let keys = length f.firsts.items in
    let many : c.len.result ≡ keys = omega (arith, c.len.ensures, f.firsts.ok.0) in
    let rows : c.len-rows.result ≡ n = omega (arith, c.len-rows.ensures, f.capacities.ok.0) in
    let made : c.in-Some.first ≡ c.len.result * c.len-rows.result = c.in-Some.ensures.1 in
    made ∙ ap (λ k. k * c.len-rows.result) many ∙ ap (λ k. keys * k) rows
    ∙ sym (rows_length n (time_at f.firsts.items f.widths.items f.times.items) keys)
