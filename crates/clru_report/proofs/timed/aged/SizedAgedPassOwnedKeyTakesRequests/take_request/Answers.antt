use Rattle.clru_report.proofs.timed.aged.SizedAgedPassOwnedKeyTakesRequests.take_request.Goals as goal

pub returns : goal.returns
returns g c w start past is weighs = c.take_request.ensures w start.fetches.capacities start.idle start.fetches.age past is weighs
