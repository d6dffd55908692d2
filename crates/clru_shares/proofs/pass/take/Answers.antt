use Rattle.std.proofs.Common.{◌≡◌, ◌-◌, ◌++◌, ◌∷◌, [], sym, ap, subst, arith}
use Rattle.clru_curve.specs.PositionPasses.{IsPositionPass}
use Rattle.clru_curve.specs.SizedPositionPasses.{IsSizedPositionPass}
use Rattle.clru_text.specs.Keys.{line_of, same_line}
use Rattle.clru_text.specs.TakenRequests.{shown_of}
use Rattle.clru_shares.specs.LinePasses.{HasTakenBy, weight_of_key}
use Rattle.clru_shares.specs.Sizes.{own_size}
use Rattle.clru_shares.specs.declared.pass.LinePass.TheVariants.{OfKeys, OfSizes}
use Rattle.clru_shares.proofs.PassLemmas.{by_keys, by_size, keys_weigh, request_more}
use Rattle.clru_shares.proofs.PlaceLemmas.{latest_shown, soon_shown}
use Rattle.clru_shares.proofs.pass.take.Goals as goal

pub request-requires : goal.request-requires
request-requires g c =
    let sizes = c.requires.0 in let limit = c.requires.1 in let kept = c.requires.2 in let request = c.requires.3 in let asked = c.args.asked in
    let of = by_keys limit kept sizes c.args.pass.now c.in-OfKeys.pass c.in-OfKeys.is c.requires.4 in
    let latest = latest_shown limit kept of.1.past request asked of.1.shown c.requires.6 in
    let soon = soon_shown limit kept of.1.past request asked of.1.shown c.requires.6 in
    (limit, of.1.past, request.0, request.1, of.1.taken, latest, soon)

pub returns-in-Ok : goal.returns-in-Ok
returns-in-Ok g c sizes limit kept request taken sized is =
    let asked = c.args.asked in let next = c.request.new.self in
    let of = by_keys limit kept sizes c.args.pass.now c.in-OfKeys.pass c.in-OfKeys.is taken in
    let latest = latest_shown limit kept of.1.past request asked of.1.shown is in
    let soon = soon_shown limit kept of.1.past request asked of.1.shown is in
    subst (λ s. HasTakenBy {A = g.row.A.Denot} s limit (kept ++ shown_of request ∷ []) (OfKeys next)) (sym of.0)
    (request_more (IsPositionPass same_line limit) kept c.in-OfKeys.pass of.1 request next
    (c.in-Ok.ensures.taken limit of.1.past request.0 request.1 of.1.taken latest soon))

pub request-requires-in-OfSizes : goal.request-requires-in-OfSizes
request-requires-in-OfSizes g c =
    let sizes = c.requires.0 in let limit = c.requires.1 in let kept = c.requires.2 in let request = c.requires.3 in let asked = c.args.asked in
    let of = by_size limit kept sizes c.args.pass.now c.in-OfSizes.pass c.in-OfSizes.is c.requires.4 in
    let weight : weight_of_key request.0 ≡ asked.size - 1 = omega (arith, c.requires.5, ap (λ s. own_size s (line_of request.0)) of.0) in
    let latest = latest_shown limit kept of.1.past request asked of.1.shown c.requires.6 in
    let soon = soon_shown limit kept of.1.past request asked of.1.shown c.requires.6 in
    (weight_of_key, limit, of.1.past, request.0, request.1, keys_weigh, of.1.taken, weight, latest, soon)

pub returns-in-Ok-request : goal.returns-in-Ok-request
returns-in-Ok-request g c sizes limit kept request taken sized is =
    let asked = c.args.asked in let next = c.request-in-OfSizes.new.self in
    let of = by_size limit kept sizes c.args.pass.now c.in-OfSizes.pass c.in-OfSizes.is taken in
    let weight : weight_of_key request.0 ≡ asked.size - 1 = omega (arith, sized, ap (λ s. own_size s (line_of request.0)) of.0) in
    let latest = latest_shown limit kept of.1.past request asked of.1.shown is in
    let soon = soon_shown limit kept of.1.past request asked of.1.shown is in
    subst (λ s. HasTakenBy {A = g.row.A.Denot} s limit (kept ++ shown_of request ∷ []) (OfSizes next)) (sym of.0)
    (request_more (IsSizedPositionPass same_line weight_of_key limit) kept c.in-OfSizes.pass of.1 request next
    (c.in-Ok-request.ensures.taken weight_of_key limit of.1.past request.0 request.1 keys_weigh of.1.taken weight latest soon))
