use Rattle.std.proofs.Common.{refl, sym, ap, ◌∙◌, subst}
use Rattle.clru_curve.specs.SizedAgedPasses.{IsSizedAgedPass}
use Rattle.clru_text.specs.Keys.{line_of, same_line}
use Rattle.clru_text.proofs.ByteLemmas.{bytes_laws, same_bytes}
use Rattle.clru_text.proofs.TakenRequests.{request_taken}
use Rattle.clru_report.proofs.timed.aged.take_request.Goals as goal
use Rattle.clru_report.proofs.timed.aged.take_request.Goals.{in-Ok, in-Err-request}

pub returns-in-Ok-true : goal.returns-in-Ok-true
returns-in-Ok-true g c w cs idle age past is weighs =
    let key = c.args.key.now in
    request_taken (IsSizedAgedPass same_line (λ k. w (line_of k)) cs idle age) past key (line_of key) c.args.time c.request_again.new.self refl
    (c.in-Ok-true.ensures.taken (λ k. w (line_of k)) cs idle age past key (λ x y t. ap w (same_bytes (line_of x) (line_of y) t)) is (sym weighs)
    (bytes_laws.refl (line_of key)) c.in-Ok-true.field-0-test)

pub returns-after-request : goal.returns-after-request
returns-after-request g c w cs idle age past is weighs =
    let copied = c.in_ok-bytes-in-Ok-false.ensures.items ∙ c.deref.ensures.value in
    let same = c.in-Ok-false.ensures.not_taken c.in-Ok-false.field-0-test in
    elim c.match-request.branch [
      | in-Ok v ↦ rw v.result-is
          (request_taken (IsSizedAgedPass same_line (λ k. w (line_of k)) cs idle age) past _ (line_of c.args.key.now) c.args.time c.request.new.self
          copied (v.in-Ok.ensures.taken (λ k. w (line_of k)) cs idle age past (λ x y t. ap w (same_bytes (line_of x) (line_of y) t))
          (subst (IsSizedAgedPass same_line (λ k. w (line_of k)) cs idle age past) (sym same) is) (ap w copied ∙ sym weighs)))
      | in-Err-request v ↦ rw v.result-is tt
    ]
