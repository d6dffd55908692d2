use Rattle.std.proofs.Common.{◌≡◌, cond, Some, length, ◌∙◌, sym, ap, arith}
use Rattle.clru_text.specs.Keys.{line_of, same_line}
use Rattle.clru_report.proofs.KeyNumbers.{noted_again, noted_new}
use Rattle.clru_report.specs.KeyLogs.{tails_of}
use Rattle.std.proofs.lemmas.List.{length-map}
use Rattle.std.specs.HashMap.{get}
use Rattle.clru_report.proofs.sized.key_log.note_tail.Goals as goal
use Rattle.clru_report.proofs.sized.key_log.note_tail.Goals.{in-Some, in-None+in_ok-number-in-None}

pub raise-requires : goal.raise-requires
raise-requires g c =
    let has = c.requires.1 in let key = c.args.tail.now in
    let known = sym c.get.ensures.value ∙ sym c.copied-known.ensures ∙ c.in-Some.is in
    omega (arith, has.sized, (has.found key c.in-Some.number known).0)

pub returns : goal.returns
returns g c lines line same is has =
    let key = c.args.tail.now in let before = c.args.log.now in let find = get same_line c.args.numbers.now in
    let sizes = before.sizes.items in let requests = before.requests.items in
    elim c.match-known.branch [
      | in-Some w ↦
          let known = sym c.get.ensures.value ∙ sym c.copied-known.ensures ∙ w.in-Some.is in
          rw (c.in_ok-push.ensures.items, w.number-is, w.log-is, w.numbers-is, w.raise.ensures)
          (noted_again line_of lines find (tails_of before) sizes requests has line c.args.size is key same w.in-Some.number known)
      | in-None+in_ok-number-in-None w ↦
          let unknown = sym c.get.ensures.value ∙ sym c.copied-known.ensures ∙ w.in-None.is in
          let e = w.in_ok-number-in-None.ensures in
          let number : w.in_ok-number-in-None.number ≡ length (tails_of before) = e.number ∙ sym (length-map before.tails.items line_of) in
          rw (c.in_ok-push.ensures.items, w.number-is, w.log-is, w.numbers-is, e.tails, e.sizes, e.requests, number)
          (noted_new line_of lines find (tails_of before) sizes requests has line c.args.size is key same unknown
          (get same_line w.add_key.new.numbers)
          (λ k. e.found k ∙ ap (λ n. cond (same_line key k) (Some n) (find k)) number))
    ]
