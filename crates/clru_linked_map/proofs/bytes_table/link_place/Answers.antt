use Rattle.std.proofs.Common.{sym, ◌∙◌, arith, inl, inr}
use Rattle.std.proofs.lemmas.Bool.{cases_Bool}
use Rattle.clru_linked_map.proofs.Stacked.{stacked_more}
use Rattle.clru_linked_map.proofs.bytes_table.link_place.Goals as goal

pub returns-clause-stacked : goal.returns-clause-stacked
returns-clause-stacked g c = λ hashes long stacked.
    let x = c.args.index.now in let hash = c.args.hash in let number = c.number_of-number.ensures in let noted = c.noted-noted.ensures in
    let b = c.bucket_of-bucket.ensures in let n = c.noted-noted.result in
    rw (c.set_first.ensures, c.set_next.ensures, b.bucket, c.first-first.ensures.number, b.bucket, ← long)
    (stacked_more x hash n hashes stacked (omega (arith, b.bucket, b.within)) (omega (arith, long, c.requires.linked))
    (omega (arith, long, c.requires.linked, c.first-first.ensures.countable)) (noted.place ∙ number.place ∙ sym long) (noted.tag ∙ number.tag)
    (λ low. elim (cases_Bool c.is_named-leads.result) [
      | inl t ↦ let more = noted.leads t in absurd (omega (arith, more, low))
      | inr f ↦ rw (← b.bucket, ← c.first-first.ensures.number) (c.is_named-leads.ensures.none f)
    ]))
