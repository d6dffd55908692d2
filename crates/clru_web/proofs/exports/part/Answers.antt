use Rattle.std.proofs.Common.{◌≡◌, ◌<◌, ◌∙◌, length, sym, subst, inl, inr}
use Rattle.clru_report.specs.Parts.{IsPart}
use Rattle.clru_text.proofs.Texts.{whole_read}
use Rattle.clru_text.specs.Lines.{lines_of}
use Rattle.clru_web.proofs.exports.part.Goals as goal
use Rattle.clru_web.proofs.exports.part.Goals.{then-put_items, else-put_items, then-put_items-2, else-put_items-2}

pub returns-clause-short : goal.returns-clause-short
returns-clause-short c = λ five. let part = c.in-Ok.part in let curve = part.curve in let first = part.firsts.items in let latest = part.lasts.items in (
  part.requests,
  curve,
  first,
  latest,
  (whole_read c.args.log.now c.part_of.new.reader.now
      (λ input. (part.bytes ≡ length input) × IsPart (lines_of input) part.requests curve first latest) c.in-Ok.ensures).1,
  elim c.if-put_items.branch [
    | then-put_items w ↦ elim c.if-put_items-2.branch [
      | then-put_items-2 v ↦ inr (inr (subst (λ l. length l < length latest) (sym v.lasts-is)
          (subst (λ l. length v.put_items-has_room.new.array < length l) v.deref-then-put_items-2.ensures.value
          (v.put_items-has_room.ensures.short (sym v.has_room-is ∙ c.if-has_room.false)))))
      | else-put_items-2 v ↦ inr (inl (subst (λ l. length l < length first) (sym w.firsts-is)
          (subst (λ l. length w.put_items-then-put_items.new.array < length l) w.deref.ensures.value
          (w.put_items-then-put_items.ensures.short (sym w.value-is ∙ v.if-put_items-2.false)))))
    ]
    | else-put_items w ↦ inl (subst (λ l. length c.put_items.new.array < length l) c.as_slice.ensures (c.put_items.ensures.short w.if-put_items.false))
  ],
)
