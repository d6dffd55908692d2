use Rattle.std.proofs.Common.{◌<◌, ◌∙◌, length, sym, subst, inl, inr}
use Rattle.clru_web.proofs.exports.join.Goals as goal
use Rattle.clru_web.proofs.exports.join.Goals.{then-put_items, else-put_items}

pub returns-clause-short : goal.returns-clause-short
returns-clause-short c = λ five. (
  c.in-Ok.all.items,
  c.in-Ok.latest.items,
  (λ lines more requests one two few. rw (c.in-Ok.all-is, c.in-Ok.latest-is) (c.in-Ok.ensures lines more requests one two few)),
  elim c.if-put_items.branch [
    | then-put_items w ↦ inr (subst (λ l. length l < length c.in-Ok.latest.items) (sym w.lasts-is)
        (subst (λ l. length w.put_items-has_room.new.array < length l) w.deref-then-put_items.ensures.value
        (w.put_items-has_room.ensures.short (sym w.has_room-is ∙ c.if-has_room.false))))
    | else-put_items w ↦ inl (subst (λ l. length c.put_items.new.array < length l) c.deref.ensures.value (c.put_items.ensures.short w.if-put_items.false))
  ],
)
