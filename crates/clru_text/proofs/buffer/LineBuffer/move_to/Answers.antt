use Rattle.std.proofs.Common.{◌≡◌, ◌≤◌, ◌+◌, ◌-◌, ◌++◌, ◌∷◌, ℕ, List, Some, take, drop, position, slice_range, sym, ap, ◌∙◌, arith, length-take, drop-drop}
use Rattle.std.proofs.lemmas.List.{drop-take}
use Rattle.std.proofs.lemmas.List.Quantifiers.{position-Some}
use Rattle.std.specs.Prelude.{◌==◌}
use Rattle.clru_text.proofs.LineLemmas.{cut_at, free-to}
use Rattle.clru_text.proofs.buffer.LineBuffer.move_to.Goals as goal

-- a part without its first n bytes begins so much later
part_after : (bytes : List ℕ) (start end n : ℕ) → n ≤ end - start → slice_range bytes (start + n) end ≡ drop n (slice_range bytes start end)
part_after bytes start end n short =
    ap (λ l. take (end - (start + n)) l) (sym (drop-drop n start bytes)) ∙ sym (drop-take n (end - (start + n)) (drop start bytes))
    ∙ ap (λ k. drop n (take k (drop start bytes))) (omega arith)

pub returns-clause-newline : goal.returns-clause-newline
returns-clause-newline g c ok =
    let s = c.self.inside in let at = c.in-Some.at in let left = slice_range s.bytes.items s.start s.end in
    let found : position (λ b. b == 10) left ≡ Some at =
    ap (λ bs. position (λ b. b == 10) (slice_range bs s.start s.end)) (sym c.deref.ensures.value) ∙ sym c.newline_at.ensures ∙ c.in-Some.is in
    let inside = position-Some (λ b. b == 10) left at 0 found in
    let rest = part_after s.bytes.items s.start s.end (at + 1) (omega (arith, inside.0, length-take (s.end - s.start) (drop s.start s.bytes.items))) in (
      take at left,
      free-to left at found,
      ap (λ a. a.left) (sym c.self.view_is) ∙ cut_at left at found ∙ ap (λ l. take at left ++ 10 ∷ l) (sym rest),
      c.in-Ok-extend_from_slice.ensures.items
          ∙ ap (λ bs. c.args.line.now.items ++ take at (slice_range bs s.start s.end)) c.deref.ensures.value,
    )
