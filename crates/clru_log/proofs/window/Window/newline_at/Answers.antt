use Rattle.std.proofs.Common.{◌≡◌, ◌+◌, ◌-◌, ◌==◌, ℕ, Some, None, length, position, slice_range, sym, ap, ◌∙◌, subst, arith, length-take, length-drop}
use Rattle.clru_text.specs.LinesRead.{IsFree}
use Rattle.clru_log.proofs.LineLemmas.{free-append, free-none, position-behind}
use Rattle.clru_log.proofs.WindowLemmas.{parted}
use Rattle.clru_log.proofs.window.Window.newline_at.Goals as goal

pub invariant_of-self : goal.invariant_of-self
invariant_of-self g c =
    let w = c.self.inside in let i = c.self.invariant in
    let rest = slice_range w.bytes.items w.searched w.end in
    let none : position (λ b. b == 10) rest ≡ None =
    ap (λ bs. position (λ b. b == 10) (slice_range bs w.searched w.end)) (sym c.as_slice.ensures.value) ∙ sym c.newline_at.ensures ∙ c.in-None.is in (
      omega (arith, i.0, i.1),
      omega arith,
      i.2,
      subst IsFree (sym (parted w.bytes.items w.start w.searched w.end i.0 i.1)) (free-append _ _ i.3 (free-none rest none)),
    )

pub returns-in-Some-clause-at : goal.returns-in-Some-clause-at
returns-in-Some-clause-at g c =
    let w = c.self.inside in let i = c.self.invariant in
    let piece = slice_range w.bytes.items w.start w.searched in
    let rest = slice_range w.bytes.items w.searched w.end in
    let at = c.in-Some.at in
    let found : position (λ b. b == 10) rest ≡ Some at =
    ap (λ bs. position (λ b. b == 10) (slice_range bs w.searched w.end)) (sym c.as_slice.ensures.value) ∙ sym c.newline_at.ensures ∙ c.in-Some.is in
    let len : length piece ≡ w.searched - w.start = omega (arith, i.0, i.1, i.2, length-take {A = ℕ}, length-drop {A = ℕ}) in
    sym (ap (position (λ b. b == 10)) (sym c.self.view_is ∙ parted w.bytes.items w.start w.searched w.end i.0 i.1)
    ∙ (position-behind piece rest i.3).0 at found ∙ ap (λ n. Some (n + at)) len)

pub returns-in-None-clause-at : goal.returns-in-None-clause-at
returns-in-None-clause-at g c =
    let w = c.self.inside in let i = c.self.invariant in
    let piece = slice_range w.bytes.items w.start w.searched in
    let rest = slice_range w.bytes.items w.searched w.end in
    let none : position (λ b. b == 10) rest ≡ None =
    ap (λ bs. position (λ b. b == 10) (slice_range bs w.searched w.end)) (sym c.as_slice.ensures.value) ∙ sym c.newline_at.ensures ∙ c.in-None.is in
    sym (ap (position (λ b. b == 10)) (sym c.self.view_is ∙ parted w.bytes.items w.start w.searched w.end i.0 i.1)
    ∙ (position-behind piece rest i.3).1 none)
