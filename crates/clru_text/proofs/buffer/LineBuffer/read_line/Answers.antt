use Rattle.std.proofs.Common.{◌≡◌, ◌<◌, ◌++◌, ◌∷◌, [], ℕ, zero, suc, Bool, not, Ok, true, false, append_assoc, length, vec_len, sym, ap, ◌∙◌, subst, arith}
use Rattle.std.proofs.lemmas.Bool.{eqb-true}
use Rattle.std.proofs.lemmas.List.{nil_from_length}
use Rattle.std.specs.Prelude.{◌==◌}
use Rattle.clru_text.specs.LinesRead.{HasBegun, HasReturnedBy, IsFree}
use Rattle.clru_text.proofs.LineLemmas.{free-append}
use Rattle.clru_text.proofs.LinesReadLemmas.{begun_line, begun_more, begun_same, read_last, read_none}
use Rattle.clru_text.proofs.buffer.LineBuffer.read_line.Goals as goal

some_where_not_empty : (n : ℕ) (empty : Bool) → empty ≡ (n == 0) → not empty ≡ true → 0 < n
some_where_not_empty zero empty is some = absurd (cc)
some_where_not_empty (suc n) empty is some = omega arith

none_where_empty : (n : ℕ) (empty : Bool) → empty ≡ (n == 0) → not empty ≡ false → n ≡ 0
none_where_empty n true is none = eqb-true n 0 (sym is)
none_where_empty n false is none = absurd (cc)

pub returns-then-branch-clause-line : goal.returns-then-branch-clause-line
returns-then-branch-clause-line g c start lines returned found =
    let before = c.pieces.invariant in let e = c.in_ok-move_to.ensures in
    let moved = e.newline (ap Ok c.if-branch.true) in
    let line = c.pieces.line.items in let full = c.move_to.new.line.items in let left = c.move_to.new.self.left in
    let now = g.R.Read.remaining c.pieces.reader in
    let whole = ap (λ l. line ++ l) moved.2 ∙ sym (append_assoc line moved.0 (10 ∷ left)) ∙ ap (λ l. l ++ 10 ∷ left) (sym moved.3) in
    let begun = subst (λ l. HasBegun start now c.pieces.self.read l lines) whole (before.3 start lines returned) in
    let free = subst IsFree (sym moved.3) (free-append line moved.0 before.0 moved.1) in
    let next = subst (λ n. HasBegun start now n left (lines ++ full ∷ [])) (sym e.read)
    (begun_line start now c.pieces.self.read lines full left free begun) in
    subst (λ b. HasReturnedBy b start now c.move_to.new.self (lines ++ full ∷ [])) (sym (e.ended ∙ before.1)) next

pub returns-then-not-branch-clause-line : goal.returns-then-not-branch-clause-line
returns-then-not-branch-clause-line g c start lines returned found =
    let before = c.pieces.invariant in let e = c.in_ok-move_to.ensures in
    let moved = e.none (ap Ok c.if-branch.false) in let filled = c.in_ok-fill.ensures.none (ap Ok c.if-not-branch.true) in
    let full = c.move_to.new.line.items in let n = c.fill.new.self.read in
    let now = g.R.Read.remaining c.pieces.reader in let next = g.R.Read.remaining c.fill.new.reader in
    let last = begun_same start now c.pieces.self.read lines next n _ full (before.3 start lines returned) filled.0 (filled.4 ∙ e.read) moved.2 in
    let free = subst IsFree (sym moved.2) (free-append c.pieces.line.items c.pieces.self.left before.0 moved.0) in
    let some : 0 < length full = omega (
      arith,
      some_where_not_empty (vec_len c.move_to.new.line) c.is_empty.result c.is_empty.ensures found,
      c.move_to.new.line.ok,
    ) in
    subst (λ b. HasReturnedBy b start next c.fill.new.self (lines ++ full ∷ [])) (sym filled.3)
    (read_last start next n lines full free some last filled.1)

pub returns-then-not-branch-clause-end : goal.returns-then-not-branch-clause-end
returns-then-not-branch-clause-end g c start lines returned found =
    let before = c.pieces.invariant in let e = c.in_ok-move_to.ensures in
    let moved = e.none (ap Ok c.if-branch.false) in let filled = c.in_ok-fill.ensures.none (ap Ok c.if-not-branch.true) in
    let full = c.move_to.new.line.items in let n = c.fill.new.self.read in
    let now = g.R.Read.remaining c.pieces.reader in let next = g.R.Read.remaining c.fill.new.reader in
    let last = begun_same start now c.pieces.self.read lines next n _ full (before.3 start lines returned) filled.0 (filled.4 ∙ e.read) moved.2 in
    let len : length full ≡ 0 = omega (
      arith,
      none_where_empty (vec_len c.move_to.new.line) c.is_empty.result c.is_empty.ensures found,
      c.move_to.new.line.ok,
    ) in
    read_none start next n lines (subst (λ l. HasBegun start next n l lines) (nil_from_length full len) last) filled.1

pub pieces-preserved : goal.pieces-preserved
pieces-preserved g c =
    let before = c.pieces.invariant in let e = c.in_ok-move_to.ensures in
    let moved = e.none (ap Ok c.if-branch.false) in let filled = c.in_ok-fill.ensures.some (ap Ok c.if-not-branch.false) in
    let full = c.move_to.new.line.items in let n = c.fill.new.self.read in
    let now = g.R.Read.remaining c.pieces.reader in let next = g.R.Read.remaining c.fill.new.reader in (
      subst IsFree (sym moved.2) (free-append c.pieces.line.items c.pieces.self.left before.0 moved.0),
      filled.2 ∙ e.ended ∙ before.1,
      c.fill.ensures.fits,
      λ start lines returned. begun_more start now c.pieces.self.read lines next n full c.fill.new.self.left
          (subst (λ l. HasBegun start now c.pieces.self.read l lines) (sym moved.2) (before.3 start lines returned)) filled.0
          (omega (arith, filled.3, e.read)),
    )
