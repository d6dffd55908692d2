use Rattle.std.proofs.Common.{◌++◌, take, drop, sym, ap, ◌∙◌, subst, arith, length-take, length-drop}
use Rattle.std.proofs.lemmas.Result.{err_from_is_err_and}
use Rattle.clru_text.specs.LinesRead.{IsFree}
use Rattle.clru_log.proofs.WindowLemmas.{grown, within_first}
use Rattle.clru_log.proofs.window.Window.read_from.Goals as goal

pub invariant_of-self : goal.invariant_of-self
invariant_of-self g c =
    let w = c.self.inside in let i = c.self.invariant in let e = c.in_err-count.ensures in (
      i.0,
      i.1,
      e.within,
      subst IsFree (sym (within_first w.bytes.items c.read_behind.new.bytes.items w.end w.start w.searched e.front i.0 i.1)) i.3,
    )

pub returns-in_err-count-clause-err : goal.returns-in_err-count-clause-err
returns-in_err-count-clause-err g c =
    let w = c.self.inside in let i = c.self.invariant in let e = c.in_err-count.ensures in
    let p = err_from_is_err_and c.from_residual.result c.from_residual.ensures.1 in
    rw p.1 (
      within_first w.bytes.items c.read_behind.new.bytes.items w.end w.start w.end e.front (omega (arith, i.0, i.1)) (omega arith)
          ∙ c.self.view_is ∙ c.move_to_front.ensures,
      e.err,
    )

pub invariant_of-self-2 : goal.invariant_of-self-2
invariant_of-self-2 g c =
    let w = c.self.inside in let i = c.self.invariant in let e = c.in_ok-count.ensures in (
      i.0,
      omega (arith, i.1),
      e.fits,
      subst IsFree (sym (within_first w.bytes.items c.read_behind.new.bytes.items w.end w.start w.searched e.front i.0 i.1)) i.3,
    )

pub returns-clause-ok : goal.returns-clause-ok
returns-clause-ok g c =
    let w = c.self.inside in let i = c.self.invariant in let e = c.in_ok-count.ensures in
    let n = c.in_ok-count.count in let new = c.read_behind.new.bytes in
    let more = take n (drop w.end new.items) in (
      more,
      omega (arith, e.fits, new.ok, length-take n (drop w.end new.items), length-drop w.end new.items),
      grown w.bytes.items new.items w.start w.end n e.front (omega (arith, i.0, i.1))
          ∙ ap (λ l. l ++ more) (c.self.view_is ∙ c.move_to_front.ensures),
      e.ok,
    )
