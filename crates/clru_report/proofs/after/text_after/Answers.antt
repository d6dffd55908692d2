use Rattle.std.proofs.Common.{false, None, Some, nat_lt, length, string_bytes, sym, subst}
use Rattle.std.proofs.lemmas.Bool.{le-ltb, lt-ltb}
use Rattle.clru_text.specs.Lines.{lines_of}
use Rattle.clru_text.proofs.ResultLemmas.{ok_map}
use Rattle.clru_report.specs.After.{AreCounted}
use Rattle.clru_report.specs.AfterPasses.{IsHead}
use Rattle.clru_report.proofs.AfterLemmas.{form_after}
use Rattle.clru_report.proofs.after.text_after.Goals as goal
use Rattle.clru_report.proofs.after.text_after.Goals.{in-None, in-Some+in_ok-counted-in-Some}

pub returns : goal.returns
returns g c n input whole before counts =
    let options = c.args.options.now in let lines = lines_of input in let some = nat_lt n (length lines) in let found = c.match-head.counted in
    let are : AreCounted n lines some options found.knees.items found.rows.items = elim c.match-head.branch [
      | in-None w ↦
          let none : IsHead n lines None = subst (IsHead n lines) w.in-None.is before in
          let made = w.none_counted-counted.result in
          let empty : AreCounted n lines false options made.knees.items made.rows.items =
          (w.none_counted-counted.ensures.knees, w.none_counted-counted.ensures.rows) in
          subst (λ f. AreCounted n lines some options f.knees.items f.rows.items) (sym w.counted-is)
          (subst (λ b. AreCounted n lines b options made.knees.items made.rows.items) (sym (le-ltb n (length lines) none)) empty)
      | in-Some+in_ok-counted-in-Some w ↦
          let head : IsHead n lines (Some w.in-Some.head) = subst (IsHead n lines) w.in-Some.is before in
          let made = w.in_ok-counted-in-Some.counted in
          subst (λ f. AreCounted n lines some options f.knees.items f.rows.items) (sym w.counted-is)
          (subst (λ b. AreCounted n lines b options made.knees.items made.rows.items) (sym (lt-ltb n (length lines) head.0))
          (w.in_ok-counted-in-Some.ensures n lines whole head.1 counts.requests))
    ] in
    let shown = subst (λ ks. AreCounted n lines some options ks c.deref-2.result.now) (sym c.deref-3.ensures.value)
    (subst (λ rs. AreCounted n lines some options found.knees.items rs) (sym c.deref-2.ensures.value) are) in
    ok_map c.text_by_keys.result
    (λ text t. form_after n options input c.args.counts c.deref-3.result.now c.deref-2.result.now (string_bytes text) shown counts.requests
    options.form c.requires t) c.text_by_keys.ensures
