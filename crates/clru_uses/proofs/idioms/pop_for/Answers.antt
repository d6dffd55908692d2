use Rattle.std.proofs.Common.{rules, ◌≡◌, ◌-◌, length, nat_eq, is_some, slice_get, false, sym, ap, ◌∙◌, arith}
use Rattle.std.proofs.lemmas.Option.{slice_get_past}
use Rattle.std.specs.Map.{lookup}
use Rattle.clru_uses.proofs.idioms.pop_for.Goals as goal

pub returns-then-len-capacity : goal.returns-then-len-capacity
returns-then-len-capacity c =
    let es = c.args.looks.now.entries in
    let k = c.args.looks.now.capacity in
    let none : is_some (lookup (nat_eq c.args.page) es) ≡ false = search rules in
    rw none (sym (slice_get_past es (k - 1) (omega arith)))

pub returns : goal.returns
returns c =
    let es = c.args.looks.now.entries in
    let k = c.args.looks.now.capacity in
    let none : is_some (lookup (nat_eq c.args.page) es) ≡ false = search rules in
    let full : length es ≡ k = omega arith in
    rw none (c.pop_back.ensures.value ∙ ap (λ n. slice_get es (n - 1)) full)
