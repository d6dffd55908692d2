use Rattle.std.proofs.Common.{◌-◌, sym, ap, ◌∙◌}
use Rattle.std.specs.Option.{option_copied}
use Rattle.clru_tests.proofs.Apart.{apart_with_a_new_key}
use Rattle.clru_tests.proofs.kept.Kept.put.Goals as goal

pub invariant_of-self-2 : goal.invariant_of-self-2
invariant_of-self-2 g c =
    apart_with_a_new_key c.args.key c.args.value (c.make_ready.new.self.capacity - 1) {es = c.self.inside.map.entries}
    {fs = c.make_ready.new.self.entries} {gs = c.put_front.new.self.entries} c.self.invariant
    (sym c.get.ensures ∙ ap option_copied c.in-None.is) (ap (λ m. m.entries) c.make_ready.ensures.same) (ap (λ m. m.entries) c.put_front.ensures.entries)
