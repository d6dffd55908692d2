use Rattle.std.proofs.Common.{rules, ◌≡◌, Option, Some, None, length, is_some, refl, ◌∙◌}
use Rattle.std.specs.Int.{from_bool}
use Rattle.std.specs.Option.{option_to_list}
use Rattle.clru_model.specs.Entries.{plain_drop}
use Rattle.clru_uses.proofs.runs.number_dropped.Goals as goal

number : {X : Type 0} (o : Option X) → from_bool (is_some o) ≡ length (option_to_list o)
number None = refl
number (Some x) = refl

pub returns-in-Ok-clause-dropped : goal.returns-in-Ok-clause-dropped
returns-in-Ok-clause-dropped g c =
    let told : c.from.result ≡ from_bool (is_some (plain_drop g.K.PartialEq.eq c.args.cache.now.capacity c.args.key c.args.cache.now.entries)) = search rules in
    told ∙ number (plain_drop g.K.PartialEq.eq c.args.cache.now.capacity c.args.key c.args.cache.now.entries)
