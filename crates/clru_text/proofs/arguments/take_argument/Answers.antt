-- A word that is no argument.
use Rattle.std.proofs.Common.{◌≡◌, false, refl, sym}
use Rattle.std.specs.Prelude.{codes, nat_eq}
use Rattle.std.specs.List.{starts_with}
use Rattle.std.proofs.lemmas.Str.Pattern.{starts_text}
use Rattle.clru_text.proofs.arguments.take_argument.Goals as goal

pub returns-in-None-clause-refused : goal.returns-in-None-clause-refused
returns-in-None-clause-refused g c =
    let none : starts_with nat_eq c.args.word.now (codes "--at=") ≡ false =
    sym (starts_text false (codes "--at=") c.args.word.now (rw c.in-None.is at c.strip_prefix.ensures.cases)) in
    λ _. rw ((c.take_flag.ensures.none c.if-take_flag.false).0, none) refl
