use Rattle.std.proofs.Common.{List, ◌∷◌, [], ◌++◌, ℕ, subst, ◌∙◌}
use Rattle.std.specs.String.{string_bytes}
use Rattle.clru_through.specs.Store.{AllKeep}
use Rattle.clru_files.specs.Reading.{WasRead}
use Rattle.clru_files.proofs.Reading.{all_more}
use Rattle.clru_files.proofs.serve.serve_by_age.Goals as goal

pub returns-in_default-clause-read : goal.returns-in_default-clause-read
returns-in_default-clause-read g c = λ done all. all_more _ done _ _ all

pub returns-in_default-from_str-clause-read : goal.returns-in_default-from_str-clause-read
returns-in_default-from_str-clause-read g c = λ done all. all_more _ done _ _ all

pub returns-clause-read : goal.returns-clause-read
returns-clause-read g c = λ done all.
    subst (λ (line : List ℕ). AllKeep (WasRead (done ++ (c.args.now, (line, c.serve_within.result)) ∷ [])) string_bytes c.serve_within.new.pages.cache.entries)
    (c.in-Ok.ensures.ok ∙ c.in-Some.ensures.path) (c.serve_within.ensures.read done all)
