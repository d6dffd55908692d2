use Rattle.clru_model.proofs.Fitting.{fit_is_longest, longest_is_fit}
use Rattle.clru_model.proofs.laws.law_longest_fit.Goals as goal

pub returns-clause-longest : goal.returns-clause-longest
returns-clause-longest g c = fit_is_longest

pub returns-clause-only : goal.returns-clause-only
returns-clause-only g c = longest_is_fit
