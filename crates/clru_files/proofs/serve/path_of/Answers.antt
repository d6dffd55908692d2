use Rattle.std.proofs.lemmas.Str.{is_utf8-from_IsUtf8}
use Rattle.clru_files.proofs.Looking.{no_path}
use Rattle.clru_files.proofs.serve.path_of.Goals as goal

pub returns-in-Ok-clause-text : goal.returns-in-Ok-clause-text
returns-in-Ok-clause-text c = is_utf8-from_IsUtf8 _ c.in-Ok.ensures.cases.1

pub returns-in-Err-clause-no_text : goal.returns-in-Err-clause-no_text
returns-in-Err-clause-no_text c = no_path _ c.in-Err.ensures.cases.0
