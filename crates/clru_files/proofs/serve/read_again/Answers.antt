use Rattle.std.proofs.Common.{refl}
use Rattle.clru_files.proofs.Reading.{all_more, put_leaves}
use Rattle.clru_files.proofs.serve.read_again.Goals as goal

pub returns-in-Ok-clause-read : goal.returns-in-Ok-clause-read
returns-in-Ok-clause-read g c = λ done all.
    put_leaves _ _ _ _ c.args.path c.in-Ok.page c.args.now _ done c.in-Ok.ensures.read_at refl c.put.result c.put.ensures.held c.put.ensures.refused all

pub returns-in-Err-clause-read : goal.returns-in-Err-clause-read
returns-in-Err-clause-read g c = λ done all. all_more _ done _ _ all
