use Rattle.clru_files.specs.Reading.{IsRecent}
use Rattle.clru_files.proofs.Reading.{held_leaves}
use Rattle.clru_files.proofs.serve.serve_within.Goals as goal

pub returns-then-has_recent-clause-read : goal.returns-then-has_recent-clause-read
returns-then-has_recent-clause-read g c = λ done all.
    held_leaves c.args.pages.now c.load-loaded.new.self c.args.path c.load-loaded.result _ done (IsRecent c.args.limit c.args.now)
    (c.has_recent.ensures.recent c.if-has_recent.true) c.load-loaded.ensures.step all
