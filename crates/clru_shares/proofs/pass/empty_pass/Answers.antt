use Rattle.std.proofs.Common.{[], refl}
use Rattle.clru_shares.specs.LinePasses.{weight_of_key}
use Rattle.clru_shares.proofs.pass.empty_pass.Goals as goal

pub returns-then-sizes : goal.returns-then-sizes
returns-then-sizes g c limit = rw c.if-sizes.true (record { past = []; shown = refl; taken = c.new.ensures weight_of_key limit })

pub returns-else-sizes : goal.returns-else-sizes
returns-else-sizes g c limit = rw c.if-sizes.false (record { past = []; shown = refl; taken = c.new-else-sizes.ensures limit })
