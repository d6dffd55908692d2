use Rattle.std.proofs.Common.{refl}
use Rattle.std.specs.Hash.DefaultHasher.{with_keys}
use Rattle.clru_text.proofs.hasher.SipHasher13.new_with_keys.Goals as goal

pub returns : goal.returns
unfolding with_keys
returns c = refl
