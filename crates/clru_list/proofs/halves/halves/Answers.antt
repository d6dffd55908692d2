use Rattle.std.proofs.Common.{◌≡◌, ◌+◌, ◌-◌, ◌*◌, ◌/◌, ◌%◌, ap, ◌∙◌, arith}
use Rattle.std.specs.Prelude.{◌==◌, if◌then◌else◌}
use Rattle.clru_list.specs.Places.{nowhere, place_by}
use Rattle.clru_list.proofs.halves.halves.Goals as goal

pub returns : goal.returns
unfolding place_by
returns c =
    let n = c.number_of-number.result in
    let same : n % 4294967296 + n / 4294967296 * 4294967296 ≡ n + 0 * 4294967296 = omega arith in
    ap (λ k. if k == 0 then nowhere else k - 1) same ∙ c.number_of-number.ensures
