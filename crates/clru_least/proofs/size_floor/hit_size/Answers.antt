use Rattle.std.proofs.Common.{nat_le, ap, arith}
use Rattle.std.proofs.lemmas.List.Sums.{prefix_len-le-length}
use Rattle.clru_least.proofs.SizeSums.{steps_rise, paid_before, hit_within}
use Rattle.clru_least.proofs.size_floor.hit_size.Goals as goal

pub paid_steps-count-requires : goal.paid_steps-count-requires
paid_steps-count-requires c = steps_rise c.requires.own c.args.steps.now c.requires.summed

pub last_of-before-requires : goal.last_of-before-requires
last_of-before-requires c = omega (arith, c.paid_steps-count.ensures, prefix_len-le-length (λ s. nat_le s.volume c.args.paid) c.args.steps.now)

pub overflow_sub-part : goal.overflow_sub-part
overflow_sub-part c =
    omega (
      arith,
      ap (λ s. s.volume) c.last_of-before.ensures,
      paid_before c.args.paid c.requires.own c.args.steps.now c.requires.summed c.paid_steps-count.result c.paid_steps-count.ensures,
    )

pub overflow_cast-result : goal.overflow_cast-result
overflow_cast-result c =
    omega (
      arith,
      hit_within c.args.paid c.args.size c.args.steps.now c.requires c.paid_steps-count.result c.last_of-before.result
          c.last_of-before.ensures c.paid_steps-count.ensures c.if-count-steps.false,
    )

pub overflow_add-result : goal.overflow_add-result
overflow_add-result c =
    omega (
      arith,
      hit_within c.args.paid c.args.size c.args.steps.now c.requires c.paid_steps-count.result c.last_of-before.result
          c.last_of-before.ensures c.paid_steps-count.ensures c.if-count-steps.false,
    )

pub returns-clause-within : goal.returns-clause-within
returns-clause-within c =
    hit_within c.args.paid c.args.size c.args.steps.now c.requires c.paid_steps-count.result c.last_of-before.result
    c.last_of-before.ensures c.paid_steps-count.ensures c.if-count-steps.false
