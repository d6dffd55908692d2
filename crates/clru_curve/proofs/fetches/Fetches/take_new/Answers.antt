use Rattle.std.proofs.Common.{false, nat_lt, length, get_or, ap, subst, arith}
use Rattle.clru_curve.proofs.FetchTables.{AreCounted-alike, none_less}
use Rattle.clru_curve.specs.Fetches.{AreCounted}
use Rattle.clru_curve.proofs.fetches.Fetches.take_new.Goals as goal

pub miss_from-requires-clause-misses_length : goal.miss_from-requires-clause-misses_length
miss_from-requires-clause-misses_length g c =
    omega (arith, c.requires.misses_length, ap (λ v. length v.items) c.add.ensures.capacities, ap (λ v. length v.items) c.add.ensures.misses)

pub miss_from-requires-clause-missed_length : goal.miss_from-requires-clause-missed_length
miss_from-requires-clause-missed_length g c =
    omega (arith, c.requires.missed_length, ap (λ v. length v.items) c.add.ensures.capacities, ap (λ v. length v.items) c.add.ensures.missed_sizes)

pub miss_from-requires-clause-few : goal.miss_from-requires-clause-few
miss_from-requires-clause-few g c = λ i high. omega (arith, c.requires.few i, ap (λ v. get_or v.items i 0) c.add.ensures.misses)

pub miss_from-requires-clause-small : goal.miss_from-requires-clause-small
miss_from-requires-clause-small g c = λ i high. omega (arith, c.requires.small i, ap (λ v. get_or v.items i 0) c.add.ensures.missed_sizes)

pub returns-clause-misses : goal.returns-clause-misses
returns-clause-misses g c =
    let old = c.args.self.now in let new = c.miss_from.new.self in
    AreCounted-alike (λ i. nat_lt i 0) (λ i. false) (length old.capacities.items) 1 old.misses.items new.misses.items
    (λ i within. none_less i 0 (omega arith))
    (subst (λ v. AreCounted (λ i. nat_lt i 0) (length v.items) 1 old.misses.items new.misses.items) c.add.ensures.capacities
    (subst (λ v. AreCounted (λ i. nat_lt i 0) (length c.add.new.self.capacities.items) 1 v.items new.misses.items) c.add.ensures.misses
    c.miss_from.ensures.misses))

pub returns-clause-missed_sizes : goal.returns-clause-missed_sizes
returns-clause-missed_sizes g c =
    let old = c.args.self.now in let new = c.miss_from.new.self in
    AreCounted-alike (λ i. nat_lt i 0) (λ i. false) (length old.capacities.items) c.args.size old.missed_sizes.items new.missed_sizes.items
    (λ i within. none_less i 0 (omega arith))
    (subst (λ v. AreCounted (λ i. nat_lt i 0) (length v.items) c.args.size old.missed_sizes.items new.missed_sizes.items) c.add.ensures.capacities
    (subst (λ v. AreCounted (λ i. nat_lt i 0) (length c.add.new.self.capacities.items) c.args.size v.items new.missed_sizes.items) c.add.ensures.missed_sizes
    c.miss_from.ensures.missed_sizes))
