use Rattle.std.proofs.Common.{ap, ◌≡◌, ◌+◌, ◌%◌, ◌^◌, nat_eq}
use Rattle.std.proofs.lemmas.Bool.{eqb-true}
use Rattle.std.proofs.lemmas.List.Elements.{All-same}
use Rattle.clru_uses.specs.Stamps.{HasTrueStamp}
use Rattle.clru_uses.specs.declared.stamps.Stamped.{Stamped}
use Rattle.clru.proofs.CallerLemmas.{All-lookup, All-without}
use Rattle.clru_uses.proofs.stamps.forget_stamped.Goals as goal

pub returns-clause-found : goal.returns-clause-found
returns-clause-found c =
    let page = c.args.page in
    let told = All-lookup HasTrueStamp (λ (found : Stamped). found.stamp ≡ (page + found.text) % 2 ^ 64) (nat_eq page) c.args.cache.now.entries
    c.requires (λ k v same true_stamp. rw (eqb-true page k same) true_stamp) in
    rw c.pop.ensures.value told

pub returns-clause-stamps : goal.returns-clause-stamps
returns-clause-stamps c =
    All-same HasTrueStamp _ _ (ap (λ n. n.entries) c.pop.ensures.entries)
    (All-without HasTrueStamp nat_eq c.args.page c.args.cache.now.entries c.requires)
