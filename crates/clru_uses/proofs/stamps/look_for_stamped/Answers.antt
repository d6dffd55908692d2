use Rattle.std.proofs.Common.{rules, ◌≡◌, ◌+◌, ◌%◌, ◌^◌, nat_eq}
use Rattle.std.proofs.lemmas.Bool.{eqb-true}
use Rattle.std.proofs.lemmas.List.Elements.{All-same}
use Rattle.std.specs.Map.{lookup}
use Rattle.clru_uses.specs.Stamps.{HasTrueStamp}
use Rattle.clru_uses.specs.declared.stamps.Stamped.{Stamped}
use Rattle.clru_model.specs.Entries.{touch}
use Rattle.clru.proofs.CallerLemmas.{All-lookup, All-touch}
use Rattle.clru_uses.proofs.stamps.look_for_stamped.Goals as goal

pub returns-clause-found : goal.returns-clause-found
returns-clause-found c =
    let page = c.args.page in
    let is : c.copied.result ≡ lookup (nat_eq page) c.args.cache.now.entries = search rules in
    let told = All-lookup HasTrueStamp (λ (found : Stamped). found.stamp ≡ (page + found.text) % 2 ^ 64) (nat_eq page) c.args.cache.now.entries
    c.requires (λ k v same true_stamp. rw (eqb-true page k same) true_stamp) in
    rw is told

pub returns-clause-stamps : goal.returns-clause-stamps
returns-clause-stamps c =
    let after : c.get.follows.lender-at-none.entries ≡ touch nat_eq c.args.page c.args.cache.now.entries = search rules in
    All-same HasTrueStamp _ _ after (All-touch HasTrueStamp nat_eq c.args.page c.args.cache.now.entries c.requires)
