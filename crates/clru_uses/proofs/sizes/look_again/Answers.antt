use Rattle.std.proofs.Common.{◌≡◌, ◌≤◌, true, nat_eq, is_some, sym, ap, ◌∙◌, subst, arith, rules}
use Rattle.std.proofs.lemmas.Map.Made.{is_some-lookup}
use Rattle.std.specs.Map.{keys_of, lookup}
use Rattle.clru_model.specs.Entries.{touch, size_of}
use Rattle.clru_model.specs.Requests.{holds}
use Rattle.clru_model.specs.SizedRuns.{IsSizedPut}
use Rattle.clru_uses.proofs.sizes.look_again.Goals as goal

pub returns : goal.returns
returns g c some =
    let page = c.args.page.now in
    let es = c.args.cache.now.entries in
    let weight = g.W.WeightScale.weight c.args.cache.now.scale in
    let found : c.copied.result ≡ lookup (nat_eq page) es = search rules in
    let held : holds nat_eq page (keys_of es) ≡ true = sym (is_some-lookup (nat_eq page) es) ∙ ap is_some (sym found) ∙ some in
    let after : c.get.follows.lender-at-none.entries ≡ touch nat_eq page es = search rules in
    let small : size_of weight es ≤ c.args.cache.now.capacity = search (rules, arith) in
    subst (λ l. IsSizedPut nat_eq weight c.args.cache.now.capacity page es l) (sym after)
    (c.law_sizes.ensures.gets weight c.args.cache.now.capacity page es small held)
