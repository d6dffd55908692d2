use Rattle.std.proofs.Common.{rules, ◌≡◌, [], ◌∷◌, true, false, not, nat_eq, is_some, sym, ap, ◌∙◌, arith}
use Rattle.std.proofs.lemmas.Iterator.Adapters.{YieldsList-from_vec}
use Rattle.std.proofs.lemmas.Iterator.Consumers.{YieldsList-end}
use Rattle.std.proofs.lemmas.List.{length_push, map-id}
use Rattle.std.specs.Cmp.{nat_eq_equiv}
use Rattle.std.specs.List.{count_by}
use Rattle.std.specs.Map.{lookup}
use Rattle.clru_model.specs.Entries.{touch, plain_put}
use Rattle.clru_model.specs.Requests.{misses}
use Rattle.clru_model.specs.Runs.{IsGetOr, IsPut}
use Rattle.clru.proofs.CallerLemmas.{CountedRuns-push, IsGetOr-held, IsGetOr-missed, touch-none, IsPut-plain}
use Rattle.clru_uses.proofs.runs.pages_fetched.Goals as goal

pub loop-page-preserved-in_ok-put : goal.loop-page-preserved-in_ok-put
loop-page-preserved-in_ok-put c =
    let before = c.loop-page.invariant in
    let page = c.in-Some.page in
    let es = c.loop-page.cache.entries in
    let k = c.args.cache.now.capacity in
    let none : is_some (lookup (nat_eq page) es) ≡ false = search rules in
    let after : c.get.follows.lender-at-none.entries ≡ touch nat_eq page es = search rules in
    let same : c.get.follows.lender-at-none.entries ≡ es = after ∙ touch-none nat_eq page es none in
    let cap : c.get.follows.lender-at-none.capacity ≡ k = search rules in
    let put : c.put.new.self.entries ≡ plain_put nat_eq k page page es =
    rw (cap, same) at c.in_ok-put.ensures.entries in
    record {
      next = tt;
      ends = tt;
      runs = CountedRuns-push nat_eq (IsGetOr (IsPut nat_eq k) nat_eq) page false before.runs (sym none)
          (IsGetOr-missed nat_eq (IsPut nat_eq k) page es c.put.new.self.entries none
          (IsPut-plain nat_eq nat_eq_equiv k page page es c.put.new.self.entries put)) (search rules);
      fewer = omega (arith, before.fewer, length_push c.loop-page.yielded page);
      capacity = search rules;
    }

pub loop-page-preserved : goal.loop-page-preserved
loop-page-preserved c =
    let before = c.loop-page.invariant in
    let page = c.in-Some.page in
    let es = c.loop-page.cache.entries in
    let k = c.args.cache.now.capacity in
    let found : is_some (lookup (nat_eq page) es) ≡ true = search rules in
    let after : c.get.follows.lender-at-none.entries ≡ touch nat_eq page es = search rules in
    record {
      next = tt;
      ends = tt;
      runs = CountedRuns-push nat_eq (IsGetOr (IsPut nat_eq k) nat_eq) page true before.runs (sym found)
          (IsGetOr-held nat_eq (IsPut nat_eq k) page es c.get.follows.lender-at-none.entries found after) (omega arith);
      fewer = omega (arith, before.fewer, length_push c.loop-page.yielded page);
      capacity = search rules;
    }

pub returns-clause-misses : goal.returns-clause-misses
returns-clause-misses c =
    let r = c.loop-page.invariant.runs in
    let k = c.args.cache.now.capacity in
    let gives = YieldsList-from_vec {s = c.into_iter-page-iterator.result} c.args.pages.items (search rules) (search rules) in
    let whole = YieldsList-end gives c.loop-page.yielded c.loop-page.page-iterator c.loop-page.yielded_by c.next.result c.next.new.self
    c.in-None.is c.next.ensures.steps in
    let all : c.loop-page.yielded ≡ c.args.pages.items = sym (map-id c.loop-page.yielded) ∙ whole.0 in
    let puts = c.law_requests.ensures.gets k c.loop-page.yielded ([] ∷ r.later) r.run in
    let hits = c.law_requests.ensures.hits k c.loop-page.yielded r.later c.len.ensures.valid.some puts in
    r.missed ∙ ap (count_by not) hits ∙ ap (misses nat_eq k) all
