use Rattle.std.proofs.Common.{rules, ◌≡◌, Some, None, true, false, not, nat_eq, refl, sym, ap, ◌∙◌, arith}
use Rattle.std.proofs.lemmas.Iterator.Adapters.{YieldsList-from_vec}
use Rattle.std.proofs.lemmas.Iterator.Consumers.{YieldsList-end}
use Rattle.std.proofs.lemmas.List.{length_push, map-id}
use Rattle.std.specs.Cmp.{nat_eq_equiv}
use Rattle.std.specs.List.{count_by}
use Rattle.std.specs.Map.{lookup}
use Rattle.clru_model.specs.Ages.{aged_misses}
use Rattle.clru_model.specs.AgedRuns.{is_fresh}
use Rattle.clru_model.specs.Entries.{touch, plain_put}
use Rattle.clru_model.specs.Requests.{hit}
use Rattle.clru_model.specs.Runs.{IsPut}
use Rattle.clru.proofs.CallerLemmas.{CountedAgedRuns-push, IsAgedStep-fresh, IsAgedStep-stale}
use Rattle.clru_uses.proofs.runs.aged_pages_fetched.Goals as goal

pub loop-page-preserved-in_ok-put : goal.loop-page-preserved-in_ok-put
loop-page-preserved-in_ok-put c =
    let before = c.loop-page.invariant in
    let page = c.in-Some.page in
    let now = c.in-Some.now in
    let es = c.loop-page.cache.entries in
    let k = c.args.cache.now.capacity in
    let age = Some c.args.age in
    let time : c.copied-time.result ≡ lookup (nat_eq page) es = search rules in
    let tells : c.is_within.result ≡ is_fresh nat_eq (λ v. v) age (page, now) es = rw time at c.is_within.ensures in
    let no : c.is_within.result ≡ false = search rules in
    let after : c.get.follows.lender-at-none.entries ≡ touch nat_eq page es = search rules in
    let cap : c.get.follows.lender-at-none.capacity ≡ k = search rules in
    let put : c.put.new.self.entries ≡ plain_put nat_eq k page now (touch nat_eq page es) =
    rw (cap, after) at c.in_ok-put.ensures.entries in
    record {
      next = tt;
      ends = tt;
      runs = CountedAgedRuns-push nat_eq (λ v. v) age (IsPut nat_eq k) (page, now) false before.runs (sym no ∙ tells)
          (IsAgedStep-stale nat_eq nat_eq_equiv k (λ v. v) age (page, now) now es c.put.new.self.entries (sym tells ∙ no) refl put) (search rules);
      fewer = omega (arith, before.fewer, length_push c.loop-page.yielded (page, now));
      capacity = search rules;
    }

pub loop-page-preserved : goal.loop-page-preserved
loop-page-preserved c =
    let before = c.loop-page.invariant in
    let page = c.in-Some.page in
    let now = c.in-Some.now in
    let es = c.loop-page.cache.entries in
    let k = c.args.cache.now.capacity in
    let age = Some c.args.age in
    let time : c.copied-time.result ≡ lookup (nat_eq page) es = search rules in
    let tells : c.is_within.result ≡ is_fresh nat_eq (λ v. v) age (page, now) es = rw time at c.is_within.ensures in
    let yes : c.is_within.result ≡ true = search rules in
    let after : c.get.follows.lender-at-none.entries ≡ touch nat_eq page es = search rules in
    record {
      next = tt;
      ends = tt;
      runs = CountedAgedRuns-push nat_eq (λ v. v) age (IsPut nat_eq k) (page, now) true before.runs (sym yes ∙ tells)
          (IsAgedStep-fresh nat_eq (λ v. v) age (IsPut nat_eq k) (page, now) es c.get.follows.lender-at-none.entries (sym tells ∙ yes) after) (omega arith);
      fewer = omega (arith, before.fewer, length_push c.loop-page.yielded (page, now));
      capacity = search rules;
    }

pub returns : goal.returns
returns c =
    let r = c.loop-page.invariant.runs in
    let k = c.args.cache.now.capacity in
    let age = Some c.args.age in
    let gives = YieldsList-from_vec {s = c.into_iter-page-iterator.result} c.args.requests.items (search rules) (search rules) in
    let whole = YieldsList-end gives c.loop-page.yielded c.loop-page.page-iterator c.loop-page.yielded_by c.next.result c.next.new.self
    c.in-None.is c.next.ensures.steps in
    let all : c.loop-page.yielded ≡ c.args.requests.items = sym (map-id c.loop-page.yielded) ∙ whole.0 in
    let hits = c.law_ages.ensures.puts (λ v. v) age k c.loop-page.yielded r.later c.len.ensures.valid.some r.run in
    record { misses = r.missed ∙ ap (count_by not) hits ∙ ap (aged_misses nat_eq (hit nat_eq k) None age) all }
