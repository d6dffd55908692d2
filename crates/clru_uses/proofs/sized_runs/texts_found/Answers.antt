use Rattle.std.proofs.Common.{rules, ◌≡◌, ℕ, [], ◌∷◌, ◌++◌, List, true, not, nat_eq, sym, ap, ◌∙◌, subst, arith}
use Rattle.std.proofs.lemmas.Iterator.Adapters.{YieldsList-from_vec}
use Rattle.std.proofs.lemmas.Iterator.Consumers.{YieldsList-end}
use Rattle.std.proofs.lemmas.List.{map-append, map-id}
use Rattle.std.proofs.lemmas.Bool.{eqb-true}
use Rattle.std.specs.List.{count_by, slice_get}
use Rattle.std.specs.Map.{keys_of}
use Rattle.clru_model.specs.Runs.{IsGetOr, held_before}
use Rattle.clru_model.specs.SizedRuns.{IsSizedPut, IsSizedPutRun}
use Rattle.clru.proofs.CallerLemmas.{Runs, Runs-push}
use Rattle.clru_uses.proofs.sized_runs.texts_found.Goals as goal

pub loop-page-preserved : goal.loop-page-preserved
loop-page-preserved g c =
    let before = c.loop-page.invariant in
    let page = c.in-Some.page in
    let step = IsGetOr (IsSizedPut nat_eq (g.W.WeightScale.weight c.args.cache.now.scale) c.args.cache.now.capacity) nat_eq in
    let items : c.push.new.self.items ≡ c.loop-page.found.items ++ c.in-Ok.before ∷ [] = search rules in
    let keys : keys_of (c.loop-page.yielded ++ (page, c.in-Some.text) ∷ []) ≡ keys_of c.loop-page.yielded ++ page ∷ [] =
    map-append (λ (e : ℕ × ℕ). e.0) c.loop-page.yielded ((page, c.in-Some.text) ∷ []) in
    let runs = Runs-push nat_eq step page c.in-Ok.before before.runs c.in-Ok.ensures.found (rw (before.capacity, before.scale) at c.in-Ok.ensures.step) items in
    record {
      next = tt;
      ends = tt;
      runs = subst (λ (ks : List ℕ). Runs nat_eq step ks c.found_or_put.new.cache.entries c.push.new.self.items) (sym keys) runs;
      capacity = c.found_or_put.ensures.capacity ∙ before.capacity;
      scale = c.found_or_put.ensures.scale ∙ before.scale;
    }

pub returns : goal.returns
returns g c =
    let r = c.loop-page.invariant.runs in
    let cache = c.args.cache.now in
    let capacity = cache.capacity in
    let pair_weight = g.W.WeightScale.weight cache.scale in
    let pages = keys_of c.args.requests.items in
    let gives = YieldsList-from_vec {s = c.into_iter-page-iterator.result} c.args.requests.items (search rules) (search rules) in
    let whole = YieldsList-end gives c.loop-page.yielded c.loop-page.page-iterator c.loop-page.yielded_by c.next.result c.next.new.self
    c.in-None.is c.next.ensures.steps in
    let all : keys_of c.loop-page.yielded ≡ pages = ap keys_of (sym (map-id c.loop-page.yielded) ∙ whole.0) in
    let law = c.law_sizes.ensures in
    let puts = law.gets_or_puts pair_weight capacity (keys_of c.loop-page.yielded) [] r.later (omega arith) r.run in
    let run = subst (λ ks. IsSizedPutRun nat_eq pair_weight capacity ([] ∷ r.later) ks) all puts in
    let held : c.loop-page.found.items ≡ held_before nat_eq ([] ∷ r.later) pages = r.held_are ∙ ap (held_before nat_eq ([] ∷ r.later)) all in
    let same = λ (weight : ℕ → ℕ) (x y : ℕ) (e : nat_eq x y ≡ true). ap weight (eqb-true x y e) in
    let hits = λ (weight : ℕ → ℕ) (by_page : (page text : ℕ) → pair_weight page text ≡ weight page).
    held ∙ law.puts weight pair_weight capacity pages r.later (same weight) (λ i key value rest at. by_page key value) run in
    record {
      hits = hits;
      misses = λ weight by_page. ap (count_by not) (hits weight by_page);
      bound = λ weight by_page. rw held
          (c.law_size_bound.ensures.puts weight pair_weight capacity pages r.later (same weight) (λ i key value rest at. by_page key value) run);
      changing_high = λ low high i between hit. ap (λ ms. slice_get ms i) held
          ∙ law.changing_high low high pair_weight capacity i pages r.later (same low) (same high) (λ j key value rest at. between key value) run hit;
      changing_low = λ low high i between found.
          law.changing_low low high pair_weight capacity i pages r.later (same low) (same high) (λ j key value rest at. between key value) run
          (ap (λ ms. slice_get ms i) (sym held) ∙ found);
    }
