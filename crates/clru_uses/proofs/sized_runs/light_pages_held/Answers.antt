use Rattle.std.proofs.Common.{rules, ◌≡◌, ℕ, ◌<◌, ◌≤◌, [], ◌∷◌, ◌++◌, cond, nat_eq, nat_lt, is_some, refl, sym, ap, ◌∙◌, arith}
use Rattle.std.proofs.Common.{append-nil, lt-ltb, le-ltb}
use Rattle.std.proofs.lemmas.Bool.{eqb-true}
use Rattle.std.proofs.lemmas.Iterator.Adapters.{YieldsList-from_vec}
use Rattle.std.proofs.lemmas.Iterator.Consumers.{YieldsList-end}
use Rattle.std.proofs.lemmas.List.{map-id}
use Rattle.std.specs.List.{filter}
use Rattle.std.specs.Map.{lookup}
use Rattle.clru_model.specs.SizedRuns.{IsPutIfLight, marks_where}
use Rattle.clru_model.specs.Sizes.{marks_by_size}
use Rattle.clru.proofs.CallerLemmas.{Runs-push, Runs-length, marks_where-push}
use Rattle.clru_uses.proofs.sized_runs.light_pages_held.Goals as goal

pub loop-page-preserved-else-is_err : goal.loop-page-preserved-else-is_err
loop-page-preserved-else-is_err g c =
    let before = c.loop-page.invariant in
    let (marks, r, held) = before.runs in
    let page = c.in-Some.page in
    let pages = c.loop-page.yielded in
    let es = c.loop-page.cache.entries in
    let k = c.args.cache.now.capacity in
    let pair_weight = g.W.WeightScale.weight c.args.cache.now.scale in
    let weight = λ (x : ℕ). pair_weight x tt in
    let test = λ (x : ℕ). nat_lt (weight x) k in
    let put = c.in-Ok.ensures in
    let taken = rw (before.capacity, before.scale) at put.too_heavy.1 in
    let light : weight page < k = omega (arith, taken) in
    let entries = rw (before.capacity, before.scale) at put.entries in
    let b = c.is_some.result in
    let found : b ≡ is_some (lookup (nat_eq page) es) = search rules in
    let items : c.push.new.self.items ≡ c.loop-page.held.items ++ b ∷ [] = search rules in
    let step = IsPutIfLight nat_eq weight pair_weight k in
    let runs = Runs-push nat_eq step page b r found (record {
      light = λ _. record { key = page; value = tt; same = search rules; light = light; entries = entries };
      heavy = λ heavy. absurd (omega (arith, heavy, light));
    }) refl in
    let more = marks_where-push test marks pages b page (Runs-length nat_eq step r)
    ∙ ap (λ t. marks_where test marks pages ++ cond t (b ∷ []) []) (lt-ltb (weight page) k light) in
    record {
      next = tt;
      ends = tt;
      runs = (marks ++ b ∷ [], runs, items ∙ ap (λ l. l ++ b ∷ []) held ∙ sym more);
      capacity = put.places.capacity ∙ before.capacity;
      scale = put.places.scale ∙ before.scale;
    }

pub loop-page-preserved : goal.loop-page-preserved
loop-page-preserved g c =
    let before = c.loop-page.invariant in
    let (marks, r, held) = before.runs in
    let page = c.in-Some.page in
    let pages = c.loop-page.yielded in
    let k = c.args.cache.now.capacity in
    let pair_weight = g.W.WeightScale.weight c.args.cache.now.scale in
    let weight = λ (x : ℕ). pair_weight x tt in
    let test = λ (x : ℕ). nat_lt (weight x) k in
    let put = c.in-Err-TooHeavy.ensures in
    let refused = rw c.in-Err-TooHeavy.field-0-is at put.too_heavy in
    let heavy : k ≤ weight page = rw (before.capacity, before.scale) at (refused.0 tt) in
    let b = is_some (lookup (nat_eq page) c.loop-page.cache.entries) in
    let step = IsPutIfLight nat_eq weight pair_weight k in
    let runs = Runs-push nat_eq step page b r refl (record {
      light = λ light. absurd (omega (arith, heavy, light));
      heavy = λ _. put.entries;
    }) refl in
    let more = marks_where-push test marks pages b page (Runs-length nat_eq step r)
    ∙ ap (λ t. marks_where test marks pages ++ cond t (b ∷ []) []) (le-ltb (weight page) k heavy) ∙ append-nil (marks_where test marks pages) in
    record {
      next = tt;
      ends = tt;
      runs = (marks ++ b ∷ [], runs, held ∙ sym more);
      capacity = put.places.capacity ∙ before.capacity;
      scale = put.places.scale ∙ before.scale;
    }

pub returns : goal.returns
returns g c =
    let (marks, r, held) = c.loop-page.invariant.runs in
    let pages = c.loop-page.yielded in
    let cache = c.args.cache.now in
    let pair_weight = g.W.WeightScale.weight cache.scale in
    let weight = λ (x : ℕ). pair_weight x tt in
    let test = λ (x : ℕ). nat_lt (weight x) cache.capacity in
    let gives = YieldsList-from_vec {s = c.into_iter-page-iterator.result} c.args.pages.items (search rules) (search rules) in
    let whole = YieldsList-end gives pages c.loop-page.page-iterator c.loop-page.yielded_by c.next.result c.next.new.self c.in-None.is
    c.next.ensures.steps in
    let all : pages ≡ c.args.pages.items = sym (map-id pages) ∙ whole.0 in
    let law = c.law_sizes.ensures in
    let hits = law.light_puts weight pair_weight cache.capacity pages r.later (λ x y e. ap weight (eqb-true x y e)) (λ i key value rest at. refl) r.run in
    held ∙ ap (λ ms. marks_where test ms pages) (r.held_are ∙ hits) ∙ law.light_marks weight cache.capacity pages
    ∙ ap (λ ks. marks_by_size nat_eq weight cache.capacity (filter test ks)) all
