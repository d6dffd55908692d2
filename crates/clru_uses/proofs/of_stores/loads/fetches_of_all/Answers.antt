use Rattle.std.proofs.Common.{◌≡◌, ◌+◌, ◌≤◌, Bool, true, false, [], ◌∷◌, ◌++◌, nat_eq, take, cond, refl, sym, ap, ◌∙◌, arith, take_all}
use Rattle.std.proofs.lemmas.Cmp.{nat_eq_equiv}
use Rattle.std.proofs.lemmas.List.{take_more}
use Rattle.std.proofs.lemmas.List.Sums.{sum_by_push}
use Rattle.clru_through.proofs.LoadRuns.{IsLoadRun-push, fetch_count}
use Rattle.clru_uses.proofs.of_stores.loads.fetches_of_all.Goals as goal
use mir.Val.{bool_byte}

byte_is : (b : Bool) → cond b 1 0 ≡ bool_byte b
byte_is true = refl
byte_is false = refl

byte_le : (b : Bool) → bool_byte b ≤ 1
byte_le true = omega arith
byte_le false = omega arith

pub loop-page-preserved : goal.loop-page-preserved
loop-page-preserved g c =
    let before = c.loop-page.invariant in let i = c.loop-page.page-index in let f = c.in-Ok-Held.fetched in
    let pages = c.args.pages.now in let step = rw c.in-Ok-Held.field-0-is at c.in-Ok-Held.ensures.step in
    let run = IsLoadRun-push nat_eq nat_eq_equiv g.W.WeightScale.weight g.R.Fetch.fetches c.args.store.now c.loop-page.store
    c.load.new.self (take i pages) before.1 _ f before.3 step in (
      omega (arith, byte_le f),
      before.1 ++ f ∷ [],
      sum_by_push (λ b. cond b 1 0) before.1 f ∙ ap (λ n. n + cond f 1 0) before.2 ∙ ap (λ n. c.loop-page.fetches + n) (byte_is f),
      rw (take_more pages i 0 c.loop-page-test.true) run,
    )

pub returns-clause-count : goal.returns-clause-count
returns-clause-count g c =
    let end = c.loop-page.invariant in let pages = c.args.pages.now in let old = c.args.store.now in
    let whole : take c.loop-page.page-index pages ≡ pages = take_all c.loop-page.page-index pages c.loop-page-test.false in
    let run = rw whole at end.3 in
    sym end.2 ∙ fetch_count nat_eq old.cache.capacity pages end.1
    (c.law_loads.ensures.fetched old c.loop-page.store pages end.1
    (c.requires.weightless old.cache.scale) c.requires.empty run)

pub returns-clause-fetched : goal.returns-clause-fetched
returns-clause-fetched g c =
    let end = c.loop-page.invariant in let pages = c.args.pages.now in let old = c.args.store.now in
    let whole : take c.loop-page.page-index pages ≡ pages = take_all c.loop-page.page-index pages c.loop-page-test.false in
    let run = rw whole at end.3 in
    c.law_loads.ensures.fetches old c.loop-page.store pages end.1 (c.requires.weightless old.cache.scale) c.requires.empty run
