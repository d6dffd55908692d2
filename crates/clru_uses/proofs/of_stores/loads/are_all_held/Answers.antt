use Rattle.std.proofs.Common.{◌≡◌, ℕ, true, [], ◌∷◌, ◌++◌, Option, Some, None, IsSomeAnd, slice_get, nat_eq, take, take_all, arith}
use Rattle.std.proofs.lemmas.Bool.Decides.{nat_tests}
use Rattle.std.proofs.lemmas.Cmp.{nat_eq_equiv}
use Rattle.std.proofs.lemmas.List.{take_more}
use Rattle.clru_through.proofs.SizedLoadRuns.{IsSizedLoadRun-push}
use Rattle.clru_uses.proofs.of_stores.loads.are_all_held.Goals as goal

some_and : {A : Type 0} (P Q : A → Type 0) (o : Option A) → IsSomeAnd o P → ((a : A) → Q a) → IsSomeAnd o Q
some_and P Q None is all = absurd is
some_and P Q (Some a) is all = all a

same : (x y : ℕ) → nat_eq x y ≡ true → x ≡ y
same x y h = grind (arith, nat_tests)

pub loop-page-preserved : goal.loop-page-preserved
loop-page-preserved g c =
    let before = c.loop-page.invariant in let i = c.loop-page.page-index in let f = c.in-Ok-Held.field-0-0 in
    let pages = c.args.pages.now in let new = c.load.new.self in let weight = g.W.WeightScale.weight in
    let step = rw c.in-Ok-Held.field-0-is at c.in-Ok-Held.ensures.step in
    let front = rw c.in-Ok-Held.field-0-is at c.in-Ok-Held.ensures.front in
    let weighs = some_and _ (λ e. weight new.cache.scale e.0 e.1 ≡ e.0) (slice_get new.cache.entries 0) (front tt)
    (λ e. c.requires.by_number new.cache.scale e.0 e.1) in
    let run = IsSizedLoadRun-push nat_eq nat_eq_equiv weight g.R.Fetch.fetches (λ page. page) c.args.store.now c.loop-page.store new
    (take i pages) before.0 _ f before.1 step weighs in
    (before.0 ++ f ∷ [], rw (take_more pages i 0 c.loop-page-test.true) run)

pub returns : goal.returns
returns g c =
    let end = c.loop-page.invariant in let pages = c.args.pages.now in let old = c.args.store.now in
    let whole : take c.loop-page.page-index pages ≡ pages = take_all c.loop-page.page-index pages c.loop-page-test.false in
    let run = rw whole at end.1 in
    record { size = λ _. c.law_loads.ensures.fetched_size (λ page. page) old c.loop-page.store pages end.0 same c.requires.empty run }
