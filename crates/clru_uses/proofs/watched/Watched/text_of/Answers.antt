use Rattle.std.proofs.Common.{rules, ◌≡◌, ℕ, List, [], ◌∷◌, ◌++◌, ◌+◌, reverse, nat_eq, is_some, true, false, sym, ◌∙◌, subst, arith}
use Rattle.std.specs.Map.{lookup}
use mathlib.Core.List.{reverse-cons}
use Rattle.clru_model.specs.Entries.{touch, plain_put}
use Rattle.clru_model.specs.Runs.{IsPut}
use Rattle.std.specs.Cmp.{nat_eq_equiv}
use Rattle.clru.proofs.CallerLemmas.{IsGetOr-held, IsGetOr-missed, IsPut-plain, touch-none}
use Rattle.clru_uses.specs.Watched.{IsServed}
use Rattle.clru_uses.proofs.Watching.{served_push}
use Rattle.clru_uses.proofs.watched.Watched.text_of.Goals as goal

pub returns-in-Some-clause-taken : goal.returns-in-Some-clause-taken
returns-in-Some-clause-taken c = λ past w.
    let page = c.args.page in
    let old = c.args.self.now in
    let k = old.cache.capacity in
    let es = old.cache.entries in
    let next = c.get.follows.lender-at-none in
    let found : is_some (lookup (nat_eq page) es) ≡ true = search rules in
    let after : next.entries ≡ touch nat_eq page es = search rules in
    let cap : next.capacity ≡ k = search rules in
    let places : next.places ≡ old.cache.places = search rules in
    let more : c.in-Some-Some.hits ≡ old.hits + 1 = search rules in
    let served : IsServed k (reverse past ++ page ∷ []) next.entries old.misses =
    served_push c.law_requests.ensures.hits c.law_requests.ensures.gets w.some page true w.served (sym found)
    (IsGetOr-held nat_eq (IsPut nat_eq k) page es next.entries found after) (omega arith) in
    let turned : IsServed k (reverse (page ∷ past)) next.entries old.misses =
    subst (λ (l : List ℕ). IsServed k l next.entries old.misses) (sym (reverse-cons page past)) served in
    record {
      pass = c.in_ok-request.ensures.taken past w.pass;
      served = subst (λ (n : ℕ). IsServed n (reverse (page ∷ past)) next.entries old.misses) (sym cap) turned;
      counted = omega (arith, w.counted, more);
      some = omega (arith, w.some, cap);
      room = omega (arith, w.room, cap, places);
    }

pub returns-in-Ok-clause-taken : goal.returns-in-Ok-clause-taken
returns-in-Ok-clause-taken c = λ past w.
    let page = c.args.page in
    let old = c.args.self.now in
    let k = old.cache.capacity in
    let es = old.cache.entries in
    let looked = c.get.follows.lender-at-none in
    let next = c.put.new.self in
    let misses = c.in-Some-Some.misses in
    let none : is_some (lookup (nat_eq page) es) ≡ false = search rules in
    let after : looked.entries ≡ touch nat_eq page es = search rules in
    let same : looked.entries ≡ es = after ∙ touch-none nat_eq page es none in
    let cap : looked.capacity ≡ k = search rules in
    let places : looked.places ≡ old.cache.places = search rules in
    let put : next.entries ≡ plain_put nat_eq k page page es = rw (cap, same) at c.in-Ok.ensures.entries in
    let kept : next.capacity ≡ k = c.in-Ok.ensures.places.capacity ∙ cap in
    let more : misses ≡ old.misses + 1 = search rules in
    let served : IsServed k (reverse past ++ page ∷ []) next.entries misses =
    served_push c.law_requests.ensures.hits c.law_requests.ensures.gets w.some page false w.served (sym none)
    (IsGetOr-missed nat_eq (IsPut nat_eq k) page es next.entries none
    (IsPut-plain nat_eq nat_eq_equiv k page page es next.entries put)) more in
    let turned : IsServed k (reverse (page ∷ past)) next.entries misses =
    subst (λ (l : List ℕ). IsServed k l next.entries misses) (sym (reverse-cons page past)) served in
    record {
      pass = c.in_ok-request.ensures.taken past w.pass;
      served = subst (λ (n : ℕ). IsServed n (reverse (page ∷ past)) next.entries misses) (sym kept) turned;
      counted = omega (arith, w.counted, more);
      some = omega (arith, w.some, kept);
      room = omega (arith, w.room, kept, places, c.in-Ok.ensures.places.never_falls);
    }
