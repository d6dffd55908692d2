use Rattle.std.proofs.Common.{rules, ◌≡◌, Some, nat_eq, is_some, slice_get, true, refl, sym}
use Rattle.std.specs.Map.{lookup}
use Rattle.clru_model.specs.Entries.{touch}
use Rattle.clru.proofs.CallerLemmas.{first_key}
use Rattle.clru_uses.proofs.idioms.change_size.Goals as goal

pub returns-in_ok-put_with_weight_dropping-in-Some-clause-written :
    goal.returns-in_ok-put_with_weight_dropping-in-Some-clause-written
returns-in_ok-put_with_weight_dropping-in-Some-clause-written c =
    let page = c.args.page.now in
    let es = c.args.sizes.now.entries in
    let found : is_some (lookup (nat_eq page) es) ≡ true = search rules in
    let after : c.get.follows.lender-at-none.entries ≡ touch nat_eq page es = search rules in
    let first : slice_get (touch nat_eq page es) 0 ≡ Some (c.in-Some.key, c.in-Some._old) = sym (rw after at c.in-Some.ensures.value) in
    let same : nat_eq page c.in-Some.key ≡ true = first_key nat_eq page es found first in
    λ _. rw c.in_ok-put_with_weight_dropping-in-Some.ensures.entries (rw same refl)
