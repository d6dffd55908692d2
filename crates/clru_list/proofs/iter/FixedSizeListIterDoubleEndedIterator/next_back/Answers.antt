use Rattle.std.proofs.Common.{◌≡◌, ◌-◌, [], ◌∷◌, ◌++◌, Some, None, option_copied, ap, sym, ◌∙◌, subst, arith}
use Rattle.std.specs.Map.{keys_of}
use Rattle.clru_list.specs.PlaceList.{item_at, place_before}
use Rattle.clru_list.specs.Walks.{stretch, IsWindow}
use Rattle.clru_list.proofs.Windows.{back_entry}
use Rattle.clru_list.proofs.iter.FixedSizeListIterDoubleEndedIterator.next_back.Goals as goal

pub unreachable-requires-in_default-get : goal.unreachable-requires-in_default-get
unreachable-requires-in_default-get g c =
    let s = c.self.inside in
    let e = back_entry s.list.now.entries s.done s.left s.front s.back c.get.ensures.valid.apart c.self.invariant (omega arith) in
    let place : e.place ≡ c.in-Some.place = cc in
    let wrong : None ≡ Some e.item = ap option_copied (sym c.in_default-get.is) ∙ c.get.ensures.value ∙ ap (λ p. item_at p s.list.now.entries) (sym place) ∙ e.held in
    absurd (cc)

pub invariant_of-self : goal.invariant_of-self
invariant_of-self g c =
    let s = c.self.inside in
    let e = back_entry s.list.now.entries s.done s.left s.front s.back c.get.ensures.valid.apart c.self.invariant (omega arith) in
    let place : e.place ≡ c.in-Some.place = cc in
    let before = ap (λ p. place_before p s.list.now.entries) place ∙ sym c.prev_idx-self-inside.ensures.place in
    subst (λ n. IsWindow (keys_of s.list.now.entries) s.done (s.left - 1) s.front n) before e.moved

pub returns-clause-steps : goal.returns-clause-steps
returns-clause-steps g c =
    let s = c.self.inside in
    let e = back_entry s.list.now.entries s.done s.left s.front s.back c.get.ensures.valid.apart c.self.invariant (omega arith) in
    let place : e.place ≡ c.in-Some.place = cc in
    let shown : Some c.in-Some-get.item.now ≡ item_at c.in-Some.place s.list.now.entries = ap option_copied (sym c.in-Some-get.is) ∙ c.get.ensures.value in
    let held = ap (λ p. item_at p s.list.now.entries) (sym place) ∙ e.held in
    let item : e.item ≡ c.in-Some-get.item.now = cc in
    sym c.self.view_is ∙ e.yields ∙ (λ i. stretch s.done (s.left - 1) s.list.now.entries ++ (place i, item i) ∷ [])
