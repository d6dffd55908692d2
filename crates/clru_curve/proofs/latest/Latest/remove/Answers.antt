use Rattle.std.proofs.Common.{◌≡◌, suc, ◌+◌, ◌-◌, ◌/◌, ◌%◌, ◌^◌, ◌<◌, length, set, refl, sym, ap, ◌∙◌, subst, arith}
use Rattle.std.specs.Prelude.{count_ones}
use Rattle.clru_curve.specs.Latest.{blocks_from}
use Rattle.clru_curve.specs.Rising.{numbered, number_at, value_at, HasNumber}
use Rattle.clru_curve.proofs.Blocks.{blocks_fall, has_block}
use Rattle.clru_curve.proofs.Latests.{written_back, bit_of, block_read, few_from, latest_few, ones_next, clear_loses, clear_sets, clear_counted, IsLatest-clear}
use Rattle.clru_curve.proofs.latest.Latest.remove.Goals as goal

pub place_of-at-requires-clause-there : goal.place_of-at-requires-clause-there
place_of-at-requires-clause-there g c =
    let bs = c.args.self.now.blocks.items in let p = c.args.request in
    subst (λ l. HasNumber l (p / 64)) (sym c.deref.ensures.value) (has_block bs p c.requires.kept.fits c.requires.latest)

pub count_from-requires-clause-counted : goal.count_from-requires-clause-counted
count_from-requires-clause-counted g c =
    let self = c.args.self.now in let bs = self.blocks.items in let ns = self.nodes.items in let n = self.requests in
    let p = c.args.request in let i = c.place_of-at.result in let kept = c.requires.kept in
    (blocks_from bs, (rw c.deref-2.ensures.value kept.counted, omega (arith, few_from bs ns n kept (i + 1))))

pub overflow_add-count : goal.overflow_add-count
overflow_add-count g c =
    let self = c.args.self.now in let bs = self.blocks.items in let ns = self.nodes.items in let n = self.requests in
    let p = c.args.request in let i = c.place_of-at.result in let kept = c.requires.kept in
    let inside : i < length bs = omega (arith, c.place_of-at.ensures.inside, ap (λ l. length l) c.deref.ensures.value) in
    let number : number_at bs i ≡ p / 64 = ap (λ l. number_at l i) (sym c.deref.ensures.value) ∙ c.place_of-at.ensures.number in
    let word = block_read bs i i c.index.result.now refl inside c.index.ensures in
    let next = ones_next bs ns n kept i p inside number in
    let above = c.count_from.ensures (blocks_from bs) (rw c.deref-2.ensures.value kept.counted) in
    let one : i + 1 ≡ suc i = omega arith in
    let same = ap (blocks_from bs) one in
    let bits = ap (λ b. count_ones (b.value / 2 ^ (p % 64) / 2)) word in
    omega (arith, bits, next, above, same, latest_few bs ns n kept (suc p))

pub returns-clause-count : goal.returns-clause-count
returns-clause-count g c =
    let self = c.args.self.now in let bs = self.blocks.items in let ns = self.nodes.items in let n = self.requests in
    let p = c.args.request in let i = c.place_of-at.result in let kept = c.requires.kept in
    let inside : i < length bs = omega (arith, c.place_of-at.ensures.inside, ap (λ l. length l) c.deref.ensures.value) in
    let number : number_at bs i ≡ p / 64 = ap (λ l. number_at l i) (sym c.deref.ensures.value) ∙ c.place_of-at.ensures.number in
    let word = block_read bs i i c.index.result.now refl inside c.index.ensures in
    let next = ones_next bs ns n kept i p inside number in
    let above = c.count_from.ensures (blocks_from bs) (rw c.deref-2.ensures.value kept.counted) in
    let one : i + 1 ≡ suc i = omega arith in
    let same = ap (blocks_from bs) one in
    let bits = ap (λ b. count_ones (b.value / 2 ^ (p % 64) / 2)) word in
    omega (arith, bits, next, above, same)

pub overflow_sub-index_mut : goal.overflow_sub-index_mut
overflow_sub-index_mut g c =
    let self = c.args.self.now in let bs = self.blocks.items in let ns = self.nodes.items in let n = self.requests in
    let p = c.args.request in let i = c.place_of-at.result in let kept = c.requires.kept in
    let inside : i < length bs = omega (arith, c.place_of-at.ensures.inside, ap (λ l. length l) c.deref.ensures.value) in
    let number : number_at bs i ≡ p / 64 = ap (λ l. number_at l i) (sym c.deref.ensures.value) ∙ c.place_of-at.ensures.number in
    let read = block_read bs i i c.index_mut.result.now refl inside c.index_mut.ensures.value in
    let loses = clear_loses bs ns n kept i p inside number c.requires.latest in
    omega (arith, ap (λ b. b.value) read, bit_of p, loses.fits)

pub subtract_at-requires-clause-counted : goal.subtract_at-requires-clause-counted
subtract_at-requires-clause-counted g c =
    let self = c.args.self.now in let bs = self.blocks.items in let ns = self.nodes.items in let n = self.requests in
    let p = c.args.request in let i = c.place_of-at.result in let kept = c.requires.kept in
    let inside : i < length bs = omega (arith, c.place_of-at.ensures.inside, ap (λ l. length l) c.deref.ensures.value) in
    let number : number_at bs i ≡ p / 64 = ap (λ l. number_at l i) (sym c.deref.ensures.value) ∙ c.place_of-at.ensures.number in
    let less = set bs i (numbered (number_at bs i) (value_at bs i - 2 ^ (p % 64))) in
    (blocks_from less, (blocks_fall less, rw c.deref_mut.ensures.value (clear_counted bs ns n kept i p inside number c.requires.latest)))

pub returns-clause-kept : goal.returns-clause-kept
returns-clause-kept g c =
    let self = c.args.self.now in let bs = self.blocks.items in let ns = self.nodes.items in let n = self.requests in
    let p = c.args.request in let i = c.place_of-at.result in let kept = c.requires.kept in
    let inside : i < length bs = omega (arith, c.place_of-at.ensures.inside, ap (λ l. length l) c.deref.ensures.value) in
    let number : number_at bs i ≡ p / 64 = ap (λ l. number_at l i) (sym c.deref.ensures.value) ∙ c.place_of-at.ensures.number in
    let read = block_read bs i i c.index_mut.result.now refl inside c.index_mut.ensures.value in
    let counted = c.subtract_at.ensures.counted _ (rw c.deref_mut.ensures.value (clear_counted bs ns n kept i p inside number c.requires.latest)) in
    rw (written_back c.subtract_at.new.nodes ns self.nodes.len (c.subtract_at.ensures.length ∙ c.deref_mut.ensures.len), read, bit_of p)
    (IsLatest-clear bs ns n kept i p inside number c.requires.latest c.subtract_at.new.nodes
    (c.subtract_at.ensures.length ∙ ap (λ l. length l) c.deref_mut.ensures.value) counted)

pub returns-clause-ones : goal.returns-clause-ones
returns-clause-ones g c =
    let self = c.args.self.now in let bs = self.blocks.items in let ns = self.nodes.items in let n = self.requests in
    let p = c.args.request in let i = c.place_of-at.result in let kept = c.requires.kept in
    let inside : i < length bs = omega (arith, c.place_of-at.ensures.inside, ap (λ l. length l) c.deref.ensures.value) in
    let number : number_at bs i ≡ p / 64 = ap (λ l. number_at l i) (sym c.deref.ensures.value) ∙ c.place_of-at.ensures.number in
    let read = block_read bs i i c.index_mut.result.now refl inside c.index_mut.ensures.value in
    let s = clear_sets bs ns n kept i p inside number c.requires.latest in
    rw (read, bit_of p) s.ones
