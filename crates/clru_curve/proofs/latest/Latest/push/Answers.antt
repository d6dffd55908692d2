use Rattle.std.proofs.Common.{◌≡◌, ◌-◌, ap, length, ◌∙◌, arith}
use Rattle.clru_curve.specs.Latest.{blocks_from}
use Rattle.clru_curve.proofs.Latests.{written_back, bit_of, block_read, few_from, push_fits, push_sets, IsLatest-push}
use Rattle.clru_curve.proofs.latest.Latest.push.Goals as goal

pub overflow_add-index_mut : goal.overflow_add-index_mut
overflow_add-index_mut g c =
    let self = c.args.self.now in let bs = self.blocks.items in
    let last : c.len-last.result ≡ length bs = omega (arith, c.len-last.ensures, self.blocks.ok.0) in
    let read = block_read bs (length bs - 1) (c.len-last.result - 1) c.index_mut.result.now (ap (λ n. n - 1) last) (omega (arith, c.requires.room.0)) c.index_mut.ensures.value in
    omega (arith, ap (λ b. b.value) read, bit_of self.requests, push_fits bs self.nodes.items self.requests c.requires.kept c.requires.room)

pub add_at-requires-clause-counted : goal.add_at-requires-clause-counted
add_at-requires-clause-counted g c =
    let self = c.args.self.now in let kept = c.requires.kept in (
      blocks_from self.blocks.items,
      (
        rw c.deref_mut.ensures.value kept.counted,
        λ j. omega (arith, few_from self.blocks.items self.nodes.items self.requests kept j, c.requires.countable),
      ),
    )

pub returns-clause-kept : goal.returns-clause-kept
returns-clause-kept g c =
    let self = c.args.self.now in let bs = self.blocks.items in let kept = c.requires.kept in
    let last : c.len-last.result ≡ length bs = omega (arith, c.len-last.ensures, self.blocks.ok.0) in
    let read = block_read bs (length bs - 1) (c.len-last.result - 1) c.index_mut.result.now (ap (λ n. n - 1) last) (omega (arith, c.requires.room.0)) c.index_mut.ensures.value in
    let counted = c.add_at.ensures.counted (blocks_from bs) (rw c.deref_mut.ensures.value kept.counted) in
    rw (written_back c.add_at.new.nodes self.nodes.items self.nodes.len (c.add_at.ensures.length ∙ c.deref_mut.ensures.len), read, last, bit_of self.requests)
    (IsLatest-push bs self.nodes.items self.requests kept c.requires.room
    c.add_at.new.nodes (c.add_at.ensures.length ∙ ap (λ l. length l) c.deref_mut.ensures.value) (rw last at counted))

pub returns-clause-ones : goal.returns-clause-ones
returns-clause-ones g c =
    let self = c.args.self.now in let bs = self.blocks.items in
    let last : c.len-last.result ≡ length bs = omega (arith, c.len-last.ensures, self.blocks.ok.0) in
    let read = block_read bs (length bs - 1) (c.len-last.result - 1) c.index_mut.result.now (ap (λ n. n - 1) last) (omega (arith, c.requires.room.0)) c.index_mut.ensures.value in
    let s = push_sets bs self.nodes.items self.requests c.requires.kept c.requires.room in
    rw (read, last, bit_of self.requests) s.ones
