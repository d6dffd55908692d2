use Rattle.std.proofs.Common.{◌≡◌, ℕ, ◌+◌, fold, Some, sym, ap, ◌∙◌, subst, arith}
use Rattle.std.specs.List.{slice_get}
use Rattle.clru_least.specs.Chains.{AreTaken, HasRoom, masked_bucket, number_in}
use Rattle.clru_least.proofs.ChainWalks.{element_there, leads_within}
use Rattle.clru_least.proofs.Chained.{chain_of, chained_at, chained_none, foresight_of}
use Rattle.clru_least.proofs.chains.next_requests.Goals as goal

pub get-first-requires : goal.get-first-requires
get-first-requires g c = omega (arith, c.bucket_of-bucket.ensures.within, c.loop-position.invariant.room.firsts)

pub loop-position-init : goal.loop-position-init
loop-position-init g c = record {
  chained = chained_none _ _ _ _ _ c.in_ok-chains.ensures.blank c.in_ok-chains.ensures.empty;
  room = c.in_ok-chains.ensures.room;
  narrow = c.in_ok-chains.ensures.narrow;
}

pub find-behind-requires-clause-chain : goal.find-behind-requires-clause-chain
find-behind-requires-clause-chain g c =
    let chained = c.loop-position.invariant.chained in let h = c.bucket_of-bucket.result in
    (chained.chains h, rw c.get-first.ensures.number (chain_of _ _ _ _ _ _ chained h))

pub link-requires-clause-first : goal.link-requires-clause-first
link-requires-clause-first g c =
    let chained = c.loop-position.invariant.chained in let h = c.bucket_of-bucket.result in
    leads_within (number_in c.loop-position.chains.numbers.numbers) _ c.loop-position.position (chained.chains h, chain_of _ _ _ _ _ _ chained h)

pub loop-position-preserved : goal.loop-position-preserved
loop-position-preserved g c =
    let eq = g.K.PartialEq.eq in let keys = c.args.keys.now in let i = c.loop-position.position in let x = c.index-keys-position.result in
    let mask = c.loop-position.chains.mask in let h = c.bucket_of-bucket.result in let chained = c.loop-position.invariant.chained in
    let bucket = λ (m : ℕ) (k : g.row.K.Denot).
    masked_bucket m (g.S.Hasher.Hasher.finish (fold g.S.Hasher.Hasher.write (g.S.BuildHasher.build_hasher c.args.hash_builder.now) (g.K.Hash.hash_input k))) in
    let at : slice_get keys i ≡ Some x = element_there keys i x c.loop-position-test.true c.index-keys-position.is in
    record {
      chained = subst (λ m. AreTaken eq keys (bucket m) (i + 1) c.link.new.self.numbers.numbers c.link.new.self.firsts.numbers) (sym c.link.ensures.mask)
          (chained_at eq g.met.K.Eq.laws keys (bucket mask)
          (λ y z same. ap (λ w. masked_bucket mask (g.S.Hasher.Hasher.finish (fold g.S.Hasher.Hasher.write (g.S.BuildHasher.build_hasher c.args.hash_builder.now) w)))
          (g.met.K.Hash.respects_eq y z same))
          h i x c.loop-position.chains.numbers.numbers c.loop-position.chains.firsts.numbers c.link.new.self.numbers.numbers c.link.new.self.firsts.numbers
          c.find-behind.result.0 c.find-behind.result.1 chained (c.bucket_of-bucket.ensures.bucket ∙ ap (masked_bucket mask) c.hash_one.ensures) at
          c.loop-position-test.true c.loop-position.invariant.room.numbers
          (omega (arith, c.bucket_of-bucket.ensures.within, c.loop-position.invariant.room.firsts)) c.link.ensures.firsts
          (c.link.ensures.here (chained.blank i (omega arith))) c.link.ensures.others
          (c.find-behind.ensures.sought (chained.chains h) x (rw c.get-first.ensures.number (chain_of _ _ _ _ _ _ chained h)) at) (c.find-behind.ensures.same x at));
      room = subst (λ n. HasRoom n c.link.new.self) c.loop-position.invariant.room.numbers c.link.ensures.room;
      narrow = λ few. c.link.ensures.greatest ∙ c.loop-position.invariant.narrow few;
    }

pub returns-clause-foresight : goal.returns-clause-foresight
returns-clause-foresight g c =
    foresight_of g.K.PartialEq.eq c.args.keys.now _ c.loop-position.position c.loop-position.chains.numbers.numbers c.loop-position.chains.firsts.numbers
    c.forget_links.new.numbers.numbers c.loop-position.invariant.chained (omega (arith, c.loop-position-test.false, c.loop-position.auto.position-end))
    c.loop-position.invariant.room.numbers c.forget_links.ensures.length c.forget_links.ensures.next
