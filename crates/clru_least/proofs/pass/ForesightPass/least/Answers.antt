use Rattle.std.proofs.Common.{◌≡◌, ◌<◌, ◌+◌, ℕ, List, [], cond, eqb, false, true, ltb, length, map, get_or, reverse, ap, sym, ◌∙◌, subst, arith}
use Rattle.std.specs.Int.NonZero.{non_zero_usize_get}
use Rattle.std.proofs.lemmas.List.{length-map}
use Rattle.clru_model.proofs.Least.{least_below_replay}
use Rattle.clru_model.proofs.Optimum.{IsBest, IsLeast_from_best, IsNear_from_best}
use Rattle.clru_least.specs.Next.{next_from}
use Rattle.clru_least.specs.Passes.{next_or, IsForesight}
use Rattle.clru_least.specs.Queue.{queued}
use Rattle.clru_least.proofs.Laters.{foresight_length, next_read, nexts_are}
use Rattle.clru_least.proofs.Queues.{queued_before}
use Rattle.clru_least.proofs.Walking.{on_the_way_start, on_the_way_end, way_keeps, way_drops, queue_some, next_within, IsStep}
use Rattle.clru_least.proofs.pass.ForesightPass.least.Given.{Over}
use Rattle.clru_least.proofs.pass.ForesightPass.least.Goals as goal
use Rattle.clru_least.proofs.pass.ForesightPass.least.Goals.{After-next_or, After-drop-next_uses}
use Rattle.clru_least.proofs.pass.ForesightPass.least.Goals.{then-not-contains+then-held-get, then-not-contains+else-held-get, else-not-contains}

pub loop-position-init : goal.loop-position-init
loop-position-init g c =
    let made = c.in_ok-next_uses.ensures in
    let n : c.len-count.result ≡ length c.args.self.now = c.len-count.ensures ∙ ap (λ l. length l) c.self.view_is in
    record {
      way = λ past is. on_the_way_start g.K.PartialEq.eq (non_zero_usize_get c.args.room) (reverse past) (queued c.in_ok-next_uses.next_uses) made.empty;
      sound = made.sound;
      end = made.end;
      many = n;
      few = omega arith;
      few_never_again = omega (arith, made.none);
    }

pub drop_latest-requires-clause-some : goal.drop_latest-requires-clause-some
drop_latest-requires-clause-some g c =
    let sound = c.self.invariant in let l = c.loop-position in
    let way = l.invariant.way sound.past (sym c.self.view_is ∙ sound.taken) in
    queue_some g.K.PartialEq.eq g.met.K.Eq.laws (non_zero_usize_get c.args.room) l.position (reverse sound.past) (queued l.next_uses) l.held l.misses way
    (omega arith)

-- what is read of the positions of later requests, and where it stands among those of the next ones
module _ (g : Over) (c : After-next_or g) where
  next_is : c.next_or.result ≡ get_or (map (next_or c.len-count.result) c.args.self.now) c.loop-position.position 0
  next_is =
      let l = c.loop-position in
      next_read c.args.self.now c.len-count.result l.position c.get-in-loop-position.result c.next_or.result
      (omega (arith, l.invariant.many, c.loop-position-test.true))
      (c.get-in-loop-position.ensures.number ∙ ap (λ k. get_or k l.position 0) c.self.view_is) c.next_or.ensures

  within : c.loop-position.position < length (map (next_or c.len-count.result) c.args.self.now)
  within = omega (arith, c.loop-position.invariant.many, c.loop-position-test.true, length-map c.args.self.now (next_or c.len-count.result))

  are : (past : List g.row.K.Denot) → IsForesight g.K.PartialEq.eq past c.args.self.now
      → map (next_or c.len-count.result) c.args.self.now ≡ next_from g.K.PartialEq.eq 0 (reverse past)
  are past is = nexts_are g.K.PartialEq.eq past c.args.self.now c.len-count.result is c.loop-position.invariant.many

  ends : c.if-not-contains.next_uses.end ≡ c.len-count.result
  ends = let l = c.loop-position in elim c.if-not-contains.branch [
    | then-not-contains+then-held-get w ↦ ap (λ u. u.end) w.next_uses-is ∙ l.invariant.end
    | then-not-contains+else-held-get w ↦ ap (λ u. u.end) w.next_uses-is ∙ w.drop_latest.ensures.end ∙ l.invariant.end
    | else-not-contains w ↦ ap (λ u. u.end) w.next_uses-is ∙ l.invariant.end
  ]

pub keep-requires-clause-within : goal.keep-requires-clause-within
keep-requires-clause-within g c =
    let eq = g.K.PartialEq.eq in let sound = c.self.invariant in let later = c.args.self.now in
    let is = sym c.self.view_is ∙ sound.taken in
    omega (
      arith,
      next_is g c,
      next_within eq c.loop-position.position (reverse sound.past) (map (next_or c.len-count.result) later) (are g c sound.past is) (within g c),
      foresight_length eq sound.past later is,
      c.loop-position.invariant.many,
      ends g c,
    )

pub loop-position-preserved : goal.loop-position-preserved
loop-position-preserved g c =
    let eq = g.K.PartialEq.eq in let laws = g.met.K.Eq.laws in let h = non_zero_usize_get c.args.room in
    let at = (goal.at.loop-position-preserved g c).After-next_or in
    let n = c.len-count.result in let later = c.args.self.now in let nexts = map (next_or n) later in
    let l = c.loop-position in let w = c.if-not-contains in
    let before = queued l.next_uses in let between = queued w.next_uses in let after = queued c.keep.new.self in
    let read = next_is g at in
    let many : (past : List g.row.K.Denot) → IsForesight eq past later → n ≡ length (reverse past) =
    λ past is. l.invariant.many ∙ foresight_length eq past later is in
    let s : (past : List g.row.K.Denot) → IsForesight eq past later → IsStep eq l.position (reverse past) nexts between after =
    λ past is. record {
      are = are g at past is;
      within = within g at;
      moved = subst (λ m. (m < length (reverse past) → between m ≡ 0) → (p : ℕ) → after p ≡ cond (eqb m p) 1 0 + between p) read
          (λ new. c.keep.ensures.queued (λ below. new (omega (arith, below, ends g at, many past is))));
    } in
    let hit : ltb 0 (before l.position) ≡ c.contains.result =
    queued_before l.next_uses l.position (omega (arith, l.invariant.end, c.loop-position-test.true)) ∙ sym c.contains.ensures in
    let end : c.keep.new.self.end ≡ n = c.keep.ensures.end ∙ ends g at in
    elim w.branch [
      | then-not-contains+then-held-get b ↦
          let q : between ≡ before = ap (λ u. queued u) b.next_uses-is in
          record {
            way = λ past is. way_keeps eq laws h l.position (reverse past) nexts before between after l.held w.held l.misses w.misses (l.invariant.way past is) (s past is)
                false (hit ∙ b.if-not-contains.true) (λ f. omega arith) q b.held-is b.misses-is;
            sound = c.keep.ensures.sound;
            end = end;
            many = l.invariant.many;
            few = omega (arith, b.misses-is, l.invariant.few);
            few_never_again = omega (arith, ap (λ u. u.never_again) b.next_uses-is, c.keep.ensures.few, l.invariant.few_never_again);
          }
      | then-not-contains+else-held-get b ↦
          let taken : (p : ℕ) → before p ≡ cond (eqb b.drop_latest.result p) 1 0 + between p = rw b.next_uses-is b.drop_latest.ensures.taken in
          record {
            way = λ past is. way_drops eq laws h l.position (reverse past) nexts before between after l.held w.held l.misses w.misses (l.invariant.way past is) (s past is)
                b.drop_latest.result (hit ∙ b.if-not-contains.true) (omega arith) (omega arith) taken
                (λ p low some. b.drop_latest.ensures.latest p (omega (arith, low, l.invariant.end, many past is)) some) b.held-is b.misses-is;
            sound = c.keep.ensures.sound;
            end = end;
            many = l.invariant.many;
            few = omega (arith, b.misses-is, l.invariant.few);
            few_never_again = omega (arith, ap (λ u. u.never_again) b.next_uses-is, b.drop_latest.ensures.fewer, c.keep.ensures.few, l.invariant.few_never_again);
          }
      | else-not-contains b ↦
          let q : between ≡ before = ap (λ u. queued u) b.next_uses-is in
          record {
            way = λ past is. way_keeps eq laws h l.position (reverse past) nexts before between after l.held w.held l.misses w.misses (l.invariant.way past is) (s past is)
                true (hit ∙ b.if-not-contains.false) (λ f. cc) q b.held-is (omega (arith, b.misses-is));
            sound = c.keep.ensures.sound;
            end = end;
            many = l.invariant.many;
            few = omega (arith, b.misses-is, l.invariant.few);
            few_never_again = omega (arith, ap (λ u. u.never_again) b.next_uses-is, c.keep.ensures.few, l.invariant.few_never_again);
          }
    ]

-- the misses are those of the best schedule
best : (g : Over) (c : After-drop-next_uses g) (past : List g.row.K.Denot) → IsForesight g.K.PartialEq.eq past c.args.self.now
    → IsBest g.K.PartialEq.eq (non_zero_usize_get c.args.room) [] (reverse past) c.loop-position.misses
best g c past is =
    let eq = g.K.PartialEq.eq in
    let l = c.loop-position in
    let ends : l.position ≡ length (reverse past) =
    omega (arith, foresight_length eq past c.args.self.now is, l.invariant.many, c.loop-position-test.false, l.auto.position-end) in
    on_the_way_end eq (non_zero_usize_get c.args.room) (reverse past) (queued l.next_uses) l.held l.misses (rw ends at (l.invariant.way past is))

pub returns-clause-least : goal.returns-clause-least
returns-clause-least g c past is =
    IsLeast_from_best g.K.PartialEq.eq g.met.K.Eq.laws (non_zero_usize_get c.args.room) c.loop-position.misses (reverse past) (best g c past is)

pub returns-clause-any_start : goal.returns-clause-any_start
returns-clause-any_start g c past is =
    IsNear_from_best g.K.PartialEq.eq g.met.K.Eq.laws (non_zero_usize_get c.args.room) c.loop-position.misses (reverse past) (best g c past is)

pub returns-clause-beside_lru : goal.returns-clause-beside_lru
returns-clause-beside_lru g c past is =
    least_below_replay g.K.PartialEq.eq g.met.K.Eq.laws (non_zero_usize_get c.args.room) c.loop-position.misses (reverse past) (omega arith)
    (returns-clause-least g c past is)
