use Rattle.std.proofs.Common.{◌≡◌, ◌<◌, ◌+◌, ◌-◌, [], ◌∷◌, ◌++◌, length, take, drop, reverse, refl, sym, ap, ◌∙◌, subst, arith}
use Rattle.std.proofs.lemmas.Fn.{FoldsTo-push}
use Rattle.std.proofs.Math.Seq.{drop-length}
use Rattle.clru_model.specs.Entries.{fit, weight_of}
use Rattle.clru_model.proofs.Dropping.{reverse-drop, reverse-drop-last}
use Rattle.clru_model.proofs.Fitting.{fit_is_longest, last_goes, too_long_fits, whole_is_too_long}
use Rattle.clru_model.proofs.Ends.{split_last, no_last}
use Rattle.clru_model.proofs.Weights.{weight_of-push}
use Rattle.clru_linked_map.specs.LinkedMap.{with_entries}
use Rattle.clru.specs.Drops.{HandsOutTo, TakesOver}
use Rattle.clru.proofs.cache.room.shrink.Goals as goal

pub loop-total-init : goal.loop-total-init
loop-total-init g c = record {
  same = refl;
  weighs = c.requires.weighs;
  fits = c.requires.fits;
  long = whole_is_too_long (g.W.WeightScale.weight c.args.scale.now) c.args.room c.args.map.now.entries;
  handed = rw (drop-length c.args.map.now.entries) refl;
}

pub overflow_sub-total : goal.overflow_sub-total
overflow_sub-total g c =
    let w = g.W.WeightScale.weight c.args.scale.now in let es = c.loop-total.map.entries in
    let last : g.row.K.Denot × g.row.V.Denot = (c.in-Some.key, c.in-Some.value) in
    omega (
      arith,
      ap (weight_of w) (split_last es last c.in-Some.ensures.pair),
      weight_of-push w (take (length es - 1) es) last,
      c.loop-total.invariant.weighs,
      c.weight.ensures,
    )

pub on_drop-requires : goal.on_drop-requires
on_drop-requires g c =
    let w = g.W.WeightScale.weight c.args.scale.now in let i = c.loop-total.invariant in
    let last : g.row.K.Denot × g.row.V.Denot = (c.in-Some.key, c.in-Some.value) in
    let start = c.args.map.now.entries in let es = c.loop-total.map.entries in let left = take (length es - 1) es in
    let all = split_last es last c.in-Some.ensures.pair in let f = fit_is_longest w c.args.room start in
    let over : c.args.room < length es + c.loop-total.total = omega (arith, c.len.ensures.len, c.loop-total-test.true) in
    let gone = last_goes w c.args.room start es left c.in-Some.key c.in-Some.value c.loop-total.total all i.weighs over i.long in
    let within = gone.2.longest (fit w c.args.room start) f.rest f.begins f.fits in
    c.requires.callable.at (reverse (drop (length es) start)) (reverse (drop (length (fit w c.args.room start)) left)) c.loop-total.on_drop last
    (reverse-drop start es left i.long.rest last (length (fit w c.args.room start)) i.long.begins all within) i.handed

pub loop-total-preserved : goal.loop-total-preserved
loop-total-preserved g c =
    let w = g.W.WeightScale.weight c.args.scale.now in let i = c.loop-total.invariant in let e = c.in-Some.ensures in
    let last : g.row.K.Denot × g.row.V.Denot = (c.in-Some.key, c.in-Some.value) in
    let start = c.args.map.now.entries in let es = c.loop-total.map.entries in let left = c.pop_back.new.self.entries in
    let pairs = ap (λ m. m.entries) e.entries in
    let all = split_last es last e.pair ∙ ap (λ l. l ++ last ∷ []) (sym pairs) in
    let over : c.args.room < length es + c.loop-total.total = omega (arith, c.len.ensures.len, c.loop-total-test.true) in
    let gone = last_goes w c.args.room start es left c.in-Some.key c.in-Some.value c.loop-total.total all i.weighs over i.long in
    record {
      same = e.entries ∙ ap (λ l. with_entries c.loop-total.map l) (sym pairs) ∙ ap (λ m. with_entries m left) i.same;
      weighs = omega (arith, gone.0, c.weight.ensures);
      fits = omega (arith, gone.1, i.fits);
      long = gone.2;
      handed = subst (λ l. HandsOutTo g.F.FnMut c.args.on_drop.now l c.on_drop.new.self)
          (sym (reverse-drop-last start es left i.long.rest last i.long.begins all))
          (FoldsTo-push (TakesOver g.F.FnMut) _ _ _ last _ i.handed c.on_drop.ensures);
    }

pub unreachable-requires : goal.unreachable-requires
unreachable-requires g c =
    let w = g.W.WeightScale.weight c.args.scale.now in let es = c.loop-total.map.entries in
    let none = no_last es c.in-None.ensures.pair in let weightless : weight_of w [] ≡ 0 = refl in
    omega (arith, c.len.ensures.len, c.loop-total-test.true, c.loop-total.invariant.weighs, ap length none, ap (weight_of w) none, weightless)

pub returns-clause-entries : goal.returns-clause-entries
returns-clause-entries g c =
    let w = g.W.WeightScale.weight c.args.scale.now in let i = c.loop-total.invariant in
    i.same ∙ ap (λ l. with_entries c.args.map.now l) (too_long_fits w c.args.room c.args.map.now.entries c.loop-total.map.entries i.long
    (omega (arith, i.weighs, c.len.ensures.len, c.loop-total-test.false)))

pub returns-clause-handed_out : goal.returns-clause-handed_out
returns-clause-handed_out g c =
    subst (λ l. HandsOutTo g.F.FnMut c.args.on_drop.now (reverse (drop (length l) c.args.map.now.entries)) c.loop-total.on_drop)
    (ap (λ m. m.entries) (returns-clause-entries g c)) c.loop-total.invariant.handed
