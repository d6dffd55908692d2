use Rattle.std.proofs.Common.{refl, ◌∙◌}
use Rattle.clru_list.specs.Retains.{CalledAtItemMut, TakesItemMut}
use Rattle.clru_list.proofs.Retaining.{starts, ends, item_here, takes_here, goes_on, fewer, some_injective}
use Rattle.clru_list.proofs.list.FixedSizeList.retain_mut.Goals as goal

pub loop-next-init : goal.loop-next-init
loop-next-init g c = starts (CalledAtItemMut g.F.FnMut) (TakesItemMut g.F.FnMut) c.args.f c.args.self.now _ c.front_idx-next.ensures.place c.front_idx-next.ensures.valid c.requires

pub f-kept-requires : goal.f-kept-requires
f-kept-requires g c =
    let item = item_here (CalledAtItemMut g.F.FnMut) (TakesItemMut g.F.FnMut) _ _ _ _ _ c.loop-next.invariant c.in-Some.place c.in-Some.is in
    takes_here (CalledAtItemMut g.F.FnMut) (TakesItemMut g.F.FnMut) _ _ _ _ _ c.loop-next.invariant c.in-Some.place c.in-Some.is
    _ (some_injective (c.in-Some-get_mut.ensures.value ∙ item))

pub unreachable-requires : goal.unreachable-requires
unreachable-requires g c =
    let item = item_here (CalledAtItemMut g.F.FnMut) (TakesItemMut g.F.FnMut) _ _ _ _ _ c.loop-next.invariant c.in-Some.place c.in-Some.is in
    let it = c.in-None.ensures.value ∙ item in cc

pub loop-next-smaller : goal.loop-next-smaller
loop-next-smaller g c =
    fewer (CalledAtItemMut g.F.FnMut) (TakesItemMut g.F.FnMut) _ _ _ _ _ c.loop-next.invariant c.in-Some.place c.in-Some.is
    c.f-kept.result c.f-kept.new.arg3 _ c.keep_if.new.self c.next_idx-next.result refl
    c.keep_if.ensures.entries c.keep_if.ensures.valid c.next_idx-next.ensures.place

pub loop-next-preserved : goal.loop-next-preserved
loop-next-preserved g c =
    let item = item_here (CalledAtItemMut g.F.FnMut) (TakesItemMut g.F.FnMut) _ _ _ _ _ c.loop-next.invariant c.in-Some.place c.in-Some.is in
    goes_on (CalledAtItemMut g.F.FnMut) (TakesItemMut g.F.FnMut) _ _ _ _ _ c.loop-next.invariant c.in-Some.place c.in-Some.is
    c.f-kept.result c.f-kept.new.arg3 c.f-kept.new.self _ c.keep_if.new.self c.next_idx-next.result
    record {
      shown = c.in-Some-get_mut.item;
      left = _;
      shows = some_injective (c.in-Some-get_mut.ensures.value ∙ item);
      called = c.f-kept.ensures;
      leaves = refl;
    }
    refl
    c.keep_if.ensures.entries c.keep_if.ensures.valid c.next_idx-next.ensures.place

pub returns-clause-called : goal.returns-clause-called
returns-clause-called g c = ends (CalledAtItemMut g.F.FnMut) (TakesItemMut g.F.FnMut) _ _ _ _ _ c.loop-next.invariant c.in_default.not-Some

pub returns-clause-stays : goal.returns-clause-stays
returns-clause-stays g c = c.loop-next.invariant.stays

pub returns-clause-valid : goal.returns-clause-valid
returns-clause-valid g c = c.loop-next.invariant.valid
