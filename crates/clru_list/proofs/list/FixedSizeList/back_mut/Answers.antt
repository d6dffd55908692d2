use Rattle.std.proofs.Common.{sym, ap, ◌∙◌, inl}
use Rattle.clru_list.specs.PlaceList.{with_entries}
use Rattle.clru_list.proofs.EntryLists.{last_is, last_some, with_at-last, item_at-last}
use mathlib.Core.Path.{fun_ext}
use Rattle.clru_list.proofs.list.FixedSizeList.back_mut.Goals as goal

pub item_mut-requires : goal.item_mut-requires
item_mut-requires g c =
    let e = c.in_ok-back.ensures in last_some c.in_ok-back.back c.args.self.now.entries (last_is c.in_ok-back.back c.args.self.now.entries e.valid.apart (sym e.place))

pub returns : goal.returns
returns g c =
    let e = c.in_ok-back.ensures in let b = c.in_ok-back.back in let es = c.args.self.now.entries in let last = last_is b es e.valid.apart (sym e.place) in (
      ap (λ f. inl (c.item_mut.result.ghost_name, f)) (fun_ext (λ w. ap (with_entries c.args.self.now) (with_at-last b w es last))),
      record { lends = tt; value = sym c.item_mut.ensures.value ∙ item_at-last b es last; valid = e.valid },
    )
