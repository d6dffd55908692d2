use Rattle.std.proofs.Common.{map, sym, subst}
use Rattle.std.specs.Int.NonZero.{non_zero_usize_get}
use Rattle.std.specs.Option.{option_map}
use Rattle.clru_shares.specs.Passes.{HaveShares, name_of}
use Rattle.clru_shares.specs.Sampled.{kept_in}
use Rattle.clru_shares.specs.Times.{limit_of, requests_in, rests_in}
use Rattle.clru_shares.proofs.FaultLemmas.{taken_faultless}
use Rattle.clru_shares.proofs.RoomLemmas.{no_room_in, shares_taken}
use Rattle.clru_shares.proofs.TakenClasses.{names_are}
use Rattle.clru_shares.proofs.program.checked_text.Goals as goal

pub returns-in-Err-clause-no_room : goal.returns-in-Err-clause-no_room
returns-in-Err-clause-no_room g c lines has size is =
    let sizes = c.args.options.sizes in let sample = option_map non_zero_usize_get c.args.options.sample in let idle = c.args.options.idle in
    let passes = c.args.passes.now in let names = map name_of passes.classes.items in
    let have = shares_taken sizes idle sample lines passes c.deref.result.now c.in-Ok.shares.items has c.deref.ensures.value c.in-Ok.ensures in
    let rests = rests_in idle lines in let kept = kept_in sample (requests_in idle lines) in
    no_room_in sizes idle sample (non_zero_usize_get c.args.options.budget) size lines names c.check_room.new.name.items has.timed
    (taken_faultless sizes (limit_of idle) rests kept passes has.taken)
    (names_are sizes (limit_of idle) rests kept passes.classes.items has.taken.classes)
    (c.in-Err.ensures.no_room sizes idle sample (requests_in idle lines) names
    (subst (HaveShares sizes idle sample (requests_in idle lines) names) (sym c.deref-2.ensures.value) have) size is)

pub returns-in-Ok-text_for-clause-table : goal.returns-in-Ok-text_for-clause-table
returns-in-Ok-text_for-clause-table g c lines has =
    let sizes = c.args.options.sizes in let sample = option_map non_zero_usize_get c.args.options.sample in let idle = c.args.options.idle in
    let passes = c.args.passes.now in let names = map name_of passes.classes.items in
    let have = shares_taken sizes idle sample lines passes c.deref.result.now c.in-Ok.shares.items has c.deref.ensures.value c.in-Ok.ensures in
    c.in-Ok-text_for.ensures lines has (subst (HaveShares sizes idle sample (requests_in idle lines) names) (sym c.deref-3.ensures.value) have)
    (c.in-Ok-check_room.ensures.room sizes idle sample (requests_in idle lines) names
    (subst (HaveShares sizes idle sample (requests_in idle lines) names) (sym c.deref-2.ensures.value) have))
