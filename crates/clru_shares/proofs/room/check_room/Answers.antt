use Rattle.std.proofs.Common.{◌≡◌, ◌≤◌, ◌++◌, [], get_or, sym, ap, ◌∙◌, subst, arith}
use Rattle.std.specs.Int.NonZero.{non_zero_usize_get}
use Rattle.std.specs.List.{All}
use Rattle.std.proofs.lemmas.List.{take_all}
use Rattle.std.proofs.lemmas.List.Elements.{All-more, All-nil}
use Rattle.clru_shares.specs.Classes.{of_class}
use Rattle.clru_shares.specs.Refusals.{IsFirstWithoutRoom}
use Rattle.clru_shares.specs.Sampled.{kept_in}
use Rattle.clru_shares.specs.Shares.{HasRoom, greatest_size}
use Rattle.clru_shares.proofs.RoomLemmas.{first_without, named_at, size_at}
use Rattle.clru_shares.proofs.ShareLemmas.{shares_long}
use Rattle.clru_shares.proofs.room.check_room.Goals as goal

pub loop-share-init : goal.loop-share-init
loop-share-init g c sizes idle sample requests names have = All-nil (HasRoom sizes sample (non_zero_usize_get c.args.budget) requests)

pub loop-share-preserved : goal.loop-share-preserved
loop-share-preserved g c sizes idle sample requests names have =
    let shares = c.args.shares.now in let i = c.loop-share.share-index in let budget = non_zero_usize_get c.args.budget in
    let low = c.loop-share-test.true in
    let size = size_at sizes idle sample requests names shares i c.share-item.result have low c.share-item.is c.greatest_size-size.result c.greatest_size-size.ensures in
    let fits : greatest_size sizes (of_class (get_or names i []) (kept_in sample requests)) ≤ budget = omega (arith, size, c.if-get-size.false, c.get.ensures.value) in
    All-more (HasRoom sizes sample budget requests) names i [] (omega (arith, low, shares_long sizes idle sample requests names shares have))
    (c.loop-share.invariant sizes idle sample requests names have) fits

pub returns-clause-room : goal.returns-clause-room
returns-clause-room g c sizes idle sample requests names have =
    subst (All (HasRoom sizes sample (non_zero_usize_get c.args.budget) requests))
    (take_all c.loop-share.share-index names (omega (arith, c.loop-share-test.false, shares_long sizes idle sample requests names c.args.shares.now have)))
    (c.loop-share.invariant sizes idle sample requests names have)

pub returns-then-get-size-clause-no_room : goal.returns-then-get-size-clause-no_room
returns-then-get-size-clause-no_room g c sizes idle sample requests names have n is =
    let shares = c.args.shares.now in let i = c.loop-share.share-index in let budget = non_zero_usize_get c.args.budget in
    let share = c.share-item.result in let low = c.loop-share-test.true in
    let same : c.greatest_size-size.result ≡ n = cc in
    let size = size_at sizes idle sample requests names shares i share have low c.share-item.is c.greatest_size-size.result c.greatest_size-size.ensures in
    let named = c.in-Ok.ensures.items ∙ ap (λ b. b ++ c.deref.result.now) c.clear.ensures.items ∙ c.deref.ensures.value ∙ named_at sizes idle sample requests names shares i share have low c.share-item.is in
    subst (IsFirstWithoutRoom sizes sample budget n requests names) (sym named)
    (first_without sizes sample budget n requests names i (omega (arith, low, shares_long sizes idle sample requests names shares have))
    (omega (arith, c.get.ensures.nonzero, c.get.ensures.value)) (c.loop-share.invariant sizes idle sample requests names have)
    (sym same ∙ size) (omega (arith, c.if-get-size.true, c.get.ensures.value, same)))
