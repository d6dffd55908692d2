use Rattle.std.proofs.Common.{◌++◌, [], ◌∷◌, map, take, sym, ap, ◌∙◌, subst}
use Rattle.std.proofs.lemmas.List.{map-append, take_more, take_all}
use Rattle.std.specs.Int.NonZero.{non_zero_usize_get}
use Rattle.std.specs.Map.{keys_of}
use Rattle.std.specs.Option.{option_map}
use Rattle.clru_shares.specs.Passes.{HasTaken, HaveShares, name_of}
use Rattle.clru_shares.specs.Sampled.{kept_in}
use Rattle.clru_shares.specs.Times.{limit_of}
use Rattle.clru_shares.proofs.ShareLemmas.{shares_more}
use Rattle.clru_shares.proofs.share.shares_of.Goals as goal

pub loop-class-init : goal.loop-class-init
loop-class-init g c sizes idle requests timeless is =
    subst (HaveShares sizes idle (option_map non_zero_usize_get c.args.sample) requests []) (sym c.new-shares.ensures.items) tt

pub loop-class-preserved : goal.loop-class-preserved
loop-class-preserved g c sizes idle requests timeless is =
    let sample = option_map non_zero_usize_get c.args.sample in
    let classes = c.args.classes.now in let i = c.loop-class.class-index in let class = c.class-item.result in
    let taken = subst (HasTaken sizes (limit_of idle) (keys_of requests) (kept_in sample requests)) (sym c.class-item.is) (is.each i class c.loop-class-test.true) in
    let names = ap (map name_of) (take_more classes i class c.loop-class-test.true)
    ∙ map-append name_of (take i classes) _
    ∙ ap (λ x. map name_of (take i classes) ++ name_of x ∷ []) (sym c.class-item.is) in
    subst (λ ns. HaveShares sizes idle sample requests ns c.push.new.self.items) (sym names)
    (subst (HaveShares sizes idle sample requests (map name_of (take i classes) ++ name_of class ∷ [])) (sym c.in_ok-push.ensures.items)
    (shares_more sizes idle sample requests (map name_of (take i classes)) c.loop-class.shares.items (name_of class) c.in_ok-share_of.field-0
    (c.loop-class.invariant sizes idle requests timeless is) (c.in_ok-share_of.ensures sizes idle requests timeless taken)))

pub returns : goal.returns
returns g c sizes idle requests timeless is =
    subst (λ cs. HaveShares sizes idle (option_map non_zero_usize_get c.args.sample) requests (map name_of cs) c.loop-class.shares.items)
    (take_all c.loop-class.class-index c.args.classes.now c.loop-class-test.false) (c.loop-class.invariant sizes idle requests timeless is)
