use Rattle.std.proofs.Common.{◌≡◌, length, ap, ◌∙◌, subst, arith, rules}
use Rattle.std.proofs.lemmas.Fn.{filter_same}
use Rattle.std.specs.List.{filter}
use Rattle.clru_curve.specs.Latest.{blocks_from, ones_from}
use Rattle.clru_curve.specs.Rising.{has_value}
use Rattle.clru_curve.specs.Tree.{IsCounted}
use Rattle.clru_curve.proofs.Blocks.{blocks_from_filter, ones_from_filter}
use Rattle.clru_curve.proofs.Rising.{length_filter, rising_filter}
use Rattle.clru_curve.proofs.Latests.{written_back, IsLatest-filter}
use Rattle.clru_curve.proofs.latest.Latest.drop_empty.Goals as goal

pub count_anew-requires-clause-few : goal.count_anew-requires-clause-few
count_anew-requires-clause-few g c =
    let bs = c.args.self.now.blocks.items in
    let left = c.deref.ensures.value ∙ filter_same _ has_value _ (λ x b f' k. search rules) _ _ c.retain.ensures.filtered in
    omega (arith, ap (λ l. blocks_from l 0) left, blocks_from_filter bs, c.requires.kept.few, c.requires.countable)

pub returns-clause-kept : goal.returns-clause-kept
returns-clause-kept g c =
    let self = c.args.self.now in let bs = self.blocks.items in
    let left = filter_same _ has_value _ (λ x b f' k. search rules) _ _ c.retain.ensures.filtered in
    let nodes = c.count_anew.ensures.length ∙ c.deref_mut.ensures.len in
    let same : length c.count_anew.new.nodes ≡ length (filter has_value bs) = omega (
      arith,
      nodes,
      c.truncate.ensures.len,
      c.len-blocks.ensures,
      c.retain.new.self.ok.0,
      ap (λ l. length l) left,
      length_filter bs,
      c.requires.kept.same_length,
      self.nodes.ok.0,
    ) in
    rw (written_back c.count_anew.new.nodes c.truncate.new.self.items c.truncate.new.self.len nodes, left)
    (IsLatest-filter bs self.nodes.items self.requests c.requires.kept c.requires.whole c.count_anew.new.nodes same
    (subst (λ l. IsCounted (blocks_from l) c.count_anew.new.nodes) (c.deref.ensures.value ∙ left) c.count_anew.ensures.counted))

pub returns-clause-ones : goal.returns-clause-ones
returns-clause-ones g c p =
    let bs = c.args.self.now.blocks.items in
    ap (λ l. ones_from l p) (filter_same _ has_value _ (λ x b f' k. search rules) _ _ c.retain.ensures.filtered) ∙ ones_from_filter bs p

pub returns-clause-rising : goal.returns-clause-rising
returns-clause-rising g c high is =
    let bs = c.args.self.now.blocks.items in
    let left = filter_same _ has_value _ (λ x b f' k. search rules) _ _ c.retain.ensures.filtered in
    rw left (rising_filter 0 bs high is)
