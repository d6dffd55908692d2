use Rattle.std.proofs.Common.{length, None, get_or, map, vec_len, vec_capacity, ap, ◌∙◌, arith, []}
use Rattle.clru_list.specs.Places.{place_by}
use Rattle.clru_list.proofs.NodeLemmas.{place_by-none}
use Rattle.clru_list.proofs.Soundness.{sound-empty}
use Rattle.clru_list.proofs.Pointing.{pointed-none}
use Rattle.clru_list.proofs.list.FixedSizeList.empty.Goals as goal

pub invariant_of-result : goal.invariant_of-result
invariant_of-result g c =
    let e = c.new.ensures in let r = c.new.result in (
      (
        [],
        sound-empty _ _ _ _ (ap (λ n. place_by n 0) e.ends.0 ∙ place_by-none) (ap (λ n. place_by n 0) e.ends.1 ∙ place_by-none)
            (λ k. ap (λ v. get_or (map (λ n. n.item) v.items) k None) e.nodes ∙ ap (λ ns. get_or (map (λ n. n.item) ns) k None) c.requires.none)
            e.ends.2 (ap vec_len e.nodes ∙ c.args.nodes.ok.0 ∙ ap length c.requires.none) (omega (arith, ap vec_capacity e.nodes, ap vec_len e.upper, c.requires.reserved, c.requires.named)) (omega (arith, r.nodes.small)),
      ),
      pointed-none [] _ c.none.ensures,
    )
