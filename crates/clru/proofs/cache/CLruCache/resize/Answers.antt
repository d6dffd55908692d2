use Rattle.std.proofs.Common.{length, ap, ◌∙◌, subst, sym, arith}
use Rattle.clru_model.specs.Entries.{weight_of}
use Rattle.clru_model.proofs.Fitting.{size_of-fit}
use Rattle.clru_linked_map.specs.LinkedMap.{linked_map}
use Rattle.clru.specs.Fields.{IsCache}
use Rattle.clru.proofs.Keeping.{IsKept-fit}
use Rattle.clru.proofs.cache.CLruCache.resize.Goals as goal

pub resize-requires : goal.resize-requires
resize-requires g c =
    omega (
      arith,
      ap (λ m. length m.entries) c.shrink.ensures.entries,
      size_of-fit (g.W.WeightScale.weight c.self.inside.scale) c.get-capacity.result c.self.inside.map.entries,
    )

pub invariant_of-self : goal.invariant_of-self
invariant_of-self g c =
    let w = g.W.WeightScale.weight c.self.inside.scale in let x = c.self.inside.map in let size = c.get-capacity.result in let s = c.shrink.ensures in
    let left = c.resize.ensures ∙ ap (λ m. linked_map m.entries size m.places m.builder) s.entries in
    subst (λ m. IsCache g.K.PartialEq.eq w m c.shrink.new.total) (sym left) (record {
      kept = IsKept-fit w size c.self.invariant.kept;
      some = c.get-capacity.ensures.nonzero;
      weighs = s.weighs ∙ ap (λ m. weight_of w m.entries) s.entries;
    })
