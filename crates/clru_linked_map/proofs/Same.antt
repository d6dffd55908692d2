-- What stays of an indexed list, from step to step.
use Rattle.std.proofs.Common.{refl, ◌∙◌}
use Rattle.clru_linked_map.specs.Buckets.{KeepsSizes}
use Rattle.clru_linked_map.specs.BucketList.{BucketList}
use Rattle.clru_linked_map.specs.IndexedList.{KeepsAllButPairs}
use Rattle.clru_linked_map.specs.declared.indexed_list.IndexedList.{IndexedList}

size_refl : {h : BucketList} → KeepsSizes h h
size_refl = record { buckets = refl; links = refl; bound = refl; tags = refl }

pub size_trans : {h i j : BucketList} → KeepsSizes h i → KeepsSizes i j → KeepsSizes h j
size_trans a b = record { buckets = b.buckets ∙ a.buckets; links = b.links ∙ a.links; bound = b.bound ∙ a.bound; tags = b.tags ∙ a.tags }

pub same_refl : {K V S A H : Type 0} {x : IndexedList K V S A H} → KeepsAllButPairs x x
same_refl = record { capacity = refl; places = refl; builder = refl; index = size_refl }

pub same_trans : {K V S A H : Type 0} {x y z : IndexedList K V S A H} → KeepsAllButPairs x y → KeepsAllButPairs y z → KeepsAllButPairs x z
same_trans a b = record {
  capacity = b.capacity ∙ a.capacity;
  places = b.places ∙ a.places;
  builder = b.builder ∙ a.builder;
  index = size_trans a.index b.index;
}
