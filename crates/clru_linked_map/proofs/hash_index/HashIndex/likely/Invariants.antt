use Rattle.clru_linked_map.proofs.hash_index.HashIndex.likely.Given as goal

abbrev pub decreases-chain : goal.decreases-chain
decreases-chain g l = l.left
