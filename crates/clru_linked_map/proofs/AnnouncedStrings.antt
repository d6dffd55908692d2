-- The strings that were announced to a map: more bytes behind leave them, and what is known of each.
use Rattle.std.proofs.Common.{◌≡◌, ℕ, ◌+◌, List, [], ◌∷◌, ◌++◌, length, slice_index_or, sym, ap, ◌∙◌, arith}
use Rattle.std.proofs.lemmas.List.{length-append}
use Rattle.std.proofs.lemmas.List.Elements.{All-push}
use Rattle.std.specs.List.{All}
use Rattle.clru_linked_map.specs.Announced.{IsHashed}
use Rattle.clru_linked_map.specs.declared.announced.Hashed.{Hashed}
use Rattle.clru_linked_map.proofs.Strings.{part_behind, part_stays}

module _ (of : List ℕ → ℕ) (bytes more : List ℕ) where
  -- more bytes leave a string
  hashed_stays : (s : Hashed) → IsHashed of bytes s → IsHashed of (bytes ++ more) s
  hashed_stays s is = record {
    order = is.order;
    within = omega (arith, is.within, length-append bytes more);
    hashed = is.hashed ∙ ap of (sym (part_stays bytes more s.start s.end is.order is.within));
  }

  -- with one more behind, all have their hashes
  pub all_more : (ss : List Hashed) (s : Hashed) → All (IsHashed of bytes) ss → s.start ≡ length bytes → s.end ≡ length bytes + length more
      → s.hash ≡ of more → All (IsHashed of (bytes ++ more)) (ss ++ s ∷ [])
  all_more ss s all starts ends hashed =
      All-push (IsHashed of (bytes ++ more)) ss s (λ k d within. hashed_stays (slice_index_or ss k d) (all k d within)) (record {
        order = omega (arith, starts, ends);
        within = omega (arith, ends, length-append bytes more);
        hashed = hashed ∙ ap of (sym (rw (starts, ends) (part_behind bytes more)));
      })
