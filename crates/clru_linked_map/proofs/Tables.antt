-- One string more in a table.
use Rattle.std.proofs.Common.{◌≡◌, ℕ, ◌+◌, ◌<◌, ◌≤◌, List, [], ◌∷◌, ◌++◌, length, slice_range, sym, ap, ◌∙◌, subst, arith}
use Rattle.std.proofs.lemmas.List.{length-append}
use Rattle.std.specs.Map.{lookup}
use Rattle.std.specs.Prelude.{None, bytes_eq}
use Rattle.clru_linked_map.specs.BytesTable.{AreApart, Fills, IsTable, KeepsStrings, entries_of, entries_onto, hashes_of}
use Rattle.clru_linked_map.specs.Stacked.{IsStacked}
use Rattle.clru_linked_map.specs.declared.bytes_table.BytesTable.{BytesTable}
use Rattle.clru_linked_map.specs.declared.bytes_table.Item.{Item}
use Rattle.clru_linked_map.proofs.Strings.{entries_more, entries_stay, fills_more, none_found, part_behind}

-- the entries with one more
entries_pushed : {V : Type 0} (bytes more : List ℕ) (is : List (Item V)) (i : Item V) → Fills 0 (length bytes) is
    → i.end ≡ length bytes + length more → entries_onto (bytes ++ more) 0 (is ++ i ∷ []) [] ≡ (more, i.value) ∷ entries_onto bytes 0 is []
entries_pushed {V} bytes more is i fills ends =
    entries_more (bytes ++ more) 0 (length bytes) is i [] fills
    ∙ ap (λ s. (s, i.value) ∷ entries_onto (bytes ++ more) 0 is []) (ap (slice_range (bytes ++ more) (length bytes)) ends ∙ part_behind bytes more)
    ∙ ap (λ (es : List (List ℕ × V)). (more, i.value) ∷ es) (entries_stay bytes more 0 is [] fills)

module _ {V S A : Type 0} (t u : BytesTable V S A) where
  -- other indices over the same strings leave the entries
  pub entries_kept : KeepsStrings t u → entries_of u ≡ entries_of t
  entries_kept keeps =
      ap (λ b. entries_onto b 0 u.held.items []) keeps.buffer ∙ ap (λ is. entries_onto t.buffer.items 0 is []) keeps.held

  module _ (more : List ℕ) (i : Item V) (buffer : u.buffer.items ≡ t.buffer.items ++ more) (held : u.held.items ≡ t.held.items ++ i ∷ [])
      (ends : i.end ≡ length t.buffer.items + length more) where
    -- a string behind comes in front of the entries
    pub entries_taken : Fills 0 (length t.buffer.items) t.held.items → entries_of u ≡ (more, i.value) ∷ entries_of t
    entries_taken fills =
        ap (λ b. entries_onto b 0 u.held.items []) buffer ∙ ap (λ is. entries_onto (t.buffer.items ++ more) 0 is []) held
        ∙ entries_pushed t.buffer.items more t.held.items i fills ends

    -- and is one of the table once it is linked
    pub table_taken : {hash : S → List ℕ → ℕ} → IsTable hash t → lookup (bytes_eq more) (entries_of t) ≡ None → u.hash_builder ≡ t.hash_builder
        → IsStacked u.index (hash t.hash_builder more ∷ hashes_of (hash t.hash_builder) (entries_of t))
        → length t.held.items < length u.index.links → length u.index.links ≤ u.index.bound → IsTable hash u
    table_taken {hash} table absent builder stacked linked named =
        let all : length u.buffer.items ≡ length t.buffer.items + length more = omega (arith, ap length buffer, length-append t.buffer.items more) in
        record {
          fills = subst (λ (is : List (Item V)). Fills 0 (length u.buffer.items) is) (sym held)
              (fills_more 0 (length t.buffer.items) (length u.buffer.items) t.held.items i table.fills (omega (arith, all)) (ends ∙ sym all));
          apart = subst AreApart (sym (entries_taken table.fills)) (none_found (bytes_eq more) (entries_of t) absent, table.apart);
          stacked = subst (λ (b : S). IsStacked u.index (hashes_of (hash b) (entries_of u))) (sym builder)
              (subst (λ (es : List (List ℕ × V)). IsStacked u.index (hashes_of (hash t.hash_builder) es)) (sym (entries_taken table.fills)) stacked);
          linked = omega (arith, ap length held, length-append t.held.items (i ∷ []), linked);
          named = named;
        }
