-- What a caller's proof cites of puts of a whole sequence.
use Rattle.std.proofs.Common.{◌≡◌, max, Bool, List, [], ◌∷◌, length, Option, Result, Ok, Err, OnOk, IfOk, sym, ap, ◌∙◌}
use Rattle.std.specs.Iterator.{Drains}
use Rattle.clru.specs.Cache.{Cache}
use Rattle.clru.specs.Collecting.{PutsAll, PutsItems, CollectsItems, put_all}

module _ {K V W : Type 0} (eq : K → K → Bool) where
  -- puts of pairs leave the capacity
  pub capacity-PutsAll : (es : List (K × V)) (old new : Cache K V W) → PutsAll eq old es new → new.capacity ≡ old.capacity
  capacity-PutsAll [] old new put = ap (λ (c : Cache K V W). c.capacity) (sym put)
  capacity-PutsAll (e ∷ es) old new put = capacity-PutsAll es put.0 new put.2 ∙ put.1.places.capacity

  -- and the entries that follow from the pairs
  pub entries-PutsAll : (es : List (K × V)) (old new : Cache K V W) → PutsAll eq old es new
      → new.entries ≡ put_all eq old.capacity es old.entries
  entries-PutsAll [] old new put = ap (λ (c : Cache K V W). c.entries) (sym put)
  entries-PutsAll (e ∷ es) old new put = entries-PutsAll es put.0 new put.2
      ∙ ap (λ n. put_all eq n es put.0.entries) put.1.places.capacity ∙ ap (λ l. put_all eq old.capacity es l) put.1.entries

-- what is known where an iterator gives some pairs and no others
module _ {K V W S : Type 0} (eq : K → K → Bool) (next : S → Option (K × V) → S → Type 0) (it : S) (pairs : List (K × V))
    (whole : (es : List (K × V)) → Drains next it es → es ≡ pairs) (old : Cache K V W) where
  put_whole : (new : Cache K V W) → PutsItems eq next it old (Ok tt) new → new.entries ≡ put_all eq old.capacity pairs old.entries
  put_whole new put = entries-PutsAll eq put.0 old new put.2 ∙ ap (λ es. put_all eq old.capacity es old.entries) (whole put.0 put.1)

  -- after an `extend` that was not refused
  pub entries-extended : (result : Result (Unit {0}) (K × V)) (new : Cache K V W) → PutsItems eq next it old result new
      → OnOk result (new.entries ≡ put_all eq old.capacity pairs old.entries)
  entries-extended (Ok done) new put = put_whole new put
  entries-extended (Err e) new put = tt

  -- of what `from_iter` made
  pub entries-collected : {N : Type 0} (result : Result (Cache K V W) N) → CollectsItems eq next it old result
      → IfOk result (λ c. c.entries ≡ put_all eq old.capacity pairs old.entries)
  entries-collected (Ok c) made = ap (λ (d : Cache K V W). d.entries) made.2 ∙ put_whole made.0 made.1
  entries-collected (Err refusal) made = tt

  pub capacity-collected : {N : Type 0} (result : Result (Cache K V W) N) → CollectsItems eq next it old result
      → IfOk result (λ c. c.capacity ≡ max 1 (length (put_all eq old.capacity pairs old.entries)))
  capacity-collected (Ok c) made = ap (λ (d : Cache K V W). d.capacity) made.2 ∙ ap (λ es. max 1 (length es)) (put_whole made.0 made.1)
  capacity-collected (Err refusal) made = tt
