-- What the two puts of a cache have to do with each other. Public clauses cite it.
use Rattle.std.specs.Prelude.{◌≡◌, ℕ, Bool, Option}
use Rattle.std.specs.Fn.{Mut}
use Rattle.std.specs.Map.{lookup}
use Rattle.std.specs.Option.{option_to_list}
use Rattle.clru_model.specs.Entries.{plain_drop, weighted_drops}
use Rattle.clru.specs.Cache.{Cache, IsValid}
use Rattle.clru.specs.Drops.{HandsOutTo}
use Rattle.clru.specs.declared.cache.answer.Put.{Put}

module _ {K V F : Type 0} (eq : K → K → Bool) (g : Mut F (K × (V × Unit {0})) (Unit {0})) where
  -- what the contracts tell of a plain put and a weighted put at weight zero, of one pair into one cache, where both are taken:
  -- the plain one answers `put`, the weighted one answers `old` and leaves the closure f as f'
  pub record IsPutBothWays {W : Type 0} (weight : K → V → ℕ) (c : Cache K V W) (x : K) (v : V)
      (put : Put K V) (f : F) (old : Option V) (f' : F) : Type 0 where
    pub weightless : (y : K) (w : V) → weight y w ≡ 0
    pub valid : IsValid eq weight c
    pub replaced : put.replaced ≡ lookup (eq x) c.entries
    pub dropped : put.dropped ≡ plain_drop eq c.capacity x c.entries
    pub answer : old ≡ lookup (eq x) c.entries
    pub handed_out : HandsOutTo g f (weighted_drops eq weight c.capacity x v c.entries) f'

  module _ (W : Type 0) where
    -- what the plain put replaced is what the weighted put answers
    abbrev pub ReplacedIsAnswered : Type 0
    ReplacedIsAnswered = (weight : K → V → ℕ) (c : Cache K V W) (x : K) (v : V)
        (put : Put K V) (f : F) (old : Option V) (f' : F)
        → IsPutBothWays weight c x v put f old f' → put.replaced ≡ old

    -- the weighted put calls the closure exactly on the pair that the plain put answers as dropped
    abbrev pub DroppedIsHandedOut : Type 0
    DroppedIsHandedOut = (weight : K → V → ℕ) (c : Cache K V W) (x : K) (v : V)
        (put : Put K V) (f : F) (old : Option V) (f' : F)
        → IsPutBothWays weight c x v put f old f' → HandsOutTo g f (option_to_list put.dropped) f'
