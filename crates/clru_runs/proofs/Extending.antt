-- Plain puts of the pairs of a vector in turn.
use Rattle.std.proofs.Common.{◌≡◌, Bool, List, [], ◌∷◌, ◌++◌, Result, Ok, Err, sym, ap, ◌∙◌, subst}
use Rattle.std.proofs.IntoIterSteps.{takes, All-taken}
use Rattle.std.specs.Iterator.{Yields}
use Rattle.std.specs.declared.vec.IntoIter.{IntoIter}
use Rattle.clru.specs.Cache.{Cache}
use Rattle.clru.specs.Collecting.{PutsAll, PutsItems}
use Rattle.clru_runs.specs.Step.{Extends}

-- what an iterator of a vector gave stands before what it has left
taken_before : {T A : Type 0} (it : IntoIter T A) (xs : List T) (rest : IntoIter T A) → Yields takes it xs rest → it.rest.items ≡ xs ++ rest.rest.items
taken_before it [] rest y = ap (λ s. s.rest.items) y
taken_before it (x ∷ xs) rest y = y.1.0 ∙ ap (λ ys. x ∷ ys) (taken_before y.0 xs rest y.2)

-- puts of what the iterator gives are puts of the vector's pairs
pub extends_pairs : {K V W A : Type 0} (eq : K → K → Bool) (it : IntoIter (K × V) A) (es : List (K × V)) → it.rest.items ≡ es → (old new : Cache K V W)
    (result : Result (Unit {0}) (K × V)) → PutsItems eq takes it old result new → Extends eq old es result new
extends_pairs eq it es is old new (Ok done) put = subst (λ l. PutsAll eq old l new) (All-taken it put.0 put.1 ∙ is) put.2
extends_pairs eq it es is old new (Err e) put = (
  put.0,
  put.1.rest.items,
  put.2,
  sym is ∙ taken_before it put.0 put.3.0 put.3.1 ∙ ap (λ l. put.0 ++ l) put.3.2.0,
  put.4,
  put.5,
)
