use Rattle.std.proofs.Common.{ℕ, List, inr, refl}
use Rattle.std.specs.Str.{bytes_eq}
use Rattle.std.specs.String.{string_bytes, string_eq, string_eq_equiv}
use Rattle.clru.proofs.CallerLemmas.{lookup-lent, lookup-plain_put}
use Rattle.clru_uses.proofs.texts.look.Goals as goal

pub returns-in-Some-clause-counted : goal.returns-in-Some-clause-counted
returns-in-Some-clause-counted c =
    inr (_, refl, lookup-lent (λ (text : List ℕ) key. bytes_eq text (string_bytes key)) c.args.page.now c.args.looks.now.entries c.in-Some.ensures.value _)

pub returns-in-Ok-put-clause-counted : goal.returns-in-Ok-put-clause-counted
returns-in-Ok-put-clause-counted c =
    inr (1, refl, rw (← c.in-Ok.ensures.ok, c.in-Ok-put.ensures.entries) (lookup-plain_put string_eq string_eq_equiv _ c.in-Ok.key 1 _))
