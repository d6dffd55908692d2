use Rattle.std.proofs.Common.{◌++◌, ◌∷◌, [], ap, ◌∙◌, length, arith}
use Rattle.std.proofs.lemmas.List.{length-append, length-set}
use Rattle.clru_least.proofs.Laters.{narrow_behind, noted_first, noted_within, noted_again}
use Rattle.clru_least.proofs.pass.ForesightPass.request.Goals as goal

pub set-requires : goal.set-requires
set-requires g c =
    let old = c.self.inside.later.numbers in let given = c.requires in
    let pushed = c.in_ok-push.ensures.pushed ∙ ap (λ l. l ++ 0 ∷ []) c.widen_for.ensures.numbers in
    let below = noted_within g.K.PartialEq.eq g.met.K.Eq.laws given.0 old (c.self.view_is ∙ given.2) given.1 c.args.latest given.3 c.in-Some.latest c.in-Some.is in
    let long = ap (λ l. length l) pushed ∙ length-append old (0 ∷ []) in
    record {
      at = omega (arith, below, long);
      some = omega (arith, below, long);
      fits = omega (arith, c.in_ok-widen_for.ensures.fits, c.push.ensures.greatest);
    }

pub invariant_of-self-in-Some : goal.invariant_of-self-in-Some
invariant_of-self-in-Some g c =
    let given = c.requires in
    let pushed = c.in_ok-push.ensures.pushed ∙ ap (λ l. l ++ 0 ∷ []) c.widen_for.ensures.numbers in
    record {
      past = given.1 ∷ given.0;
      taken = noted_again g.K.PartialEq.eq g.met.K.Eq.laws given.0 c.self.inside.later.numbers (c.self.view_is ∙ given.2) given.1 c.args.latest given.3
          c.in-Some.latest c.in-Some.is c.len-position.result c.push.new.self.numbers c.set.new.self.numbers c.len-position.ensures pushed c.set.ensures.numbers;
      narrow = narrow_behind c.self.inside.later c.widen_for.new.self c.set.new.self c.self.invariant.narrow
          (λ fits. c.widen_for.ensures.stays (omega (arith, fits, c.len-position.ensures)))
          (ap (λ l. length l) c.set.ensures.numbers ∙ length-set c.push.new.self.numbers c.in-Some.latest c.len-position.result
          ∙ ap (λ l. length l) pushed ∙ length-append c.self.inside.later.numbers (0 ∷ []))
          (c.set.ensures.greatest ∙ c.push.ensures.greatest);
    }

pub invariant_of-self-in-None : goal.invariant_of-self-in-None
invariant_of-self-in-None g c =
    let given = c.requires in
    let pushed = c.in_ok-push.ensures.pushed ∙ ap (λ l. l ++ 0 ∷ []) c.widen_for.ensures.numbers in
    record {
      past = given.1 ∷ given.0;
      taken = noted_first g.K.PartialEq.eq g.met.K.Eq.laws given.0 c.self.inside.later.numbers (c.self.view_is ∙ given.2) given.1 c.args.latest given.3
          c.push.new.self.numbers c.in-None.is pushed;
      narrow = narrow_behind c.self.inside.later c.widen_for.new.self c.push.new.self c.self.invariant.narrow
          (λ fits. c.widen_for.ensures.stays (omega (arith, fits, c.len-position.ensures)))
          (ap (λ l. length l) pushed ∙ length-append c.self.inside.later.numbers (0 ∷ [])) c.push.ensures.greatest;
    }

pub returns-in-Some-clause-taken : goal.returns-in-Some-clause-taken
returns-in-Some-clause-taken g c past key is of =
    let pushed = c.in_ok-push.ensures.pushed ∙ ap (λ l. l ++ 0 ∷ []) c.widen_for.ensures.numbers in
    noted_again g.K.PartialEq.eq g.met.K.Eq.laws past c.self.inside.later.numbers (c.self.view_is ∙ is) key c.args.latest of
    c.in-Some.latest c.in-Some.is c.len-position.result c.push.new.self.numbers c.set.new.self.numbers c.len-position.ensures pushed c.set.ensures.numbers

pub returns-in-None-clause-taken : goal.returns-in-None-clause-taken
returns-in-None-clause-taken g c past key is of =
    let pushed = c.in_ok-push.ensures.pushed ∙ ap (λ l. l ++ 0 ∷ []) c.widen_for.ensures.numbers in
    noted_first g.K.PartialEq.eq g.met.K.Eq.laws past c.self.inside.later.numbers (c.self.view_is ∙ is) key c.args.latest of
    c.push.new.self.numbers c.in-None.is pushed
