use Rattle.std.proofs.Common.{◌-◌, ◌<◌, sym, ◌∙◌, arith}
use Rattle.std.proofs.lemmas.Bool.{not-false, not-true}
use Rattle.clru_least.specs.Chains.{number_in}
use Rattle.clru_least.proofs.ChainWalks.{leads_on, leads_within, same_read, walked_more, walked_none}
use Rattle.clru_least.proofs.chains.Chains.find.Goals as goal

pub chain-init : goal.chain-init
chain-init g c =
    let f = number_in c.args.self.now.numbers.numbers in let ahead = c.requires.chain in
    record {
      sought = λ chain x is _. walked_none g.K.PartialEq.eq c.args.keys.now f x chain c.args.first is.leads;
      behind = omega arith;
      found = leads_within f c.args.first c.args.position ahead;
      link = λ some. (leads_on f c.args.first c.args.position ahead some).1;
      ahead = ahead;
    }

pub chain-preserved : goal.chain-preserved
chain-preserved g c =
    let eq = g.K.PartialEq.eq in let keys = c.args.keys.now in let i = c.args.position in
    let f = number_in c.args.self.now.numbers.numbers in let n = c.chain.number in
    let some : 0 < n = omega (arith, c.chain-test.true) in
    let on = leads_on f n i c.chain.invariant.ahead some in
    rw c.get-number.ensures.number
    record {
      sought = λ chain x leads is.
          walked_more eq keys f x chain c.chain.behind n (c.chain.invariant.sought chain x leads is) some
          (same_read eq keys x c.index-keys-position.result c.index-keys-number.result i (n - 1) is c.requires.position
          c.index-keys-position.is (omega (arith, on.0, c.requires.position)) c.index-keys-number.is
          ∙ not-true (eq c.index-keys-position.result c.index-keys-number.result) (sym c.ne.ensures ∙ c.if-ne.true));
      behind = c.chain.invariant.found;
      found = leads_within f (f (n - 1)) i on.2;
      link = λ more. (leads_on f (f (n - 1)) i on.2 more).1;
      ahead = on.2;
    }

pub returns-else-ne-clause-same : goal.returns-else-ne-clause-same
returns-else-ne-clause-same g c x is some =
    let eq = g.K.PartialEq.eq in let n = c.chain.number in
    same_read eq c.args.keys.now x c.index-keys-position.result c.index-keys-number.result c.args.position (n - 1) is c.requires.position
    c.index-keys-position.is (omega (arith, some, c.chain.invariant.found, c.requires.position)) c.index-keys-number.is
    ∙ not-false (eq c.index-keys-position.result c.index-keys-number.result) (sym c.ne.ensures ∙ c.if-ne.false)
