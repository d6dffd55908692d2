use Rattle.std.proofs.Common.{◌≡◌, true, is_ok, rules, refl}
use Rattle.std.proofs.lemmas.Fn.{FoldsTo-push}
use Rattle.clru.specs.Collecting.{PutStep}
use Rattle.clru.proofs.cache.extend.CLruCache+K+V+S+ZeroWeightScale+A.extend.Goals as goal

pub loop-key-init : goal.loop-key-init
loop-key-init g c =
    let it = c.into_iter-key-iterator in let ends = c.requires it.result it.ensures.into_iter_gives in
    record { next = ends.0; ends = ends.1; put = refl }

pub loop-key-preserved : goal.loop-key-preserved
loop-key-preserved g c =
    let before = c.loop-key.invariant in let ends = c.in-Some.ensures.goes.on before.ends in
    let done : is_ok c.put.result ≡ true = search rules in
    record {
      next = ends.0;
      ends = ends.1;
      put = FoldsTo-push (PutStep g.K.PartialEq.eq) c.args.self.now c.loop-key.yielded c.loop-key.self (c.in-Some.key, c.in-Some.value) c.put.new.self
          before.put (record { entries = rw done at c.put.ensures.entries; places = c.put.ensures.places });
    }

pub returns-in-Err : goal.returns-in-Err
returns-in-Err g c =
    let it = c.into_iter-key-iterator in let refused = c.in-Err.ensures in (
      it.result,
      it.ensures.into_iter_gives,
      (
        c.loop-key.yielded,
        c.next.new.self,
        c.loop-key.self,
        (c.loop-key.key-iterator, c.loop-key.yielded_by, rw refused.refused c.in-Some.ensures.steps),
        c.loop-key.invariant.put,
        rw refused.refused (record { needs = refused.memory refl; entries = refused.entries; places = refused.places }),
      ),
    )

pub returns : goal.returns
returns g c =
    let it = c.into_iter-key-iterator in (
      it.result,
      it.ensures.into_iter_gives,
      (
        c.loop-key.yielded,
        (c.next.new.self, (c.loop-key.key-iterator, c.loop-key.yielded_by, c.in-None.ensures.steps)),
        c.loop-key.invariant.put,
      ),
    )
