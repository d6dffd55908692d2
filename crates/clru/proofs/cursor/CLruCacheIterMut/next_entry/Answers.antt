use Rattle.std.proofs.Common.{refl}
use Rattle.clru.proofs.CursorSteps.{passes, first-left}
use Rattle.clru.proofs.cursor.CLruCacheIterMut.next_entry.Goals as goal

pub returns : goal.returns
returns g c =
    let s = c.args.self.now in let r = c.entry_at.result in let at = c.entry_at.ensures.entry in (
      (refl, λ w. refl),
      record {
        lends = tt;
        entry = first-left s r.0.now r.1.now c.requires at;
        passes = λ w. passes s r.0.now r.1.now w c.requires at;
      },
    )
