use Rattle.std.proofs.Common.{◌≡◌, ◌-◌, slice_get, refl, sym, ap, ◌∙◌, arith}
use Rattle.clru.specs.Walks.{cache_with, last_index}
use Rattle.clru.proofs.CursorSteps.{passes_back, last-left}
use Rattle.clru.proofs.cursor.CLruCacheIterMut.next_entry_back.Goals as goal

pub returns : goal.returns
returns g c =
    let s = c.args.self.now in let r = c.entry_at_back.result in
    let same : c.min-index.result - 1 ≡ last_index s = omega (arith, c.min-index.ensures, c.len.ensures.len) in
    let at = ap (slice_get s.cache.now.entries) (sym same) ∙ c.entry_at_back.ensures.entry in (
      (refl, λ w. ap (λ n. record { cache = record s.cache { now = cache_with s n w }; done = s.done; end = n }) same),
      record {
        lends = tt;
        entry = last-left s r.0.now r.1.now c.requires at;
        passes = λ w. passes_back s r.0.now r.1.now w c.requires at;
      },
    )
