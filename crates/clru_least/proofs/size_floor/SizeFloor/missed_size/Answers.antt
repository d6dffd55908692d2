use Rattle.std.proofs.Common.{◌-◌, ◌*◌, nat_le, ap, ◌∙◌}
use Rattle.std.specs.Int.NonZero.{non_zero_usize_get}
use Rattle.std.specs.List.{prefix_len}
use Rattle.clru_least.specs.FloorNumbers.{hit_size_at, size_floor_at}
use Rattle.clru_least.proofs.size_floor.SizeFloor.missed_size.Goals as goal

pub returns : goal.returns
returns g c =
    let s = c.self.inside in
    let paid = c.get.result * s.requests in
    ap (λ n. s.size - n) (c.hit_size.ensures.value
    ∙ ap (λ l. hit_size_at paid l (prefix_len (λ t. nat_le t.volume paid) l)) c.deref.ensures.value
    ∙ ap (λ h. hit_size_at (h * s.requests) s.steps.items (prefix_len (λ t. nat_le t.volume (h * s.requests)) s.steps.items)) c.get.ensures.value)
    ∙ ap (λ f. size_floor_at f (non_zero_usize_get c.args.room)) c.self.view_is
