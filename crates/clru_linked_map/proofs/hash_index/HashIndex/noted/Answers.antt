use Rattle.std.proofs.Common.{◌≡◌, ◌+◌, ap, arith}
use Rattle.clru_linked_map.specs.BucketList.{place_numbered}
use Rattle.clru_linked_map.proofs.Numbers.{led_place, led_tag, led_more, led_fits, ended_place, ended_tag}
use Rattle.clru_linked_map.proofs.hash_index.HashIndex.noted.Goals as goal

pub returns-then-leads-clause-place : goal.returns-then-leads-clause-place
returns-then-leads-clause-place g c =
    let s = c.self.inside in let low : c.low_in-low.result ≡ s.mask + s.tags = omega (arith, c.low_in-low.ensures, c.self.invariant.fits) in
    rw (← c.self.view_is) (rw low (ap place_numbered (led_place s.mask s.tags c.self.invariant.shaped c.args.number)))

pub returns-then-leads-clause-tag : goal.returns-then-leads-clause-tag
returns-then-leads-clause-tag g c =
    let s = c.self.inside in let low : c.low_in-low.result ≡ s.mask + s.tags = omega (arith, c.low_in-low.ensures, c.self.invariant.fits) in
    rw (← c.self.view_is) (rw low (led_tag s.mask s.tags c.self.invariant.shaped c.args.number))

pub returns-then-leads-clause-leads : goal.returns-then-leads-clause-leads
returns-then-leads-clause-leads g c =
    let s = c.self.inside in let low : c.low_in-low.result ≡ s.mask + s.tags = omega (arith, c.low_in-low.ensures, c.self.invariant.fits) in
    rw (← c.self.view_is) (rw low (λ t. led_more s.mask s.tags c.self.invariant.shaped c.args.number))

pub returns-then-leads-clause-fits : goal.returns-then-leads-clause-fits
returns-then-leads-clause-fits g c =
    let s = c.self.inside in let low : c.low_in-low.result ≡ s.mask + s.tags = omega (arith, c.low_in-low.ensures, c.self.invariant.fits) in
    let fits = c.requires.fits in let old = rw (← c.self.view_is) at fits in
    let new = led_fits s.mask s.tags c.self.invariant.shaped c.args.number (omega (arith, old)) in
    rw (← c.self.view_is) (rw low (omega (arith, new)))

pub returns-else-leads-clause-place : goal.returns-else-leads-clause-place
returns-else-leads-clause-place g c =
    let s = c.self.inside in let low : c.low_in-low.result ≡ s.mask + s.tags = omega (arith, c.low_in-low.ensures, c.self.invariant.fits) in
    rw (← c.self.view_is) (rw low (ap place_numbered (ended_place s.mask s.tags c.self.invariant.shaped c.args.number)))

pub returns-else-leads-clause-tag : goal.returns-else-leads-clause-tag
returns-else-leads-clause-tag g c =
    let s = c.self.inside in let low : c.low_in-low.result ≡ s.mask + s.tags = omega (arith, c.low_in-low.ensures, c.self.invariant.fits) in
    rw (← c.self.view_is) (rw low (ended_tag s.mask s.tags c.self.invariant.shaped c.args.number))
