use Rattle.std.proofs.Common.{◌≡◌, ◌+◌, length, arith}
use Rattle.clru_linked_map.specs.declared.announced.Hashed.{Hashed}
use Rattle.clru_linked_map.proofs.AnnouncedStrings.{all_more}
use Rattle.clru_linked_map.proofs.announced.Announced.push.Goals as goal

pub returns-in_default : goal.returns-in_default
returns-in_default g c = λ of hashed all. rw (c.reserve.ensures.items) (c.drop_passed.ensures of all)

pub returns-in_default-extend_from_slice : goal.returns-in_default-extend_from_slice
returns-in_default-extend_from_slice g c = λ of hashed all.
    rw (c.reserve.ensures.items, c.in_default-extend_from_slice.ensures.items) (c.drop_passed.ensures of all)

pub returns : goal.returns
returns g c = λ of hashed all.
    let a = c.drop_passed.new.self in let more = c.args.bytes.now in
    let s : Hashed = record { start = c.len-start.result; end = c.len-end.result; hash = c.args.hash } in
    let starts : s.start ≡ length a.bytes.items = omega (arith, c.len-start.ensures, a.bytes.ok.0) in
    let ends : s.end ≡ length a.bytes.items + length more =
    omega (arith, c.len-end.ensures, c.in-Ok-extend_from_slice.ensures.len, a.bytes.ok.0) in
    rw (c.push_reserved.ensures.items, c.reserve.ensures.items, c.in-Ok-extend_from_slice.ensures.items)
    (all_more of a.bytes.items more a.strings.items s (c.drop_passed.ensures of all) starts ends hashed)
