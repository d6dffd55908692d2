use Rattle.std.proofs.Common.{◌≡◌, eqb, take, drop, length, sym, ap, ◌∙◌, arith, w8}
use lib.Count.{count_trailing_zeros}
use Rattle.std.proofs.lemmas.Simd.{bitmask_splat, length-chunk, leading_from_mask_l, trailing_mask_l}
use Rattle.clru_log.proofs.newline.first_of_sixteen.Goals as goal

pub returns-then-newlines-eq0 : goal.returns-then-newlines-eq0
returns-then-newlines-eq0 c =
    let v = take 16 (drop c.args.start c.args.bytes.now) in
    let long : length v ≡ 16 = length-chunk c.args.start 16 c.args.bytes.now c.requires in
    let mask = bitmask_splat w8 eqb v 16 10 long (omega arith) in
    sym (leading_from_mask_l (λ b. eqb b 10) v (sym mask ∙ c.if-newlines-eq0.true) ∙ long)

pub returns-else-newlines-eq0 : goal.returns-else-newlines-eq0
returns-else-newlines-eq0 c =
    let v = take 16 (drop c.args.start c.args.bytes.now) in
    let long : length v ≡ 16 = length-chunk c.args.start 16 c.args.bytes.now c.requires in
    let mask = bitmask_splat w8 eqb v 16 10 long (omega arith) in
    ap (λ m. count_trailing_zeros 64 m) mask ∙ trailing_mask_l (λ b. eqb b 10) 64 v (omega arith) (omega (arith, mask, c.if-newlines-eq0.false))
