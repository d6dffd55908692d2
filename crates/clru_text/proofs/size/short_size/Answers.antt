use Rattle.std.proofs.Common.{◌≡◌, ℕ, List, Option, None, Some, sym, ap, ◌∙◌, arith}
use Rattle.std.specs.Int.NonZero.{non_zero_usize_get}
use Rattle.std.specs.Option.{IfSome, MatchOption}
use Rattle.std.specs.declared.num.NonZeroUsize.{NonZeroUsize}
use Rattle.clru_text.proofs.SizeFigures.{size_split}
use Rattle.clru_text.specs.Sizes.{size_of_line}
use Rattle.clru_text.proofs.size.short_size.Goals as goal

found : (line : List ℕ) (n : ℕ) (o : Option NonZeroUsize) → MatchOption o (n ≡ 0) (λ x. non_zero_usize_get x ≡ n) → size_of_line line ≡ Some n
    → IfSome o (λ size. size_of_line line ≡ Some (non_zero_usize_get size))
found line n None new is = tt
found line n (Some x) new is = is ∙ ap (λ m. Some m) (sym new)

pub returns : goal.returns
returns c =
    let n = c.leading_number-size.result.0 in let at = c.leading_number-size.result.1 in let read = c.leading_number-size.ensures in
    found c.args.line.now n c.new.result c.new.ensures
    (size_split c.args.line.now at n (read.named (omega arith)) read.digits (omega arith) c.if-line-at-ne32.false (omega arith) (omega (arith, read.below)))
