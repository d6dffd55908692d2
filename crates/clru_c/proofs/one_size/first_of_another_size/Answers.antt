use Rattle.std.proofs.Common.{◌≡◌, ◌+◌, true, false, [], ◌∷◌, drop, get_or, nat_eq, sym, ap, ◌∙◌, arith}
use Rattle.std.specs.HashMap.{get}
use Rattle.std.specs.Map.{lookup}
use Rattle.std.proofs.lemmas.List.{drop_all}
use Rattle.std.proofs.lemmas.Slice.Zip.{length-zip}
use Rattle.std.specs.List.{zip}
use Rattle.clru_c.specs.OneSize.{first_other, is_another}
use Rattle.clru_c.proofs.OneSize.{came_more, first_behind, first_here, next_of}
use Rattle.clru_c.proofs.one_size.first_of_another_size.Goals as goal

pub loop-index-init : goal.loop-index-init
loop-index-init g c = (
  [],
  λ p. sym (ap (λ es. is_another (lookup (nat_eq p.0) es) p.1) c.with_hasher-held.ensures.empty),
  omega arith,
)

pub loop-index-preserved : goal.loop-index-preserved
loop-index-preserved g c =
    let keys = c.args.keys.now in let sizes = c.args.sizes.now in let i = c.loop-index.index in
    let key = get_or keys i 0 in let size = get_or sizes i 0 in let before = c.loop-index.invariant in
    let find = get nat_eq c.loop-index.held in let rest = drop (i + 1) (zip keys sizes) in
    let none : is_another (find key) size ≡ false =
    ap (λ o. is_another o size) (sym c.in-Ok.ensures.old) ∙ sym c.is_other.ensures ∙ c.if-is_other.false in (
      (key, size) ∷ before.0,
      came_more before.0 find (get nat_eq c.insert.new.self) key size before.1 c.in-Ok.ensures.updates.0 none,
      omega (
        arith,
        before.2,
        ap (first_other before.0) (next_of keys sizes c.requires.equally_long i c.loop-index-test.true),
        first_behind before.0 rest (key, size) (before.1 (key, size) ∙ none),
      ),
    )

pub returns-then-is_other-clause-first : goal.returns-then-is_other-clause-first
returns-then-is_other-clause-first g c =
    let keys = c.args.keys.now in let sizes = c.args.sizes.now in let i = c.loop-index.index in
    let key = get_or keys i 0 in let size = get_or sizes i 0 in let before = c.loop-index.invariant in
    let other : is_another (get nat_eq c.loop-index.held key) size ≡ true =
    ap (λ o. is_another o size) (sym c.in-Ok.ensures.old) ∙ sym c.is_other.ensures ∙ c.if-is_other.true in
    omega (
      arith,
      before.2,
      ap (first_other before.0) (next_of keys sizes c.requires.equally_long i c.loop-index-test.true),
      first_here before.0 (drop (i + 1) (zip keys sizes)) (key, size) (before.1 (key, size) ∙ other),
    )

pub returns-clause-first : goal.returns-clause-first
returns-clause-first g c =
    let all = zip c.args.keys.now c.args.sizes.now in let before = c.loop-index.invariant in
    let end : drop c.loop-index.index all ≡ [] = drop_all c.loop-index.index all
    (omega (arith, length-zip c.args.keys.now c.args.sizes.now, c.loop-index-test.false)) in
    omega (arith, before.2, ap (first_other before.0) end, c.loop-index-test.false, c.loop-index.auto.index-end)
