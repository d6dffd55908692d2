use Rattle.std.proofs.Common.{◌≡◌, fold, length, length-take, get_or, take_all, take-append-drop, subst, sym, ap, ap₂, ◌∙◌, ◌++◌, arith}
use Rattle.std.proofs.hash.Loops.{byte_more}
use Rattle.std.proofs.lemmas.List.Sums.{fold-append}
use Rattle.std.specs.Hash.DefaultHasher.{wrapping_add, write, write_byte, write_word}
use Rattle.clru_text.specs.SipHasher.{as_std, from_std, number_of}
use Rattle.clru_text.proofs.SipLemmas.{AreBytes, AreBytes-drop, AreBytes-take, number_of_8, rest_written, with_tail, word_written, write_word_keeps}
use Rattle.clru_text.proofs.hasher.SipHasher13Hasher.write.Goals as goal

pub loop-byte-preserved : goal.loop-byte-preserved
loop-byte-preserved c =
    let bytes = c.args.bytes.now in let i = c.loop-byte.byte-index in
    c.write_byte.ensures ∙ ap (λ x. from_std (write_byte (as_std x) (get_or bytes i 0))) c.loop-byte.invariant
    ∙ ap from_std (sym (byte_more write_byte (as_std c.args.self.now) bytes i (omega arith)))

pub returns-then-self-ne0 : goal.returns-then-self-ne0
unfolding write
returns-then-self-ne0 c =
    let bytes = c.args.bytes.now in
    c.loop-byte.invariant ∙ ap (λ l. from_std (fold write_byte (as_std c.args.self.now) l)) (take_all c.loop-byte.byte-index bytes (omega arith))

pub words-preserved : goal.words-preserved
words-preserved c =
    let s = as_std c.words.self in let inv = c.words.invariant in let found = c.in-Some.ensures.cases in
    let rest = c.words.rest.now in let word = c.in-Some.word.now in let behind = c.in-Some.behind.now in
    let cut : word ++ behind ≡ rest = ap₂ (λ x y. x ++ y) found.0 found.1 ∙ take-append-drop 8 rest in
    let eight : length word ≡ 8 = omega (arith, ap length found.0, length-take 8 rest, found.2) in
    let after = c.write_word.ensures ∙ ap (λ m. from_std (write_word s m)) (c.from_le_bytes.ensures ∙ number_of_8 word eight) in
    let keeps = write_word_keeps s (number_of word) in
    let tail : c.write_word.new.self.tail ≡ 0 = ap (λ x. x.tail) after ∙ keeps.0 ∙ inv.3 in
    let count : c.write_word.new.self.length ≡ s.length = ap (λ x. x.length) after ∙ keeps.1 in (
      (λ i. fold write_byte (with_tail (as_std (after i)) (tail i) (wrapping_add (count i) 8)) behind)
          ∙ ap (λ x. fold write_byte x behind) (sym (word_written s inv.1 inv.2 inv.3 word (subst AreBytes (sym found.0) (AreBytes-take 8 rest inv.4)) eight))
          ∙ sym (fold-append write_byte s word behind) ∙ ap (fold write_byte s) cut ∙ inv.0,
      omega arith,
      omega arith,
      tail,
      subst AreBytes (sym found.1) (AreBytes-drop 8 rest inv.4),
    )

pub returns : goal.returns
unfolding write
returns c =
    let s = as_std c.words.self in let inv = c.words.invariant in let rest = c.words.rest.now in
    ap (λ t. from_std (with_tail s t (wrapping_add s.length (length rest)))) c.number-self.ensures
    ∙ ap from_std (sym (rest_written s inv.1 inv.2 inv.3 rest inv.4 c.in_default.ensures.cases) ∙ inv.0)
