-- The lines that a log tells by the numbers of its keys, one by one.
use Rattle.std.proofs.Common.{◌≡◌, ℕ, suc, ◌+◌, ◌<◌, List, [], ◌∷◌, ◌++◌, drop, get_or, length, take, add-one, drop-cons, take-append-drop, take-suc, sym, ap, ◌∙◌, subst, arith}
use Rattle.std.specs.Prelude.{decimal, slice_index}
use Rattle.std.proofs.lemmas.List.{get_or-map, get_or_default, length-map}
use Rattle.clru_text.specs.Keys.{line_of}
use Rattle.clru_text.specs.declared.lines.OwnedKey.{OwnedKey}
use Rattle.clru_report.specs.KeyLogs.{HasKeys, line_at, lines_in}
use Rattle.clru_report.specs.declared.sized.key_log.KeyLog.{KeyLog}

module _ {A : Type 0} (log : KeyLog A) where
  -- the number of a request is that of a key
  pub key_read : (i number : ℕ) → HasKeys log → i < length log.requests.items → number ≡ get_or log.requests.items i number
      → number < length log.tails.items
  key_read i number keys low is = subst (λ n. n < length log.tails.items) (sym is) (keys.numbered i number low)

  -- the line that is made of the numbers of a request
  pub line_read : (i number size : ℕ) (tail : OwnedKey A) (line : List ℕ) → HasKeys log → i < length log.requests.items
      → number ≡ get_or log.requests.items i number → size ≡ get_or log.sizes.items number size
      → tail ≡ get_or log.tails.items number tail → line ≡ decimal size ++ line_of tail
      → line ≡ line_at log (slice_index log.requests.items i)
  line_read i number size tail line keys low is sized tailed made =
      let key = key_read i number keys low is in
      let size_is : size ≡ slice_index log.sizes.items number =
      sized ∙ get_or_default log.sizes.items number size 0 (omega (arith, key, keys.sized)) in
      made ∙ ap (λ s. decimal s ++ line_of tail) size_is
      ∙ ap (λ t. decimal (slice_index log.sizes.items number) ++ t)
      (ap line_of tailed ∙ sym (get_or-map line_of log.tails.items number tail [] key))
      ∙ ap (line_at log) (is ∙ get_or_default log.requests.items i number 0 low)

  module _ (i : ℕ) (low : i < length log.requests.items) where
    abbrev next : List ℕ
    next = line_at log (slice_index log.requests.items i)

    next_is : get_or (lines_in log) i [] ≡ next
    next_is = get_or-map (line_at log) log.requests.items i 0 [] low

    low_line : i < length (lines_in log)
    low_line = omega (arith, low, length-map log.requests.items (line_at log))

    -- one more line
    pub one_more_line : take (i + 1) (lines_in log) ≡ take i (lines_in log) ++ next ∷ []
    one_more_line = ap (λ j. take j (lines_in log)) (add-one i) ∙ take-suc (lines_in log) i [] low_line
        ∙ ap (λ l. take i (lines_in log) ++ l ∷ []) next_is

    -- the lines around it
    pub lines_around : lines_in log ≡ take i (lines_in log) ++ next ∷ drop (suc i) (lines_in log)
    lines_around = sym (take-append-drop i (lines_in log))
        ∙ ap (λ ls. take i (lines_in log) ++ ls) (drop-cons (lines_in log) i [] low_line ∙ ap (λ l. l ∷ drop (suc i) (lines_in log)) next_is)
