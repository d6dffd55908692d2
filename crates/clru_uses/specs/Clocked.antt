-- What is promised of a text with the time of its fetch. Public clauses cite it.
use Rattle.std.specs.Prelude.{◌≡◌, ℕ, ◌+◌, ◌%◌, ◌^◌}
use Rattle.clru_uses.specs.declared.clocked.Dated.{Dated}

-- the text is the one that the page had at the text's time
abbrev pub IsOfItsTime : ℕ → Dated → Type 0
IsOfItsTime page dated = dated.text ≡ (page + dated.at) % 2 ^ 64
