-- Days of dates that are read from a text.
use Rattle.std.proofs.Common.{◌≡◌, ℕ, ap, ◌∙◌}
use Rattle.clru_log.specs.Calendar.{days_to}

pub same_days : (year month day year' month' day' : ℕ) → year ≡ year' → month ≡ month' → day ≡ day' → days_to year month day ≡ days_to year' month' day'
same_days year month day year' month' day' years months days =
    ap (λ n. days_to n month day) years ∙ ap (λ n. days_to year' n day) months ∙ ap (λ n. days_to year' month' n) days
