use Rattle.std.proofs.Common.{◌≡◌, None, sym, ap, ◌∙◌, subst}
use Rattle.std.specs.Map.{lookup}
use Rattle.std.specs.Option.{option_copied}
use Rattle.std.specs.Str.{bytes_eq}
use Rattle.std.specs.String.{string_bytes}
use Rattle.clru_files.proofs.serve.serve_held.Goals as goal

pub returns-in-Ok-Held-clause-fetch : goal.returns-in-Ok-Held-clause-fetch
returns-in-Ok-Held-clause-fetch g c fetch =
    let es = c.args.pages.now.cache.entries in
    let missed : lookup (λ path. bytes_eq c.in-Some.path.now (string_bytes path)) es ≡ None =
    sym c.hit.ensures.held ∙ ap option_copied c.in_default-hit.is in
    subst (λ l. lookup (λ path. bytes_eq l (string_bytes path)) es ≡ None) c.in-Some.ensures.path missed
