use Rattle.std.proofs.Common.{◌∙◌, ◌++◌, sym, ap}
use Rattle.clru_parts.specs.Files.{body_text}
use Rattle.clru_parts.proofs.TextLemmas.{file-is, part_text-cut, part_text-pieces, part_text-read, read_four}
use Rattle.clru_parts.proofs.read.read_part.Goals as goal

pub returns-in_err-counts-clause-whole : goal.returns-in_err-counts-clause-whole
returns-in_err-counts-clause-whole g c = λ file rest fits is.
    absurd (c.in_err-counts.ensures.whole file.counts _ fits.counted (part_text-pieces c.args.bytes.now file rest is))

pub returns-in_err-firsts-clause-whole : goal.returns-in_err-firsts-clause-whole
returns-in_err-firsts-clause-whole g c = λ file rest fits is.
    let counts = c.in_ok-counts.ensures.whole file.counts _ fits.counted (part_text-pieces c.args.bytes.now file rest is) in
    absurd (c.in_err-firsts.ensures.whole file.first _ counts.1)

pub returns-in_err-lasts-clause-whole : goal.returns-in_err-lasts-clause-whole
returns-in_err-lasts-clause-whole g c = λ file rest fits is.
    let counts = c.in_ok-counts.ensures.whole file.counts _ fits.counted (part_text-pieces c.args.bytes.now file rest is) in
    let first = c.in_ok-firsts.ensures.whole file.first _ counts.1 in
    absurd (c.in_err-lasts.ensures.whole file.latest _ first.1)

pub returns-in_err-misses-clause-whole : goal.returns-in_err-misses-clause-whole
returns-in_err-misses-clause-whole g c = λ file rest fits is.
    let counts = c.in_ok-counts.ensures.whole file.counts _ fits.counted (part_text-pieces c.args.bytes.now file rest is) in
    let first = c.in_ok-firsts.ensures.whole file.first _ counts.1 in
    let latest = c.in_ok-lasts.ensures.whole file.latest _ first.1 in
    absurd (c.in_err-misses.ensures.whole _ _ latest.1)

pub read_checksum-requires : goal.read_checksum-requires
read_checksum-requires g c = (
  _,
  read_four c.args.bytes.now _ _ _ _ _ _ _ _ c.in_ok-counts.ensures.read c.in_ok-firsts.ensures.read
      c.in_ok-lasts.ensures.read c.in_ok-misses.ensures.read,
)

pub returns-in_err-rest-clause-whole : goal.returns-in_err-rest-clause-whole
returns-in_err-rest-clause-whole g c = λ file rest fits is.
    let counts = c.in_ok-counts.ensures.whole file.counts _ fits.counted (part_text-pieces c.args.bytes.now file rest is) in
    let first = c.in_ok-firsts.ensures.whole file.first _ counts.1 in
    let latest = c.in_ok-lasts.ensures.whole file.latest _ first.1 in
    let misses = c.in_ok-misses.ensures.whole _ _ latest.1 in
    absurd (c.in_err-rest.ensures.whole (body_text file) rest
    (part_text-cut c.args.bytes.now file rest is ∙ ap (λ l. body_text file ++ l) (sym misses.1)) misses.1)

pub returns-in-Err-clause-whole : goal.returns-in-Err-clause-whole
returns-in-Err-clause-whole g c = λ file rest fits is.
    let counts = c.in_ok-counts.ensures.whole file.counts _ fits.counted (part_text-pieces c.args.bytes.now file rest is) in
    let first = c.in_ok-firsts.ensures.whole file.first _ counts.1 in
    let latest = c.in_ok-lasts.ensures.whole file.latest _ first.1 in
    let misses = c.in_ok-misses.ensures.whole _ _ latest.1 in
    c.in-Err.ensures.whole file.curve fits.missed misses.0

pub returns-in-Ok-clause-read : goal.returns-in-Ok-clause-read
returns-in-Ok-clause-read g c =
    let body = read_four c.args.bytes.now _ _ _ _ _ _ _ _ c.in_ok-counts.ensures.read c.in_ok-firsts.ensures.read
    c.in_ok-lasts.ensures.read c.in_ok-misses.ensures.read in
    part_text-read c.args.bytes.now _ _ _ _ body (c.in_ok-rest.ensures.read _ body) c.in-Ok.ensures.read

pub returns-in-Ok-clause-whole : goal.returns-in-Ok-clause-whole
returns-in-Ok-clause-whole g c = λ file rest fits is.
    let counts = c.in_ok-counts.ensures.whole file.counts _ fits.counted (part_text-pieces c.args.bytes.now file rest is) in
    let first = c.in_ok-firsts.ensures.whole file.first _ counts.1 in
    let latest = c.in_ok-lasts.ensures.whole file.latest _ first.1 in
    let misses = c.in_ok-misses.ensures.whole _ _ latest.1 in
    let checked = c.in_ok-rest.ensures.whole (body_text file) rest
    (part_text-cut c.args.bytes.now file rest is ∙ ap (λ l. body_text file ++ l) (sym misses.1)) misses.1 in
    (file-is file _ _ _ _ (c.in-Ok.ensures.whole file.curve fits.missed misses.0) counts.0 first.0 latest.0, checked)
