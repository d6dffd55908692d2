use Rattle.clru_parts.proofs.TextLemmas.{counts-are, counts_text-cut}
use Rattle.clru_parts.proofs.read.read_counts.Goals as goal

pub returns-in_err-rest-clause-whole : goal.returns-in_err-rest-clause-whole
returns-in_err-rest-clause-whole c = λ counts rest fits is.
    absurd (c.in_err-rest.ensures.whole _ (counts_text-cut c.args.bytes.now counts rest is))

pub returns-in_err-one_in-clause-whole : goal.returns-in_err-one_in-clause-whole
returns-in_err-one_in-clause-whole c = λ counts rest fits is.
    let head = c.in_ok-rest.ensures.whole _ (counts_text-cut c.args.bytes.now counts rest is) in
    absurd (c.in_err-one_in.ensures.whole _ _ fits.one_in head)

pub returns-in_err-requests-clause-whole : goal.returns-in_err-requests-clause-whole
returns-in_err-requests-clause-whole c = λ counts rest fits is.
    let head = c.in_ok-rest.ensures.whole _ (counts_text-cut c.args.bytes.now counts rest is) in
    let one_in = c.in_ok-one_in.ensures.whole _ _ fits.one_in head in
    absurd (c.in_err-requests.ensures.whole _ _ fits.requests one_in.1)

pub returns-in_err-bytes-clause-whole : goal.returns-in_err-bytes-clause-whole
returns-in_err-bytes-clause-whole c = λ counts rest fits is.
    let head = c.in_ok-rest.ensures.whole _ (counts_text-cut c.args.bytes.now counts rest is) in
    let one_in = c.in_ok-one_in.ensures.whole _ _ fits.one_in head in
    let requests = c.in_ok-requests.ensures.whole _ _ fits.requests one_in.1 in
    absurd (c.in_err-bytes.ensures.whole _ _ fits.bytes requests.1)

pub returns-clause-whole : goal.returns-clause-whole
returns-clause-whole c = λ counts rest fits is.
    let head = c.in_ok-rest.ensures.whole _ (counts_text-cut c.args.bytes.now counts rest is) in
    let one_in = c.in_ok-one_in.ensures.whole _ _ fits.one_in head in
    let requests = c.in_ok-requests.ensures.whole _ _ fits.requests one_in.1 in
    let bytes = c.in_ok-bytes.ensures.whole _ _ fits.bytes requests.1 in
    (counts-are counts _ _ _ one_in.0 requests.0 bytes.0, bytes.1)
