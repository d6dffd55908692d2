use Rattle.std.proofs.Common.{◌≡◌, ◌+◌, ◌-◌, ◌*◌, ◌/◌, ◌<◌, ◌&&◌, true, false, cond, nat_le, nat_lt, length, get_or, sym, ap, ◌∙◌, subst, arith}
use Rattle.std.proofs.lemmas.Nat.{div_below}
use Rattle.clru_curve.proofs.FetchBlocks.{AreBlocks-take, counted_all, hits_alike, read_at, times_take}
use Rattle.clru_curve.proofs.FetchRows.{rows_length}
use Rattle.clru_curve.proofs.FetchTables.{AreCounted-as, AreFetched-as}
use Rattle.clru_curve.specs.Fetches.{fetch_times, is_row_hit, time_at, times_by, AreCounted, AreFetched}
use Rattle.clru_curve.proofs.fetches.Fetches.take.Goals as goal
use Rattle.clru_curve.proofs.fetches.Fetches.take.Goals.{then-soon, else-soon, then-hit, else-hit}

pub widen-requires-clause-number : goal.widen-requires-clause-number
widen-requires-clause-number g c =
    let f = c.args.self.now in let n = length f.capacities.items in
    let rows : c.len-rows.result ≡ n = omega (arith, c.len-rows.ensures, f.capacities.ok.0) in
    let some : 0 < n = omega (arith, c.if-rows-eq0.false, rows) in
    let inside : c.args.first < length f.firsts.items * n = omega (
      arith,
      some,
      c.requires.inside,
      rows_length n (time_at f.firsts.items f.widths.items f.times.items) (length f.firsts.items),
    ) in
    let below : c.args.first / c.len-rows.result < length f.firsts.items =
    subst (λ m. c.args.first / m < length f.firsts.items) (sym rows) (div_below c.args.first n (length f.firsts.items) some inside) in
    below

pub index-start-requires : goal.index-start-requires
index-start-requires g c =
    let f = c.args.self.now in let n = length f.capacities.items in
    let rows : c.len-rows.result ≡ n = omega (arith, c.len-rows.ensures, f.capacities.ok.0) in
    let some : 0 < n = omega (arith, c.if-rows-eq0.false, rows) in
    let inside : c.args.first < length f.firsts.items * n = omega (
      arith,
      some,
      c.requires.inside,
      rows_length n (time_at f.firsts.items f.widths.items f.times.items) (length f.firsts.items),
    ) in
    let below : c.args.first / c.len-rows.result < length f.firsts.items =
    subst (λ m. c.args.first / m < length f.firsts.items) (sym rows) (div_below c.args.first n (length f.firsts.items) some inside) in
    let v = c.widen.new.self in let we = c.widen.ensures in let k = c.args.first / c.len-rows.result in
    let here : k < length v.firsts.items = omega (arith, below, we.keys) in
    let many : 0 < length v.capacities.items = omega (arith, some, ap (λ u. length u.items) we.capacities) in
    omega (arith, here, v.firsts.ok.0)

pub index-width-requires : goal.index-width-requires
index-width-requires g c =
    let f = c.args.self.now in let n = length f.capacities.items in
    let rows : c.len-rows.result ≡ n = omega (arith, c.len-rows.ensures, f.capacities.ok.0) in
    let some : 0 < n = omega (arith, c.if-rows-eq0.false, rows) in
    let inside : c.args.first < length f.firsts.items * n = omega (
      arith,
      some,
      c.requires.inside,
      rows_length n (time_at f.firsts.items f.widths.items f.times.items) (length f.firsts.items),
    ) in
    let below : c.args.first / c.len-rows.result < length f.firsts.items =
    subst (λ m. c.args.first / m < length f.firsts.items) (sym rows) (div_below c.args.first n (length f.firsts.items) some inside) in
    let v = c.widen.new.self in let we = c.widen.ensures in let k = c.args.first / c.len-rows.result in
    let here : k < length v.firsts.items = omega (arith, below, we.keys) in
    let many : 0 < length v.capacities.items = omega (arith, some, ap (λ u. length u.items) we.capacities) in
    omega (arith, here, we.blocks.as_many, v.widths.ok.0)

pub overflow_sub-last : goal.overflow_sub-last
overflow_sub-last g c =
    let f = c.args.self.now in let n = length f.capacities.items in
    let rows : c.len-rows.result ≡ n = omega (arith, c.len-rows.ensures, f.capacities.ok.0) in
    let some : 0 < n = omega (arith, c.if-rows-eq0.false, rows) in
    let inside : c.args.first < length f.firsts.items * n = omega (
      arith,
      some,
      c.requires.inside,
      rows_length n (time_at f.firsts.items f.widths.items f.times.items) (length f.firsts.items),
    ) in
    let below : c.args.first / c.len-rows.result < length f.firsts.items =
    subst (λ m. c.args.first / m < length f.firsts.items) (sym rows) (div_below c.args.first n (length f.firsts.items) some inside) in
    let v = c.widen.new.self in let we = c.widen.ensures in let k = c.args.first / c.len-rows.result in
    let here : k < length v.firsts.items = omega (arith, below, we.keys) in
    let many : 0 < length v.capacities.items = omega (arith, some, ap (λ u. length u.items) we.capacities) in
    let start = read_at v.firsts.items k c.index-start.result.now here c.index-start.ensures in
    let width = read_at v.widths.items k c.index-width.result.now (omega (arith, here, we.blocks.as_many)) c.index-width.ensures in
    let own_some = we.blocks.some many in let own_wide = we.blocks.wide k here in
    omega (arith, width, own_some, own_wide)

pub overflow_add-start : goal.overflow_add-start
overflow_add-start g c =
    let f = c.args.self.now in let n = length f.capacities.items in
    let rows : c.len-rows.result ≡ n = omega (arith, c.len-rows.ensures, f.capacities.ok.0) in
    let some : 0 < n = omega (arith, c.if-rows-eq0.false, rows) in
    let inside : c.args.first < length f.firsts.items * n = omega (
      arith,
      some,
      c.requires.inside,
      rows_length n (time_at f.firsts.items f.widths.items f.times.items) (length f.firsts.items),
    ) in
    let below : c.args.first / c.len-rows.result < length f.firsts.items =
    subst (λ m. c.args.first / m < length f.firsts.items) (sym rows) (div_below c.args.first n (length f.firsts.items) some inside) in
    let v = c.widen.new.self in let we = c.widen.ensures in let k = c.args.first / c.len-rows.result in
    let here : k < length v.firsts.items = omega (arith, below, we.keys) in
    let many : 0 < length v.capacities.items = omega (arith, some, ap (λ u. length u.items) we.capacities) in
    let start = read_at v.firsts.items k c.index-start.result.now here c.index-start.ensures in
    let width = read_at v.widths.items k c.index-width.result.now (omega (arith, here, we.blocks.as_many)) c.index-width.ensures in
    let own_some = we.blocks.some many in let own_wide = we.blocks.wide k here in
    omega (arith, start, width, own_some, own_wide, we.blocks.inside k here, v.times.ok.0)

pub is_hit-hit-requires-clause-row : goal.is_hit-hit-requires-clause-row
is_hit-hit-requires-clause-row g c =
    let f = c.args.self.now in let n = length f.capacities.items in
    let rows : c.len-rows.result ≡ n = omega (arith, c.len-rows.ensures, f.capacities.ok.0) in
    let some : 0 < n = omega (arith, c.if-rows-eq0.false, rows) in
    let inside : c.args.first < length f.firsts.items * n = omega (
      arith,
      some,
      c.requires.inside,
      rows_length n (time_at f.firsts.items f.widths.items f.times.items) (length f.firsts.items),
    ) in
    let below : c.args.first / c.len-rows.result < length f.firsts.items =
    subst (λ m. c.args.first / m < length f.firsts.items) (sym rows) (div_below c.args.first n (length f.firsts.items) some inside) in
    let v = c.widen.new.self in let we = c.widen.ensures in let k = c.args.first / c.len-rows.result in
    let here : k < length v.firsts.items = omega (arith, below, we.keys) in
    let many : 0 < length v.capacities.items = omega (arith, some, ap (λ u. length u.items) we.capacities) in
    let start = read_at v.firsts.items k c.index-start.result.now here c.index-start.ensures in
    let width = read_at v.widths.items k c.index-width.result.now (omega (arith, here, we.blocks.as_many)) c.index-width.ensures in
    let own_some = we.blocks.some many in let own_wide = we.blocks.wide k here in
    omega (arith, width, own_some, own_wide, we.blocks.within k here)

pub is_hit-hit-requires-clause-at : goal.is_hit-hit-requires-clause-at
is_hit-hit-requires-clause-at g c =
    let f = c.args.self.now in let n = length f.capacities.items in
    let rows : c.len-rows.result ≡ n = omega (arith, c.len-rows.ensures, f.capacities.ok.0) in
    let some : 0 < n = omega (arith, c.if-rows-eq0.false, rows) in
    let inside : c.args.first < length f.firsts.items * n = omega (
      arith,
      some,
      c.requires.inside,
      rows_length n (time_at f.firsts.items f.widths.items f.times.items) (length f.firsts.items),
    ) in
    let below : c.args.first / c.len-rows.result < length f.firsts.items =
    subst (λ m. c.args.first / m < length f.firsts.items) (sym rows) (div_below c.args.first n (length f.firsts.items) some inside) in
    let v = c.widen.new.self in let we = c.widen.ensures in let k = c.args.first / c.len-rows.result in
    let here : k < length v.firsts.items = omega (arith, below, we.keys) in
    let many : 0 < length v.capacities.items = omega (arith, some, ap (λ u. length u.items) we.capacities) in
    let start = read_at v.firsts.items k c.index-start.result.now here c.index-start.ensures in
    let width = read_at v.widths.items k c.index-width.result.now (omega (arith, here, we.blocks.as_many)) c.index-width.ensures in
    let own_some = we.blocks.some many in let own_wide = we.blocks.wide k here in
    omega (arith, start, width, own_some, own_wide, we.blocks.inside k here)

pub take_rows-requires-clause-width : goal.take_rows-requires-clause-width
take_rows-requires-clause-width g c =
    let f = c.args.self.now in let n = length f.capacities.items in
    let rows : c.len-rows.result ≡ n = omega (arith, c.len-rows.ensures, f.capacities.ok.0) in
    let some : 0 < n = omega (arith, c.if-rows-eq0.false, rows) in
    let inside : c.args.first < length f.firsts.items * n = omega (
      arith,
      some,
      c.requires.inside,
      rows_length n (time_at f.firsts.items f.widths.items f.times.items) (length f.firsts.items),
    ) in
    let below : c.args.first / c.len-rows.result < length f.firsts.items =
    subst (λ m. c.args.first / m < length f.firsts.items) (sym rows) (div_below c.args.first n (length f.firsts.items) some inside) in
    let v = c.widen.new.self in let we = c.widen.ensures in let k = c.args.first / c.len-rows.result in
    let here : k < length v.firsts.items = omega (arith, below, we.keys) in
    let many : 0 < length v.capacities.items = omega (arith, some, ap (λ u. length u.items) we.capacities) in
    let start = read_at v.firsts.items k c.index-start.result.now here c.index-start.ensures in
    let width = read_at v.widths.items k c.index-width.result.now (omega (arith, here, we.blocks.as_many)) c.index-width.ensures in
    let own_some = we.blocks.some many in let own_wide = we.blocks.wide k here in
    omega (arith, width, we.blocks.within k here)

pub take_rows-requires-clause-inside : goal.take_rows-requires-clause-inside
take_rows-requires-clause-inside g c =
    let f = c.args.self.now in let n = length f.capacities.items in
    let rows : c.len-rows.result ≡ n = omega (arith, c.len-rows.ensures, f.capacities.ok.0) in
    let some : 0 < n = omega (arith, c.if-rows-eq0.false, rows) in
    let inside : c.args.first < length f.firsts.items * n = omega (
      arith,
      some,
      c.requires.inside,
      rows_length n (time_at f.firsts.items f.widths.items f.times.items) (length f.firsts.items),
    ) in
    let below : c.args.first / c.len-rows.result < length f.firsts.items =
    subst (λ m. c.args.first / m < length f.firsts.items) (sym rows) (div_below c.args.first n (length f.firsts.items) some inside) in
    let v = c.widen.new.self in let we = c.widen.ensures in let k = c.args.first / c.len-rows.result in
    let here : k < length v.firsts.items = omega (arith, below, we.keys) in
    let many : 0 < length v.capacities.items = omega (arith, some, ap (λ u. length u.items) we.capacities) in
    let start = read_at v.firsts.items k c.index-start.result.now here c.index-start.ensures in
    let width = read_at v.widths.items k c.index-width.result.now (omega (arith, here, we.blocks.as_many)) c.index-width.ensures in
    let own_some = we.blocks.some many in let own_wide = we.blocks.wide k here in
    omega (arith, start, width, we.blocks.inside k here)

pub miss_from-requires-clause-first : goal.miss_from-requires-clause-first
miss_from-requires-clause-first g c =
    let f = c.args.self.now in let n = length f.capacities.items in
    let rows : c.len-rows.result ≡ n = omega (arith, c.len-rows.ensures, f.capacities.ok.0) in
    let some : 0 < n = omega (arith, c.if-rows-eq0.false, rows) in
    let inside : c.args.first < length f.firsts.items * n = omega (
      arith,
      some,
      c.requires.inside,
      rows_length n (time_at f.firsts.items f.widths.items f.times.items) (length f.firsts.items),
    ) in
    let below : c.args.first / c.len-rows.result < length f.firsts.items =
    subst (λ m. c.args.first / m < length f.firsts.items) (sym rows) (div_below c.args.first n (length f.firsts.items) some inside) in
    let v = c.widen.new.self in let we = c.widen.ensures in let k = c.args.first / c.len-rows.result in
    let here : k < length v.firsts.items = omega (arith, below, we.keys) in
    let many : 0 < length v.capacities.items = omega (arith, some, ap (λ u. length u.items) we.capacities) in
    let start = read_at v.firsts.items k c.index-start.result.now here c.index-start.ensures in
    let width = read_at v.widths.items k c.index-width.result.now (omega (arith, here, we.blocks.as_many)) c.index-width.ensures in
    let own_some = we.blocks.some many in let own_wide = we.blocks.wide k here in
    let caps = ap (λ u. length u.items) c.take_rows.ensures.capacities in
    elim c.if-hit.branch [
      | then-hit w ↦ omega (arith, w.rest-is, rows, ap (λ u. length u.items) we.capacities, caps)
      | else-hit w ↦ omega (arith, w.rest-is, width, we.blocks.within k here, caps)
    ]

pub returns-clause-blocks : goal.returns-clause-blocks
returns-clause-blocks g c =
    let f = c.args.self.now in let n = length f.capacities.items in
    let rows : c.len-rows.result ≡ n = omega (arith, c.len-rows.ensures, f.capacities.ok.0) in
    let some : 0 < n = omega (arith, c.if-rows-eq0.false, rows) in
    let inside : c.args.first < length f.firsts.items * n = omega (
      arith,
      some,
      c.requires.inside,
      rows_length n (time_at f.firsts.items f.widths.items f.times.items) (length f.firsts.items),
    ) in
    let below : c.args.first / c.len-rows.result < length f.firsts.items =
    subst (λ m. c.args.first / m < length f.firsts.items) (sym rows) (div_below c.args.first n (length f.firsts.items) some inside) in
    let v = c.widen.new.self in let we = c.widen.ensures in let k = c.args.first / c.len-rows.result in
    let here : k < length v.firsts.items = omega (arith, below, we.keys) in
    let many : 0 < length v.capacities.items = omega (arith, some, ap (λ u. length u.items) we.capacities) in
    let start = read_at v.firsts.items k c.index-start.result.now here c.index-start.ensures in
    let width = read_at v.widths.items k c.index-width.result.now (omega (arith, here, we.blocks.as_many)) c.index-width.ensures in
    let own_some = we.blocks.some many in let own_wide = we.blocks.wide k here in
    let cs = v.capacities.items in let ts = v.times.items in let first = get_or v.firsts.items k 0 in let many_own = get_or v.widths.items k 0 in
    let own = is_row_hit c.args.soon c.args.span c.args.time v.age first cs ts in
    let last : c.if-soon.hit ≡ own (many_own - 1) = elim c.if-soon.branch [
      | then-soon w ↦ w.hit-is ∙ w.is_hit-hit.ensures
          ∙ ap (λ m. nat_le c.args.span (get_or cs (m - 1) 0) && nat_le (c.args.time - get_or ts (c.index-start.result.now + (m - 1)) 0) v.age) width
          ∙ ap (λ m. nat_le c.args.span (get_or cs (many_own - 1) 0) && nat_le (c.args.time - get_or ts (m + (many_own - 1)) 0) v.age) start
          ∙ sym (ap (λ b. b && (nat_le c.args.span (get_or cs (many_own - 1) 0) && nat_le (c.args.time - get_or ts (first + (many_own - 1)) 0) v.age)) w.if-soon.true)
      | else-soon w ↦ w.hit-is ∙ w.if-soon.false
          ∙ sym (ap (λ b. b && (nat_le c.args.span (get_or cs (many_own - 1) 0) && nat_le (c.args.time - get_or ts (first + (many_own - 1)) 0) v.age)) w.if-soon.false)
    ] in
    let rest : c.if-hit.rest ≡ cond (own (many_own - 1)) (length cs) many_own = elim c.if-hit.branch [
      | then-hit w ↦ let yes : own (many_own - 1) ≡ true = sym last ∙ w.if-hit.true in
          rw yes (omega (arith, w.rest-is, rows, ap (λ u. length u.items) we.capacities))
      | else-hit w ↦ let no : own (many_own - 1) ≡ false = sym last ∙ w.if-hit.false in rw no (w.rest-is ∙ width)
    ] in
    let took = c.take_rows.ensures in let r = c.take_rows.new.self in let missed = c.miss_from.ensures in let new = c.miss_from.new.self in
    let multiple : k * length cs ≡ c.args.first =
    ap (λ u. k * length u.items) we.capacities ∙ ap (λ m. c.args.first / m * n) rows ∙ c.requires.aligned in
    let times = subst (λ m. AreFetched own m first c.args.time ts r.times.items) width
    (subst (λ m. AreFetched (is_row_hit c.args.soon c.args.span c.args.time v.age m cs ts) c.index-width.result.now m c.args.time ts r.times.items) start took.times) in
    rw (missed.narrow, missed.capacities, missed.firsts, missed.widths, missed.times, took.narrow, took.capacities, took.firsts, took.widths)
    (AreBlocks-take v.narrow cs v.firsts.items v.widths.items ts we.blocks r.times.items k here own c.args.time times)

pub returns-clause-misses : goal.returns-clause-misses
returns-clause-misses g c =
    let f = c.args.self.now in let n = length f.capacities.items in
    let rows : c.len-rows.result ≡ n = omega (arith, c.len-rows.ensures, f.capacities.ok.0) in
    let some : 0 < n = omega (arith, c.if-rows-eq0.false, rows) in
    let inside : c.args.first < length f.firsts.items * n = omega (
      arith,
      some,
      c.requires.inside,
      rows_length n (time_at f.firsts.items f.widths.items f.times.items) (length f.firsts.items),
    ) in
    let below : c.args.first / c.len-rows.result < length f.firsts.items =
    subst (λ m. c.args.first / m < length f.firsts.items) (sym rows) (div_below c.args.first n (length f.firsts.items) some inside) in
    let v = c.widen.new.self in let we = c.widen.ensures in let k = c.args.first / c.len-rows.result in
    let here : k < length v.firsts.items = omega (arith, below, we.keys) in
    let many : 0 < length v.capacities.items = omega (arith, some, ap (λ u. length u.items) we.capacities) in
    let start = read_at v.firsts.items k c.index-start.result.now here c.index-start.ensures in
    let width = read_at v.widths.items k c.index-width.result.now (omega (arith, here, we.blocks.as_many)) c.index-width.ensures in
    let own_some = we.blocks.some many in let own_wide = we.blocks.wide k here in
    let cs = v.capacities.items in let ts = v.times.items in let first = get_or v.firsts.items k 0 in let many_own = get_or v.widths.items k 0 in
    let own = is_row_hit c.args.soon c.args.span c.args.time v.age first cs ts in
    let last : c.if-soon.hit ≡ own (many_own - 1) = elim c.if-soon.branch [
      | then-soon w ↦ w.hit-is ∙ w.is_hit-hit.ensures
          ∙ ap (λ m. nat_le c.args.span (get_or cs (m - 1) 0) && nat_le (c.args.time - get_or ts (c.index-start.result.now + (m - 1)) 0) v.age) width
          ∙ ap (λ m. nat_le c.args.span (get_or cs (many_own - 1) 0) && nat_le (c.args.time - get_or ts (m + (many_own - 1)) 0) v.age) start
          ∙ sym (ap (λ b. b && (nat_le c.args.span (get_or cs (many_own - 1) 0) && nat_le (c.args.time - get_or ts (first + (many_own - 1)) 0) v.age)) w.if-soon.true)
      | else-soon w ↦ w.hit-is ∙ w.if-soon.false
          ∙ sym (ap (λ b. b && (nat_le c.args.span (get_or cs (many_own - 1) 0) && nat_le (c.args.time - get_or ts (first + (many_own - 1)) 0) v.age)) w.if-soon.false)
    ] in
    let rest : c.if-hit.rest ≡ cond (own (many_own - 1)) (length cs) many_own = elim c.if-hit.branch [
      | then-hit w ↦ let yes : own (many_own - 1) ≡ true = sym last ∙ w.if-hit.true in
          rw yes (omega (arith, w.rest-is, rows, ap (λ u. length u.items) we.capacities))
      | else-hit w ↦ let no : own (many_own - 1) ≡ false = sym last ∙ w.if-hit.false in rw no (w.rest-is ∙ width)
    ] in
    let took = c.take_rows.ensures in let r = c.take_rows.new.self in let missed = c.miss_from.ensures in let new = c.miss_from.new.self in
    let multiple : k * length cs ≡ c.args.first =
    ap (λ u. k * length u.items) we.capacities ∙ ap (λ m. c.args.first / m * n) rows ∙ c.requires.aligned in
    let times = subst (λ m. AreFetched own m first c.args.time ts r.times.items) width
    (subst (λ m. AreFetched (is_row_hit c.args.soon c.args.span c.args.time v.age m cs ts) c.index-width.result.now m c.args.time ts r.times.items) start took.times) in
    let same : is_row_hit c.args.soon c.args.span c.args.time v.age (k * length cs) cs (fetch_times v)
    ≡ is_row_hit c.args.soon c.args.span c.args.time f.age c.args.first f.capacities.items (fetch_times f) =
    ap (λ a. is_row_hit c.args.soon c.args.span c.args.time a (k * length cs) cs (fetch_times v)) we.age
    ∙ ap (λ m. is_row_hit c.args.soon c.args.span c.args.time f.age m cs (fetch_times v)) multiple
    ∙ ap (λ u. is_row_hit c.args.soon c.args.span c.args.time f.age c.args.first u.items (fetch_times v)) we.capacities
    ∙ ap (is_row_hit c.args.soon c.args.span c.args.time f.age c.args.first f.capacities.items) we.times in
    let before = subst (λ m. AreCounted own m 1 v.misses.items r.misses.items) width
    (subst (λ m. AreCounted (is_row_hit c.args.soon c.args.span c.args.time v.age m cs ts) c.index-width.result.now 1 v.misses.items r.misses.items) start took.misses) in
    let behind = subst (λ u. AreCounted (λ i. nat_lt i c.if-hit.rest) (length u.items) 1 r.misses.items new.misses.items) took.capacities missed.misses in
    AreCounted-as _ _ _ _ 1 _ _ new.misses.items same (ap (λ u. length u.items) we.capacities) (ap (λ u. u.items) we.misses)
    (counted_all v.narrow cs v.firsts.items v.widths.items ts we.blocks k here many c.args.soon c.args.span c.args.time v.age
    we.enough c.if-hit.rest rest 1 v.misses.items r.misses.items new.misses.items before behind)

pub returns-clause-missed_sizes : goal.returns-clause-missed_sizes
returns-clause-missed_sizes g c =
    let f = c.args.self.now in let n = length f.capacities.items in
    let rows : c.len-rows.result ≡ n = omega (arith, c.len-rows.ensures, f.capacities.ok.0) in
    let some : 0 < n = omega (arith, c.if-rows-eq0.false, rows) in
    let inside : c.args.first < length f.firsts.items * n = omega (
      arith,
      some,
      c.requires.inside,
      rows_length n (time_at f.firsts.items f.widths.items f.times.items) (length f.firsts.items),
    ) in
    let below : c.args.first / c.len-rows.result < length f.firsts.items =
    subst (λ m. c.args.first / m < length f.firsts.items) (sym rows) (div_below c.args.first n (length f.firsts.items) some inside) in
    let v = c.widen.new.self in let we = c.widen.ensures in let k = c.args.first / c.len-rows.result in
    let here : k < length v.firsts.items = omega (arith, below, we.keys) in
    let many : 0 < length v.capacities.items = omega (arith, some, ap (λ u. length u.items) we.capacities) in
    let start = read_at v.firsts.items k c.index-start.result.now here c.index-start.ensures in
    let width = read_at v.widths.items k c.index-width.result.now (omega (arith, here, we.blocks.as_many)) c.index-width.ensures in
    let own_some = we.blocks.some many in let own_wide = we.blocks.wide k here in
    let cs = v.capacities.items in let ts = v.times.items in let first = get_or v.firsts.items k 0 in let many_own = get_or v.widths.items k 0 in
    let own = is_row_hit c.args.soon c.args.span c.args.time v.age first cs ts in
    let last : c.if-soon.hit ≡ own (many_own - 1) = elim c.if-soon.branch [
      | then-soon w ↦ w.hit-is ∙ w.is_hit-hit.ensures
          ∙ ap (λ m. nat_le c.args.span (get_or cs (m - 1) 0) && nat_le (c.args.time - get_or ts (c.index-start.result.now + (m - 1)) 0) v.age) width
          ∙ ap (λ m. nat_le c.args.span (get_or cs (many_own - 1) 0) && nat_le (c.args.time - get_or ts (m + (many_own - 1)) 0) v.age) start
          ∙ sym (ap (λ b. b && (nat_le c.args.span (get_or cs (many_own - 1) 0) && nat_le (c.args.time - get_or ts (first + (many_own - 1)) 0) v.age)) w.if-soon.true)
      | else-soon w ↦ w.hit-is ∙ w.if-soon.false
          ∙ sym (ap (λ b. b && (nat_le c.args.span (get_or cs (many_own - 1) 0) && nat_le (c.args.time - get_or ts (first + (many_own - 1)) 0) v.age)) w.if-soon.false)
    ] in
    let rest : c.if-hit.rest ≡ cond (own (many_own - 1)) (length cs) many_own = elim c.if-hit.branch [
      | then-hit w ↦ let yes : own (many_own - 1) ≡ true = sym last ∙ w.if-hit.true in
          rw yes (omega (arith, w.rest-is, rows, ap (λ u. length u.items) we.capacities))
      | else-hit w ↦ let no : own (many_own - 1) ≡ false = sym last ∙ w.if-hit.false in rw no (w.rest-is ∙ width)
    ] in
    let took = c.take_rows.ensures in let r = c.take_rows.new.self in let missed = c.miss_from.ensures in let new = c.miss_from.new.self in
    let multiple : k * length cs ≡ c.args.first =
    ap (λ u. k * length u.items) we.capacities ∙ ap (λ m. c.args.first / m * n) rows ∙ c.requires.aligned in
    let times = subst (λ m. AreFetched own m first c.args.time ts r.times.items) width
    (subst (λ m. AreFetched (is_row_hit c.args.soon c.args.span c.args.time v.age m cs ts) c.index-width.result.now m c.args.time ts r.times.items) start took.times) in
    let same : is_row_hit c.args.soon c.args.span c.args.time v.age (k * length cs) cs (fetch_times v)
    ≡ is_row_hit c.args.soon c.args.span c.args.time f.age c.args.first f.capacities.items (fetch_times f) =
    ap (λ a. is_row_hit c.args.soon c.args.span c.args.time a (k * length cs) cs (fetch_times v)) we.age
    ∙ ap (λ m. is_row_hit c.args.soon c.args.span c.args.time f.age m cs (fetch_times v)) multiple
    ∙ ap (λ u. is_row_hit c.args.soon c.args.span c.args.time f.age c.args.first u.items (fetch_times v)) we.capacities
    ∙ ap (is_row_hit c.args.soon c.args.span c.args.time f.age c.args.first f.capacities.items) we.times in
    let before = subst (λ m. AreCounted own m c.args.size v.missed_sizes.items r.missed_sizes.items) width
    (subst (λ m. AreCounted (is_row_hit c.args.soon c.args.span c.args.time v.age m cs ts) c.index-width.result.now c.args.size v.missed_sizes.items r.missed_sizes.items) start took.missed_sizes) in
    let behind = subst (λ u. AreCounted (λ i. nat_lt i c.if-hit.rest) (length u.items) c.args.size r.missed_sizes.items new.missed_sizes.items) took.capacities missed.missed_sizes in
    AreCounted-as _ _ _ _ c.args.size _ _ new.missed_sizes.items same (ap (λ u. length u.items) we.capacities) (ap (λ u. u.items) we.missed_sizes)
    (counted_all v.narrow cs v.firsts.items v.widths.items ts we.blocks k here many c.args.soon c.args.span c.args.time v.age
    we.enough c.if-hit.rest rest c.args.size v.missed_sizes.items r.missed_sizes.items new.missed_sizes.items before behind)

pub returns-clause-times : goal.returns-clause-times
returns-clause-times g c =
    let f = c.args.self.now in let n = length f.capacities.items in
    let rows : c.len-rows.result ≡ n = omega (arith, c.len-rows.ensures, f.capacities.ok.0) in
    let some : 0 < n = omega (arith, c.if-rows-eq0.false, rows) in
    let inside : c.args.first < length f.firsts.items * n = omega (
      arith,
      some,
      c.requires.inside,
      rows_length n (time_at f.firsts.items f.widths.items f.times.items) (length f.firsts.items),
    ) in
    let below : c.args.first / c.len-rows.result < length f.firsts.items =
    subst (λ m. c.args.first / m < length f.firsts.items) (sym rows) (div_below c.args.first n (length f.firsts.items) some inside) in
    let v = c.widen.new.self in let we = c.widen.ensures in let k = c.args.first / c.len-rows.result in
    let here : k < length v.firsts.items = omega (arith, below, we.keys) in
    let many : 0 < length v.capacities.items = omega (arith, some, ap (λ u. length u.items) we.capacities) in
    let start = read_at v.firsts.items k c.index-start.result.now here c.index-start.ensures in
    let width = read_at v.widths.items k c.index-width.result.now (omega (arith, here, we.blocks.as_many)) c.index-width.ensures in
    let own_some = we.blocks.some many in let own_wide = we.blocks.wide k here in
    let cs = v.capacities.items in let ts = v.times.items in let first = get_or v.firsts.items k 0 in let many_own = get_or v.widths.items k 0 in
    let own = is_row_hit c.args.soon c.args.span c.args.time v.age first cs ts in
    let last : c.if-soon.hit ≡ own (many_own - 1) = elim c.if-soon.branch [
      | then-soon w ↦ w.hit-is ∙ w.is_hit-hit.ensures
          ∙ ap (λ m. nat_le c.args.span (get_or cs (m - 1) 0) && nat_le (c.args.time - get_or ts (c.index-start.result.now + (m - 1)) 0) v.age) width
          ∙ ap (λ m. nat_le c.args.span (get_or cs (many_own - 1) 0) && nat_le (c.args.time - get_or ts (m + (many_own - 1)) 0) v.age) start
          ∙ sym (ap (λ b. b && (nat_le c.args.span (get_or cs (many_own - 1) 0) && nat_le (c.args.time - get_or ts (first + (many_own - 1)) 0) v.age)) w.if-soon.true)
      | else-soon w ↦ w.hit-is ∙ w.if-soon.false
          ∙ sym (ap (λ b. b && (nat_le c.args.span (get_or cs (many_own - 1) 0) && nat_le (c.args.time - get_or ts (first + (many_own - 1)) 0) v.age)) w.if-soon.false)
    ] in
    let rest : c.if-hit.rest ≡ cond (own (many_own - 1)) (length cs) many_own = elim c.if-hit.branch [
      | then-hit w ↦ let yes : own (many_own - 1) ≡ true = sym last ∙ w.if-hit.true in
          rw yes (omega (arith, w.rest-is, rows, ap (λ u. length u.items) we.capacities))
      | else-hit w ↦ let no : own (many_own - 1) ≡ false = sym last ∙ w.if-hit.false in rw no (w.rest-is ∙ width)
    ] in
    let took = c.take_rows.ensures in let r = c.take_rows.new.self in let missed = c.miss_from.ensures in let new = c.miss_from.new.self in
    let multiple : k * length cs ≡ c.args.first =
    ap (λ u. k * length u.items) we.capacities ∙ ap (λ m. c.args.first / m * n) rows ∙ c.requires.aligned in
    let times = subst (λ m. AreFetched own m first c.args.time ts r.times.items) width
    (subst (λ m. AreFetched (is_row_hit c.args.soon c.args.span c.args.time v.age m cs ts) c.index-width.result.now m c.args.time ts r.times.items) start took.times) in
    let same : is_row_hit c.args.soon c.args.span c.args.time v.age (k * length cs) cs (fetch_times v)
    ≡ is_row_hit c.args.soon c.args.span c.args.time f.age c.args.first f.capacities.items (fetch_times f) =
    ap (λ a. is_row_hit c.args.soon c.args.span c.args.time a (k * length cs) cs (fetch_times v)) we.age
    ∙ ap (λ m. is_row_hit c.args.soon c.args.span c.args.time f.age m cs (fetch_times v)) multiple
    ∙ ap (λ u. is_row_hit c.args.soon c.args.span c.args.time f.age c.args.first u.items (fetch_times v)) we.capacities
    ∙ ap (is_row_hit c.args.soon c.args.span c.args.time f.age c.args.first f.capacities.items) we.times in
    let new_times : times_by (length cs) v.firsts.items v.widths.items r.times.items ≡ fetch_times new =
    sym (ap (λ u. times_by (length u.items) new.firsts.items new.widths.items new.times.items) (missed.capacities ∙ took.capacities)
    ∙ ap (λ u. times_by (length cs) u.items new.widths.items new.times.items) (missed.firsts ∙ took.firsts)
    ∙ ap (λ u. times_by (length cs) v.firsts.items u.items new.times.items) (missed.widths ∙ took.widths)
    ∙ ap (λ u. times_by (length cs) v.firsts.items v.widths.items u.items) missed.times) in
    subst (AreFetched _ _ _ _ _) new_times
    (AreFetched-as _ _ _ _ _ _ c.args.time _ _ _ same (ap (λ u. length u.items) we.capacities) multiple we.times
    (times_take v.narrow cs v.firsts.items v.widths.items ts we.blocks r.times.items k here own c.args.time times
    (is_row_hit c.args.soon c.args.span c.args.time v.age (k * length cs) cs (fetch_times v)) many
    (hits_alike v.narrow cs v.firsts.items v.widths.items ts we.blocks k here many c.args.soon c.args.span c.args.time v.age
    we.enough)))
