-- What the numbers of chains tell: what stays, a key that comes, one that goes, and a number that is written anew.
use Rattle.std.proofs.Common.{◌≡◌, ◌⊎◌, ℕ, ◌<◌, ◌≤◌, ◌==◌, true, false, cond, Option, Some, None, List, [], ◌∷◌, refl, sym, ap, ◌∙◌, subst, arith, inl, inr}
use Rattle.std.proofs.lemmas.Bool.{cases_eq, eq-eqb, ne_eqb}
use mathlib.Core.Path.{fun_ext}
use Rattle.clru_list.specs.Places.{nowhere, count, IsRest}
use Rattle.clru_list.proofs.Puts.{put-here, put-other}
use Rattle.clru_linked_map.specs.Chained.{steps_of, is_of, of_bucket, IsCut, IsHint, IsLinked, IsRelinked}
use Rattle.clru_linked_map.proofs.Chains.{count_here, count_later}
use Rattle.clru_linked_map.proofs.ChainWalks.{none_before}
use Rattle.clru_linked_map.proofs.Chaining.{steps_off, single, met_key, buckets_apart, chained_none, chained_same}

-- where a step leads from a list along which a walk goes: to its end, or to a later place
succ_in : (f : ℕ → ℕ) (from : ℕ) (ps : List ℕ) → IsRest f (f from) ps → (q : ℕ) → 0 < count q (from ∷ ps) → (f q ≡ nowhere) ⊎ (0 < count (f q) ps)
succ_in f from [] path q h = elim (cases_eq q from) [
  | inl e ↦ inl (ap f e ∙ path)
  | inr n ↦ let k = rw (ne_eqb q from n) at h in absurd (omega (arith, k))
]
succ_in f from (p ∷ ps) path q h = elim (cases_eq q from) [
  | inl e ↦ inr (subst (λ x. 0 < count x (p ∷ ps)) (sym (ap f e ∙ path.0)) (count_here p ps))
  | inr n ↦
      let k = rw (ne_eqb q from n) at h in
      elim (succ_in f p ps path.1 q (omega (arith, k))) [ inl e ↦ inl e | inr later ↦ inr (count_later (f q) p ps later) ]
]

-- no later place leads to the first one
first_alone : (f : ℕ → ℕ) (p : ℕ) (ps : List ℕ) → IsRest f (f p) ps → ((x : ℕ) → count x (p ∷ ps) ≤ 1) → (p ≡ nowhere → ⊥)
    → (r : ℕ) → 0 < count r (p ∷ ps) → f r ≡ p → ⊥
first_alone f p ps path once off r h leads = elim (succ_in f p ps path r h) [
  | inl e ↦ off (sym leads ∙ e)
  | inr later ↦
      let again = subst (λ x. 0 < count x ps) leads later in
      let t : (p == p) ≡ true = eq-eqb p p refl in let k = rw t at (once p) in omega (arith, again, k)
]

-- one place alone leads to another
one_leads : (f : ℕ → ℕ) (from : ℕ) (ps : List ℕ) → IsRest f (f from) ps → ((x : ℕ) → count x ps ≤ 1) → (a q r : ℕ) → (a ≡ nowhere → ⊥)
    → 0 < count q (from ∷ ps) → 0 < count r (from ∷ ps) → f q ≡ a → f r ≡ a → q ≡ r
one_leads f from [] path once a q r off hq hr eq er = elim (succ_in f from [] path q hq) [
  | inl e ↦ absurd (off (sym eq ∙ e))
  | inr there ↦ absurd (omega (arith, there))
]
one_leads f from (p ∷ ps) path once a q r off hq hr eq er =
    let later : (x : ℕ) → 0 < count x (from ∷ (p ∷ ps)) → (x ≡ from → ⊥) → 0 < count x (p ∷ ps) =
    λ x h n. let k = rw (ne_eqb x from n) at h in omega (arith, k) in
    let first : (x : ℕ) → x ≡ from → f x ≡ a → p ≡ a = λ x e leads. sym path.0 ∙ ap f (sym e) ∙ leads in
    elim (cases_eq q from) [
      | inl e ↦ elim (cases_eq r from) [
        | inl d ↦ e ∙ sym d
        | inr n ↦
            let is = first q e eq in
            absurd (first_alone f p ps path.1 once (λ z. off (sym is ∙ z)) r (later r hr n) (er ∙ sym is))
      ]
      | inr m ↦ elim (cases_eq r from) [
        | inl d ↦
            let is = first r d er in
            absurd (first_alone f p ps path.1 once (λ z. off (sym is ∙ z)) q (later q hq m) (eq ∙ sym is))
        | inr n ↦ one_leads f p ps path.1 (λ x. let o = once x in omega (arith, o)) a q r off (later q hq m) (later r hr n) eq er
      ]
    ]

-- the whole walk of a cut at the start
record IsWhole (f met : ℕ → ℕ) : Type 0 where
  rest : List ℕ
  ahead : IsRest f (f nowhere) rest
  once : (q : ℕ) → count q (nowhere ∷ rest) ≡ met q

whole : {f met : ℕ → ℕ} → IsCut f met nowhere → met nowhere ≤ 1 → IsWhole f met
whole {f} {met} c start =
    let first : c.before ≡ [] = none_before f c.before c.behind (omega (arith, c.once nowhere, start)) in
    record {
      rest = c.rest;
      ahead = c.ahead;
      once = λ q. let all = rw first at (c.once q) in omega (arith, all);
    }

-- steps along places are those along numbers
pub steps_placed : (place first next : ℕ → ℕ) (h q : ℕ) → steps_of (λ g. place (first g)) (λ p. place (next p)) h q ≡ place (steps_of first next h q)
steps_placed place first next h q =
    elim (nowhere == q) as (λ b. cond b (place (first h)) (place (next q)) ≡ place (cond b (first h) (next q))) [ true ↦ refl | false ↦ refl ]

-- a number that is written is a step that is written
pub relinked_places : (place : ℕ → ℕ) {first next : ℕ → ℕ} {h at n : ℕ} {first' next' : ℕ → ℕ} → IsRelinked first next h at n first' next'
    → IsRelinked (λ g. place (first g)) (λ p. place (next p)) h at (place n) (λ g. place (first' g)) (λ p. place (next' p))
relinked_places place {first} {next} {h} {at} {n} {first'} {next'} r = record {
  here = λ q. steps_placed place first' next' h q ∙ ap place (r.here q) ∙ elim (cases_eq at q) [
    | inl e ↦ ap place (put-here (steps_of first next h) at n q e) ∙ sym (put-here (steps_of (λ g. place (first g)) (λ p. place (next p)) h) at (place n) q e)
    | inr d ↦ ap place (put-other (steps_of first next h) at n q d) ∙ sym (steps_placed place first next h q)
        ∙ sym (put-other (steps_of (λ g. place (first g)) (λ p. place (next p)) h) at (place n) q d)
  ];
  others = λ g d. ap place (r.others g d);
}

-- off the written step the links stay
pub link_stays : {buckets link : ℕ → ℕ} {h at to : ℕ} {buckets' link' : ℕ → ℕ} → IsRelinked buckets link h at to buckets' link'
    → (q : ℕ) → (q ≡ nowhere → ⊥) → (at ≡ q → ⊥) → link' q ≡ link q
link_stays {buckets} {link} {h} {at} {to} {buckets'} {link'} r q off n =
    sym (steps_off buckets' link' h q off) ∙ r.here q ∙ put-other (steps_of buckets link h) at to q n ∙ steps_off buckets link h q off

-- a hint is one of the same number and place
pub as_hint : {K : Type 0} {hash : K → ℕ} {tag : ℕ → ℕ} {low ahead : ℕ} {link : ℕ → ℕ} {key : ℕ → Option K} {n n' p p' : ℕ} → n' ≡ n → p' ≡ p
    → IsHint hash tag low ahead link key n p → IsHint hash tag low ahead link key n' p'
as_hint {K} {hash} {tag} {low} {ahead} {link} {key} {n} {n'} {p} {p'} number place hint =
    subst (λ x. IsHint hash tag low ahead link key n' x) (sym place) (subst (λ x. IsHint hash tag low ahead link key x p) (sym number) hint)

-- what is met of other keys is met where the key there is the same
pub met_before : {K : Type 0} (home : K → ℕ) (g q : ℕ) (key key' : ℕ → Option K) → key' q ≡ key q → 0 < of_bucket home g key' q → 0 < of_bucket home g key q
met_before home g q key key' same met =
    (elim (nowhere == q) as (λ b. 0 < cond b 1 (is_of home g (key' q)) → 0 < cond b 1 (is_of home g (key q))) [
      | true ↦ λ m. m
      | false ↦ λ m. subst (λ o. 0 < is_of home g o) same m
    ]) met

module _ {K : Type 0} {hash : K → ℕ} {tag : ℕ → ℕ} {low ahead : ℕ} {home : K → ℕ} {place : ℕ → ℕ} where
  -- chains and hints stay where the keys do
  pub keys_stay : {first next : ℕ → ℕ} (key key' : ℕ → Option K) → ((q : ℕ) → key' q ≡ key q)
      → IsLinked hash tag low ahead home place first next key → IsLinked hash tag low ahead home place first next key'
  keys_stay {first} {next} key key' same l = subst (λ k. IsLinked hash tag low ahead home place first next k) (sym (fun_ext same)) l

  -- the chains of no keys
  pub linked_none : (first next : ℕ → ℕ) (key : ℕ → Option K) → ((h : ℕ) → first h ≡ 0) → place 0 ≡ nowhere
      → ((q : ℕ) → (q ≡ nowhere → ⊥) → key q ≡ None) → IsLinked hash tag low ahead home place first next key
  linked_none first next key free none keys = record {
    chains = chained_none home (λ h. place (first h)) (λ q. place (next q)) key (λ h. ap place (free h) ∙ none) keys;
    hints = λ h q met. elim (cases_eq q nowhere) [
      | inl e ↦
          let zero : steps_of first next h q ≡ 0 = put-here next nowhere (first h) q (sym e) ∙ free h in
          let is : steps_of (λ g. place (first g)) (λ p. place (next p)) h q ≡ nowhere = steps_placed place first next h q ∙ ap place zero ∙ none in
          record {
            leads = λ more. absurd (omega (arith, more, zero));
            on = λ more end. absurd (omega (arith, more, zero));
            tagged = λ k off held. absurd (off is);
            ends = λ k off held last. absurd (off is);
          }
      | inr off ↦ let (k, is, _) = met_key home h key q off met in let no : None ≡ Some k = sym (keys q off) ∙ is in cc
    ];
  }

  module _ {first next : ℕ → ℕ} {key : ℕ → Option K} (l : IsLinked hash tag low ahead home place first next key) where
    abbrev buckets : ℕ → ℕ
    buckets h = place (first h)

    abbrev link : ℕ → ℕ
    link q = place (next q)

    -- a place that a chain meets leads to nowhere, or to another that it meets
    pub step_met : (h q : ℕ) → 0 < of_bucket home h key q → (steps_of buckets link h q ≡ nowhere → ⊥) → 0 < of_bucket home h key (steps_of buckets link h q)
    step_met h q met off =
        let w = whole (l.chains.chain h) (single home h key nowhere) in
        elim (succ_in (steps_of buckets link h) nowhere w.rest w.ahead q (omega (arith, met, w.once q))) [
          | inl e ↦ absurd (off e)
          | inr later ↦ omega (arith, later, w.once (steps_of buckets link h q), count_later (steps_of buckets link h q) nowhere w.rest later)
        ]

    -- no chain leads to a place without a key
    pub not_met : (h q p : ℕ) → 0 < of_bucket home h key q → (p ≡ nowhere → ⊥) → key p ≡ None → steps_of buckets link h q ≡ p → ⊥
    not_met h q p met off fresh e =
        let there = subst (λ x. 0 < of_bucket home h key x) e (step_met h q met (λ z. off (sym e ∙ z))) in
        let (k, is, _) = met_key home h key p off there in let no : None ≡ Some k = sym fresh ∙ is in cc

    -- to each other place one step alone leads
    pub one_before : (h g q r a : ℕ) → (a ≡ nowhere → ⊥) → 0 < of_bucket home h key q → 0 < of_bucket home g key r
        → steps_of buckets link h q ≡ a → steps_of buckets link g r ≡ a → (g ≡ h) × (q ≡ r)
    one_before h g q r a off hq hr eq er =
        let here = subst (λ x. 0 < of_bucket home h key x) eq (step_met h q hq (λ z. off (sym eq ∙ z))) in
        let there = subst (λ x. 0 < of_bucket home g key x) er (step_met g r hr (λ z. off (sym er ∙ z))) in
        let same : g ≡ h = buckets_apart home h g key a off here there in
        let w = whole (l.chains.chain h) (single home h key nowhere) in (
          same,
          one_leads (steps_of buckets link h) nowhere w.rest w.ahead (λ x. omega (arith, w.once x, single home h key x)) a q r off
              (omega (arith, hq, w.once q)) (omega (arith, subst (λ x. 0 < of_bucket home x key r) same hr, w.once r)) eq
              (subst (λ x. steps_of buckets link x r ≡ a) same er),
        )

    -- a written step is that of the chain of h, and each other one of a chain stays
    pub slot_after : {f k f' k' : ℕ → ℕ} {h at to : ℕ} → 0 < of_bucket home h key at → IsRelinked f k h at to f' k' → (g q : ℕ) → 0 < of_bucket home g key q
        → ((g ≡ h) × (q ≡ at) × (steps_of f' k' g q ≡ to)) ⊎ (steps_of f' k' g q ≡ steps_of f k g q)
    slot_after {f} {k} {f'} {k'} {h} {at} {to} here r g q met = elim (cases_eq g h) [
      | inl e ↦ elim (cases_eq at q) [
        | inl d ↦ inl (e, sym d, subst (λ x. steps_of f' k' x q ≡ to) (sym e) (r.here q ∙ put-here (steps_of f k h) at to q d))
        | inr d ↦ inr (subst (λ x. steps_of f' k' x q ≡ steps_of f k x q) (sym e) (r.here q ∙ put-other (steps_of f k h) at to q d))
      ]
      | inr n ↦ elim (cases_eq q nowhere) [
        | inl e ↦ inr (put-here k' nowhere (f' g) q (sym e) ∙ r.others g n ∙ sym (put-here k nowhere (f g) q (sym e)))
        | inr off ↦ inr (steps_off f' k' g q off ∙ link_stays r q off
            (λ e. n (buckets_apart home h g key q off (subst (λ x. 0 < of_bucket home h key x) e here) met)) ∙ sym (steps_off f k g q off))
      ]
    ]

    -- chains and hints stay where the buckets and the links of keys do
    pub linked_same : (first' next' : ℕ → ℕ) → ((h : ℕ) → first' h ≡ first h)
        → ((q : ℕ) (k : K) → (q ≡ nowhere → ⊥) → key q ≡ Some k → next' q ≡ next q) → IsLinked hash tag low ahead home place first' next' key
    linked_same first' next' same links = record {
      chains = chained_same home l.chains (λ h. place (first' h)) (λ q. place (next' q)) key (λ h. ap place (same h))
          (λ q k off is. ap place (links q k off is)) (λ q off. refl);
      hints = λ h q met.
          let stays : steps_of first' next' h q ≡ steps_of first next h q = elim (cases_eq q nowhere) [
            | inl e ↦ put-here next' nowhere (first' h) q (sym e) ∙ same h ∙ sym (put-here next nowhere (first h) q (sym e))
            | inr off ↦
                let (k, is, _) = met_key home h key q off met in
                steps_off first' next' h q off ∙ links q k off is ∙ sym (steps_off first next h q off)
          ] in
          let placed = steps_placed place first' next' h q ∙ ap place stays ∙ sym (steps_placed place first next h q) in
          let old = l.hints h q met in
          let hint : IsHint hash tag low ahead (λ p. place (next' p)) key (steps_of first next h q) (steps_of buckets link h q) = record {
            leads = old.leads;
            on = λ more end.
                let away = old.leads more in
                let (k, is, _) = met_key home h key (steps_of buckets link h q) away (step_met h q met away) in
                old.on more (sym (ap place (links (steps_of buckets link h q) k away is)) ∙ end);
            tagged = old.tagged;
            ends = λ k off is last. ap place (links (steps_of buckets link h q) k off is) ∙ old.ends k off is last;
          } in
          as_hint stays placed hint;
    }
