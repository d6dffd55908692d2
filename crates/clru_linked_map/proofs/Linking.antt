-- Chains with their numbers: a key that comes, one that goes, and a number that is written anew.
use Rattle.std.proofs.Common.{◌≡◌, ℕ, ◌<◌, ◌≤◌, Option, Some, None, refl, sym, ap, ◌∙◌, subst, arith, inl, inr}
use Rattle.std.proofs.lemmas.Bool.{cases_eq}
use Rattle.clru_list.specs.Places.{nowhere}
use Rattle.clru_list.proofs.Puts.{put-here, put-other}
use Rattle.clru_linked_map.specs.Chained.{steps_of, is_of, of_bucket, IsCut, IsHint, IsLinked, IsRelinked}
use Rattle.clru_linked_map.proofs.Chaining.{steps_off, of_bucket-off, met_key, chained_same, chained_insert, chained_remove}
use Rattle.clru_linked_map.proofs.Cuts.{cut_here, cut_next}
use Rattle.clru_linked_map.proofs.Hints.{steps_placed, relinked_places, link_stays, as_hint, met_before, not_met, slot_after, linked_same}

-- a number that is written anew, for the same place, leaves the steps
pub steps_again : (place : ℕ → ℕ) {first next first' next' : ℕ → ℕ} {h at n : ℕ} → IsRelinked first next h at n first' next'
    → place n ≡ steps_of (λ g. place (first g)) (λ p. place (next p)) h at
    → (q : ℕ) → steps_of (λ g. place (first' g)) (λ p. place (next' p)) h q ≡ steps_of (λ g. place (first g)) (λ p. place (next p)) h q
steps_again place {first} {next} {first'} {next'} {h} {at} {n} set named q =
    let f = steps_of (λ g. place (first g)) (λ p. place (next p)) h in (relinked_places place set).here q ∙ elim (cases_eq at q) [
      | inl e ↦ put-here f at (place n) q e ∙ named ∙ ap f e
      | inr d ↦ put-other f at (place n) q d
    ]

module _ {K : Type 0} {hash : K → ℕ} {tag : ℕ → ℕ} {low ahead : ℕ} {home : K → ℕ} {place first next : ℕ → ℕ} {key : ℕ → Option K}
    (l : IsLinked hash tag low ahead home place first next key) where
  abbrev buckets : ℕ → ℕ
  buckets h = place (first h)

  abbrev link : ℕ → ℕ
  link q = place (next q)

  -- the number of a step is written anew
  pub linked_again : (h at n : ℕ) (first' next' : ℕ → ℕ) → 0 < of_bucket home h key at → IsRelinked first next h at n first' next'
      → place n ≡ steps_of buckets link h at → tag n ≡ tag (steps_of first next h at) → (low < n → steps_of buckets link h at ≡ nowhere → ⊥)
      → (n ≤ low → link (steps_of buckets link h at) ≡ nowhere) → (ahead' : ℕ)
      → (low < n → link (steps_of buckets link h at) ≡ nowhere → steps_of buckets link h at ≡ ahead')
      → ((g q : ℕ) → 0 < of_bucket home g key q → low < steps_of first next g q → low < steps_of first' next' g q
      → link (steps_of buckets link g q) ≡ nowhere → steps_of buckets link g q ≡ ahead → steps_of buckets link g q ≡ ahead')
      → IsLinked hash tag low ahead' home place first' next' key
  linked_again h at n first' next' met set named tagged leads ends ahead' on moves =
      let rel = relinked_places place set in let steps = steps_again place set named in
      let starts : (g : ℕ) → place (first' g) ≡ buckets g = λ g. elim (cases_eq g h) [
        | inl e ↦ subst (λ x. place (first' x) ≡ buckets x) (sym e) (steps nowhere)
        | inr d ↦ rel.others g d
      ] in
      let links : (q : ℕ) → (q ≡ nowhere → ⊥) → place (next' q) ≡ link q = λ q off.
      sym (steps_off (λ g. place (first' g)) (λ p. place (next' p)) h q off) ∙ steps q ∙ steps_off buckets link h q off in
      record {
        chains = chained_same home l.chains (λ g. place (first' g)) (λ p. place (next' p)) key starts (λ q k off is. links q off) (λ q off. refl);
        hints = λ g q here. elim (slot_after l met set g q here) [
          | inl it ↦
              let old = l.hints h at met in
              as_hint it.2 (steps_placed place first' next' g q ∙ ap place it.2 ∙ named) (record {
                leads = leads;
                on = λ more end. on more (sym (links (steps_of buckets link h at) (leads more)) ∙ end);
                tagged = λ k off held. tagged ∙ old.tagged k off held;
                ends = λ k off held short. links (steps_of buckets link h at) off ∙ ends short;
              })
          | inr stays ↦
              let old = l.hints g q here in
              as_hint stays (steps_placed place first' next' g q ∙ ap place stays ∙ sym (steps_placed place first next g q)) (record {
                leads = old.leads;
                on = λ more end.
                    let was = sym (links (steps_of buckets link g q) (old.leads more)) ∙ end in
                    moves g q here more (subst (λ x. low < x) (sym stays) more) was (old.on more was);
                tagged = old.tagged;
                ends = λ k off held short. links (steps_of buckets link g q) off ∙ old.ends k off held short;
              })
        ];
      }

  -- a key comes at a new place, behind a place of its bucket's chain: the number that leads to this says that it is linked on
  pub linked_insert : (h : ℕ) {at : ℕ} → ahead ≡ at → IsCut (steps_of buckets link h) (of_bucket home h key) at
      → (p n : ℕ) (first' next' : ℕ → ℕ) (key' : ℕ → Option K) (k : K) → (p ≡ nowhere → ⊥) → key p ≡ None → IsRelinked first next h at n first' next'
      → place n ≡ p → tag n ≡ tag (hash k) → (n ≤ low → link p ≡ nowhere) → (low < n → link p ≡ nowhere → ⊥)
      → link p ≡ steps_of buckets link h at → (link p ≡ at → at ≡ nowhere) → IsHint hash tag low ahead link key (next p) (link p)
      → ((g r : ℕ) → 0 < of_bucket home g key r → steps_of buckets link g r ≡ at → (at ≡ nowhere → ⊥) → low < steps_of first next g r)
      → key' p ≡ Some k → home k ≡ h → ((q : ℕ) → (q ≡ p → ⊥) → key' q ≡ key q) → IsLinked hash tag low nowhere home place first' next' key'
  linked_insert h {at} front cut p n first' next' key' k off fresh set named tagged last led onward loop own before new is keys =
      let here = cut_here cut in
      let rel = subst (λ t. IsRelinked buckets link h at t (λ g. place (first' g)) (λ q. place (next' q))) named (relinked_places place set) in
      let away : at ≡ p → ⊥ = λ e.
      let (j, held, _) = met_key home h key p off (subst (λ x. 0 < of_bucket home h key x) e here) in
      let no : None ≡ Some j = sym fresh ∙ held in cc in
      let carry : (m s : ℕ) → (s ≡ p → ⊥) → (s ≡ at → (at ≡ nowhere → ⊥) → low < m) → IsHint hash tag low ahead link key m s
      → IsHint hash tag low nowhere (λ q. place (next' q)) key' m s = λ m s other leads old. record {
        leads = old.leads;
        on = λ more end. elim (cases_eq at s) [
          | inl e ↦
              let o : at ≡ nowhere → ⊥ = λ z. old.leads more (sym e ∙ z) in
              let to : place (next' at) ≡ p =
              sym (steps_off (λ g. place (first' g)) (λ q. place (next' q)) h at o) ∙ rel.here at ∙ put-here (steps_of buckets link h) at p at refl in
              absurd (off (sym to ∙ ap (λ q. place (next' q)) e ∙ end))
          | inr d ↦ absurd (d (sym (old.on more (sym (link_stays rel s (old.leads more) d) ∙ end) ∙ front)))
        ];
        tagged = λ j o held. old.tagged j o (sym (keys s other) ∙ held);
        ends = λ j o held short.
            link_stays rel s o (λ e. let more = leads (sym e) (λ z. o (sym e ∙ z)) in omega (arith, more, short)) ∙ old.ends j o (sym (keys s other) ∙ held) short;
      } in
      record {
        chains = chained_insert home l.chains h cut p (λ g. place (first' g)) (λ q. place (next' q)) key' k off fresh onward rel new is keys;
        hints = λ g q met. elim (cases_eq q p) [
          | inl e ↦
              let stays : steps_of first' next' g p ≡ next p = steps_off first' next' g p off ∙ link_stays set p off away in
              let there = steps_placed place first' next' g p ∙ ap place stays in
              subst (λ x. IsHint hash tag low nowhere (λ y. place (next' y)) key' (steps_of first' next' g x) (steps_of (λ y. place (first' y)) (λ y. place (next' y)) g x)) (sym e)
              (as_hint stays there (carry (next p) (link p) (λ d. not_met l h at p here off fresh (sym onward ∙ d)) (λ d o. absurd (o (loop d))) own))
          | inr d ↦
              let old : 0 < of_bucket home g key q = met_before home g q key key' (keys q d) met in
              elim (slot_after l here set g q old) [
                | inl it ↦ as_hint it.2 (steps_placed place first' next' g q ∙ ap place it.2 ∙ named) (record {
                  leads = λ more. off;
                  on = λ more end. absurd (led more (sym (link_stays rel p off away) ∙ end));
                  tagged = λ j o held. let both : Some k ≡ Some j = sym new ∙ held in let same : k ≡ j = cc in tagged ∙ ap (λ x. tag (hash x)) same;
                  ends = λ j o held short. link_stays rel p off away ∙ last short;
                })
                | inr stays ↦
                    as_hint stays (steps_placed place first' next' g q ∙ ap place stays ∙ sym (steps_placed place first next g q))
                    (carry (steps_of first next g q) (steps_of buckets link g q) (not_met l g q p old off fresh) (before g q old) (l.hints g q old))
              ]
        ];
      }

  -- the key at the next place of a chain goes
  pub linked_remove : (h : ℕ) {at : ℕ} → ahead ≡ nowhere → IsCut (steps_of buckets link h) (of_bucket home h key) at
      → (p : ℕ) (first' next' : ℕ → ℕ) (key' : ℕ → Option K) → (p ≡ nowhere → ⊥) → steps_of buckets link h at ≡ p
      → IsRelinked first next h at (next p) first' next' → key' p ≡ None
      → ((q : ℕ) → (q ≡ p → ⊥) → key' q ≡ key q) → IsLinked hash tag low at home place first' next' key'
  linked_remove h {at} exact cut p first' next' key' off step set gone keys =
      let here = cut_here cut in
      let rel = relinked_places place set in
      let carry : (m s : ℕ) → IsHint hash tag low ahead link key m s → IsHint hash tag low at (λ q. place (next' q)) key' m s = λ m s old.
      let was : (j : K) → key' s ≡ Some j → key s ≡ Some j = λ j held.
      sym (keys s (λ e. let no : None ≡ Some j = sym gone ∙ ap key' (sym e) ∙ held in cc)) ∙ held in
      record {
        leads = old.leads;
        on = λ more end. elim (cases_eq at s) [
          | inl e ↦ sym e
          | inr d ↦ absurd (old.leads more (old.on more (sym (link_stays rel s (old.leads more) d) ∙ end) ∙ exact))
        ];
        tagged = λ j o held. old.tagged j o (was j held);
        ends = λ j o held short. elim (cases_eq at s) [
          | inl e ↦ absurd (off (sym step ∙ steps_off buckets link h at (λ z. o (sym e ∙ z)) ∙ ap link e ∙ old.ends j o (was j held) short))
          | inr d ↦ link_stays rel s o d ∙ old.ends j o (was j held) short
        ];
      } in
      record {
        chains = chained_remove home l.chains h cut p (λ g. place (first' g)) (λ q. place (next' q)) key' off step rel gone keys;
        hints = λ g q met. elim (cases_eq q p) [
          | inl e ↦
              let none : of_bucket home g key' p ≡ 0 = of_bucket-off home g key' p off ∙ ap (λ o. is_of home g o) gone in
              let some = subst (λ x. 0 < of_bucket home g key' x) e met in absurd (omega (arith, some, none))
          | inr d ↦
              let old : 0 < of_bucket home g key q = met_before home g q key key' (keys q d) met in
              elim (slot_after l here set g q old) [
                | inl it ↦
                    let there = l.hints h p (cut_next cut p step off) in
                    as_hint it.2 (steps_placed place first' next' g q ∙ ap place it.2)
                    (carry (next p) (link p) (as_hint (sym (steps_off first next h p off)) (sym (steps_off buckets link h p off)) there))
                | inr stays ↦
                    as_hint stays (steps_placed place first' next' g q ∙ ap place stays ∙ sym (steps_placed place first next g q))
                    (carry (steps_of first next g q) (steps_of buckets link g q) (l.hints g q old))
              ]
        ];
      }

-- a place in no chain is written, and then put first into the chain of its key's bucket
pub linked_first : {K : Type 0} {hash : K → ℕ} {tag : ℕ → ℕ} {low : ℕ} {home : K → ℕ} {place first next : ℕ → ℕ} {key : ℕ → Option K}
    → IsLinked hash tag low nowhere home place first next key → (h p n : ℕ) (k : K) → (p ≡ nowhere → ⊥) → key p ≡ None → home k ≡ h → place n ≡ p → tag n ≡ tag (hash k)
    → (n ≤ low → place (first h) ≡ nowhere) → (low < n → place (first h) ≡ nowhere → ⊥) → {first₁ next₁ first₂ next₂ : ℕ → ℕ}
    → IsRelinked first next h p (first h) first₁ next₁ → IsRelinked first₁ next₁ h nowhere n first₂ next₂ → (key' : ℕ → Option K)
    → key' p ≡ Some k → ((q : ℕ) → (q ≡ p → ⊥) → key' q ≡ key q) → IsLinked hash tag low nowhere home place first₂ next₂ key'
linked_first {place = place} {first = first} {next = next} {key = key} l h p n k off fresh is named tagged last led {first₁} {next₁} {first₂} {next₂} one two key' new keys =
    let start : first₁ h ≡ first h = one.here nowhere ∙ put-other (steps_of first next h) p (first h) nowhere off in
    let same : (g : ℕ) → first₁ g ≡ first g = λ g. elim (cases_eq g h) [
      | inl e ↦ ap first₁ e ∙ start ∙ ap first (sym e)
      | inr d ↦ one.others g d
    ] in
    let l₁ = linked_same l first₁ next₁ same
    (λ q j away held. link_stays one q away (λ e. let no : None ≡ Some j = sym fresh ∙ ap key e ∙ held in cc)) in
    let onward : next₁ p ≡ first₁ h =
    sym (steps_off first₁ next₁ h p off) ∙ one.here p ∙ put-here (steps_of first next h) p (first h) p refl ∙ sym start in
    let cut = l₁.chains.chain h in
    linked_insert l₁ h refl cut p n first₂ next₂ key' k off fresh two named tagged
    (λ short. ap place (onward ∙ start) ∙ last short) (λ more end. led more (sym (ap place (onward ∙ start)) ∙ end)) (ap place onward) (λ e. refl)
    (as_hint onward (ap place onward) (l₁.hints h nowhere (cut_here cut))) (λ g r met e o. absurd (o refl)) new is keys
