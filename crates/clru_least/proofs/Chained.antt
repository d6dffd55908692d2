-- Chains of the latest requests, after one more request.
use Rattle.std.proofs.Common.{◌≡◌, ℕ, suc, ◌+◌, ◌-◌, ◌<◌, ◌≤◌, Bool, true, false, cond, if◌then◌else◌, eqb, eq-eqb, leb, List, [], ◌∷◌, ◌++◌, length, get_or, set, reverse, take, Some, None, refl, sym, ap, ◌∙◌, subst, arith}
use Rattle.std.proofs.Math.ListN.{get_or-append}
use Rattle.std.proofs.lemmas.Bool.{eqb-true, eqb-false, le-leb, lt-leb}
use Rattle.std.proofs.lemmas.Grind.{get_or-set_at, same_number_lists}
use Rattle.std.proofs.lemmas.List.{get_or_push, get_or-set_same, get_or-set_other, length-append, length-reverse, length-set, length-take-le, reverse-append, take_all, take_more}
use Rattle.std.proofs.lemmas.Option.{slice_get-get_or}
use Rattle.std.specs.Cmp.{IsEquivalence}
use Rattle.std.specs.List.{AllByRecursion, slice_get}
use Rattle.clru_list.specs.Places.{put}
use Rattle.clru_list.proofs.Retaining.{some_injective}
use Rattle.clru_model.specs.Requests.{IsLatestOf}
use Rattle.clru_model.proofs.Cases.{split}
use Rattle.clru_model.proofs.Distinct.{same_right}
use Rattle.clru_model.proofs.LatestRequests.{latest_more}
use Rattle.clru_least.specs.Chains.{AreTaken, IsChain, IsInBucket, IsWalked, LeadsAlong, cut_out, first_behind, first_of, last_number, next_in, number_in, same_at}
use Rattle.clru_least.specs.Passes.{IsForesight}
use Rattle.clru_least.proofs.ChainWalks.{all_left, all_map, all_right, all_without, first_of_cut, first_of_none, first_of_passed, last_split, leads_below, leads_cut, leads_pair, leads_same, leads_within, same_there}
use Rattle.clru_least.proofs.Laters.{foresight_length, noted_first, noted_again}

-- a link tells no next request
pub next_link : (ns : List ℕ) (p : ℕ) → number_in ns p ≤ p → next_in ns p ≡ 0
next_link ns p low = rw (le-leb (number_in ns p) p low) refl

pub next_same : (ns ns' : List ℕ) (p : ℕ) → number_in ns' p ≡ number_in ns p → next_in ns' p ≡ next_in ns p
next_same ns ns' p same = ap (λ n. cond (leb n p) 0 n) same

-- a greater number does
pub next_above : (ns : List ℕ) (p n : ℕ) → number_in ns p ≡ n → p < n → next_in ns p ≡ n
next_above ns p n is above = rw (is, lt-leb n p above) refl

module _ (ns : List ℕ) (first next behind number p : ℕ) (is : number ≡ suc p) where
  some_test : eqb number 0 ≡ false
  some_test = split (eqb number 0) (λ t. absurd (omega (arith, eqb-true number 0 t, is))) (λ e. e)

  less : number - 1 ≡ p
  less = omega (arith, is)

  -- at the beginning of its chain
  module _ (none : behind ≡ 0) where
    cut_head : (q n : ℕ) → (if eqb number 0 then n else number_in (cut_out ns behind number next) q) ≡ number_in (set ns p next) q
    cut_head q n = rw (some_test, none, less) refl

    first_head : (if eqb number 0 then first else first_behind ns first behind number) ≡ number_in ns p
    first_head = rw (some_test, none, less) refl

  -- or behind b
  module _ (b : ℕ) (last : behind ≡ suc b) where
    later_test : eqb behind 0 ≡ false
    later_test = split (eqb behind 0) (λ t. absurd (omega (arith, eqb-true behind 0 t, last))) (λ e. e)

    less_b : behind - 1 ≡ b
    less_b = omega (arith, last)

    cut_middle : (q n : ℕ) → (if eqb number 0 then n else number_in (cut_out ns behind number next) q)
        ≡ number_in (set (set ns p next) b (number_in ns p)) q
    cut_middle q n = rw (some_test, later_test, less, less_b) refl

    first_middle : (if eqb number 0 then first else first_behind ns first behind number) ≡ first
    first_middle = rw (some_test, later_test) refl

-- the chain of a bucket
pub chain_of : {K : Type 0} (eq : K → K → Bool) (keys : List K) (home : K → ℕ) (i : ℕ) (numbers firsts : List ℕ)
    (chained : AreTaken eq keys home i numbers firsts) (h : ℕ) → IsChain (number_in numbers) (number_in firsts h) i (chained.chains h)
chain_of eq keys home i numbers firsts chained h = record {
  leads = chained.leads h;
  below = all_map (IsInBucket eq keys home i h) (λ q. q < i) (chained.chains h) (λ q of. of.before) (chained.homed h);
}

module _ {K : Type 0} (eq : K → K → Bool) (laws : IsEquivalence eq) (keys : List K) (home : K → ℕ)
    (respects : (y z : K) → eq y z ≡ true → home y ≡ home z) where
  module _ (i : ℕ) (x : K) (numbers firsts numbers' firsts' : List ℕ) (chained : AreTaken eq keys home i numbers firsts)
      (at : slice_get keys i ≡ Some x) (within : i < length keys) (led : home x < length firsts)
      (written : firsts' ≡ set firsts (home x) (i + 1)) where
    -- the requests up to one more
    pub past_more : reverse (take (i + 1) keys) ≡ x ∷ reverse (take i keys)
    past_more =
        let is : get_or keys i x ≡ x = some_injective (sym (slice_get-get_or keys i x within) ∙ at) in
        ap (λ l. reverse l) (take_more keys i x within ∙ ap (λ k. take i keys ++ k ∷ []) is) ∙ reverse-append (take i keys) (x ∷ [])

    pub past_long : i ≡ length (reverse (take i keys))
    past_long = omega (arith, length-reverse (take i keys), length-take-le i keys (omega (arith, within)))

    nexts_long : length chained.nexts ≡ i
    nexts_long =
        foresight_length eq (reverse (take i keys)) chained.nexts chained.foresight ∙ length-reverse (reverse (take i keys)) ∙ sym past_long

    first_here : (g : ℕ) → home x ≡ g → number_in firsts' g ≡ suc i
    first_here g is = let e = ap (λ l. get_or l g 0) written ∙ get_or-set_at firsts (home x) g (i + 1) 0 (sym is) led in omega (arith, e)

    first_other : (g : ℕ) → (home x ≡ g → ⊥) → number_in firsts' g ≡ number_in firsts g
    first_other g other = ap (λ l. get_or l g 0) written ∙ get_or-set_other firsts (home x) g (i + 1) 0 (λ e. other (sym e))

    -- the request stands in front of what is left of its chain
    pub chained_with : (cut nexts : List ℕ) → LeadsAlong (number_in numbers') (number_in numbers' i) cut → number_in numbers' i ≤ i
        → AllByRecursion (IsInBucket eq keys home i (home x)) cut
        → ((z : K) → eq z x ≡ false → first_of eq keys z cut ≡ first_of eq keys z (chained.chains (home x)))
        → ((g q : ℕ) → (home x ≡ g → ⊥) → IsInBucket eq keys home i g q → number_in numbers' q ≡ number_in numbers q)
        → IsForesight eq (x ∷ reverse (take i keys)) nexts → ((q : ℕ) → q < i → next_in numbers' q ≡ number_in nexts q)
        → number_in nexts i ≡ 0 → ((q : ℕ) → i < q → number_in numbers' q ≡ 0)
        → AreTaken eq keys home (i + 1) numbers' firsts'
    chained_with cut nexts front low homed apart others foresight same last blank = record {
      chains = chains;
      leads = λ g. split (eqb h g)
          (λ t. rw t (first_here g (eqb-true h g t), low, front))
          (λ f. let other = eqb-false h g f in
          rw f (subst (λ n. LeadsAlong (number_in numbers') n (chained.chains g)) (sym (first_other g other))
          (leads_same (number_in numbers) (number_in numbers') (number_in firsts g) (chained.chains g)
          (all_map (IsInBucket eq keys home i g) (λ q. number_in numbers' q ≡ number_in numbers q) (chained.chains g) (λ q of. others g q other of) (chained.homed g))
          (chained.leads g))));
      homed = λ g. split (eqb h g)
          (λ t. let is = eqb-true h g t in
          rw t (
            record { bucket = λ k there. ap home (some_injective (sym there ∙ at)) ∙ is; before = omega arith },
            all_map (IsInBucket eq keys home i h) (IsInBucket eq keys home (i + 1) g) cut
                (λ q of. record { bucket = λ k there. of.bucket k there ∙ is; before = omega (arith, of.before) }) homed,
          ))
          (λ f. rw f (all_map (IsInBucket eq keys home i g) (IsInBucket eq keys home (i + 1) g) (chained.chains g)
          (λ q of. record { bucket = of.bucket; before = omega (arith, of.before) }) (chained.homed g)));
      latest = λ z. subst (λ l. IsLatestOf eq l z (first_of eq keys z (chains (home z)))) (sym past_more)
          (latest_more eq (reverse (take i keys)) x z i past_long (first_of eq keys z (chained.chains (home z))) (first_of eq keys z (chains (home z)))
          (chained.latest z) (update z));
      nexts = nexts;
      foresight = subst (λ l. IsForesight eq l nexts) (sym past_more) foresight;
      same = λ p before. split (eqb p i)
          (λ t. subst (λ q. next_in numbers' q ≡ number_in nexts q) (sym (eqb-true p i t)) (next_link numbers' i low ∙ sym last))
          (λ f. same p (omega (arith, before, eqb-false p i f)));
      blank = λ p behind. blank p (omega (arith, behind));
    }
      where
        h : ℕ
        h = home x

        chains : ℕ → List ℕ
        chains = put chained.chains h (i ∷ cut)

        update : (z : K) → first_of eq keys z (chains (home z)) ≡ cond (eq z x) (Some i) (first_of eq keys z (chained.chains (home z)))
        update z = split (eq z x)
            (λ t. let e : eqb h (home z) ≡ true = eq-eqb h (home z) (respects x z (laws.symm x z ∙ t)) in
            let here : same_at eq keys z i ≡ true = same_there eq keys z x i at ∙ t in
            rw (t, e, here) refl)
            (λ f. let not_here : same_at eq keys z i ≡ false = same_there eq keys z x i at ∙ f in
            split (eqb h (home z))
            (λ e. rw (f, e, not_here) (apart z f ∙ ap (λ g. first_of eq keys z (chained.chains g)) (eqb-true h (home z) e)))
            (λ e. rw (f, e) refl))

    -- the key was not requested before
    pub chained_first : (first_of eq keys x (chained.chains (home x)) ≡ None) → number_in numbers' i ≡ number_in firsts (home x)
        → ((q : ℕ) → (q ≡ i → ⊥) → number_in numbers' q ≡ number_in numbers q) → AreTaken eq keys home (i + 1) numbers' firsts'
    chained_first none here others =
        let chain = chained.chains (home x) in let f = number_in numbers in let past = reverse (take i keys) in
        let is = chain_of eq keys home i numbers firsts chained (home x) in
        chained_with chain (chained.nexts ++ 0 ∷ [])
        (subst (λ n. LeadsAlong (number_in numbers') n chain) (sym here) (leads_same f (number_in numbers') (f' (home x)) chain
        (all_map (λ q. q < i) (λ q. number_in numbers' q ≡ f q) chain (λ q lt. others q (λ e. omega (arith, e, lt))) is.below) is.leads))
        (omega (arith, here, leads_within f (f' (home x)) i (chain, is)))
        (chained.homed (home x))
        (λ z _. refl)
        (λ g q _ of. others q (λ e. omega (arith, e, of.before)))
        (noted_first eq laws past chained.nexts chained.foresight x (first_of eq keys x chain) (chained.latest x) (chained.nexts ++ 0 ∷ []) none refl)
        (λ q lt. next_same numbers numbers' q (others q (λ e. omega (arith, e, lt))) ∙ chained.same q lt
        ∙ sym (get_or-append chained.nexts (0 ∷ []) 0 q (omega (arith, lt, nexts_long))))
        (get_or_push chained.nexts 0 0 i nexts_long)
        (λ q lt. others q (λ e. omega (arith, e, lt)) ∙ chained.blank q (omega (arith, lt)))
      where
        f' : ℕ → ℕ
        f' = number_in firsts

    -- the latest request of the key stands at p, and is cut out
    pub chained_again : (p : ℕ) (before rest : List ℕ) → chained.chains (home x) ≡ before ++ p ∷ rest
        → AllByRecursion (λ q. same_at eq keys x q ≡ false) before → same_at eq keys x p ≡ true
        → LeadsAlong (number_in numbers') (number_in numbers' i) (before ++ rest) → number_in numbers' i ≤ i
        → number_in numbers' p ≡ i → ((q : ℕ) → q < i → (q ≡ p → ⊥) → next_in numbers' q ≡ next_in numbers q)
        → ((g q : ℕ) → (home x ≡ g → ⊥) → IsInBucket eq keys home i g q → number_in numbers' q ≡ number_in numbers q)
        → ((q : ℕ) → i < q → number_in numbers' q ≡ number_in numbers q) → AreTaken eq keys home (i + 1) numbers' firsts'
    chained_again p before rest parts passed same front low taken kept others behind =
        let past = reverse (take i keys) in
        let homed = subst (λ l. AllByRecursion (IsInBucket eq keys home i (home x)) l) parts (chained.homed (home x)) in
        let of = (all_right (IsInBucket eq keys home i (home x)) before (p ∷ rest) homed).0 in
        let some : first_of eq keys x (chained.chains (home x)) ≡ Some p =
        ap (first_of eq keys x) parts ∙ first_of_passed eq keys x p before rest passed same in
        let pushed = chained.nexts ++ 0 ∷ [] in
        let long : length pushed ≡ i + 1 = length-append chained.nexts (0 ∷ []) ∙ ap (λ n. n + 1) nexts_long in
        chained_with (before ++ rest) (set pushed p i) front low
        (all_without (IsInBucket eq keys home i (home x)) before p rest homed)
        (λ z apart. first_of_cut eq keys z p before rest (other_key z apart) ∙ ap (first_of eq keys z) (sym parts))
        others
        (noted_again eq laws past chained.nexts chained.foresight x (first_of eq keys x (chained.chains (home x))) (chained.latest x) p some i pushed (set pushed p i)
        (sym nexts_long) refl refl)
        (λ q lt. split (eqb q p)
        (λ t. subst (λ k. next_in numbers' k ≡ number_in (set pushed p i) k) (sym (eqb-true q p t))
        (next_above numbers' p i taken of.before ∙ sym (get_or-set_same pushed p i 0 (omega (arith, of.before, long)))))
        (λ e. let not_p = eqb-false q p e in kept q lt not_p ∙ chained.same q lt ∙ sym (get_or-append chained.nexts (0 ∷ []) 0 q (omega (arith, lt, nexts_long)))
        ∙ sym (get_or-set_other pushed p q i 0 not_p)))
        (get_or-set_other pushed p i i 0 (λ e. omega (arith, e, of.before)) ∙ get_or_push chained.nexts 0 0 i nexts_long)
        (λ q lt. behind q lt ∙ chained.blank q (omega (arith, lt)))
      where
        other_key : (z : K) → eq z x ≡ false → same_at eq keys z p ≡ false
        other_key z apart =
            let of = (all_right (IsInBucket eq keys home i (home x)) before (p ∷ rest)
            (subst (λ l. AllByRecursion (IsInBucket eq keys home i (home x)) l) parts (chained.homed (home x)))).0 in
            let there = slice_get-get_or keys p x (omega (arith, of.before, within)) in
            same_there eq keys z (get_or keys p x) p there
            ∙ sym (same_right eq laws x (get_or keys p x) z (sym (same_there eq keys x (get_or keys p x) p there) ∙ same)) ∙ apart

    -- positions of different buckets differ
    apart_of : (g q p : ℕ) → (home x ≡ g → ⊥) → IsInBucket eq keys home i g q → IsInBucket eq keys home i (home x) p → q ≡ p → ⊥
    apart_of g q p other of of_p is =
        let there = slice_get-get_or keys p x (omega (arith, of_p.before, within)) in
        other (sym (of_p.bucket (get_or keys p x) there) ∙ of.bucket (get_or keys p x) (subst (λ k. slice_get keys k ≡ Some (get_or keys p x)) (sym is) there))

    module _ (behind number : ℕ) (long : length numbers ≡ length keys)
        (here : number_in numbers' i ≡ (if eqb number 0 then number_in firsts (home x) else first_behind numbers (number_in firsts (home x)) behind number))
        (others : (q : ℕ) → (q ≡ i → ⊥)
        → number_in numbers' q ≡ (if eqb number 0 then number_in numbers q else number_in (cut_out numbers behind number i) q)) where
      abbrev f : ℕ → ℕ
      f = number_in numbers

      abbrev n : ℕ
      n = number_in firsts (home x)

      -- the one that is cut out was the first of its chain
      head : (p : ℕ) (rest : List ℕ) → chained.chains (home x) ≡ p ∷ rest → behind ≡ 0 → number ≡ suc p → same_at eq keys x p ≡ true
          → AreTaken eq keys home (i + 1) numbers' firsts'
      head p rest parts first is same =
          let leads = subst (LeadsAlong f n) parts (chained.leads (home x)) in
          let homed = subst (λ l. AllByRecursion (IsInBucket eq keys home i (home x)) l) parts (chained.homed (home x)) in
          let inside : p < i = homed.0.before in
          chained_again p [] rest parts tt same
          (subst (λ m. LeadsAlong (number_in numbers') m rest) (sym begins) (leads_same f (number_in numbers') (f p) rest
          (all_map (λ q. q < p) (λ q. number_in numbers' q ≡ f q) rest
          (λ q lt. kept q (λ e. omega (arith, e, lt, inside)) (λ e. omega (arith, e, lt))) (leads_below f (f p) p rest leads.2 leads.1)) leads.2))
          (omega (arith, begins, leads.1, inside))
          (written_at p (λ e. omega (arith, e, inside)) ∙ get_or-set_same numbers p i 0 (omega (arith, inside, within, long)))
          (λ q lt other. next_same numbers numbers' q (kept q (λ e. omega (arith, e, lt)) other))
          (λ g q other of. kept q (λ e. omega (arith, e, of.before)) (apart_of g q p other of homed.0))
          (λ q lt. kept q (λ e. omega (arith, e, lt)) (λ e. omega (arith, e, lt, inside)))
        where
          begins : number_in numbers' i ≡ f p
          begins = here ∙ first_head numbers n i behind number p is first

          written_at : (q : ℕ) → (q ≡ i → ⊥) → number_in numbers' q ≡ number_in (set numbers p i) q
          written_at q other = others q other ∙ cut_head numbers n i behind number p is first q (f q)

          kept : (q : ℕ) → (q ≡ i → ⊥) → (q ≡ p → ⊥) → number_in numbers' q ≡ f q
          kept q other apart = written_at q other ∙ get_or-set_other numbers p q i 0 apart

      -- or it stood behind b
      middle : (b p : ℕ) (bs rest : List ℕ) → chained.chains (home x) ≡ (bs ++ b ∷ []) ++ p ∷ rest
          → AllByRecursion (λ q. same_at eq keys x q ≡ false) (bs ++ b ∷ []) → behind ≡ suc b → number ≡ suc p
          → same_at eq keys x p ≡ true → AreTaken eq keys home (i + 1) numbers' firsts'
      middle b p bs rest parts passed last is same =
          let leads = subst (LeadsAlong f n) parts (chained.leads (home x)) in
          let homed = subst (λ l. AllByRecursion (IsInBucket eq keys home i (home x)) l) parts (chained.homed (home x)) in
          let of_p = (all_right (IsInBucket eq keys home i (home x)) (bs ++ b ∷ []) (p ∷ rest) homed).0 in
          let of_b = (all_right (IsInBucket eq keys home i (home x)) bs (b ∷ []) (all_left (IsInBucket eq keys home i (home x)) (bs ++ b ∷ []) (p ∷ rest) homed)).0 in
          let inside : p < i = of_p.before in let b_inside : b < i = of_b.before in
          let pair = leads_pair f n b p bs rest leads in
          let apart : p < b = omega (arith, pair.0, pair.1) in
          let long_set = length-set numbers p i in
          let past : number_in numbers' b ≡ f p =
          written_at b (λ e. omega (arith, e, b_inside)) ∙ get_or-set_same (set numbers p i) b (f p) 0 (omega (arith, b_inside, within, long, long_set)) in
          let low : n ≤ i = leads_within f n i (chained.chains (home x), chain_of eq keys home i numbers firsts chained (home x)) in
          chained_again p (bs ++ b ∷ []) rest parts passed same
          (subst (λ m. LeadsAlong (number_in numbers') m ((bs ++ b ∷ []) ++ rest)) (sym begins)
          (leads_cut f (number_in numbers') i n b p bs rest past (λ q lt nb np. kept q (λ e. omega (arith, e, lt)) nb np) low leads))
          (omega (arith, begins, low))
          (written_at p (λ e. omega (arith, e, inside)) ∙ get_or-set_other (set numbers p i) b p (f p) 0 (λ e. omega (arith, e, apart))
          ∙ get_or-set_same numbers p i 0 (omega (arith, inside, within, long)))
          (λ q lt other. split (eqb q b)
          (λ t. let e = eqb-true q b t in subst (λ k. next_in numbers' k ≡ next_in numbers k) (sym e)
          (next_link numbers' b (omega (arith, past, pair.2, apart)) ∙ sym (next_link numbers b pair.1)))
          (λ t. next_same numbers numbers' q (kept q (λ e. omega (arith, e, lt)) (eqb-false q b t) other)))
          (λ g q other of. kept q (λ e. omega (arith, e, of.before)) (apart_of g q b other of of_b) (apart_of g q p other of of_p))
          (λ q lt. kept q (λ e. omega (arith, e, lt)) (λ e. omega (arith, e, lt, b_inside)) (λ e. omega (arith, e, lt, inside)))
        where
          begins : number_in numbers' i ≡ n
          begins = here ∙ first_middle numbers n i behind number p is b last

          written_at : (q : ℕ) → (q ≡ i → ⊥) → number_in numbers' q ≡ number_in (set (set numbers p i) b (f p)) q
          written_at q other = others q other ∙ cut_middle numbers n i behind number p is b last q (f q)

          kept : (q : ℕ) → (q ≡ i → ⊥) → (q ≡ b → ⊥) → (q ≡ p → ⊥) → number_in numbers' q ≡ f q
          kept q other nb np = written_at q other ∙ get_or-set_other (set numbers p i) b q (f p) 0 nb ∙ get_or-set_other numbers p q i 0 np

      -- one more request, after a walk along its chain
      pub chained_more : IsWalked eq keys (number_in numbers) x (chained.chains (home x)) behind number
          → (0 < number → same_at eq keys x (number - 1) ≡ true) → AreTaken eq keys home (i + 1) numbers' firsts'
      chained_more sought stop = by_rest sought.before sought.rest sought.split sought.passed sought.last sought.leads
        where
          stops : (p : ℕ) → number ≡ suc p → same_at eq keys x p ≡ true
          stops p is = let less : number - 1 ≡ p = omega (arith, is) in let same = stop (omega (arith, is)) in rw less at same

          by_rest : (before rest : List ℕ) → chained.chains (home x) ≡ before ++ rest
              → AllByRecursion (λ q. same_at eq keys x q ≡ false) before → behind ≡ last_number before → LeadsAlong (number_in numbers) number rest
              → AreTaken eq keys home (i + 1) numbers' firsts'
          by_rest before [] parts passed last leads =
              let none = eq-eqb number 0 leads in
              let begins : (if eqb number 0 then n else first_behind numbers n behind number) ≡ n = rw none refl in
              let same : (q : ℕ) → (if eqb number 0 then f q else number_in (cut_out numbers behind number i) q) ≡ f q = λ q. rw none refl in
              chained_first (ap (first_of eq keys x) parts ∙ first_of_none eq keys x before passed) (here ∙ begins) (λ q other. others q other ∙ same q)
          by_rest [] (p ∷ rest) parts passed last leads = head p rest parts last leads.0 (stops p leads.0)
          by_rest (q ∷ before) (p ∷ rest) parts passed last leads =
              let r = last_split q before in
              middle r.0 p r.1 rest (parts ∙ ap (λ l. l ++ p ∷ rest) r.2)
              (subst (λ l. AllByRecursion (λ k. same_at eq keys x k ≡ false) l) r.2 passed) (last ∙ r.3) leads.0 (stops p leads.0)

  -- the same for a key whose bucket is given
  pub chained_at : (h i : ℕ) (x : K) (numbers firsts numbers' firsts' : List ℕ) (behind number : ℕ)
      (chained : AreTaken eq keys home i numbers firsts) → h ≡ home x → slice_get keys i ≡ Some x → i < length keys
      → length numbers ≡ length keys → h < length firsts → firsts' ≡ set firsts h (i + 1)
      → number_in numbers' i ≡ (if eqb number 0 then number_in firsts h else first_behind numbers (number_in firsts h) behind number)
      → ((q : ℕ) → (q ≡ i → ⊥) → number_in numbers' q ≡ (if eqb number 0 then number_in numbers q else number_in (cut_out numbers behind number i) q))
      → IsWalked eq keys (number_in numbers) x (chained.chains h) behind number → (0 < number → same_at eq keys x (number - 1) ≡ true)
      → AreTaken eq keys home (i + 1) numbers' firsts'
  chained_at h i x numbers firsts numbers' firsts' behind number chained is at within long led written here others sought stop =
      chained_more i x numbers firsts numbers' firsts' chained at within (rw is at led) (rw is at written) behind number long (rw is at here) others
      (rw is at sought) stop

-- what all requests leave
module _ {K : Type 0} (eq : K → K → Bool) (keys : List K) (home : K → ℕ) where
  pub chained_none : (numbers firsts : List ℕ) → ((p : ℕ) → number_in numbers p ≡ 0) → ((h : ℕ) → number_in firsts h ≡ 0)
      → AreTaken eq keys home 0 numbers firsts
  chained_none numbers firsts blank empty = record {
    chains = λ _. [];
    leads = empty;
    homed = λ _. tt;
    latest = λ z. record { known = refl; position = tt };
    nexts = [];
    foresight = refl;
    same = λ p before. absurd (omega (arith, before));
    blank = λ p _. blank p;
  }

  pub foresight_of : (n : ℕ) (numbers firsts cleared : List ℕ) → AreTaken eq keys home n numbers firsts → n ≡ length keys
      → length numbers ≡ length keys → length cleared ≡ length numbers
      → ((p : ℕ) → p < length numbers → number_in cleared p ≡ next_in numbers p) → IsForesight eq (reverse keys) cleared
  foresight_of n numbers firsts cleared chained all many long is =
      let whole : take n keys ≡ keys = take_all n keys (omega (arith, all)) in
      let foresight = subst (λ l. IsForesight eq (reverse l) chained.nexts) whole chained.foresight in
      let same : length chained.nexts ≡ n = foresight_length eq (reverse keys) chained.nexts foresight ∙ length-reverse (reverse keys) ∙ length-reverse keys ∙ sym all in
      same_number_lists cleared chained.nexts (omega (arith, long, many, all, same))
      (λ k lt. is k (omega (arith, lt, long)) ∙ chained.same k (omega (arith, lt, long, many, all))) ∙ foresight
