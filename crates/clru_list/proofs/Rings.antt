-- A place that leaves a ring of links, or comes into it.
use Rattle.std.proofs.Common.{◌≡◌, ℕ, ◌<◌, ◌≤◌, List, [], ◌∷◌, ◌++◌, refl, sym, ap, ◌∙◌, arith, subst}
use Rattle.std.proofs.lemmas.List.{append-nil}
use Rattle.clru_list.specs.Places.{put, count, nowhere}
use Rattle.clru_list.specs.Links.{IsPath, IsLinked}
use Rattle.clru_list.proofs.Puts.{decide, put-here, put-other}
use Rattle.clru_list.proofs.Paths.{count-append, count-here, count-other, last_or, first_or, last_or-counted, first_or-counted, path_join, path_left, path_right, path-outside, path-redirect, path_last, path_first, path_closed}

-- a ring counts each place once
abbrev pub IsOnce : List ℕ → Type 0
IsOnce ps = (k : ℕ) → count k ps ≤ 1

module _ (f : ℕ → ℕ) (s e : ℕ) where
  -- the last place of the beginning leads past p
  path-unlink : (ps : List ℕ) (p : ℕ) (qs : List ℕ) → IsOnce (s ∷ (ps ++ p ∷ qs)) → IsPath f s (ps ++ p ∷ qs) e
      → IsPath (put f (last_or s ps) (f p)) s (ps ++ qs) e
  path-unlink ps p [] once path =
      let left = path_left f s ps p [] e path in let right : f p ≡ e = path_right f s ps p [] e path in
      let redirected = path-redirect f (f p) s ps p (λ k. let n = count-append k ps (p ∷ []) in omega (arith, once k)) left in
      let P : List ℕ → Type 0 = λ l. IsPath (put f (last_or s ps) (f p)) s l e in let Q : ℕ → Type 0 = λ b. IsPath (put f (last_or s ps) (f p)) s ps b in
      subst P (sym (append-nil ps)) (subst Q right redirected)
  path-unlink ps p (q ∷ qs) once path =
      let left = path_left f s ps p (q ∷ qs) e path in let right = path_right f s ps p (q ∷ qs) e path in
      let redirected = path-redirect f (f p) s ps p (λ k. let n = count-append k ps (p ∷ (q ∷ qs)) in omega (arith, once k)) left in
      let last = last_or-counted s ps in let n = count-append (last_or s ps) ps (p ∷ (q ∷ qs)) in
      let Q : ℕ → Type 0 = λ b. IsPath (put f (last_or s ps) (f p)) s ps b in
      path_join (put f (last_or s ps) (f p)) s ps q qs e (subst Q right.0 redirected)
      (path-outside f (last_or s ps) (f p) q qs e (omega (arith, once (last_or s ps))) right.1)

  -- p comes behind the last place of the beginning
  path-link : (ps : List ℕ) (p : ℕ) (qs : List ℕ) → IsOnce (s ∷ (ps ++ p ∷ qs)) → IsPath f s (ps ++ qs) e
      → IsPath (put (put f p (first_or e qs)) (last_or s ps) p) s (ps ++ p ∷ qs) e
  path-link ps p [] once path =
      let Q : List ℕ → Type 0 = λ l. IsPath f s l e in
      let f₁ = put f p e in let n = count-append p ps (p ∷ []) in let here = count-here p [] in
      let outside = path-outside f p e s ps e (omega (arith, once p)) (subst Q (append-nil ps) path) in
      let redirected = path-redirect (put f p e) p s ps e (λ k. let m = count-append k ps (p ∷ []) in omega (arith, once k)) outside in
      let last = last_or-counted s ps in
      let ne : last_or s ps ≡ p → ⊥ = λ d. let P : ℕ → Type 0 = λ k. 0 < count k (s ∷ ps) in let held = subst P d last in absurd (omega (arith, once p)) in
      path_join (put (put f p e) (last_or s ps) p) s ps p [] e redirected (put-other (put f p e) (last_or s ps) p p ne ∙ put-here f p e p refl)
  path-link ps p (q ∷ qs) once path =
      let left = path_left f s ps q qs e path in let right = path_right f s ps q qs e path in
      let n = count-append p ps (p ∷ (q ∷ qs)) in let here = count-here p (q ∷ qs) in
      let redirected = path-redirect (put f p q) p s ps q (λ k. let m = count-append k ps (p ∷ (q ∷ qs)) in omega (arith, once k))
      (path-outside f p q s ps q (omega (arith, once p)) left) in
      let last = last_or-counted s ps in let m = count-append (last_or s ps) ps (p ∷ (q ∷ qs)) in
      let ne : last_or s ps ≡ p → ⊥ = λ d. let P : ℕ → Type 0 = λ k. 0 < count k (s ∷ ps) in let held = subst P d last in absurd (omega (arith, once p)) in
      path_join (put (put f p q) (last_or s ps) p) s ps p (q ∷ qs) e redirected (
        put-other (put f p q) (last_or s ps) p p ne ∙ put-here f p q p refl,
        path-outside (put f p q) (last_or s ps) p q qs e (omega (arith, once (last_or s ps))) (path-outside f p q q qs e (omega (arith, once p)) right),
      )

  -- from the last place of the beginning the link leads to the first of the rest
  pub path_middle : (ps qs : List ℕ) → IsPath f s (ps ++ qs) e → f (last_or s ps) ≡ first_or e qs
  path_middle ps [] path = let Q : List ℕ → Type 0 = λ l. IsPath f s l e in path_last f s ps e (subst Q (append-nil ps) path)
  path_middle ps (q ∷ qs) path = path_last f s ps q (path_left f s ps q qs e path)

module _ (next prev : ℕ → ℕ) where
  -- in a ring a place's neighbours are the last before it and the first behind it
  pub next_is : (ps : List ℕ) (p : ℕ) (qs : List ℕ) → IsLinked next prev (ps ++ p ∷ qs) → next p ≡ first_or nowhere qs
  next_is ps p qs ring = path_first next p qs nowhere (path_right next nowhere ps p qs nowhere ring.forward)

  pub prev_is : (ps : List ℕ) (p : ℕ) (qs : List ℕ) → IsLinked next prev (ps ++ p ∷ qs) → prev p ≡ last_or nowhere ps
  prev_is ps p qs ring =
      let last = last_or-counted nowhere ps in let n = count-append (last_or nowhere ps) ps (p ∷ qs) in
      ap prev (sym (path_last next nowhere ps p (path_left next nowhere ps p qs nowhere ring.forward))) ∙ ring.backward (last_or nowhere ps) (omega arith)

  pub front_is : (ps : List ℕ) → IsLinked next prev ps → next nowhere ≡ first_or nowhere ps
  front_is ps ring = path_first next nowhere ps nowhere ring.forward

  pub back_is : (ps : List ℕ) → IsLinked next prev ps → prev nowhere ≡ last_or nowhere ps
  back_is ps ring = ap prev (sym (path_last next nowhere ps nowhere ring.forward)) ∙ ring.backward (last_or nowhere ps) (last_or-counted nowhere ps)

  pub linked-unlink : (ps : List ℕ) (p : ℕ) (qs : List ℕ) → IsOnce (nowhere ∷ (ps ++ p ∷ qs)) → IsLinked next prev (ps ++ p ∷ qs)
      → IsLinked (put next (prev p) (next p)) (put prev (next p) (prev p)) (ps ++ qs)
  linked-unlink ps p qs once ring =
      let P : ℕ → Type 0 = λ a. IsPath (put next a (next p)) nowhere (ps ++ qs) nowhere in
      let at_p : 0 < count p (nowhere ∷ (ps ++ p ∷ qs)) = let n = count-append p ps (p ∷ qs) in let here = count-here p qs in omega arith in
      record {
        forward = subst P (sym (prev_is ps p qs ring)) (path-unlink next nowhere nowhere ps p qs once ring.forward);
        backward = λ k held.
            let n = count-append k ps qs in let m = count-append k ps (p ∷ qs) in
            let in_ring : 0 < count k (nowhere ∷ (ps ++ p ∷ qs)) = omega arith in
            decide (prev p) k
            (λ e t. rw t (put-here prev (next p) (prev p) (next p) refl ∙ e))
            (λ ne f. let not_p : next p ≡ next k → ⊥ = λ same.
            let is_p : p ≡ k = sym (ring.backward p at_p) ∙ ap prev same ∙ ring.backward k in_ring in
            let here = count-here k qs in let Q : ℕ → Type 0 = λ l. count k (nowhere ∷ (ps ++ l ∷ qs)) ≤ 1 in let twice = subst Q is_p (once k) in
            let o = count-append k ps (k ∷ qs) in absurd (omega arith) in
            rw f (put-other prev (next p) (prev p) (next k) not_p ∙ ring.backward k in_ring));
      }

  pub linked-link : (ps : List ℕ) (p : ℕ) (qs : List ℕ) (a b : ℕ) → a ≡ last_or nowhere ps → b ≡ first_or nowhere qs
      → IsOnce (nowhere ∷ (ps ++ p ∷ qs)) → IsLinked next prev (ps ++ qs)
      → IsLinked (put (put next p b) a p) (put (put prev p a) b p) (ps ++ p ∷ qs)
  linked-link ps p qs a b is_a is_b once ring =
      let at_p = count-append p ps (p ∷ qs) in let here = count-here p qs in let old_p = count-append p ps qs in
      let first = first_or-counted nowhere qs in
      let not_b : b ≡ p → ⊥ = λ e. let P : ℕ → Type 0 = λ k. 0 < count k (nowhere ∷ qs) in let held = subst P (sym is_b ∙ e) first in absurd (omega (arith, once p)) in
      record {
        forward = rw (is_a, is_b) (path-link next nowhere nowhere ps p qs once ring.forward);
        backward = λ k held.
            let new = count-append k ps (p ∷ qs) in let old = count-append k ps qs in
            decide a k
            (λ e t. rw t (put-other (put prev p a) b p p not_b ∙ put-here prev p a p refl ∙ e))
            (λ ne f. decide p k
            (λ e t. rw (f, t) (put-here (put prev p a) b p b refl ∙ e))
            (λ other g.
            let none = count-other k p qs (λ e. other (sym e)) in
            let in_ring : 0 < count k (nowhere ∷ (ps ++ qs)) = omega arith in
            let last = last_or-counted nowhere ps in let l = count-append (last_or nowhere ps) ps qs in
            let apart : b ≡ next k → ⊥ = λ same.
            ne (is_a ∙ sym (ring.backward (last_or nowhere ps) (omega arith))
            ∙ ap prev (path_middle next nowhere nowhere ps qs ring.forward ∙ sym is_b ∙ same) ∙ ring.backward k in_ring) in
            let closed = path_closed next nowhere (ps ++ qs) nowhere k ring.forward in_ring in
            let fresh : p ≡ next k → ⊥ = λ same.
            let P : ℕ → Type 0 = λ m. 0 < count m (nowhere ∷ (ps ++ qs)) in
            let held_p = subst P (sym same) closed in absurd (omega (arith, once p)) in
            rw (f, g) (put-other (put prev p a) b p (next k) apart ∙ put-other prev p a (next k) fresh ∙ ring.backward k in_ring)));
      }

  -- links of a place outside the ring
  pub linked-next : (p v : ℕ) (ps : List ℕ) → count p (nowhere ∷ ps) ≡ 0 → IsLinked next prev ps → IsLinked (put next p v) prev ps
  linked-next p v ps outside ring = record {
    forward = path-outside next p v nowhere ps nowhere outside ring.forward;
    backward = λ k held. let ne : p ≡ k → ⊥ = λ e. let P : ℕ → Type 0 = λ m. 0 < count m (nowhere ∷ ps) in let some = subst P (sym e) held in absurd (omega arith) in
        ap prev (put-other next p v k ne) ∙ ring.backward k held;
  }

  pub linked-prev : (p v : ℕ) (ps : List ℕ) → count p (nowhere ∷ ps) ≡ 0 → IsLinked next prev ps → IsLinked next (put prev p v) ps
  linked-prev p v ps outside ring = record {
    forward = ring.forward;
    backward = λ k held. let closed = path_closed next nowhere ps nowhere k ring.forward held in
        let ne : p ≡ next k → ⊥ = λ e. let P : ℕ → Type 0 = λ m. 0 < count m (nowhere ∷ ps) in let some = subst P (sym e) closed in absurd (omega arith) in
        put-other prev p v (next k) ne ∙ ring.backward k held;
  }
