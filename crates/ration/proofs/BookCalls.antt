-- What both walks cite: a `&` to the allocator taken apart, and a call that lends the book. Assumes `Logic`.
use Rattle.std.proofs.Common.{ℕ, ◌+◌, ◌^◌, ◌<◌, List, [], ◌∷◌, refl, w64}
use seplogic.Ra.Ura.{Ura}
use mir.Syntax.{Args, Callee, Place, Opd as Operand, Body, a_type, dnil, dcons, seq, call}
use mir.Val.{Val, vint, vptr}
use base.Logic.{ent, sep, ex, id⊢}
use base.Fml.{Lft, Share, Fml, ftrue, fsep, flft}
use prog.Memory.{size, align, up}
use contract.Notation.{Connectives, connectives}
use prog.Wp.{Env, Calls, Loops}
use types.Logic.{Logic, sem}
use sound.WpLaws.{FmC}
use types.Run.{Opds}
use denote.Triple.Call.{calls_at}
use types.Kit.{Item, Post, Seq, runs, lands, use2, ‵, raw, ◌⊛◌, some, later, ◌$◌, ◌∵◌, !, qed, move, keep, use1, split, join, pick, fsplit, fjoin, feq_i, flt_i, show, await, updating, now as at_once, done}
use denote.RattleType.{RattleType}
use denote.Memory.{hidden_shr}
use denote.Opens.{unhide}
use denote.Param.{bounded, param}
use denote.Exit.{yes}
use denote.Builtin.{RefOf, usize}
use denote.Signature.{Signature, Slot, plain}
use denote.Steps.{nothing}
use denote.Triple.Statement.{Contract, Triple}
use denote.Triple.Spec.{triple_of, exits}
use Rattle.std.proofs.alloc.Calls.{Al, α, seen}
use Rattle.ration.specs.declared.Book.{Book}
use Rattle.ration.specs.declared.Rationed.{Rationed}
use Rattle.ration.specs.contracts.Book as book
use Rattle.ration.specs.contracts.Rationed as rationed

-- the parameter `&self` of both methods
abbrev pub self : Al → Slot 2
self Z = RefOf (0 ∷ []) tt (plain (λ _. rationed.the_row (param 0 Z.row))) (λ _. tt)

-- what both methods are generic over, at an inner allocator
abbrev pub args : Al → Args
args Z = bounded (a_type ∷ []) (Z.row, tt) (dcons Z.d (dcons Z.drops dnil))

-- where the inner allocator lies, and the book
abbrev pub inner_at : Al → ℕ × ℕ → ℕ × ℕ
inner_at Z p = (p.0, p.1 + up (align (α Z)) 0)

abbrev pub book_at : Al → ℕ × ℕ → ℕ × ℕ
book_at Z p = (p.0, p.1 + up 8 (up (align (α Z)) 0 + size (α Z)))

-- what the holder of a `&` to the book has
abbrev pub lent_book : Lft → ℕ × ℕ → Book → Fml
lent_book κ p d = hidden_shr book.the_row κ d p.0 p.1

module _ (Z : Al) {M : Type 1} {𝓤 : Ura M} (𝓛 : Logic 𝓤) where
  -- a `&` to the allocator is one to its book and one to the inner allocator
  pub parts : (κ : Lft) (p : ℕ × ℕ) (x : Rationed Z.row.Denot) → ent 𝓤 (sem 𝓛 (hidden_shr (rationed.the_row (param 0 Z.row)) κ x p.0 p.1))
      (sep 𝓤 (sem 𝓛 (lent_book κ (book_at Z p) x.book)) (sem 𝓛 (seen Z κ (inner_at Z p) x.inner)))
  parts κ p x =
      qed 𝓛 (‵ (hidden_shr (rationed.the_row (param 0 Z.row)) κ x p.0 p.1) ∷ []) ∵ unhide ! $ fsplit ! $ fsplit ! $
      use1 𝓛 (‵ (seen Z κ (inner_at Z p) x.inner)) (id⊢ 𝓤 _) $ move ! (1 ∷ []) $ fsplit ! $ use1 𝓛 (‵ (lent_book κ (book_at Z p) x.book)) (id⊢ 𝓤 _) $
      keep ! (0 ∷ 2 ∷ []) $ done !

-- the signature of a function from a `&Book` and a size to an R
abbrev notes : RattleType → Signature
notes R = record {
  lifetimes = 1;
  outlives = [];
  params = RefOf (0 ∷ []) tt (plain (λ _. book.the_row)) (λ _. tt) ∷ plain (λ _. usize) ∷ [];
  result = plain (λ _. R);
}

module _ {M : Type 1} {𝓤 : Ura M} (𝓛 : Logic 𝓤) (R : RattleType) where
  open 𝓛 use {H, A}

  abbrev 𝓝 : Connectives 𝓤
  𝓝 = connectives 𝓤

  open 𝓝 use {⊤ₛ}

  -- the contract of such a function that has no clauses
  abbrev pub Notes : Contract 𝓤
  Notes = triple_of 𝓛 (notes R) (λ κs a. record {
    ghost = Unit {0};
    requires = λ _. ⊤ₛ;
    ensures = λ _ _. exits 𝓛 (notes R) (yes, (yes, tt)) κs a (λ _. ⊤ₛ);
  })

  module _ (κ : Lft) (q : Share) (p : ℕ × ℕ) (d : Book) (n : ℕ) where
    -- what its caller picks: the lifetime and its token's share, the place of the book and the book, and the size
    abbrev pub at_notes : Notes.Ghost
    at_notes = (((κ, tt), (q, tt), tt, (record { ref_ptr = p; now = d }, (n, tt)), (vptr p.0 p.1 ∷ [], (vint w64 n ∷ [], tt))), tt)

    -- what it is handed
    Notes-goes : n < 2 ^ 64 → ent 𝓤 (sep 𝓤 (sem 𝓛 (lent_book κ p d)) (A.lft κ q)) (Notes.pre at_notes)
    Notes-goes fn =
        qed 𝓛 (‵ (lent_book κ p d) ∷ ‵ (flft κ q) ∷ []) ∵ nothing ! $ flt_i ! n (2 ^ 64) fn $
        feq_i ! (List Val) (vint w64 n ∷ []) (vint w64 n ∷ []) refl $ fjoin ! $ fjoin ! $ move ! (1 ∷ []) $
        feq_i ! (List Val) (vptr p.0 p.1 ∷ []) (vptr p.0 p.1 ∷ []) refl $ fjoin ! $ fjoin ! $
        nothing ! $ move ! (2 ∷ []) $ join ! $ join ! $ nothing ! $ move ! (1 ∷ []) $ done !

    -- what its caller has of it
    Notes-gives : (v : Val) → ent 𝓤 (Notes.post at_notes v) (H.⇛ (ex 𝓤 (λ (r : R.Denot). sep 𝓤 (sem 𝓛 (R.own_val r (v ∷ []))) (A.lft κ q))))
    Notes-gives v =
        qed 𝓛 (raw (Notes.post at_notes v) ∷ []) ∵ updating ! $
        use1 𝓛 (later (some (λ (r : R.Denot). ((‵ (flft κ q) ⊛ ‵ ftrue) ⊛ ‵ (R.own_val r (v ∷ []))) ⊛
        some (λ (ws : Unit {0} × (Unit {0} × Unit {0})). ‵ (fsep ftrue (fsep ftrue ftrue)) ⊛ ‵ ftrue)))) (id⊢ 𝓤 _) $
        await ! tt $ pick ! (λ r. split ! $ split ! $ split ! $ at_once ! $
        show ! (λ (s : R.Denot). sep 𝓤 (sem 𝓛 (R.own_val s (v ∷ []))) (A.lft κ q)) r $ keep ! (2 ∷ 0 ∷ []) $ done !)

module _ (R : RattleType) {M : Type 1} {𝓤 : Ura M} {𝓛 : Logic 𝓤} {K : Type 0} {Γ : List (Item 𝓤)} {E : Env 𝓤 𝓛.H} {C : Calls 𝓤 𝓛.H} {Λ : Loops 𝓤 𝓛.H}
    {f : Callee} {xs : List Operand} {to : Place} {rest : Body} {end : Post 𝓤 𝓛.H} where
  -- a walk's step, at the call of such a function: the `&`, the size and the token go in, and the result and the token come back
  pub lends_book : K → FmC 𝓤 𝓛.H 𝓛.laws C → Triple 𝓤 (C f) (Notes 𝓛 R) → (κ : Lft) (q : Share) (p : ℕ × ℕ) (d : Book) (n : ℕ)
      → n < 2 ^ 64 → Opds K 𝓛 (raw ((Notes 𝓛 R).pre (at_notes 𝓛 R κ q p d n)) ∷ Γ) E xs (vptr p.0 p.1 ∷ vint w64 n ∷ [])
      → ((v : Val) (r : R.Denot) → Seq K 𝓛 (‵ (R.own_val r (v ∷ [])) ∷ ‵ (flft κ q) ∷ Γ) (lands C Λ E to v rest end))
      → Seq K 𝓛 (‵ (lent_book κ p d) ∷ ‵ (flft κ q) ∷ Γ) (runs C Λ E (seq (call f xs to) rest) end)
  lends_book t fm meets κ q p d n fn reads next =
      use2 𝓛 (raw ((Notes 𝓛 R).pre (at_notes 𝓛 R κ q p d n))) (Notes-goes 𝓛 R κ q p d n fn) $
      calls_at t fm (Notes 𝓛 R) meets (at_notes 𝓛 R κ q p d n) reads (λ v.
      use1 𝓛 (later (some (λ (r : R.Denot). ‵ (R.own_val r (v ∷ [])) ⊛ ‵ (flft κ q)))) (Notes-gives 𝓛 R κ q p d n v) $ await t tt $
      pick t (λ r. split t $ next v r))
