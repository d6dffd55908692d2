-- The machine value of a pointer and a size, as `Memory` and `Piece` have: what is owned tells it, and is made of nothing.
use Rattle.std.proofs.Common.{◌≡◌, ℕ, ◌^◌, ◌<◌, List, [], ◌∷◌, ◌++◌, refl, ◌∙◌, lit<, w64}
use seplogic.Ra.Ura.{Ura}
use mir.Syntax.{ty_ptr}
use mir.Val.{Val, vint, vstruct, vcons, vnil, of_list}
use base.Logic.{ent, sep, emp}
use base.Fml.{Fml}
use types.Logic.{Logic, sem}
use types.Kit.{‵, ◌$◌, ◌∵◌, !, qed, move, fjoin, fpack, feq_i, done}
use denote.RattleType.{RattleType, Valss}
use denote.Builtin.{usize}
use denote.RawPtr.{Ptr, RawPtr, block_ptr, null_ptr, ptr_val}
use denote.Shadow.{shadow, makes_shadow}
use denote.Steps.{nothing}
use denote.Struct.Declared.{shape}
use denote.Struct.Struct.{Struct, within}
use denote.Struct.Tuple.{Tuple, tuple_type}
use Rattle.std.proofs.cell.Inside.{Good}

-- a struct by its fields alone: what it owns does not read its name
abbrev plainly : List RattleType → RattleType
plainly Rs = Struct (record { name = []; args = []; types = []; fields = Rs })

pub ptr_typed : (p : Ptr) → Good ty_ptr (ptr_val p)
ptr_typed (block_ptr b o) = (tt, tt)
ptr_typed null_ptr = (tt, record { fits = lit< tt })

abbrev pub sized_val : Ptr → ℕ → Val
sized_val p n = vstruct (vcons (ptr_val p) (vcons (vint w64 n) vnil))

abbrev pub sized_own : Ptr → ℕ → List Val → Fml
sized_own p n = (plainly (RawPtr ∷ usize ∷ [])).own_val (p, (n, tt))

pub sized_told : (p : Ptr) (n : ℕ) (vs : List Val) → shadow (sized_own p n vs) → (vs ≡ sized_val p n ∷ []) × (n < 2 ^ 64)
sized_told p n vs s = (s.1.0 ∙ (λ i. vstruct (of_list (s.1.1.0 i ++ (s.1.1.1.0.0 i ++ []))) ∷ []), s.1.1.1.0.1)

pub sized_made : {M : Type 1} {𝓤 : Ura M} (𝓛 : Logic 𝓤) (p : Ptr) (n : ℕ) → (n < 2 ^ 64) → ent 𝓤 (emp 𝓤) (sem 𝓛 (sized_own p n (sized_val p n ∷ [])))
sized_made 𝓛 p n f = makes_shadow 𝓛 (sized_own p n (sized_val p n ∷ [])) (λ _. (tt, (tt, ((tt, tt), tt)))) ((ptr_val p ∷ [], (vint w64 n ∷ [], tt)), (refl, (refl, ((refl, f), tt))))

abbrev pub pair_val : Val → Val → Val
pair_val u v = vstruct (vcons u (vcons v vnil))

-- a pair is made of its two values
pub pair_of : {M : Type 1} {𝓤 : Ura M} (𝓛 : Logic 𝓤) (R S : RattleType) (x : R.Denot) (y : S.Denot) (u v : Val)
    → ent 𝓤 (sep 𝓤 (sem 𝓛 (R.own_val x (u ∷ []))) (sem 𝓛 (S.own_val y (v ∷ [])))) (sem 𝓛 ((Tuple (R ∷ S ∷ [])).own_val (x, y) (pair_val u v ∷ [])))
pair_of 𝓛 R S x y u v =
    qed 𝓛 (‵ (R.own_val x (u ∷ [])) ∷ ‵ (S.own_val y (v ∷ [])) ∷ []) ∵ nothing ! $ move ! (2 ∷ 0 ∷ []) $ fjoin ! $ move ! (1 ∷ 0 ∷ []) $ fjoin ! $ feq_i ! (List Val) (pair_val u v ∷ []) (pair_val u v ∷ []) refl $ fjoin ! $
    fpack ! (Valss (R ∷ S ∷ [])) (within (shape (tuple_type (R ∷ S ∷ []))) (x, (y, tt)) (pair_val u v ∷ [])) (u ∷ [], (v ∷ [], tt)) $ done !
