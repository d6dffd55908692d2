-- Answers, and what follows from what is known of them.
use Rattle.std.proofs.Common.{◌≡◌, true, false, Option, None, Some, IfNone, IfSome, Result, Ok, Err, IfErr, IfOk, OnOk}
use Rattle.std.specs.Option.{is_none}
use Rattle.std.specs.Result.{is_ok}

-- what holds of an answer holds of what follows from it
pub ok_map : {T E : Type 0} {P Q : T → Type 0} (r : Result T E) → ((x : T) → P x → Q x) → IfOk r P → IfOk r Q
ok_map (Ok x) f p = f x p
ok_map (Err e) f p = p

pub ok_both : {T E : Type 0} {P Q S : T → Type 0} (r : Result T E) → ((x : T) → P x → Q x → S x) → IfOk r P → IfOk r Q → IfOk r S
ok_both (Ok x) f p q = f x p q
ok_both (Err e) f p q = p

pub err_map : {T E : Type 0} {P Q : E → Type 0} (r : Result T E) → ((e : E) → P e → Q e) → IfErr r P → IfErr r Q
err_map (Ok x) f p = p
err_map (Err e) f p = f e p

pub on_ok_map : {T E P Q : Type 0} (r : Result T E) → (P → Q) → OnOk r P → OnOk r Q
on_ok_map (Ok x) f p = f p
on_ok_map (Err e) f p = p

-- what an answer shows of each it shows of all
pub on_ok_all : {T E X : Type 0} (H P : X → Type 0) (r : Result T E) → ((x : X) → H x → OnOk r (P x)) → OnOk r ((x : X) → H x → P x)
on_ok_all H P (Ok t) f = f
on_ok_all H P (Err e) f = tt

pub none_map : {X P Q : Type 0} (o : Option X) → (P → Q) → IfNone o P → IfNone o Q
none_map None f p = f p
none_map (Some x) f p = p

pub some_map : {X : Type 0} {P Q : X → Type 0} (o : Option X) → ((x : X) → P x → Q x) → IfSome o P → IfSome o Q
some_map None f p = p
some_map (Some x) f p = f x p

-- one of both has nothing to say
pub of_none : {X P : Type 0} (o : Option X) → is_none o ≡ true → IfNone o P → P
of_none None is p = p
of_none (Some x) is p = absurd (cc)

pub no_some : {X : Type 0} (P : X → Type 0) (o : Option X) → is_none o ≡ true → IfSome o P
no_some P None is = tt
no_some P (Some x) is = absurd (cc)

pub no_none : {X : Type 0} (P : Type 0) (o : Option X) → is_none o ≡ false → IfNone o P
no_none P None is = absurd (cc)
no_none P (Some x) is = tt

pub of_ok : {T E P : Type 0} (r : Result T E) → is_ok r ≡ true → OnOk r P → P
of_ok (Ok x) is p = p
of_ok (Err e) is p = absurd (cc)

pub no_ok : {T E : Type 0} (P : Type 0) (r : Result T E) → is_ok r ≡ false → OnOk r P
no_ok P (Ok x) is = absurd (cc)
no_ok P (Err e) is = tt

-- what each of them refuses is refused of all
pub err_all : {T E X : Type 0} (P : X → E → Type 0) (r : Result T E) → ((x : X) → IfErr r (P x)) → IfErr r (λ e. (x : X) → P x e)
err_all P (Ok t) f = tt
err_all P (Err e) f = f
