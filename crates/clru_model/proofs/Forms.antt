-- A form of a key, as a `&str` is of a `String`: what a test for it and the equality of keys say of each other.
use Rattle.std.proofs.Common.{◌≡◌, Bool, true}

-- a test that passes a key passes the keys that are the same, and no other
abbrev pub IsForm : {K : Type 0} → (K → K → Bool) → (K → Bool) → Type 0
IsForm {K} eq test = (x y : K) → test x ≡ true → test y ≡ eq x y

-- so it is the test for each key that it passes
pub form_is : {K : Type 0} (eq : K → K → Bool) (test : K → Bool) → IsForm eq test → (x : K) → test x ≡ true → test ≡ eq x
form_is eq test form x passes = λ i y. form x y passes i
