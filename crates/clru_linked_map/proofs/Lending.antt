-- What a lender ends as, told by each value that may be written.
use Rattle.std.proofs.Common.{◌≡◌, ◌⊎◌, inl}

-- two ways to end under one name that are the same for each value
pub ends_alike : {G X Y Z : Type 0} {name : G} {f g : X → Y} → ((w : X) → f w ≡ g w)
    → ◌≡◌ {A = (G × (X → Y)) ⊎ Z} (inl (name, f)) (inl (name, g))
ends_alike {name = name} same = λ i. inl (name, λ w. same w i)
