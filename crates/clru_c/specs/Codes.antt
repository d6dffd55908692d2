-- Which code a call answers. Public clauses cite them.
use Rattle.std.specs.Prelude.{◌≡◌, ◌↔◌, ℕ, ◌≤◌}
use Rattle.clru_c.specs.declared.codes.TheConstants.{NO_CAPACITY, WRONG_LENGTH, NO_MEMORY}

-- the code where a capacity is 0, or else not every array fits, which means that it has the length that it has to have
pub record IsOfArguments (zero fit : Type 0) (code : ℕ) : Type 0 where
  pub no_capacity : code ≡ NO_CAPACITY ↔ zero
  pub wrong_length : code ≡ WRONG_LENGTH ↔ (¬ zero × ¬ fit)

-- the code of a call that refuses these, and else nothing but for want of memory
pub record IsCode (zero fit : Type 0) (code : ℕ) : Type 0 where
  pub arguments : IsOfArguments zero fit code
  pub known : code ≤ NO_MEMORY
