-- What a refusal of a request with a size can be.
use Rattle.clru_curve.specs.declared.sized.error.SizedRequestError.{SizedRequestError}
use Rattle.clru_curve.specs.declared.sized.error.SizedRequestError.TheVariants.{NoMemory, TooLarge}
use Rattle.clru_curve.specs.SizedPasses.{IsNoMemory, IsTooLarge}

-- one that is not too large wants memory
pub no_memory : {K : Type 0} (refusal : SizedRequestError K) → (IsTooLarge refusal → ⊥) → IsNoMemory refusal
no_memory (NoMemory x) other = tt
no_memory (TooLarge x) other = other tt
