-- Steps, one after the other.
use Rattle.std.specs.Prelude.{◌≡◌, ℕ, zero, suc}

-- So many steps lead from one state to another.
unfoldable pub SoManySteps : {S : Type 0} → (Step : S → S → Type 0) → (count : ℕ) → (old new : S) → Type 0
SoManySteps Step zero old new = new ≡ old
SoManySteps {S} Step (suc n) old new = (mid : S) × Step old mid × SoManySteps Step n mid new
