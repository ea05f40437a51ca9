-- The numbers under which the bodies of a module are written.
use Rattle.std.specs.Prelude.{◌≡◌}
use Rattle.wasm_sections.specs.declared.spaces.Spaces.{Spaces}

-- index spaces with other numbers for what is written; all else of them stays
pub record HasOtherNumbers (old new : Spaces) : Type 0 where
  pub indices : new.indices ≡ old.indices
  pub counts : new.counts ≡ old.counts
  pub imports : new.more_imports ≡ old.more_imports
  pub functions : new.more_functions ≡ old.more_functions
  pub locals : new.locals ≡ old.locals
