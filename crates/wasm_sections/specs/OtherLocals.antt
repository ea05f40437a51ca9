-- The index spaces of a module, as bodies are rewritten one after the other.
use Rattle.std.specs.Prelude.{◌≡◌, ℕ, List}
use Rattle.std.specs.Ordering.{nat_cmp}
use Rattle.std.specs.FinMap.{FinMap}
use Rattle.wasm_sections.specs.declared.spaces.Spaces.{Spaces}

-- only the locals of a function differ
pub record HasOtherLocals (old new : Spaces) : Type 0 where
  pub locals : FinMap nat_cmp (List ℕ)
  pub indices : new.indices ≡ record old.indices { locals = locals }
  pub numbers : new.numbers ≡ old.numbers
