use Rattle.std.proofs.Common.{◌≡◌, map, ◌-◌}
use Rattle.wasm_context.specs.Contexts.{defined_of}
use Rattle.module_validator.specs.EngineLimits.{has_fewer}
use Rattle.module_validator.proofs.limited_types.is_shallow.Given as goal

-- The supertypes that are left decide.
abbrev pub invariant-supertypes : goal.invariant-supertypes
invariant-supertypes l = has_fewer 64 (map defined_of l.types) l.ty.supertype ≡ has_fewer (64 - l.counter) (map defined_of l.types) l.declared
