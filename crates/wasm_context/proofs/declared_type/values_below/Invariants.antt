-- Those so far are below: what is left decides.
use Rattle.std.proofs.Common.{◌≡◌, drop}
use Rattle.std.specs.List.{list_all}
use Rattle.wasm_context.specs.ValidTypes.{value_within}
use Rattle.wasm_context.proofs.declared_type.values_below.Given as goal

abbrev pub invariant-loop-ty : goal.invariant-loop-ty
invariant-loop-ty l = list_all (value_within l.end) l.types ≡ list_all (value_within l.end) (drop l.ty-index l.types)
