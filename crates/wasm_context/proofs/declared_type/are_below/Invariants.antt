-- Those so far are below: what is left decides.
use Rattle.std.proofs.Common.{◌≡◌, drop}
use Rattle.std.specs.Prelude.{map}
use Rattle.std.specs.List.{list_all}
use Rattle.wasm_context.specs.Declarations.{declared_within, declared_of}
use Rattle.wasm_context.proofs.declared_type.are_below.Given as goal

abbrev pub invariant-loop-ty : goal.invariant-loop-ty
invariant-loop-ty l = list_all (declared_within l.end) (map declared_of l.types) ≡ list_all (declared_within l.end) (map declared_of (drop l.ty-index l.types))
