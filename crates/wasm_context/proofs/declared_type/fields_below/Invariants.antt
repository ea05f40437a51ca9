-- Those so far are below: what is left decides.
use Rattle.std.proofs.Common.{◌≡◌, drop}
use Rattle.std.specs.Prelude.{map}
use Rattle.std.specs.List.{list_all}
use Rattle.wasm_context.specs.Contexts.{field_of}
use Rattle.wasm_context.specs.ValidTypes.{field_within}
use Rattle.wasm_context.proofs.declared_type.fields_below.Given as goal

abbrev pub invariant-loop-field : goal.invariant-loop-field
invariant-loop-field l = list_all (field_within l.end) (map field_of l.fields) ≡ list_all (field_within l.end) (map field_of (drop l.field-index l.fields))
