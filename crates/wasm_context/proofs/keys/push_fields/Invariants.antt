-- What is there, before the key of what is left, is the key of all.
use Rattle.std.proofs.Common.{◌≡◌, ◌++◌, drop}
use Rattle.std.specs.Prelude.{map}
use Rattle.wasm_context.specs.Contexts.{field_of}
use Rattle.wasm_context.specs.Declarations.{firsts_in, each_key, field_key}
use Rattle.wasm_context.proofs.keys.push_fields.Given as goal

abbrev pub invariant-loop-field : goal.invariant-loop-field
invariant-loop-field l = l.key.items ++ each_key (field_key (firsts_in l.types)) (map field_of (drop l.field-index l.fields)) ≡ l.fn.key.items ++ each_key (field_key (firsts_in l.types)) (map field_of l.fields)
