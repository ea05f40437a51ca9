-- What is there, before the key of what is left, is the key of all.
use Rattle.std.proofs.Common.{◌≡◌, ◌++◌, drop}
use Rattle.wasm_context.specs.Declarations.{firsts_in, each_key, value_key}
use Rattle.wasm_context.proofs.keys.push_values.Given as goal

abbrev pub invariant-loop-value : goal.invariant-loop-value
invariant-loop-value l = l.key.items ++ each_key (value_key (firsts_in l.types)) (drop l.value-index l.values) ≡ l.fn.key.items ++ each_key (value_key (firsts_in l.types)) l.values
