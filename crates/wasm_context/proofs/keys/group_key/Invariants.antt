-- What is there, before the key of what is left, is the key of all.
use Rattle.std.proofs.Common.{◌≡◌, ◌++◌, drop}
use Rattle.std.specs.Prelude.{map}
use Rattle.wasm_context.specs.Declarations.{firsts_in, each_key, declared_key, group_key, declared_of}
use Rattle.wasm_context.proofs.keys.group_key.Given as goal

abbrev pub invariant-loop-declared : goal.invariant-loop-declared
invariant-loop-declared l = l.key.items ++ each_key (declared_key (firsts_in l.types)) (map declared_of (drop l.declared-index l.group)) ≡ group_key (firsts_in l.types) (map declared_of l.group)
