-- The types so far are subtypes: what is left decides.
use Rattle.std.proofs.Common.{◌≡◌, List, drop}
use Rattle.wasm_typing.specs.RecursiveTypes.{Group}
use Rattle.wasm_context.specs.Definitions.{IsDefining}
use Rattle.wasm_context.specs.ValidTypes.{types_alone, are_valid_types}
use Rattle.wasm_context.proofs.ValidDefinitions.{flat, are_subtypes}
use Rattle.wasm_context.proofs.definitions.Definitions.are_valid.Given as goal

abbrev pub invariant-loop-own : goal.invariant-loop-own
invariant-loop-own l = (groups : List Group) → IsDefining l.self groups
    → are_valid_types groups ≡ are_subtypes (types_alone groups) (flat groups) l.own (drop l.own (flat groups))
