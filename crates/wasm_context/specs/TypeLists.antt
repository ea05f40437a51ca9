-- Lists of types that a context gives, and the types of blocks.
use Rattle.std.specs.Prelude.{[], ◌∷◌}
use Rattle.walrus_ir.specs.Types.{Signature, signature}
use Rattle.wasm_context.specs.Contexts.{Locals, params_at, results_at}
use Rattle.wasm_context.specs.declared.blocks.BlockTypes.{BlockTypes}
use Rattle.wasm_context.specs.declared.blocks.TypeList.{TypeList}
use Rattle.wasm_context.specs.declared.blocks.TypeList.TheVariants as types
use Rattle.wasm_context.specs.declared.context.Context.{Context}

abbrev pub types_in : Context → TypeList → Locals
types_in c types.Empty = []
types_in c (types.One t) = t ∷ []
types_in c (types.Params n) = params_at c n
types_in c (types.Results n) = results_at c n

abbrev pub signature_of_block : Context → BlockTypes → Signature
signature_of_block c b = signature (types_in c b.params) (types_in c b.results)
