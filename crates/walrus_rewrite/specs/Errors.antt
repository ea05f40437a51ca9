-- Why a body isn't rewritten.
use Rattle.std.specs.Prelude.{◌≡◌, ℕ, List}
use Rattle.walrus_ir.specs.declared.error.WalkError.TheVariants as walk
use Rattle.wasm_body.specs.declared.error.ParseError.TheVariants as parse
use Rattle.wasm_body.specs.declared.error.EmitError.TheVariants as emit
use Rattle.wasm_body.specs.TreeOfFunction.{fault_of_walk}
use Rattle.wasm_body.specs.ErrorNames.{name_of_parse_error, name_of_emit_error}
use Rattle.walrus_rewrite.specs.declared.error.RewriteError.{RewriteError}
use Rattle.walrus_rewrite.specs.declared.error.RewriteError.TheVariants.{Parse, Walk, Emit}

-- memory ran out
abbrev pub IsOutOfMemory : RewriteError → Type 0
IsOutOfMemory (Parse f) = f.error ≡ parse.Memory
IsOutOfMemory (Walk w) = w ≡ walk.Memory
IsOutOfMemory (Emit e) = e ≡ emit.Memory

-- an error's name: that of its innermost variant
abbrev pub name_of_rewrite_error : RewriteError → List ℕ
name_of_rewrite_error (Parse f) = name_of_parse_error f.error
name_of_rewrite_error (Walk w) = name_of_emit_error (fault_of_walk w)
name_of_rewrite_error (Emit e) = name_of_emit_error e
