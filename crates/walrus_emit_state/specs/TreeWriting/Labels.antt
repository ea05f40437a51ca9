-- The labels of a `br_table` and the clauses of a `try_table`, as they are written.
use Rattle.std.specs.Prelude.{ℕ, List, length, Result, Ok}
use Rattle.walrus_ir.specs.declared.control.TryTableCatch.{TryTableCatch}
use Rattle.wasm_operators.specs.Operations.{CatchClause}
use Rattle.wasm_operators.specs.Immediates.{Table}
use Rattle.walrus_ir.specs.Clauses.{Targets}
use Rattle.wasm_body.specs.declared.error.EmitError.{EmitError}
use Rattle.wasm_numbers.specs.Results.{◌>>=◌, each}
use Rattle.wasm_body.specs.Translation.{translate_tag}
use Rattle.wasm_body.specs.Bytes.{Numbers, numbers_in_32_bits, in_32_bits}
use Rattle.wasm_body.specs.InstructionTable.{table_clause}
use Rattle.walrus_emit_state.specs.TreeWriting.ScopeTables.{depth_in}

-- The labels of a `br_table`: a number of them that fits 32 bits, and the depth of each.
abbrev pub numbered_table : List ℕ → Targets → Result Table EmitError
numbered_table around t =
    in_32_bits (length t.blocks) >>= λ n. each (depth_in around) t.blocks >>= λ labels.
    depth_in around t.default >>= λ default. Ok (labels, default)

-- A clause of a `try_table`: the number of its tag, and the depth of its label.
abbrev pub numbered_clause : Numbers → List ℕ → TryTableCatch → Result (CatchClause ℕ) EmitError
numbered_clause to around c =
    translate_tag (numbers_in_32_bits to).number_of (table_clause c).tag >>= λ tag.
    depth_in around (table_clause c).label >>= λ label.
    Ok (record { by_reference = (table_clause c).by_reference; tag = tag; label = label })

-- Clauses: a number of them that fits 32 bits, and each.
abbrev pub numbered_clauses : Numbers → List ℕ → List TryTableCatch
    → Result (List (CatchClause ℕ)) EmitError
numbered_clauses to around cs =
    in_32_bits (length cs) >>= λ n. each (numbered_clause to around) cs
