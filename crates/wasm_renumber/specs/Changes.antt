-- Operators as they are read become operators as they are written: what each of their parts becomes.
use Rattle.std.specs.Prelude.{◌≡◌, ◌⊎◌, ℕ, Result, Ok, Err}
use Rattle.wasm_operators.specs.declared.types.BlockType.{BlockType}
use Rattle.wasm_operators.specs.declared.types.RawCast.{RawCast}
use Rattle.wasm_operators.specs.declared.types.Space.{Space}
use Rattle.wasm_operators.specs.Meaning.{Listed, meaning}
use Rattle.wasm_operators.specs.Operations.{CatchClause, Cast, RawOperation}
use Rattle.wasm_operators.specs.ReferenceOperations.{cast_of}
use Rattle.wasm_encode.specs.Writable.{IsWritable}
use Rattle.wasm_body.specs.Translation.{Translation, translate, translate_cast, translate_clause}

-- What indices, labels, depths and block types become.
pub record Changes (E : Type 0) : Type 0 where
  pub index : Space → ℕ → Result ℕ E
  pub local : ℕ → Result ℕ E
  pub label : ℕ → Result ℕ E
  pub handler : ℕ → Result ℕ E
  pub outer : ℕ → Result ℕ E
  pub block : BlockType → Result BlockType E

-- numbers and alignments stay as they are, and lists may have any length
abbrev pub changing : {E : Type 0} → Changes E → Translation ℕ BlockType ℕ BlockType E
changing c = record {
  index = c.index;
  local = c.local;
  label = c.label;
  handler = c.handler;
  outer = c.outer;
  number = λ n. Ok n;
  block = c.block;
  alignment = λ e. e;
  count = λ n. Ok tt;
}

abbrev pub changed_operator : {E : Type 0} → Changes E → RawOperation → Result RawOperation E
changed_operator c o = translate (changing c) o

-- the immediates of a branch on a cast
abbrev pub changed_cast : {E : Type 0} → Changes E → RawCast → Result (Cast ℕ) E
changed_cast c i = translate_cast (changing c) (cast_of i)

-- a clause of a `try_table`
abbrev pub changed_clause : {E : Type 0} → Changes E → CatchClause ℕ → Result (CatchClause ℕ) E
changed_clause c i = translate_clause (changing c) i

-- The operator that was returned is this one, and can be written; or this is its first fault; or memory ran out.
abbrev pub IsChangedOperator : {E : Type 0} → (memory : E) → Result RawOperation E → Result Listed E → Type 0
IsChangedOperator memory r (Ok op) = (r ≡ Ok (meaning op)) × IsWritable (meaning op)
IsChangedOperator memory r (Err e) = (e ≡ memory) ⊎ (r ≡ Err e)
