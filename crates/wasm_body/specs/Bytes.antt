-- The bytes of a tree (WebAssembly core specification 3.0, binary format, instructions and indices).
use Rattle.std.specs.Prelude.{ℕ, ◌^◌, nat_lt, List, Bool, Some, None, Result, Ok}
use Rattle.std.specs.List.{flat_map}
use Rattle.walrus_ir.specs.declared.val_type.InstrSeqType.{InstrSeqType}
use Rattle.walrus_ir.specs.declared.val_type.InstrSeqType.TheVariants.{Simple, MultiValue}
use Rattle.wasm_operators.specs.declared.types.BlockType.{BlockType}
use Rattle.wasm_operators.specs.declared.types.BlockType.TheVariants.{Empty, Value, FuncType}
use Rattle.wasm_operators.specs.declared.types.Space.{Space}
use Rattle.wasm_operators.specs.declared.types.Space.TheVariants.{Types}
use Rattle.wasm_operators.specs.Operations.{RawOperation}
use Rattle.wasm_operators.specs.Shortest.{short}
use Rattle.wasm_body.specs.declared.error.EmitError.{EmitError}
use Rattle.wasm_body.specs.declared.error.EmitError.TheVariants.{TooLarge}
use Rattle.wasm_numbers.specs.Results.{◌>>=◌, unless}
use Rattle.wasm_body.specs.Translation.{Translation, translate_value, Located}
use Rattle.wasm_body.specs.FunctionTree.{FunctionTree}
use Rattle.wasm_body.specs.FlatText.{Writing, then_by, tree_text}

-- The numbers that are written for ids; and which types of sequences are balanced.
pub record Numbers : Type 0 where
  pub number_of : Space → ℕ → Result ℕ EmitError
  pub local_number : ℕ → Result ℕ EmitError
  pub balanced : InstrSeqType → Bool

-- a number, if it fits 32 bits
abbrev pub in_32_bits : ℕ → Result ℕ EmitError
in_32_bits n = unless (nat_lt n (2 ^ 32)) TooLarge >>= λ _. Ok n

-- the numbers that can be written: those that fit 32 bits
abbrev pub numbers_in_32_bits : Numbers → Numbers
numbers_in_32_bits to = record {
  number_of = λ space id. to.number_of space id >>= in_32_bits;
  local_number = λ id. to.local_number id >>= in_32_bits;
  balanced = to.balanced;
}

abbrev pub numbered_block : Numbers → InstrSeqType → Result BlockType EmitError
numbered_block to (Simple None) = Ok Empty
numbered_block to (Simple (Some t)) = translate_value (numbers_in_32_bits to).number_of t >>= λ u. Ok (Value u)
numbered_block to (MultiValue id) = (numbers_in_32_bits to).number_of Types id >>= λ n. Ok (FuncType n)

-- Numbering: a number for each id, and for a block type the number of the type. Each number, depth and count has to fit 32
-- bits.
abbrev pub numbering : Numbers → Translation ℕ InstrSeqType ℕ BlockType EmitError
numbering to = record {
  index = (numbers_in_32_bits to).number_of;
  local = (numbers_in_32_bits to).local_number;
  label = in_32_bits;
  handler = in_32_bits;
  outer = in_32_bits;
  number = in_32_bits;
  block = numbered_block to;
  alignment = λ e. e;
  count = λ n. in_32_bits n >>= λ _. Ok tt;
}

-- with numbers, and the numbers of types
abbrev pub writing_numbers : Numbers → Writing ℕ BlockType
writing_numbers to = record { translation = then_by (numbering to); balanced = to.balanced }

-- the operators of a tree as they are encoded, each at its location
abbrev pub numbered_text : Numbers → FunctionTree → Result (List (Located RawOperation)) EmitError
numbered_text to t = tree_text (writing_numbers to) t

-- the shortest encodings of the operators, one after the other
abbrev pub bytes_of : List (Located RawOperation) → List ℕ
bytes_of xs = flat_map (λ x. short x.op) xs

-- The bytes of a tree with these numbers, or the first fault in the order of writing.
abbrev pub tree_bytes : Numbers → FunctionTree → Result (List ℕ) EmitError
tree_bytes to t = numbered_text to t >>= λ xs. Ok (bytes_of xs)
