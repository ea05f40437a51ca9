-- Declarations of locals (WebAssembly core specification 3.0, binary format, code section).
use Rattle.std.specs.Prelude.{ℕ, List, ◌++◌, length}
use Rattle.std.specs.List.{flat_map}
use Rattle.wasm_types.specs.declared.val_type.ValType.{ValType}
use Rattle.wasm_operators.specs.Shortest.{short_number, short_value}

-- a number of locals of one type
abbrev pub short_declaration : ℕ × ValType ℕ → List ℕ
short_declaration local = short_number local.0 ++ short_value local.1

-- the number of pairs of a count and a type, and then each pair
abbrev pub declaration_bytes : List (ℕ × ValType ℕ) → List ℕ
declaration_bytes locals = short_number (length locals) ++ flat_map short_declaration locals
