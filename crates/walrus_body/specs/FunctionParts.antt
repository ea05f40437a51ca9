-- The value of a function of a module that has a body.
use Rattle.std.specs.Prelude.{ℕ, List, Option}
use Rattle.std.specs.declared.ops.Range.{Range}
use Rattle.walrus_ir.specs.Function.{Function}

-- Its builder and arguments; the place and the location of each operator that was read; and the range of places of the body
-- that was read. All these places are less the code offset, the module's `code_section_offset`.
pub record FunctionParts : Type 0 where
  pub builder : Function
  pub args : List ℕ
  pub instruction_mapping : List (ℕ × ℕ)
  pub original_range : Option (Range ℕ)
