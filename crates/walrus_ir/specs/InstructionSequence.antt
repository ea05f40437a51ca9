-- The form in contracts of a sequence of instructions.
use Rattle.std.specs.Prelude.{ℕ, List, []}
use Rattle.walrus_ir.specs.declared.instr.Instr.{Instr}
use Rattle.walrus_ir.specs.declared.val_type.InstrSeqType.{InstrSeqType}
use Rattle.walrus_ir.specs.Locations.{default_location}

-- its id, its type, its instructions with their locations, and the location of its end
pub record InstructionSequence : Type 0 where
  pub id : ℕ
  pub ty : InstrSeqType
  pub instrs : List (Instr × ℕ)
  pub end : ℕ

-- a new sequence, without instructions
abbrev pub empty_sequence : ℕ → InstrSeqType → InstructionSequence
empty_sequence id ty = record { id = id; ty = ty; instrs = []; end = default_location }
