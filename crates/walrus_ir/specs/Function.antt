-- The form in contracts of a function's builder.
use Rattle.std.specs.Prelude.{ℕ, List, [], ◌∷◌, ◌++◌, Option, None, length, slice_set}
use Rattle.walrus_ir.specs.declared.seq.InstrSeq.{InstrSeq}
use Rattle.walrus_ir.specs.declared.val_type.InstrSeqType.{InstrSeqType}
use Rattle.walrus_ir.specs.InstructionSequence.{empty_sequence}

-- the function's type, its sequences by their slots, and the slot of the one that it begins with
pub record Function : Type 0 where
  pub type : ℕ
  pub sequences : List InstrSeq
  pub entry : Option ℕ

-- a function without sequences
abbrev pub empty_function : (type : ℕ) → Function
empty_function type = record { type = type; sequences = []; entry = None }

-- with an empty sequence after all others
abbrev pub with_new_sequence : Function → InstrSeqType → Function
with_new_sequence b ty =
    record b { sequences = b.sequences ++ empty_sequence (length b.sequences) ty ∷ [] }

-- with the sequence at a slot replaced
abbrev pub with_sequence : Function → (slot : ℕ) → InstrSeq → Function
with_sequence b slot seq = record b { sequences = slice_set b.sequences slot seq }
