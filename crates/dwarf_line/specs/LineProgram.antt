-- The line number program (DWARF 5, section 6.2; so it is in DWARF 2 to 4): operations of a machine, which appends rows to a table.
-- Instructions of one byte and one operation each are all that is read here, so that the register op_index is always 0.
use Rattle.std.specs.Prelude.{ℕ, ℤ, pos, ◌+◌, ◌-◌, ◌/◌, ◌%◌, ◌^◌, ◌+ℤ◌, Bool, true, false, not, List, [], ◌∷◌, ◌++◌, if◌then◌else◌}
use Rattle.dwarf_line.specs.declared.operation.Change.{Change}
use Rattle.dwarf_line.specs.declared.operation.Change.TheVariants.{AdvanceLine, File, Column, NegateStatement, BasicBlock, PrologueEnd, EpilogueBegin, InstructionSet, Discriminator, Nothing}
use Rattle.dwarf_line.specs.declared.operation.Operation.{Operation}
use Rattle.dwarf_line.specs.declared.operation.Operation.TheVariants.{Advance, SetAddress, Special, AppendRow, EndSequence, Changes}

-- what the header says to the machine (section 6.2.4)
pub record Parameters : Type 0 where
  pub default_is_stmt : Bool
  pub line_base : ℤ
  pub line_range : ℕ
  pub opcode_base : ℕ
  pub operand_counts : List ℕ

-- the registers (section 6.2.2), but for the address
pub record Registers : Type 0 where
  pub file : ℕ
  pub line : ℤ
  pub column : ℕ
  pub is_stmt : Bool
  pub basic_block : Bool
  pub prologue_end : Bool
  pub epilogue_begin : Bool
  pub isa : ℕ
  pub discriminator : ℕ

pub record LineState : Type 0 where
  pub address : ℕ
  pub registers : Registers

-- a row of the table: the registers when it is appended, and whether it is the last one of its sequence
pub record LineRow : Type 0 where
  pub address : ℕ
  pub registers : Registers
  pub end_sequence : Bool

-- the registers at the beginning of each sequence (section 6.2.2, table 6.4)
abbrev pub initial_registers : Parameters → Registers
initial_registers p = record {
  file = 1;
  line = pos 1;
  column = 0;
  is_stmt = p.default_is_stmt;
  basic_block = false;
  prologue_end = false;
  epilogue_begin = false;
  isa = 0;
  discriminator = 0;
}

abbrev pub initial : Parameters → LineState
initial p = record { address = 0; registers = initial_registers p }

-- ---- what the operations do

-- sections 6.2.5.2 and 6.2.5.3: operations that change one register, by their names there
abbrev pub registers_changed : Change → Registers → Registers
registers_changed (AdvanceLine z) r = record r { line = r.line +ℤ z }
registers_changed (File n) r = record r { file = n }
registers_changed (Column n) r = record r { column = n }
registers_changed NegateStatement r = record r { is_stmt = not r.is_stmt }
registers_changed BasicBlock r = record r { basic_block = true }
registers_changed PrologueEnd r = record r { prologue_end = true }
registers_changed EpilogueBegin r = record r { epilogue_begin = true }
registers_changed (InstructionSet n) r = record r { isa = n }
registers_changed (Discriminator n) r = record r { discriminator = n }
registers_changed Nothing r = r

-- an address is a number of 64 bits
abbrev pub advanced : (address distance : ℕ) → ℕ
advanced a n = (a + n) % 2 ^ 64

-- the advances of a special opcode (section 6.2.5.1)
abbrev pub address_advance : Parameters → (opcode : ℕ) → ℕ
address_advance p opcode = (opcode - p.opcode_base) / p.line_range

abbrev pub line_advance : Parameters → (opcode : ℕ) → ℤ
line_advance p opcode = p.line_base +ℤ pos ((opcode - p.opcode_base) % p.line_range)

-- before its row, a special opcode advances the address and the line
abbrev pub before_row : Parameters → (opcode : ℕ) → LineState → LineState
before_row p opcode s = record {
  address = advanced s.address (address_advance p opcode);
  registers = record s.registers { line = s.registers.line +ℤ line_advance p opcode };
}

-- after a row, what is true of it alone is no longer set
abbrev pub after_row : LineState → LineState
after_row s = record s {
  registers = record s.registers { discriminator = 0; basic_block = false; prologue_end = false; epilogue_begin = false };
}

abbrev pub row_of : LineState → (end_sequence : Bool) → LineRow
row_of s end = record { address = s.address; registers = s.registers; end_sequence = end }

-- the state after an operation
abbrev pub state_after : Parameters → Operation → LineState → LineState
state_after p (Advance n) s = record s { address = advanced s.address n }
state_after p (SetAddress size a) s = record s { address = a }
state_after p (Special opcode) s = after_row (before_row p opcode s)
state_after p AppendRow s = after_row s
state_after p EndSequence s = initial p
state_after p (Changes c) s = record s { registers = registers_changed c s.registers }

-- the rows that it appends
abbrev pub appended : Parameters → Operation → LineState → List LineRow
appended p (Special opcode) s = row_of (before_row p opcode s) false ∷ []
appended p AppendRow s = row_of s false ∷ []
appended p EndSequence s = row_of s true ∷ []
appended p _ s = []

-- ---- what programs do

-- the state after some operations, and the rows that they append
abbrev pub state_after_all : Parameters → List Operation → LineState → LineState
state_after_all p [] s = s
state_after_all p (o ∷ os) s = state_after_all p os (state_after p o s)

abbrev pub all_appended : Parameters → List Operation → LineState → List LineRow
all_appended p [] s = []
all_appended p (o ∷ os) s = appended p o s ++ all_appended p os (state_after p o s)

-- rows as sequences: each ends with a row that says so, but perhaps the last one
abbrev pub in_front : LineRow → List (List LineRow) → List (List LineRow)
in_front r [] = (r ∷ []) ∷ []
in_front r (s ∷ ss) = (r ∷ s) ∷ ss

abbrev pub sequences : List LineRow → List (List LineRow)
sequences [] = []
sequences (r ∷ rs) = if r.end_sequence then (r ∷ []) ∷ sequences rs else in_front r (sequences rs)
