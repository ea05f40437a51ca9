-- What the functions of this crate write: operations, and what these do.
use Rattle.std.specs.Prelude.{◌≡◌, ℕ, ◌+◌, ◌-◌, ◌%◌, ◌^◌, ◌<◌, ◌≤◌, List, [], ◌∷◌, ◌++◌, length, map, true, false, Option, Some, None, Ok, Err, ⊤}
use Rattle.code_moves.specs.declared.body.Body.{Body}
use Rattle.dwarf_bytes.specs.declared.fault.DebugFault.{DebugFault}
use Rattle.dwarf_bytes.specs.declared.size.Format.{Format}
use Rattle.dwarf_bytes.specs.Numbers.{initial_length}
use Rattle.dwarf_line.specs.declared.moved.Moved.{Moved}
use Rattle.dwarf_line.specs.declared.operation.AddressSize.TheVariants.{Four}
use Rattle.dwarf_line.specs.declared.operation.Operation.{Operation}
use Rattle.dwarf_line.specs.declared.operation.Operation.TheVariants.{Advance, SetAddress, Special, EndSequence}
use Rattle.dwarf_line.specs.declared.place.Place.{Place}
use Rattle.dwarf_line.specs.declared.sequence.Sequence.{Sequence}
use Rattle.dwarf_line.specs.Kept.{kept_of, KeepsOfLines}
use Rattle.dwarf_line.specs.LineProgram.{Parameters, Registers, LineState, LineRow, initial, address_advance, state_after_all, all_appended}
use Rattle.dwarf_line.specs.LineTables.{AreSequencesAt}
use Rattle.dwarf_line.specs.MovedRows.{moved_row, moved_sequence}
use Rattle.dwarf_line.specs.Operations.{line_operation, rows}
use Rattle.dwarf_line.specs.Refusals.{sound_program}
use Rattle.dwarf_line.specs.Repeated.{Begin, ReadsAs}

-- The new bytes are the old ones and these operations, of which this is kept.
pub record AddsOfLines (p : Parameters) (old new : List ℕ) (os : List Operation) (texts : List (List ℕ)) : Type 0 where
  pub text : List ℕ
  pub added : new ≡ old ++ text
  pub spells : ReadsAs (line_operation p) os text
  pub keeps : KeepsOfLines p text texts

-- ---- moves of the address

abbrev pub line_state : (address : ℕ) → Registers → LineState
line_state a x = record { address = a; registers = x }

-- The operations lead from one address to the other and do nothing else.
pub record LeadsOfLines (p : Parameters) (os : List Operation) (from to : ℕ) : Type 0 where
  pub rows : (x : Registers) → all_appended p os (line_state from x) ≡ []
  pub after : (x : Registers) → state_after_all p os (line_state from x) ≡ line_state to x

-- They advance the address by this distance.
abbrev pub AdvancesOfLines : Parameters → List Operation → (distance : ℕ) → Type 0
AdvancesOfLines p os distance = (from : ℕ) → from + distance < 2 ^ 64 → LeadsOfLines p os from (from + distance)

-- The special opcode has this line advance, counted from the least, and advances the address by this distance.
pub record Is (p : Parameters) (line distance opcode : ℕ) : Type 0 where
  pub sound : p.opcode_base ≤ opcode
  pub distance_is : address_advance p opcode ≡ distance
  pub line_is : (opcode - p.opcode_base) % p.line_range ≡ line

-- what advances the address by this distance, and is written
pub record AddsAdvance (p : Parameters) (old new : List ℕ) (distance : ℕ) : Type 0 where
  pub operations : List Operation
  pub adds : AddsOfLines p old new operations []
  pub advances : AdvancesOfLines p operations distance

-- A special opcode with this line advance is written, and operations in front of it, so that both advance the address by this
-- distance.
pub record AddsSpecial (p : Parameters) (old new : List ℕ) (line distance : ℕ) : Type 0 where
  pub front : List Operation
  pub opcode : ℕ
  pub adds : AddsOfLines p old new (front ++ Special opcode ∷ []) (((p.opcode_base + line) ∷ []) ∷ [])
  pub by_front : ℕ
  pub by_opcode : ℕ
  pub whole : by_front + by_opcode ≡ distance
  pub advances : AdvancesOfLines p front by_front
  pub is : Is p line by_opcode opcode

-- a special opcode is one of those that the header says
abbrev pub IsSound : Parameters → Operation → Type 0
IsSound p (Special opcode) = p.opcode_base ≤ opcode
IsSound p _ = ⊤

-- what leads to an address, and is written
pub record AddsLead (p : Parameters) (old new : List ℕ) (from to : ℕ) : Type 0 where
  pub operations : List Operation
  pub adds : AddsOfLines p old new operations []
  pub leads : LeadsOfLines p operations from to

-- ---- operations of the source

-- Other operations do with the moved addresses what these do with the addresses of the source.
pub record Carries (bodies : List Body) (p : Parameters) (os others : List Operation) (from to : Place) : Type 0 where
  pub rows : (x : Registers) → all_appended p others (line_state from.new x) ≡ map (moved_row bodies) (all_appended p os (line_state from.old x))
  pub after : (x : Registers) → state_after_all p others (line_state from.new x) ≡ line_state to.new (state_after_all p os (line_state from.old x)).registers
  pub address : (x : Registers) → (state_after_all p os (line_state from.old x)).address ≡ to.old

-- And they are written, and this is kept.
pub record FollowsOfLines (bodies : List Body) (p : Parameters) (os : List Operation) (from to : Place) (old new : List ℕ) (texts : List (List ℕ)) : Type 0 where
  pub operations : List Operation
  pub adds : AddsOfLines p old new operations texts
  pub carries : Carries bodies p os operations from to

abbrev pub line_start : Place
line_start = record { old = 0; new = 0; size = Four }

-- the last of some operations ends a sequence
abbrev pub IsEnded : List Operation → Type 0
IsEnded os = (front : List Operation) × (os ≡ front ++ EndSequence ∷ [])

-- ---- sequences

-- the last row of these ends a sequence, and no other one
abbrev pub IsClosed : List LineRow → Type 0
IsClosed [] = ⊥
IsClosed (r ∷ []) = r.end_sequence ≡ true
IsClosed (r ∷ s ∷ rs) = (r.end_sequence ≡ false) × IsClosed (s ∷ rs)

abbrev pub first_address : List LineRow → Option ℕ
first_address [] = None
first_address (r ∷ rs) = Some r.address

-- The operations are those of one sequence, whose first row has this address.
pub record IsSequence (p : Parameters) (os : List Operation) (first : ℕ) : Type 0 where
  pub ended : IsEnded os
  pub closed : IsClosed (all_appended p os (initial p))
  pub first_is : first_address (all_appended p os (initial p)) ≡ Some first

-- The bytes begin with a sequence.
pub record BeginsSequence (p : Parameters) (bytes : List ℕ) (s : Sequence) : Type 0 where
  pub operations : List Operation
  pub split : bytes ≡ s.bytes.now ++ s.rest.now
  pub reads : Begin (line_operation p) operations s.bytes.now []
  pub is : IsSequence p operations s.first

-- These bytes can't be read as a sequence: after some operations, of which none ends it, this is wrong.
pub record IsSequenceFault (p : Parameters) (bytes : List ℕ) (f : DebugFault) : Type 0 where
  pub operations : List Operation
  pub rest : List ℕ
  pub reads : Begin (line_operation p) operations bytes rest
  pub not_ended : IsEnded operations → ⊥
  pub fault : line_operation p rest ≡ Err f

-- What is added for the bytes of a sequence leads to these rows, and to its end, and all else is kept.
pub record AddsRows (p : Parameters) (bytes old new : List ℕ) (rs : List LineRow) : Type 0 where
  pub operations : List Operation
  pub texts : List (List ℕ)
  pub source_keeps : KeepsOfLines p bytes texts
  pub adds : AddsOfLines p old new operations texts
  pub rows_are : all_appended p operations (initial p) ≡ rs
  pub after : state_after_all p operations (initial p) ≡ initial p

-- ---- programs

-- A program is added whose rows are those of this one, with their addresses moved, and the moves of its sequences, which begin at
-- this place of the section.
pub record AddsProgram (bodies : List Body) (p : Parameters) (place : Moved) (program old new : List ℕ) (old_moves new_moves : List Moved) : Type 0 where
  pub text : List ℕ
  pub added : new ≡ old ++ text
  pub sequences : List (List LineRow)
  pub source : rows p program ≡ Ok sequences
  pub written : rows p text ≡ Ok (map (moved_sequence bodies) sequences)
  pub texts : List (List ℕ)
  pub source_keeps : kept_of p program ≡ Ok texts
  pub written_keeps : kept_of p text ≡ Ok texts
  pub sound : sound_program p program ≡ Ok tt
  pub moves : List Moved
  pub told : new_moves ≡ old_moves ++ moves
  pub places : AreSequencesAt bodies p place.old place.new moves program text

-- ---- tables

-- A length in this format is added.
pub record AddsLength (format : Format) (n : ℕ) (old new : List ℕ) : Type 0 where
  pub text : List ℕ
  pub added : new ≡ old ++ text
  pub reads : (following : List ℕ) → initial_length (text ++ following) ≡ Ok ((format, n), following)

-- The length of these bytes is added, and then these.
pub record AddsUnit (format : Format) (unit old new : List ℕ) : Type 0 where
  pub text : List ℕ
  pub added : new ≡ old ++ (text ++ unit)
  pub reads : (following : List ℕ) → initial_length (text ++ following) ≡ Ok ((format, length unit), following)
