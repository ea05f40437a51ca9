-- The operators of a body that is written while it is read.
use Rattle.std.specs.Prelude.{◌≡◌, ◌⊎◌, ℕ, List, [], ◌∷◌, map, reverse, Bool, true, false, Option, Some, None, Result, Ok, Err}
use Rattle.walrus_ir.specs.declared.val_type.InstrSeqType.{InstrSeqType}
use Rattle.wasm_numbers.specs.Results.{◌>>=◌, gather, with_fault}
use Rattle.wasm_operators.specs.Operations.{RawOperation}
use Rattle.wasm_operators.specs.declared.types.Space.{Space}
use Rattle.wasm_body.specs.declared.error.EmitError.{EmitError}
use Rattle.wasm_body.specs.declared.error.EmitError.TheVariants.{Index, Memory}
use Rattle.wasm_body.specs.declared.error.IndexError.{IndexError}
use Rattle.walrus_ir.specs.Locations.{default_location}
use Rattle.wasm_body.specs.Control.{Marked, else_operation, end_operation}
use Rattle.wasm_body.specs.Translation.{Located, at_location}
use Rattle.wasm_body.specs.FunctionTree.{last_location}
use Rattle.wasm_body.specs.NormalForm.{Typing}
use Rattle.wasm_body.specs.Bytes.{Numbers, in_32_bits, numbers_in_32_bits, numbered_block}
use Rattle.wasm_body.specs.Flat.{Named, Open, Dropped, Kept, Mode, Live, Waits, Unreachable, FlatState, flat_state, innermost, around, needs_else, mode_of_else, parted, closed_state, numbered_at_location}
use Rattle.wasm_renumber.specs.Changes.{Changes}
use Rattle.walrus_maps.specs.IndexMaps.{id_of, local_of}
use Rattle.walrus_numbering.specs.NumberMaps.{numbers_by}
use Rattle.walrus_emit_state.specs.TreeWriting.Drafts.{Drafted, with_written}
use Rattle.walrus_flat.specs.UsedLocals.{entries_of}
use Rattle.walrus_flat.specs.declared.renumbering.Renumbering.{Renumbering}
use Rattle.walrus_flat.specs.declared.sequences.OpenSequences.{OpenSequences}
use Rattle.walrus_flat.specs.declared.sequences.Next.{Next}
use Rattle.walrus_flat.specs.declared.sequences.Next.TheVariants as next
use Rattle.walrus_flat.specs.declared.sequences.Written.{Written}
use Rattle.walrus_flat.specs.declared.sequences.Written.TheVariants as sequence

-- ---- an operator as it is read becomes one as it is written

-- An index becomes the number of its id, and a block type that of the type of the construct's sequences; labels stay as they are.
abbrev pub writing_changes : (id_of : Space → ℕ → Result ℕ IndexError) (local_of : ℕ → Result ℕ IndexError) → Numbers → InstrSeqType → Changes EmitError
writing_changes id_of local_of to type = record {
  index = λ space n. with_fault Index (id_of space n) >>= (numbers_in_32_bits to).number_of space;
  local = λ n. with_fault Index (local_of n) >>= (numbers_in_32_bits to).local_number;
  label = in_32_bits;
  handler = in_32_bits;
  outer = in_32_bits;
  block = λ b. numbered_block to type;
}

abbrev pub changes_of_renumbering : Renumbering → Changes EmitError
changes_of_renumbering r = writing_changes (id_of r.indices.now) (local_of r.indices.now r.function) (numbers_by r.types.now r.ids.now (entries_of r.locals.now)) r.ty

-- ---- the state between two operators

abbrev pub mode_of : Next → Mode
mode_of next.Live = Live
mode_of (next.Waits location) = Waits location
mode_of next.Unreachable = Unreachable

abbrev pub open_of : Written → Open
open_of sequence.Dropped = Dropped
open_of (sequence.Kept needs_else) = Kept needs_else

-- the innermost first
abbrev pub opens_of : OpenSequences → List Open
opens_of s = reverse (map open_of s.sequences.items)

abbrev pub flat_state_of : OpenSequences → FlatState
flat_state_of s = flat_state (mode_of s.next) (opens_of s)

abbrev pub is_unreachable_next : Next → Bool
is_unreachable_next next.Live = false
is_unreachable_next (next.Waits location) = false
is_unreachable_next next.Unreachable = true

abbrev pub waits : Next → Bool
waits next.Live = false
waits (next.Waits location) = true
waits next.Unreachable = false

-- the location of the `else` that waits
abbrev pub waiting_location : Next → Option ℕ
waiting_location next.Live = None
waiting_location (next.Waits location) = Some location
waiting_location next.Unreachable = None

-- whether an operator that ends the innermost sequence is in unreachable code
abbrev pub drops_end : Mode → Open → Bool
drops_end Live o = false
drops_end (Waits location) o = false
drops_end Unreachable Dropped = true
drops_end Unreachable (Kept needed) = false

abbrev pub ends_dropped : FlatState → Bool
ends_dropped s = drops_end s.mode (innermost s.sequences)

-- ---- what is written for one operator

abbrev pub drafted : Drafted → List (Located RawOperation) → Drafted
drafted d [] = d
drafted d (z ∷ zs) = drafted (with_written d z) zs

-- an `else` that waits
abbrev pub waiting_else : Next → List (Located RawOperation)
waiting_else next.Live = []
waiting_else (next.Waits location) = at_location else_operation location ∷ []
waiting_else next.Unreachable = []

-- after it was written
abbrev pub awake_next : Next → Next
awake_next next.Live = next.Live
awake_next (next.Waits location) = next.Live
awake_next next.Unreachable = next.Unreachable

abbrev pub awake : OpenSequences → OpenSequences
awake s = record s { next = awake_next s.next }

-- an `else` where it is needed
abbrev pub else_if : (needed : Bool) → (location : ℕ) → List (Located RawOperation)
else_if true l = at_location else_operation l ∷ []
else_if false l = []

-- what is written of an `else`: it itself where it is needed, or the one that waited
abbrev pub else_pieces : Mode → Open → (location : ℕ) → List (Located RawOperation)
else_pieces Live o l = else_if (needs_else o) l
else_pieces (Waits k) o l = at_location else_operation k ∷ []
else_pieces Unreachable Dropped l = []
else_pieces Unreachable (Kept needed) l = else_if needed l

-- of an `end`
abbrev pub end_if : (needs_else : Bool) → (location : ℕ) → List (Located RawOperation)
end_if true l = at_location else_operation l ∷ at_location end_operation default_location ∷ []
end_if false l = at_location end_operation l ∷ []

-- the location of an `end`
abbrev pub end_location : Next → (location : ℕ) → ℕ
end_location next.Live l = l
end_location (next.Waits k) l = last_location k l
end_location next.Unreachable l = l

abbrev pub end_pieces : Mode → Open → (location : ℕ) → List (Located RawOperation)
end_pieces Live o l = end_if (needs_else o) l
end_pieces (Waits k) o l = at_location end_operation (last_location k l) ∷ []
end_pieces Unreachable Dropped l = []
end_pieces Unreachable (Kept needed) l = end_if needed l

-- the state after an `else`
abbrev pub alternative : List Open → (location : ℕ) → FlatState
alternative os l = flat_state (mode_of_else (needs_else (innermost os)) l) (Kept false ∷ around os)

abbrev pub state_after_else : Mode → List Open → (location : ℕ) → FlatState
state_after_else Live os l = alternative os l
state_after_else (Waits k) os l = alternative os l
state_after_else Unreachable os l = parted (innermost os) os (alternative os l)

-- after an `end`
abbrev pub state_after_end : Mode → List Open → FlatState
state_after_end Live os = flat_state Live (around os)
state_after_end (Waits k) os = flat_state Live (around os)
state_after_end Unreachable os = closed_state (innermost os) os (flat_state Live (around os))

-- after an operator by itself
abbrev pub mode_if : (unreachable_after : Bool) → Mode
mode_if true = Unreachable
mode_if false = Live

-- These are the operators that are written when this one is read, in order.
pub record Writes (to : Numbers) (m : Typing) (written : List (Marked Named)) (old new : Drafted) : Type 0 where
  pub operators : List (Located RawOperation)
  pub are_numbered : gather (map (numbered_at_location to m) written) ≡ Ok operators
  pub is : new ≡ drafted old operators

-- They were written; or memory ran out, or this is the first fault among them.
abbrev pub IsWritten : Numbers → Typing → List (Marked Named) → Drafted → Drafted → Result (Unit {0}) EmitError → Type 0
IsWritten to m written old new (Ok u) = Writes to m written old new
IsWritten to m written old new (Err e) = (e ≡ Memory) ⊎ (gather (map (numbered_at_location to m) written) ≡ Err e)
