-- What the steps of the writer do.
use Rattle.std.specs.Prelude.{◌≡◌, ◌⊎◌, ℕ, List, [], ◌∷◌, ◌++◌, map, Bool, true, false, not, None, Some, Result, Ok, Err}
use Rattle.walrus_ir.specs.declared.val_type.InstrSeqType.{InstrSeqType}
use Rattle.walrus_ir.specs.declared.val_type.InstrSeqType.TheVariants.{Simple}
use Rattle.wasm_operators.specs.Meaning.{Listed, meaning}
use Rattle.walrus_parser.specs.OperatorKinds.{makes_unreachable}
use Rattle.walrus_emit_state.specs.TreeWriting.Drafts.{with_written, with_bytes}
use Rattle.walrus_ir.specs.Types.{Signature, pick}
use Rattle.wasm_numbers.specs.Results.{gather}
use Rattle.wasm_operators.specs.declared.types.BlockType.{BlockType}
use Rattle.wasm_operators.specs.declared.types.Opcode.TheVariants.{Byte}
use Rattle.wasm_operators.specs.Operations.{block, operation, RawOperation}
use Rattle.wasm_operators.specs.Shortest.{short_block, short_number}
use Rattle.wasm_operators.specs.Spelling.{Spells}
use Rattle.wasm_body.specs.declared.error.EmitError.{EmitError}
use Rattle.wasm_body.specs.declared.error.EmitError.TheVariants.{Memory}
use Rattle.wasm_body.specs.Bytes.{Numbers, numbered_block}
use Rattle.wasm_body.specs.Control.{Marked}
use Rattle.wasm_body.specs.Frames.{SequenceFrame}
use Rattle.wasm_body.specs.Naming.{Environment, NamedOperation, Occurrence, name_block, named_in}
use Rattle.wasm_body.specs.NormalForm.{Typing, typing_of, construct_type}
use Rattle.wasm_body.specs.TextLaws.{mark_named}
use Rattle.wasm_body.specs.Translation.{Located, at_location}
use Rattle.wasm_body.specs.Flat.{Named, Kept, Dropped, Unreachable, Live, FlatState, flat_state, innermost, around, needs_else, written_at, after, numbered_at_location}
use Rattle.wasm_renumber.specs.Changes.{changed_operator}
use Rattle.walrus_maps.specs.Environments.{environment_of}
use Rattle.walrus_maps.specs.IndexMaps.{id_of, local_of}
use Rattle.walrus_numbering.specs.NumberMaps.{numbers_by}
use Rattle.walrus_flat.specs.UsedLocals.{entries_of}
use Rattle.walrus_flat.specs.declared.writer.Writer.{Writer}
use Rattle.walrus_flat.specs.Written.{writing_changes, drafted, waiting_else, awake, opens_of, flat_state_of, is_unreachable_next, mode_if}

-- the numbers with which a body is written
abbrev pub numbers_of_writer : Writer → Numbers
numbers_of_writer w = numbers_by w.«module».now.types w.out.now (entries_of w.locals.numbered.now)

-- the environment of the body, if its function has this type
abbrev pub env_at : Writer → (type : ℕ) → Environment
env_at w type = environment_of w.«module».now w.indices.ids.now w.indices.function type

-- an operator with its numbers; if it opens a construct, this is the type of its sequences
abbrev pub renumbered : Writer → InstrSeqType → RawOperation → Result RawOperation EmitError
renumbered w ty o = changed_operator (writing_changes (id_of w.indices.ids.now) (local_of w.indices.ids.now w.indices.function) (numbers_of_writer w) ty) o

-- The operator is this byte and a block type.
abbrev pub IsOpenerByte : RawOperation → ℕ → Type 0
IsOpenerByte o byte = (b : BlockType) × (o ≡ operation (Byte byte) (block b ∷ []))

-- Whatever the numbers are, the block type for such sequences is spelt as this number.
abbrev pub IsTypeByte : InstrSeqType → ℕ → Type 0
IsTypeByte type code = (b : BlockType) × ((to : Numbers) → numbered_block to type ≡ Ok b) × (short_block b ≡ short_number code)

-- both: an opener and the type of its sequences
abbrev pub IsShortOpener : RawOperation → InstrSeqType → ℕ × ℕ → Type 0
IsShortOpener o type bytes = IsOpenerByte o bytes.0 × IsTypeByte type bytes.1

-- The writer of the same body.
pub record IsSameWriter (old new : Writer) : Type 0 where
  pub «module» : new.«module» ≡ old.«module»
  pub indices : new.indices.ids ≡ old.indices.ids
  pub function : new.indices.function ≡ old.indices.function
  pub ty : new.ty ≡ old.ty
  pub out : new.out ≡ old.out
  pub locals : new.locals.numbered ≡ old.locals.numbered

-- It was written after the `else` that waited.
pub record WritesAsIs (old new : Writer) (o : RawOperation) (ty : InstrSeqType) (location : ℕ) : Type 0 where
  pub same : IsSameWriter old new
  pub operator : RawOperation
  pub is_renumbered : renumbered old ty o ≡ Ok operator
  pub draft : new.draft ≡ drafted old.draft (waiting_else old.«open».next ++ at_location operator location ∷ [])
  pub «open» : new.«open» ≡ awake old.«open»

abbrev pub PutsAsIs : Writer → Writer → RawOperation → InstrSeqType → (location : ℕ) → Result (Unit {0}) EmitError → Type 0
PutsAsIs old new o ty location (Ok u) = WritesAsIs old new o ty location
PutsAsIs old new o ty location (Err e) = (e ≡ Memory) ⊎ (renumbered old ty o ≡ Err e)

-- ---- the steps, by the code's terms

-- These operators were written, and this is the state.
pub record Goes (old new : Writer) (s : FlatState) (zs : List (Located RawOperation)) : Type 0 where
  pub same : IsSameWriter old new
  pub draft : new.draft ≡ drafted old.draft zs
  pub state_is : flat_state_of new.«open» ≡ s

-- An operator was written after the `else` that waited, and this is the state.
pub record WritesWith (old new : Writer) (o : RawOperation) (ty : InstrSeqType) (location : ℕ) (s : FlatState) : Type 0 where
  pub operator : RawOperation
  pub is_renumbered : renumbered old ty o ≡ Ok operator
  pub goes : Goes old new s (waiting_else old.«open».next ++ at_location operator location ∷ [])

-- It was written, or skipped.
abbrev pub WritesUnless : (skipped : Bool) → Writer → Writer → RawOperation → InstrSeqType → (location : ℕ) → (if_skipped if_written : FlatState) → Result (Unit {0}) EmitError → Type 0
WritesUnless true old new o ty l s t (Ok u) = Goes old new s []
WritesUnless true old new o ty l s t (Err e) = e ≡ Memory
WritesUnless false old new o ty l s t (Ok u) = WritesWith old new o ty l t
WritesUnless false old new o ty l s t (Err e) = (e ≡ Memory) ⊎ (renumbered old ty o ≡ Err e)

-- The type is that of a sequence with the parameters and results of this block type, if there is one.
abbrev pub IsPicked : Writer → BlockType → InstrSeqType → Type 0
IsPicked w b t = (type : ℕ) (s : Signature) (u : InstrSeqType) → name_block (env_at w type) b ≡ Ok s → pick w.«module».now.types s ≡ Some u → t ≡ u

-- There is none.
abbrev pub IsUnpicked : Writer → BlockType → Type 0
IsUnpicked w b = (type : ℕ) (s : Signature) (u : InstrSeqType) → name_block (env_at w type) b ≡ Ok s → pick w.«module».now.types s ≡ Some u → ⊥

abbrev pub Picks : Writer → BlockType → Result InstrSeqType EmitError → Type 0
Picks w b (Ok t) = IsPicked w b t
Picks w b (Err e) = IsUnpicked w b

-- whether the first sequence of an `if`, or of another construct, needs an `else`
abbrev pub needs_one : (is_if balanced : Bool) → Bool
needs_one true balanced = not balanced
needs_one false balanced = false

-- The opener of a construct was written, and its first sequence is open.
pub record WritesOpener (old new : Writer) (o : RawOperation) (b : BlockType) (is_if : Bool) (location : ℕ) : Type 0 where
  pub type : InstrSeqType
  pub is_picked : IsPicked old b type
  pub writes : WritesWith old new o type location (flat_state Live (Kept (needs_one is_if ((numbers_of_writer old).balanced type)) ∷ opens_of old.«open»))

abbrev pub OpensUnless : (unreachable : Bool) → Writer → Writer → RawOperation → BlockType → (is_if : Bool) → (location : ℕ) → Result (Unit {0}) EmitError → Type 0
OpensUnless true old new o b is_if l (Ok u) = Goes old new (flat_state Unreachable (Dropped ∷ opens_of old.«open»)) []
OpensUnless true old new o b is_if l (Err e) = e ≡ Memory
OpensUnless false old new o b is_if l (Ok u) = WritesOpener old new o b is_if l
OpensUnless false old new o b is_if l (Err e) = (e ≡ Memory) ⊎ (IsUnpicked old b ⊎ ((t : InstrSeqType) × IsPicked old b t × (renumbered old t o ≡ Err e)))

-- ---- common operators

-- The operator was written as it is; or it wasn't, and nothing changed.
abbrev pub WritesCommon : Writer → Writer → RawOperation → (location : ℕ) → (written : Bool) → Type 0
WritesCommon old new o location true =
    (operator : RawOperation) × (renumbered old (Simple None) o ≡ Ok operator) × (new ≡ record old { draft = with_written old.draft (at_location operator location) })
WritesCommon old new o location false = new ≡ old

-- It was written or skipped, and this is the state; or it wasn't taken, and nothing changed.
abbrev pub WritesAtOnce : Writer → Writer → Listed → (location : ℕ) → (taken : Bool) → Type 0
WritesAtOnce old new o location true =
    WritesUnless (is_unreachable_next old.«open».next) old new (meaning o) (Simple None) location (flat_state_of old.«open») (flat_state (mode_if (makes_unreachable o)) (opens_of old.«open»)) (Ok tt)
WritesAtOnce old new o location false = new ≡ old

-- ---- a step

-- What is written when this operator is read was written, and the state is the one after it.
pub record Takes (m : Typing) (old new : Writer) (x : Marked Named) : Type 0 where
  pub same : IsSameWriter old new
  pub operators : List (Located RawOperation)
  pub are_numbered : gather (map (numbered_at_location (numbers_of_writer old) m) (written_at (flat_state_of old.«open») x)) ≡ Ok operators
  pub draft : new.draft ≡ drafted old.draft operators
  pub state_is : flat_state_of new.«open» ≡ after (λ o. (numbers_of_writer old).balanced (construct_type m o)) (flat_state_of old.«open») x

-- This is so; or memory ran out, or this is the first fault among what is written.
abbrev pub IsTaken : Typing → Writer → Writer → Marked Named → Result (Unit {0}) EmitError → Type 0
IsTaken m old new x (Ok u) = Takes m old new x
IsTaken m old new x (Err e) = (e ≡ Memory) ⊎ (gather (map (numbered_at_location (numbers_of_writer old) m) (written_at (flat_state_of old.«open») x)) ≡ Err e)

-- for an operator with an encoding that has a name in its place
abbrev pub StepsWriter : Writer → Writer → RawOperation → (location : ℕ) → Result (Unit {0}) EmitError → Type 0
StepsWriter old new o location r =
    (type : ℕ) (g : SequenceFrame Occurrence) (gs : List (SequenceFrame Occurrence)) (text : List ℕ) (named : NamedOperation) → Spells o text → named_in (env_at old type) (g ∷ gs) o ≡ Ok named →
    IsTaken (typing_of (env_at old type)) old new (mark_named (at_location named location)) r

-- ---- control operators that are written at once

-- The opener of a construct of the empty type, whose opcode is this byte, was written, and its first sequence is open.
pub record OpensEmpty (old new : Writer) (byte location : ℕ) : Type 0 where
  pub is : new ≡ record old { draft = with_bytes old.draft (byte ∷ short_number 0x40) location; «open» = new.«open» }
  pub next : new.«open».next ≡ old.«open».next
  pub opens : opens_of new.«open» ≡ Kept false ∷ opens_of old.«open»

-- The `end` of a sequence that needs no `else` was written, and the sequence is closed.
pub record ClosesShort (old new : Writer) (location : ℕ) : Type 0 where
  pub is : new ≡ record old { draft = with_bytes old.draft (0x0b ∷ []) location; «open» = new.«open» }
  pub next : new.«open».next ≡ old.«open».next
  pub closes : opens_of new.«open» ≡ around (opens_of old.«open»)
  pub short : needs_else (innermost (opens_of old.«open»)) ≡ false
