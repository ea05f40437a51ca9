-- Writing a function's tree as a visitor of its walk: the emitter after each event.
use Rattle.std.specs.Prelude.{ℕ, ◌+◌, ◌==◌, List, [], ◌∷◌, ◌++◌, length, map, slice_get, Bool, true, false, ◌&&◌, if◌then◌else◌, Option, Some, None, Result, Ok, Err}
use Rattle.walrus_ir.specs.declared.seq.InstrSeq.{InstrSeq}
use Rattle.walrus_ir.specs.declared.val_type.InstrSeqType.{InstrSeqType}
use Rattle.walrus_ir.specs.declared.val_type.InstrSeqType.TheVariants.{Simple}
use Rattle.walrus_ir.specs.declared.instr.Instr.{Instr}
use Rattle.walrus_ir.specs.declared.instr.Instr.TheVariants.{Block, Loop, IfElse, TryTable, Try}
use Rattle.walrus_ir.specs.Unfolding.{LocatedInstr, slots_in}
use Rattle.walrus_ir.specs.Events.{WalkEvent, StartSequence, EndSequence, VisitInstruction}
use Rattle.wasm_operators.specs.Operations.{RawOperation}
use Rattle.wasm_operators.specs.Shortest.{short}
use Rattle.wasm_body.specs.declared.error.EmitError.{EmitError}
use Rattle.wasm_body.specs.declared.error.EmitError.TheVariants.{UnknownSequence}
use Rattle.wasm_numbers.specs.Results.{◌>>=◌, some_or}
use Rattle.wasm_body.specs.Control.{end_operation, else_operation}
use Rattle.wasm_body.specs.Translation.{Located, at_location}
use Rattle.wasm_body.specs.InstructionTable.{legacy_clause}
use Rattle.wasm_body.specs.TreeOfFunction.{instruction_in}
use Rattle.wasm_body.specs.FunctionTree.{last_location}
use Rattle.wasm_body.specs.FlatText.{TextOperation, then_by, try_closers, opener_text, written}
use Rattle.wasm_body.specs.Bytes.{Numbers, numbering, bytes_of}
use Rattle.wasm_body.specs.Pairs.{pairs_from}

-- ---- the sequences in an instruction, and what closes them

-- a sequence that is to come or is open: its slot, and the operator, if any, that closes it, with its location
pub record Scope : Type 0 where
  pub slot : ℕ
  pub closer : Option (Located TextOperation)

-- those of the sequences of an `if` are below
abbrev pub closers_in : Instr → List TextOperation
closers_in (Block x) = end_operation ∷ []
closers_in (Loop x) = end_operation ∷ []
closers_in (TryTable x) = end_operation ∷ []
closers_in (Try x) = try_closers (map legacy_clause x.catches)
closers_in _ = []

-- each of these sequences ends with its closer, at the location of its end
abbrev pub scope_at : List InstrSeq → ℕ → TextOperation → Result Scope EmitError
scope_at b slot closer =
    some_or (slice_get b slot) UnknownSequence >>= λ seq. Ok (record { slot = slot; closer = Some (at_location closer seq.end) })

abbrev pub scopes_at : List InstrSeq → List ℕ → List TextOperation → Result (List Scope) EmitError
scopes_at b [] cs = Ok []
scopes_at b (p ∷ ps) [] = Ok []
scopes_at b (p ∷ ps) (c ∷ cs) = scope_at b p c >>= λ s. scopes_at b ps cs >>= λ ss. Ok (s ∷ ss)

-- The scopes of the two sequences of an `if`. A short one is closed once: its consequent by an `end`, at the location of the
-- alternative's end, or of its own if that is the default location; and its alternative by nothing.
abbrev pub if_scopes : (is_short : Bool) → ℕ → InstrSeq → ℕ → InstrSeq → List Scope
if_scopes true p c q a =
    record { slot = p; closer = Some (at_location end_operation (last_location c.end a.end)) } ∷ record { slot = q; closer = None } ∷ []
if_scopes false p c q a =
    record { slot = p; closer = Some (at_location else_operation c.end) } ∷ record { slot = q; closer = Some (at_location end_operation a.end) } ∷ []

-- An `if` is short if its type is balanced and its alternative has no instruction.
abbrev pub is_short : (InstrSeqType → Bool) → InstrSeq → InstrSeq → Bool
is_short balanced c a = balanced c.ty && (length a.instrs == 0)

abbrev pub scopes_of_if : (InstrSeqType → Bool) → List InstrSeq → ℕ → ℕ → Result (List Scope) EmitError
scopes_of_if balanced b p q =
    some_or (slice_get b p) UnknownSequence >>= λ c. some_or (slice_get b q) UnknownSequence >>= λ a.
    Ok (if_scopes (is_short balanced c a) p c q a)

-- the scopes of the sequences in an instruction
abbrev pub scopes_inside : (InstrSeqType → Bool) → List InstrSeq → Instr → Result (List Scope) EmitError
scopes_inside balanced b (IfElse x) = scopes_of_if balanced b x.consequent x.alternative
scopes_inside balanced b i = scopes_at b (slots_in i) (closers_in i)

-- the type of the first of the sequences in these slots
abbrev pub first_type_at : List InstrSeq → List ℕ → Result InstrSeqType EmitError
first_type_at b [] = Ok (Simple None)
first_type_at b (p ∷ ps) = some_or (slice_get b p) UnknownSequence >>= λ seq. Ok seq.ty

-- ---- the emitter

-- the output: bytes, and for each operator its location and its place
pub record Output : Type 0 where
  pub bytes : List ℕ
  pub pairs : List (ℕ × ℕ)

-- For these sequences, under these numbers: the scopes that are to come, the next one first; those that are open, the innermost
-- first; and the output so far. `base` is the number of bytes before it, and `has_map` says whether pairs are kept.
pub record Emitter : Type 0 where
  pub sequences : List InstrSeq
  pub numbers : Numbers
  pub coming : List Scope
  pub open_scopes : List Scope
  pub base : ℕ
  pub has_map : Bool
  pub output : Output

abbrev pub slots_of : List Scope → List ℕ
slots_of ss = map (λ (s : Scope). s.slot) ss

-- an operator after the output
abbrev pub pairs_after : Bool → ℕ → Output → ℕ → List (ℕ × ℕ)
pairs_after has_map base o location = if has_map then o.pairs ++ (location, base + length o.bytes) ∷ [] else o.pairs

abbrev pub output_after : Bool → ℕ → Output → Located RawOperation → Output
output_after has_map base o x = record { bytes = o.bytes ++ short x.op; pairs = pairs_after has_map base o x.location }

abbrev pub with_operator : Emitter → Located RawOperation → Emitter
with_operator s x = record s { output = output_after s.has_map s.base s.output x }

abbrev pub with_closer : Emitter → Option (Located TextOperation) → Result Emitter EmitError
with_closer s None = Ok s
with_closer s (Some c) = written (then_by (numbering s.numbers)) c.op c.location >>= λ x. Ok (with_operator s x)

-- An instruction's own operator is written, and the sequences in it are to come next.
abbrev pub with_instruction : Emitter → LocatedInstr → Result Emitter EmitError
with_instruction s x =
    first_type_at s.sequences (slots_in x.0) >>= λ type.
    opener_text (then_by (numbering s.numbers)) (instruction_in (slots_of s.open_scopes) x) type >>= λ op.
    scopes_inside s.numbers.balanced s.sequences x.0 >>= λ scopes.
    Ok (with_operator (record s { coming = scopes ++ s.coming }) op)

-- The next scope is opened; the innermost is closed. (A walk starts only sequences that are to come, and ends only open ones.)
abbrev pub with_start : Emitter → List Scope → Result Emitter EmitError
with_start s [] = Err UnknownSequence
with_start s (c ∷ cs) = Ok (record s { coming = cs; open_scopes = c ∷ s.open_scopes })

abbrev pub with_end : Emitter → List Scope → Result Emitter EmitError
with_end s [] = Err UnknownSequence
with_end s (c ∷ cs) = with_closer s c.closer >>= λ t. Ok (record t { open_scopes = cs })

abbrev pub emitter_after : Emitter → WalkEvent → Result Emitter EmitError
emitter_after s (VisitInstruction i location) = with_instruction s (i, location)
emitter_after s (StartSequence seq) = with_start s s.coming
emitter_after s (EndSequence seq) = with_end s s.open_scopes
emitter_after s _ = Ok s

-- after these events
abbrev pub emitter_after_all : Emitter → List WalkEvent → Result Emitter EmitError
emitter_after_all s [] = Ok s
emitter_after_all s (e ∷ es) = emitter_after s e >>= λ t. emitter_after_all t es

-- ---- a whole tree

-- nothing is written, and only the sequence in this slot is to come, which `end` closes
abbrev pub first_emitter : List InstrSeq → Numbers → ℕ → Bool → Scope → Emitter
first_emitter b to base has_map scope = record {
  sequences = b;
  numbers = to;
  coming = scope ∷ [];
  open_scopes = [];
  base = base;
  has_map = has_map;
  output = record { bytes = []; pairs = [] };
}

-- the output of a text with `base` bytes before it
abbrev pub output_of : Bool → ℕ → List (Located RawOperation) → Output
output_of has_map base xs = record { bytes = bytes_of xs; pairs = if has_map then pairs_from base xs else [] }
