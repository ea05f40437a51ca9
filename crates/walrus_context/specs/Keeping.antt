-- The open sequences during a parse: the normal form of each so far, in its frame and in the builder's arena.
use Rattle.std.specs.Prelude.{◌≡◌, ℕ, suc, List, [], ◌∷◌, ◌++◌, map, Some, None, slice_get}
use Rattle.walrus_ir.specs.declared.seq.InstrSeq.{InstrSeq}
use Rattle.walrus_ir.specs.declared.instr.Instr.{Instr}
use Rattle.walrus_ir.specs.declared.instr.Instr.TheVariants as instr
use Rattle.walrus_ir.specs.declared.control.Try.{Try}
use Rattle.walrus_ir.specs.declared.control.BlockKind.TheVariants as kind
use Rattle.walrus_ir.specs.declared.val_type.InstrSeqType.{InstrSeqType}
use Rattle.wasm_types.specs.declared.val_type.ValType.{ValType}
use Rattle.walrus_ir.specs.Tree.{Items, Sequences}
use Rattle.walrus_ir.specs.Types.{pick}
use Rattle.walrus_ir.specs.Unfolding.{SequenceAt, LocatedInstr, slots_in, AreTreeItems, AreSequences}
use Rattle.walrus_ir.specs.Locations.{default_location}
use Rattle.wasm_operators.specs.declared.types.Opcode.TheVariants.{Byte}
use Rattle.wasm_operators.specs.Operations.{block, operation}
use Rattle.wasm_body.specs.SourceTree.{Sequence, map_sequence}
use Rattle.wasm_body.specs.Naming.{Occurrence, Environment, block_signature}
use Rattle.wasm_body.specs.NormalForm.{typing_of, kept_operation, instruction, normal, name_at}
use Rattle.wasm_body.specs.Keeping.{is_unreachable_after}
use Rattle.wasm_body.specs.TreeOfFunction.{instruction_in, items_in, sequences_in}
use Rattle.wasm_body.specs.Intervals.{RiseIn, AllRiseIn}
use Rattle.wasm_body.specs.Parsing.Progress.{OpenConstruct, InWrapper, InThen, InElse, Layer}
use Rattle.walrus_context.specs.declared.frame.IfElseState.{IfElseState}
use Rattle.walrus_context.specs.OpenConstructs.{opener_in, kind_in, clauses_in, closed_in, type_in, map_open_construct}
use Rattle.walrus_context.specs.OpenFrames.{OpenFrame, changed_at, with_instr}

abbrev pub slots : List OpenFrame → List ℕ
slots fs = map (λ (f : OpenFrame). f.sequence) fs

-- The frame's instructions are the normal form of the sequence so far. The sequences inside have slots after the frame's own,
-- in rising order and below `high`.
pub record IsKeptFrame (env : Environment) (arena : List InstrSeq) (high : ℕ) (f : OpenFrame) (around : List ℕ) (s : Sequence Occurrence) : Type 0 where
  pub items : Items SequenceAt LocatedInstr
  pub are_items : AreTreeItems arena f.instrs items
  pub rise : RiseIn (suc f.sequence) items high
  pub is_normal : items_in (f.sequence ∷ around) items ≡ normal (typing_of env) (map_sequence name_at s)
  pub is_unreachable : f.unreachable ≡ is_unreachable_after s

-- the slot has a sequence of this type whose end has no location yet
pub record IsReserved (arena : List InstrSeq) (slot : ℕ) (type : InstrSeqType) : Type 0 where
  pub seq : InstrSeq
  pub in_arena : slice_get arena slot ≡ Some seq
  pub has_type : seq.ty ≡ type
  pub has_no_end : seq.end ≡ default_location

-- ---- the construct of the innermost frame

-- an `if` has a parameter list to give to an alternative, and the module has the picked type of it
abbrev pub TakesParameters : Environment → OpenConstruct Occurrence → List (ValType ℕ) → Type 0
TakesParameters env (InThen a) types = (types ≡ (block_signature a.named).parameters) × (t : InstrSeqType) × (pick env.types (block_signature a.named) ≡ Some t)
TakesParameters env _ types = Unit {0}

-- The frame is that of the construct. The construct's closed sequences have the slots `before`, from `low` on and below its
-- own.
pub record Encloses (env : Environment) (arena : List InstrSeq) (low : ℕ) (f : OpenFrame) (around : List ℕ) (p : OpenConstruct Occurrence) (before : List ℕ) : Type 0 where
  pub inside : Sequences SequenceAt LocatedInstr
  pub are_sequences : AreSequences arena before inside
  pub rise : AllRiseIn low inside f.sequence
  pub is_normal : sequences_in around inside ≡ closed_in (typing_of env) (map_open_construct name_at p)
  pub reserved : IsReserved arena f.sequence (type_in (typing_of env) (map_open_construct name_at p))
  pub kind : f.kind ≡ kind_in p
  pub takes : TakesParameters env p f.start_types
  pub gives : f.end_types ≡ (block_signature (opener_in p).named).results

-- The construct's instruction is appended to those of the frame around, unless that is unreachable; without it the frames are `fs'`.
pub record IsAppended (around before : List ℕ) (slot : ℕ) (p : OpenConstruct Occurrence) (IsOpener : Instr → Type 0) (fs fs' : List OpenFrame) : Type 0 where
  pub opener : LocatedInstr
  pub places : slots_in opener.0 ≡ before ++ slot ∷ []
  pub is_instruction : instruction_in around opener ≡ instruction (name_at (opener_in p)) (clauses_in p)
  pub is_opener : IsOpener opener.0
  pub frames : fs ≡ changed_at 0 (with_instr opener) fs'

abbrev pub IsTry : Instr → Type 0
IsTry i = (t : Try) × (i ≡ instr.Try t)

abbrev pub IsAny : Instr → Type 0
IsAny i = Unit {0}

abbrev pub the_if : Occurrence → Type 0
the_if a = kept_operation a.named ≡ operation (Byte 0x04) (block tt ∷ [])

-- An `if` whose consequent is open: its state, and those of the other `if`s.
pub record OpensThen (before : List ℕ) (slot : ℕ) (a : Occurrence) (fs fs' : List OpenFrame) (ifs ifs' : List IfElseState) : Type 0 where
  pub frames : fs ≡ fs'
  pub kept : ifs ≡ record { start = a.location; consequent = slot; alternative = None } ∷ ifs'
  pub none_before : before ≡ []
  pub is_if : the_if a

-- An `if` whose alternative is open, after its consequent.
pub record OpensElse (before : List ℕ) (slot : ℕ) (a : Occurrence) (fs fs' : List OpenFrame) (ifs ifs' : List IfElseState) : Type 0 where
  pub frames : fs ≡ fs'
  pub consequent : ℕ
  pub one_before : before ≡ consequent ∷ []
  pub kept : ifs ≡ record { start = a.location; consequent = consequent; alternative = Some slot } ∷ ifs'
  pub is_if : the_if a

-- The construct's instruction. That of an `if` isn't there yet, only its state; any other is the last of the frame around.
-- Without the construct the frames around are `fs'`, and the states of the other `if`s are `ifs'`.
abbrev pub OpensWith : (around before : List ℕ) → (slot : ℕ) → OpenConstruct Occurrence → (fs fs' : List OpenFrame) → (ifs ifs' : List IfElseState) → Type 0
OpensWith around before slot (InThen a) fs fs' ifs ifs' = OpensThen before slot a fs fs' ifs ifs'
OpensWith around before slot (InElse a b l) fs fs' ifs ifs' = OpensElse before slot a fs fs' ifs ifs'
OpensWith around before slot (InWrapper a w) fs fs' ifs ifs' = IsAppended around before slot (InWrapper a w) IsAny fs fs' × (ifs ≡ ifs')
OpensWith around before slot p fs fs' ifs ifs' = IsAppended around before slot p IsTry fs fs' × (ifs ≡ ifs')

-- ---- all open sequences

-- The outermost frame is the function's own sequence, in the first slot.
pub record IsOutermost (env : Environment) (arena : List InstrSeq) (high : ℕ) (frame : OpenFrame) (around : List OpenFrame) (ifs : List IfElseState) (s : Sequence Occurrence) : Type 0 where
  pub kept : IsKeptFrame env arena high frame (slots around) s
  pub alone : around ≡ []
  pub reserved : IsReserved arena 0 (typing_of env).entry
  pub first : frame.sequence ≡ 0
  pub kind : frame.kind ≡ kind.FunctionEntry
  pub no_if : ifs ≡ []

-- The innermost frame is that of an open construct, inside frames for which `Outer` holds.
pub record IsWithinFrames (env : Environment) (arena : List InstrSeq) (high : ℕ) (frame : OpenFrame) (around : List OpenFrame) (ifs : List IfElseState) (p : OpenConstruct Occurrence) (s : Sequence Occurrence)
    (Outer : ℕ → List OpenFrame → List IfElseState → Type 0) : Type 0 where
  pub kept : IsKeptFrame env arena high frame (slots around) s
  pub low : ℕ
  pub before : List ℕ
  pub encloses : Encloses env arena low frame (slots around) p before
  pub outside : List OpenFrame
  pub other_ifs : List IfElseState
  pub opens : OpensWith (slots around) before frame.sequence p around outside ifs other_ifs
  pub outer : Outer low outside other_ifs

-- The frames are those of the open constructs around the sequence so far, innermost first.
abbrev pub Holds : Environment → List InstrSeq → List (Layer Occurrence) → Sequence Occurrence → ℕ → List OpenFrame → List IfElseState → Type 0
Holds env arena [] s high [] ifs = ⊥
Holds env arena [] s high (f ∷ fs) ifs = IsOutermost env arena high f fs ifs s
Holds env arena (l ∷ ls) s high [] ifs = ⊥
Holds env arena (l ∷ ls) s high (f ∷ fs) ifs = IsWithinFrames env arena high f fs ifs l.construct s (Holds env arena ls l.before)
