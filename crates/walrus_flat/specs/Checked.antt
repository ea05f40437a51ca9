-- The open sequences of a body that is checked and not parsed.
use Rattle.std.specs.Prelude.{◌≡◌, ◌⊎◌, ℕ, nat_lt, List, [], ◌∷◌, length, drop, reverse, map, slice_get, Bool, true, false, ◌||◌, Some, OnOk, Result, Ok, Err}
use Rattle.walrus_ir.specs.Types.{ModuleType, signature_of_type}
use Rattle.walrus_ir.specs.Unfolding.{among}
use Rattle.walrus_ir.specs.declared.control.BlockKind.{BlockKind}
use Rattle.walrus_ir.specs.declared.control.BlockKind.TheVariants as kind
use Rattle.wasm_operators.specs.Operations.{RawOperation}
use Rattle.wasm_body.specs.declared.error.ParseError.{ParseError}
use Rattle.wasm_numbers.specs.Results.{◌>>=◌, some_or, unless, with_fault}
use Rattle.wasm_body.specs.declared.error.ParseError.TheVariants.{Memory, Index, NoSuchLabel, RethrowOutsideHandler}
use Rattle.wasm_body.specs.Control.{Marked, control_of}
use Rattle.wasm_body.specs.Frames.{SequenceFrame, OfFunction, OfWrapper, Consequent, Alternative, TryBody, Handler, HandlerOfAll, moves}
use Rattle.wasm_body.specs.Naming.{Environment, NamedOperation, Occurrence, id_at, name_block, block_signature, named_in}
use Rattle.wasm_body.specs.NormalForm.{name_at}
use Rattle.wasm_body.specs.TextLaws.{mark_named}
use Rattle.wasm_body.specs.Translation.{at_location}
use Rattle.wasm_body.specs.Flat.{Named, Unreachability, unreachability, unreachability_after, live_locals}
use Rattle.wasm_renumber.specs.Changes.{Changes}
use Rattle.walrus_context.specs.Placing.{is_handler_kind}
use Rattle.walrus_maps.specs.Environments.{environment_of}
use Rattle.walrus_flat.specs.UsedLocals.{is_used}
use Rattle.walrus_flat.specs.declared.checking.Checking.{Checking}
use Rattle.walrus_flat.specs.declared.checker.Checker.{Checker}
use Rattle.walrus_flat.specs.declared.open_sequence.OpenSequence.{OpenSequence}

-- ---- parts of operators, which stay as they are

-- whether a sequence of this kind is a handler of a legacy `try`
abbrev pub open_handler : List OpenSequence → ℕ → Result (Unit {0}) ParseError
open_handler fs n = some_or (slice_get fs n) NoSuchLabel >>= λ f. unless (is_handler_kind f.kind) RethrowOutsideHandler

-- while these sequences are open, innermost first
abbrev pub checking_changes : Environment → List OpenSequence → Changes ParseError
checking_changes env fs = record {
  index = λ space n. id_at env space n >>= λ id. Ok n;
  local = λ n. with_fault Index (env.local_of n) >>= λ id. Ok n;
  label = λ n. unless (nat_lt n (length fs)) NoSuchLabel >>= λ u. Ok n;
  handler = λ n. open_handler fs n >>= λ u. Ok n;
  outer = λ n. unless (nat_lt n (length (drop 1 fs))) NoSuchLabel >>= λ u. Ok n;
  block = λ b. name_block env b >>= λ s. Ok b;
}

abbrev pub changes_of_checking : Checking → Changes ParseError
changes_of_checking c = checking_changes (environment_of c.«module».now c.indices.now c.function 0) (reverse c.«open».now)

-- ---- frames

abbrev pub IsWrapper : BlockKind → Type 0
IsWrapper kind.Block = Unit {0}
IsWrapper kind.Loop = Unit {0}
IsWrapper kind.TryTable = Unit {0}
IsWrapper _ = ⊥

-- the type that the opener of its construct names has this block type as signature
abbrev pub HasTypeOf : List ModuleType → OpenSequence → Occurrence → Type 0
HasTypeOf types f a = signature_of_type types f.ty ≡ Some (block_signature a.named)

-- what is kept of a frame: its kind, and the parameters and results of its construct
abbrev pub IsFrame : List ModuleType → OpenSequence → SequenceFrame Occurrence → Type 0
IsFrame types f OfFunction = f.kind ≡ kind.FunctionEntry
IsFrame types f (OfWrapper a) = IsWrapper f.kind × HasTypeOf types f a
IsFrame types f (Consequent a) = (f.kind ≡ kind.If) × HasTypeOf types f a
IsFrame types f (Alternative a) = (f.kind ≡ kind.Else) × HasTypeOf types f a
IsFrame types f (TryBody a) = (f.kind ≡ kind.Try) × HasTypeOf types f a
IsFrame types f (Handler a) = (f.kind ≡ kind.Catch) × HasTypeOf types f a
IsFrame types f (HandlerOfAll a) = (f.kind ≡ kind.CatchAll) × HasTypeOf types f a

-- both with the innermost first
abbrev pub AreFrames : List ModuleType → List OpenSequence → List (SequenceFrame Occurrence) → Type 0
AreFrames types [] [] = Unit {0}
AreFrames types (f ∷ fs) (g ∷ gs) = IsFrame types f g × AreFrames types fs gs
AreFrames types [] (g ∷ gs) = ⊥
AreFrames types (f ∷ fs) [] = ⊥

-- ---- the state between two operators

-- The open sequences, innermost first; whether code is unreachable; and which locals live operators named.
pub record CheckState : Type 0 where
  pub frames : List OpenSequence
  pub unreachable : Bool
  pub used : ℕ → Bool

abbrev pub unreachability_of : CheckState → Unreachability
unreachability_of s = unreachability s.unreachable (map (λ (f : OpenSequence). f.before) s.frames)

-- the operators of a body, with what they do to the control
abbrev pub marks : List Occurrence → List (Marked Named)
marks xs = map mark_named (map name_at xs)

-- ---- one operator

-- The operator has a name, and this is the state after it.
pub record Passes (env : Environment) (old new : CheckState) (fs : List (SequenceFrame Occurrence)) (o : RawOperation) : Type 0 where
  pub named : NamedOperation
  pub is_named : named_in env fs o ≡ Ok named
  pub frames : (x : Occurrence) → x.named ≡ named → (gs : List (SequenceFrame Occurrence)) → moves (control_of named) x fs ≡ Some gs → AreFrames env.types new.frames gs
  pub unreachable : unreachability_of new ≡ unreachability_after (unreachability_of old) (control_of named)
  pub used : (location id : ℕ) → new.used id ≡ (among id (live_locals old.unreachable (mark_named (at_location named location))) || old.used id)

-- It passes, memory ran out, or this is the first rule that it breaks.
abbrev pub IsCheckedOperator : Environment → CheckState → CheckState → List (SequenceFrame Occurrence) → RawOperation → Result (Unit {0}) ParseError → Type 0
IsCheckedOperator env old new fs o (Ok u) = Passes env old new fs o
IsCheckedOperator env old new fs o (Err e) = (e ≡ Memory) ⊎ (named_in env fs o ≡ Err e)

-- ---- the code's state

abbrev pub env_of_checker : Checker → Environment
env_of_checker c = environment_of c.«module».now c.indices.ids.now c.indices.function c.ty

abbrev pub check_state_of : Checker → CheckState
check_state_of c = record { frames = reverse c.«open».items; unreachable = c.unreachable; used = is_used c.used }

-- In whatever frames the open sequences are, the operator passes, memory ran out, or this is the first rule that it breaks.
abbrev pub ChecksStep : Checker → Checker → RawOperation → Result (Unit {0}) ParseError → Type 0
ChecksStep old new o r = (fs : List (SequenceFrame Occurrence)) → AreFrames (env_of_checker old).types (check_state_of old).frames fs → IsCheckedOperator (env_of_checker old) (check_state_of old) (check_state_of new) fs o r

-- And it is still the check of the same body.
abbrev pub StepsChecker : Checker → Checker → RawOperation → Result (Unit {0}) ParseError → Type 0
StepsChecker old new o r = ChecksStep old new o r × OnOk r (env_of_checker new ≡ env_of_checker old)

-- Nothing changed but memory: the set of used locals may have room for more.
pub record StaysSame (old new : Checker) : Type 0 where
  pub used : (x : ℕ) → (check_state_of new).used x ≡ (check_state_of old).used x
  pub is : new ≡ record old { used = new.used }

-- The operator was taken at once; or it wasn't, and nothing changed.
abbrev pub ChecksAtOnce : Checker → Checker → RawOperation → (taken : Bool) → Type 0
ChecksAtOnce old new o true = StepsChecker old new o (Ok tt)
ChecksAtOnce old new o false = StaysSame old new
