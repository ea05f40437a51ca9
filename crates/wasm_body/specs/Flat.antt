-- What is written of a body, operator by operator, without its tree: of each operator, what is written when it is read (WebAssembly
-- core specification 3.0, control instructions; legacy exception handling). All that is kept between two operators is whether what
-- follows is written, and for each open sequence one of three cases.
use Rattle.std.specs.Prelude.{◌≡◌, ℕ, List, [], ◌∷◌, ◌++◌, map, Bool, true, false, not, None, Result, Ok}
use Rattle.walrus_ir.specs.Types.{Signature}
use Rattle.walrus_ir.specs.declared.val_type.InstrSeqType.{InstrSeqType}
use Rattle.walrus_ir.specs.declared.val_type.InstrSeqType.TheVariants.{Simple}
use Rattle.wasm_numbers.specs.Results.{◌>>=◌, gather}
use Rattle.walrus_ir.specs.Locations.{default_location}
use Rattle.wasm_operators.specs.declared.types.BlockType.{BlockType}
use Rattle.wasm_operators.specs.Operations.{RawOperation}
use Rattle.wasm_body.specs.declared.error.EmitError.{EmitError}
use Rattle.wasm_body.specs.Control.{Action, Construct, Block, Loop, TryTable, If, Try, Control, Does, Opens, Else, Catch, CatchAll, End, Delegate, Marked, with_control}
use Rattle.wasm_body.specs.Translation.{Translation, translate, Located, at_location}
use Rattle.wasm_body.specs.Naming.{NamedOperation}
use Rattle.wasm_body.specs.FunctionTree.{last_location}
use Rattle.wasm_body.specs.NormalForm.{Typing, construct_type, Fate, Drops, Stays, MakesUnreachable, fate}
use Rattle.wasm_body.specs.RewrittenTree.{end_at, else_at, catch_at, catch_all_at, delegate_at}
use Rattle.wasm_body.specs.Bytes.{Numbers, in_32_bits, numbers_in_32_bits, numbered_block}
use Rattle.wasm_body.specs.LocalNumbers.{locals_among}

abbrev pub Named : Type 0
Named = Located NamedOperation

-- ---- the state between two operators

-- What becomes of the operators that follow in the innermost sequence.
pub data Mode : Type 0 where
  Live : Mode  -- they are written
  Waits : (location : ℕ) → Mode  -- the same, and the first one after an `else` with this location, which isn't written yet
  Unreachable : Mode  -- they aren't written

-- A sequence that is open: one of a construct in unreachable code; or one that is written, with whether its `if` needs an `else` and has
-- none so far, since its type isn't balanced.
pub data Open : Type 0 where
  Dropped : Open
  Kept : (needs_else : Bool) → Open

-- the mode, and the open sequences, innermost first
pub record FlatState : Type 0 where
  pub mode : Mode
  pub sequences : List Open

abbrev pub flat_state : Mode → List Open → FlatState
flat_state m os = record { mode = m; sequences = os }

-- at the first operator of a body
abbrev pub first_state : FlatState
first_state = flat_state Live (Kept false ∷ [])

abbrev pub innermost : List Open → Open
innermost [] = Dropped
innermost (o ∷ os) = o

abbrev pub around : List Open → List Open
around [] = []
around (o ∷ os) = os

abbrev pub needs_else : Open → Bool
needs_else Dropped = false
needs_else (Kept b) = b

-- ---- what is written of an operator

abbrev pub plain_written : Fate → Named → Action → List (Marked Named)
plain_written Drops a action = []
plain_written Stays a action = with_control a (Does action) ∷ []
plain_written MakesUnreachable a action = with_control a (Does action) ∷ []

abbrev pub else_written : (needed : Bool) → (location : ℕ) → List (Marked Named)
else_written true l = with_control (else_at l) Else ∷ []
else_written false l = []

abbrev pub end_written : (needs_else : Bool) → (location : ℕ) → List (Marked Named)
end_written true l = with_control (else_at l) Else ∷ with_control (end_at default_location) End ∷ []
end_written false l = with_control (end_at l) End ∷ []

-- in live code, where the innermost sequence needs an `else` or doesn't
abbrev pub live_written : (needed : Bool) → Control → Named → List (Marked Named)
live_written needed (Does action) a = plain_written (fate action) a action
live_written needed (Opens construct) a = with_control a (Opens construct) ∷ []
live_written needed Else a = else_written needed a.location
live_written needed (Catch tag) a = with_control (catch_at tag a.location) (Catch tag) ∷ []
live_written needed CatchAll a = with_control (catch_all_at a.location) CatchAll ∷ []
live_written needed End a = end_written needed a.location
live_written needed (Delegate n) a = with_control (delegate_at n default_location) (Delegate n) ∷ []

-- after the `else` at this location, if there is anything
abbrev pub after_else : (location : ℕ) → List (Marked Named) → List (Marked Named)
after_else l [] = []
after_else l (x ∷ xs) = with_control (else_at l) Else ∷ x ∷ xs

-- where an `else` waits, the `end` closes an alternative of which nothing is written
abbrev pub waiting_written : (location : ℕ) → Control → Named → List (Marked Named)
waiting_written l (Does action) a = after_else l (plain_written (fate action) a action)
waiting_written l (Opens construct) a = with_control (else_at l) Else ∷ with_control a (Opens construct) ∷ []
waiting_written l End a = with_control (end_at (last_location l a.location)) End ∷ []
waiting_written l c a = with_control (else_at l) Else ∷ live_written false c a

-- an operator that ends an unreachable sequence, if that is one that is written
abbrev pub ending_written : Open → Control → Named → List (Marked Named)
ending_written Dropped c a = []
ending_written (Kept needed) c a = live_written needed c a

abbrev pub unreachable_written : Open → Control → Named → List (Marked Named)
unreachable_written o (Does action) a = []
unreachable_written o (Opens construct) a = []
unreachable_written o c a = ending_written o c a

abbrev pub written_in : Mode → Open → Control → Named → List (Marked Named)
written_in Live o c a = live_written (needs_else o) c a
written_in (Waits l) o c a = waiting_written l c a
written_in Unreachable o c a = unreachable_written o c a

-- each operator that is written when this one is read, in order
abbrev pub written_at : FlatState → Marked Named → List (Marked Named)
written_at s x = written_in s.mode (innermost s.sequences) x.control x.shown

-- ---- the state after an operator

abbrev pub mode_after : Fate → Mode → Mode
mode_after Drops m = m
mode_after Stays m = Live
mode_after MakesUnreachable m = Unreachable

-- an `else` that needn't be written waits
abbrev pub mode_of_else : (needed : Bool) → (location : ℕ) → Mode
mode_of_else true l = Live
mode_of_else false l = Waits l

-- whether the first sequence of the construct that an operator opens needs an `else`
abbrev pub begins_with : (balanced : NamedOperation → Bool) → Construct → NamedOperation → Bool
begins_with balanced If o = not (balanced o)
begins_with balanced Block o = false
begins_with balanced Loop o = false
begins_with balanced Try o = false
begins_with balanced (TryTable cs) o = false

-- An operator in unreachable code parts a sequence, or closes it: one in unreachable code, or the unreachable one itself, with what is then the state.
abbrev pub parted : Open → List Open → (live : FlatState) → FlatState
parted Dropped os live = flat_state Unreachable os
parted (Kept needed) os live = live

abbrev pub closed_state : Open → List Open → (live : FlatState) → FlatState
closed_state Dropped os live = flat_state Unreachable (around os)
closed_state (Kept needed) os live = live

-- where `balanced` says of an operator that opens a construct whether the type of its sequences is balanced
module _ (balanced : NamedOperation → Bool) where
  abbrev pub after_live : Mode → List Open → Control → Named → FlatState
  after_live m os (Does action) a = flat_state (mode_after (fate action) m) os
  after_live m os (Opens construct) a = flat_state Live (Kept (begins_with balanced construct a.op) ∷ os)
  after_live m os Else a = flat_state (mode_of_else (needs_else (innermost os)) a.location) (Kept false ∷ around os)
  after_live m os (Catch tag) a = flat_state Live os
  after_live m os CatchAll a = flat_state Live os
  after_live m os End a = flat_state Live (around os)
  after_live m os (Delegate n) a = flat_state Live (around os)

  abbrev pub after_unreachable : List Open → Control → Named → FlatState
  after_unreachable os (Does action) a = flat_state Unreachable os
  after_unreachable os (Opens construct) a = flat_state Unreachable (Dropped ∷ os)
  after_unreachable os Else a = parted (innermost os) os (after_live Live os Else a)
  after_unreachable os (Catch tag) a = parted (innermost os) os (after_live Live os (Catch tag) a)
  after_unreachable os CatchAll a = parted (innermost os) os (after_live Live os CatchAll a)
  after_unreachable os End a = closed_state (innermost os) os (after_live Live os End a)
  after_unreachable os (Delegate n) a = closed_state (innermost os) os (after_live Live os (Delegate n) a)

  abbrev pub after_in : Mode → List Open → Control → Named → FlatState
  after_in Live os c a = after_live Live os c a
  after_in (Waits l) os c a = after_live (Waits l) os c a
  after_in Unreachable os c a = after_unreachable os c a

  abbrev pub after : FlatState → Marked Named → FlatState
  after s x = after_in s.mode s.sequences x.control x.shown

  -- what is written of these operators, from a state on
  abbrev pub flat : FlatState → List (Marked Named) → List (Marked Named)
  flat s [] = []
  flat s (x ∷ xs) = written_at s x ++ flat (after s x) xs

  -- the state after them
  abbrev pub state_behind : FlatState → List (Marked Named) → FlatState
  state_behind s [] = s
  state_behind s (x ∷ xs) = state_behind (after s x) xs

-- ---- with numbers

-- An operator with the new numbers of its ids. If it opens a construct, this is the type of its sequences.
abbrev pub renumbering : Numbers → InstrSeqType → Translation ℕ Signature ℕ BlockType EmitError
renumbering to type = record {
  index = (numbers_in_32_bits to).number_of;
  local = (numbers_in_32_bits to).local_number;
  label = in_32_bits;
  handler = in_32_bits;
  outer = in_32_bits;
  number = in_32_bits;
  block = λ s. numbered_block to type;
  alignment = λ e. e;
  count = λ n. in_32_bits n >>= λ _. Ok tt;
}

-- the type of the sequences of the construct that an operator opens
abbrev pub sequence_type : Typing → Control → NamedOperation → InstrSeqType
sequence_type m (Opens construct) o = construct_type m o
sequence_type m _ o = Simple None

-- an operator as it is encoded, at its location, or its first fault
abbrev pub numbered_at_location : Numbers → Typing → Marked Named → Result (Located RawOperation) EmitError
numbered_at_location to m x = translate (renumbering to (sequence_type m x.control x.shown.op)) x.shown.op >>= λ o. Ok (at_location o x.shown.location)

-- After these operators of a body this is the state, and these are the operators that were written, as they are encoded.
pub record IsWrittenSo (to : Numbers) (m : Typing) (balanced : NamedOperation → Bool) (read : List (Marked Named)) (s : FlatState) (written : List (Located RawOperation)) : Type 0 where
  pub state_is : s ≡ state_behind balanced first_state read
  pub written_are : gather (map (numbered_at_location to m) (flat balanced first_state read)) ≡ Ok written

-- ---- the same while a body is read and not written: whether code is unreachable, and whether it was where each open sequence began

abbrev pub fate_makes_unreachable : Fate → Bool
fate_makes_unreachable Drops = false
fate_makes_unreachable Stays = false
fate_makes_unreachable MakesUnreachable = true

pub record Unreachability : Type 0 where
  pub unreachable : Bool
  pub before : List Bool  -- for each open sequence, innermost first

abbrev pub unreachability : Bool → List Bool → Unreachability
unreachability d ds = record { unreachable = d; before = ds }

abbrev pub first_unreachability : Unreachability
first_unreachability = unreachability false (false ∷ [])

abbrev pub first_or_true : List Bool → Bool
first_or_true [] = true
first_or_true (d ∷ ds) = d

abbrev pub others_of : List Bool → List Bool
others_of [] = []
others_of (d ∷ ds) = ds

abbrev pub plain_unreachability : (unreachable : Bool) → Fate → Bool
plain_unreachability true f = true
plain_unreachability false f = fate_makes_unreachable f

abbrev pub unreachability_after : Unreachability → Control → Unreachability
unreachability_after s (Does action) = unreachability (plain_unreachability s.unreachable (fate action)) s.before
unreachability_after s (Opens construct) = unreachability s.unreachable (s.unreachable ∷ s.before)
unreachability_after s Else = unreachability (first_or_true s.before) s.before
unreachability_after s (Catch tag) = unreachability (first_or_true s.before) s.before
unreachability_after s CatchAll = unreachability (first_or_true s.before) s.before
unreachability_after s End = unreachability (first_or_true s.before) (others_of s.before)
unreachability_after s (Delegate n) = unreachability (first_or_true s.before) (others_of s.before)

abbrev pub unless_dropped : Fate → List ℕ → List ℕ
unless_dropped Drops ls = []
unless_dropped Stays ls = ls
unless_dropped MakesUnreachable ls = ls

-- the locals that an operator names, if it is written as it is
abbrev pub own_locals : Control → Named → List ℕ
own_locals (Does action) a = unless_dropped (fate action) (locals_among a.op.immediates)
own_locals (Opens construct) a = locals_among a.op.immediates
own_locals _ a = []

abbrev pub live_locals : (unreachable : Bool) → Marked Named → List ℕ
live_locals true x = []
live_locals false x = own_locals x.control x.shown

-- in order, with repetitions
abbrev pub locals_read : Unreachability → List (Marked Named) → List ℕ
locals_read s [] = []
locals_read s (x ∷ xs) = live_locals s.unreachable x ++ locals_read (unreachability_after s x.control) xs

abbrev pub unreachability_behind : Unreachability → List (Marked Named) → Unreachability
unreachability_behind s [] = s
unreachability_behind s (x ∷ xs) = unreachability_behind (unreachability_after s x.control) xs
