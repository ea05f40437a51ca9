-- The steps of the writer: what the code does is what is written when an operator is read.
use Rattle.std.proofs.Common.{◌≡◌, inl, inr, ℕ, List, [], ◌∷◌, ◌++◌, map, Bool, true, false, Option, Some, None, Result, Ok, Err, OnOk, IfErr, refl, sym, ap, subst, ◌∙◌}
use Rattle.std.specs.Prelude.{is_some, unwrap_or}
use Rattle.walrus_ir.specs.declared.val_type.InstrSeqType.{InstrSeqType}
use Rattle.walrus_ir.specs.declared.val_type.InstrSeqType.TheVariants.{Simple}
use Rattle.walrus_ir.specs.Types.{Signature, pick}
use Rattle.wasm_numbers.specs.Results.{◌>>=◌, gather, unless}
use Rattle.walrus_ir.specs.Locations.{default_location}
use Rattle.wasm_operators.specs.declared.types.BlockType.{BlockType}
use Rattle.wasm_operators.specs.declared.types.Space.TheVariants.{Tags}
use Rattle.wasm_operators.specs.Operations.{Immediate, RawImmediate, block, index, operation, RawOperation}
use Rattle.wasm_operators.specs.Spelling.{Spells}
use Rattle.wasm_body.specs.declared.error.EmitError.{EmitError}
use Rattle.wasm_body.specs.declared.error.EmitError.TheVariants.{Memory}
use Rattle.wasm_body.specs.declared.error.ParseError.{ParseError}
use Rattle.wasm_body.specs.declared.error.ParseError.TheVariants.{TypeMissing}
use Rattle.wasm_body.specs.Bytes.{Numbers}
use Rattle.wasm_body.specs.Control.{Action, Nop, Construct, Control, Does, Opens, Else, Catch, CatchAll, End, Delegate, Marked, with_control, role_of, control_of, control_by, else_operation, catch_opcode, catch_all_operation, delegate_operation}
use Rattle.wasm_body.specs.Frames.{SequenceFrame}
use Rattle.wasm_body.specs.Translation.{translate, translate_immediates, Located, at_location}
use Rattle.wasm_body.specs.Naming.{Environment, NamedOperation, Occurrence, naming, name_block, block_signature, allowed, has_types, named_in}
use Rattle.wasm_body.specs.NormalForm.{Typing, typing_of, construct_type, fate}
use Rattle.wasm_body.specs.RewrittenTree.{else_at, catch_at, catch_all_at, delegate_at}
use Rattle.wasm_body.specs.TextLaws.{mark_named}
use Rattle.wasm_body.proofs.Translation.Steps.{bound}
use Rattle.wasm_body.specs.Flat.{Named, Open, Dropped, Kept, Live, Unreachable, FlatState, flat_state, innermost, around, needs_else, begins_with, else_written as flat_else, end_written as flat_end, live_written, waiting_written, ending_written, unreachable_written, written_in, parted, closed_state, written_at, after, renumbering, numbered_at_location}
use Rattle.walrus_parser.proofs.Roles.{does_as, fate_by, fate_of_role}
use Rattle.walrus_flat.specs.declared.writer.Writer.{Writer}
use Rattle.walrus_flat.specs.declared.sequences.Next.{Next}
use Rattle.walrus_flat.specs.declared.sequences.Next.TheVariants as next
use Rattle.walrus_flat.specs.Written.{waiting_else, opens_of, flat_state_of, mode_of, is_unreachable_next, drops_end, ends_dropped, mode_if, else_if, end_if, else_pieces, end_pieces, state_after_else, state_after_end}
use Rattle.walrus_flat.specs.Writers.{numbers_of_writer, env_at, renumbered, IsSameWriter, Goes, WritesUnless, IsPicked, needs_one, OpensUnless, Takes, IsTaken}
use Rattle.walrus_flat.proofs.CheckedSteps.{named_immediates, opener_signature}
use Rattle.walrus_flat.proofs.Renumbered.{renumbers_named}

-- ---- operators that are written one by one

module _ (f : Marked Named → Result (Located RawOperation) EmitError) where
  one_written : (x : Marked Named) (z : Located RawOperation) → f x ≡ Ok z → gather (map f (x ∷ [])) ≡ Ok (z ∷ [])
  one_written x z e = ap (λ r. r >>= λ y. Ok (y ∷ [])) e

  one_refused : (x : Marked Named) (e : EmitError) → f x ≡ Err e → gather (map f (x ∷ [])) ≡ Err e
  one_refused x e h = ap (λ r. r >>= λ y. Ok (y ∷ [])) h

module _ (to : Numbers) (m : Typing) where
  abbrev all_of : List (Marked Named) → Result (List (Located RawOperation)) EmitError
  all_of xs = gather (map (numbered_at_location to m) xs)

  -- after the `else` that waits
  after_waiting : (k : ℕ) (xs : List (Marked Named)) (zs : List (Located RawOperation)) → all_of xs ≡ Ok zs → all_of (with_control (else_at k) Else ∷ xs) ≡ Ok (at_location else_operation k ∷ zs)
  after_waiting k xs zs e = ap (λ r. r >>= λ ys. Ok (at_location else_operation k ∷ ys)) e

  waiting_refused : (k : ℕ) (xs : List (Marked Named)) (e : EmitError) → all_of xs ≡ Err e → all_of (with_control (else_at k) Else ∷ xs) ≡ Err e
  waiting_refused k xs e h = ap (λ r. r >>= λ ys. Ok (at_location else_operation k ∷ ys)) h

  abbrev balanced : NamedOperation → Bool
  balanced o = to.balanced (construct_type m o)

  -- ---- by the mode, for any open sequences

  module _ (os : List Open) (a : Named) where
    abbrev at_next : Next → FlatState
    at_next n = flat_state (mode_of n) os

    abbrev written : Next → Control → List (Marked Named)
    written n c = written_at (at_next n) (with_control a c)

    abbrev then : Next → Control → FlatState
    then n c = after balanced (at_next n) (with_control a c)

    -- an operator by itself
    module _ (action : Action) (unreachable_after : Bool) (e : fate action ≡ fate_by unreachable_after) where
      abbrev plain : Marked Named
      plain = with_control a (Does action)

      plain_unreachable : (n : Next) → is_unreachable_next n ≡ true → (all_of (written n (Does action)) ≡ Ok []) × (at_next n ≡ then n (Does action))
      plain_unreachable next.Unreachable d = (refl, refl)
      plain_unreachable next.Live d = absurd cc
      plain_unreachable (next.Waits k) d = absurd cc

      plain_written : (n : Next) → is_unreachable_next n ≡ false → (z : Located RawOperation) → numbered_at_location to m plain ≡ Ok z → all_of (written n (Does action)) ≡ Ok (waiting_else n ++ z ∷ [])
      plain_written next.Unreachable d z w = absurd cc
      plain_written next.Live d z w = by_unreachable_after unreachable_after e
        where
          by_unreachable_after : (b : Bool) → fate action ≡ fate_by b → all_of (written next.Live (Does action)) ≡ Ok (z ∷ [])
          by_unreachable_after true h = rw h (one_written (numbered_at_location to m) plain z w)
          by_unreachable_after false h = rw h (one_written (numbered_at_location to m) plain z w)
      plain_written (next.Waits k) d z w = by_unreachable_after unreachable_after e
        where
          by_unreachable_after : (b : Bool) → fate action ≡ fate_by b → all_of (written (next.Waits k) (Does action)) ≡ Ok (at_location else_operation k ∷ z ∷ [])
          by_unreachable_after true h = rw h (after_waiting k (plain ∷ []) (z ∷ []) (one_written (numbered_at_location to m) plain z w))
          by_unreachable_after false h = rw h (after_waiting k (plain ∷ []) (z ∷ []) (one_written (numbered_at_location to m) plain z w))

      plain_refused : (n : Next) → is_unreachable_next n ≡ false → (f : EmitError) → numbered_at_location to m plain ≡ Err f → all_of (written n (Does action)) ≡ Err f
      plain_refused next.Unreachable d f w = absurd cc
      plain_refused next.Live d f w = by_unreachable_after unreachable_after e
        where
          by_unreachable_after : (b : Bool) → fate action ≡ fate_by b → all_of (written next.Live (Does action)) ≡ Err f
          by_unreachable_after true h = rw h (one_refused (numbered_at_location to m) plain f w)
          by_unreachable_after false h = rw h (one_refused (numbered_at_location to m) plain f w)
      plain_refused (next.Waits k) d f w = by_unreachable_after unreachable_after e
        where
          by_unreachable_after : (b : Bool) → fate action ≡ fate_by b → all_of (written (next.Waits k) (Does action)) ≡ Err f
          by_unreachable_after true h = rw h (waiting_refused k (plain ∷ []) f (one_refused (numbered_at_location to m) plain f w))
          by_unreachable_after false h = rw h (waiting_refused k (plain ∷ []) f (one_refused (numbered_at_location to m) plain f w))

      plain_state : (n : Next) → is_unreachable_next n ≡ false → flat_state (mode_if unreachable_after) os ≡ then n (Does action)
      plain_state next.Unreachable d = absurd cc
      plain_state next.Live d = by_unreachable_after unreachable_after e
        where
          by_unreachable_after : (b : Bool) → fate action ≡ fate_by b → flat_state (mode_if b) os ≡ then next.Live (Does action)
          by_unreachable_after true h = rw h refl
          by_unreachable_after false h = rw h refl
      plain_state (next.Waits k) d = by_unreachable_after unreachable_after e
        where
          by_unreachable_after : (b : Bool) → fate action ≡ fate_by b → flat_state (mode_if b) os ≡ then (next.Waits k) (Does action)
          by_unreachable_after true h = rw h refl
          by_unreachable_after false h = rw h refl

    -- `nop`
    nop_written : (n : Next) → (all_of (written n (Does Nop)) ≡ Ok []) × (at_next n ≡ then n (Does Nop))
    nop_written next.Live = (refl, refl)
    nop_written (next.Waits k) = (refl, refl)
    nop_written next.Unreachable = (refl, refl)

    -- an opener
    module _ (construct : Construct) where
      abbrev opener : Marked Named
      opener = with_control a (Opens construct)

      opener_unreachable : (n : Next) → is_unreachable_next n ≡ true → (all_of (written n (Opens construct)) ≡ Ok []) × (flat_state Unreachable (Dropped ∷ os) ≡ then n (Opens construct))
      opener_unreachable next.Unreachable d = (refl, refl)
      opener_unreachable next.Live d = absurd cc
      opener_unreachable (next.Waits k) d = absurd cc

      opener_written : (n : Next) → is_unreachable_next n ≡ false → (z : Located RawOperation) → numbered_at_location to m opener ≡ Ok z →
          (all_of (written n (Opens construct)) ≡ Ok (waiting_else n ++ z ∷ [])) × (flat_state Live (Kept (begins_with balanced construct a.op) ∷ os) ≡ then n (Opens construct))
      opener_written next.Unreachable d z w = absurd cc
      opener_written next.Live d z w = (one_written (numbered_at_location to m) opener z w, refl)
      opener_written (next.Waits k) d z w = (after_waiting k (opener ∷ []) (z ∷ []) (one_written (numbered_at_location to m) opener z w), refl)

      opener_refused : (n : Next) → is_unreachable_next n ≡ false → (f : EmitError) → numbered_at_location to m opener ≡ Err f → all_of (written n (Opens construct)) ≡ Err f
      opener_refused next.Unreachable d f w = absurd cc
      opener_refused next.Live d f w = one_refused (numbered_at_location to m) opener f w
      opener_refused (next.Waits k) d f w = waiting_refused k (opener ∷ []) f (one_refused (numbered_at_location to m) opener f w)

    -- `else`
    needed : (b : Bool) (l : ℕ) → all_of (flat_else b l) ≡ Ok (else_if b l)
    needed true l = refl
    needed false l = refl

    else_unreachable : (o : Open) → all_of (written_in Unreachable o Else a) ≡ Ok (else_pieces Unreachable o a.location)
    else_unreachable Dropped = refl
    else_unreachable (Kept b) = needed b a.location

    else_written : (n : Next) → (all_of (written n Else) ≡ Ok (else_pieces (mode_of n) (innermost os) a.location)) × (state_after_else (mode_of n) os a.location ≡ then n Else)
    else_written next.Live = (needed (needs_else (innermost os)) a.location, refl)
    else_written (next.Waits k) = (refl, refl)
    else_written next.Unreachable = (else_unreachable (innermost os), refl)

    -- `end`
    ended : (b : Bool) (l : ℕ) → all_of (flat_end b l) ≡ Ok (end_if b l)
    ended true l = refl
    ended false l = refl

    end_unreachable : (o : Open) → all_of (written_in Unreachable o End a) ≡ Ok (end_pieces Unreachable o a.location)
    end_unreachable Dropped = refl
    end_unreachable (Kept b) = ended b a.location

    end_written : (n : Next) → (all_of (written n End) ≡ Ok (end_pieces (mode_of n) (innermost os) a.location)) × (state_after_end (mode_of n) os ≡ then n End)
    end_written next.Live = (ended (needs_else (innermost os)) a.location, refl)
    end_written (next.Waits k) = (refl, refl)
    end_written next.Unreachable = (end_unreachable (innermost os), refl)

    -- a clause, and a `delegate`, which are written as this operator
    module _ (c : Control) (y : Marked Named) (live : (b : Bool) → live_written b c a ≡ y ∷ []) (waits : (k : ℕ) → waiting_written k c a ≡ with_control (else_at k) Else ∷ live_written false c a) (unreachable : (o : Open) → unreachable_written o c a ≡ ending_written o c a) where
      part_written : (n : Next) → ends_dropped (at_next n) ≡ false → (z : Located RawOperation) → numbered_at_location to m y ≡ Ok z → all_of (written n c) ≡ Ok (waiting_else n ++ z ∷ [])
      part_written next.Live d z w = ap all_of (live (needs_else (innermost os))) ∙ one_written (numbered_at_location to m) y z w
      part_written (next.Waits k) d z w = ap all_of (waits k ∙ ap (λ l. with_control (else_at k) Else ∷ l) (live false)) ∙ after_waiting k (y ∷ []) (z ∷ []) (one_written (numbered_at_location to m) y z w)
      part_written next.Unreachable d z w = by_open (innermost os) d
        where
          by_open : (o : Open) → drops_end Unreachable o ≡ false → all_of (unreachable_written o c a) ≡ Ok (z ∷ [])
          by_open Dropped h = absurd cc
          by_open (Kept b) h = ap all_of (unreachable (Kept b) ∙ live b) ∙ one_written (numbered_at_location to m) y z w

      part_refused : (n : Next) → ends_dropped (at_next n) ≡ false → (f : EmitError) → numbered_at_location to m y ≡ Err f → all_of (written n c) ≡ Err f
      part_refused next.Live d f w = ap all_of (live (needs_else (innermost os))) ∙ one_refused (numbered_at_location to m) y f w
      part_refused (next.Waits k) d f w = ap all_of (waits k ∙ ap (λ l. with_control (else_at k) Else ∷ l) (live false)) ∙ waiting_refused k (y ∷ []) f (one_refused (numbered_at_location to m) y f w)
      part_refused next.Unreachable d f w = by_open (innermost os) d
        where
          by_open : (o : Open) → drops_end Unreachable o ≡ false → all_of (unreachable_written o c a) ≡ Err f
          by_open Dropped h = absurd cc
          by_open (Kept b) h = ap all_of (unreachable (Kept b) ∙ live b) ∙ one_refused (numbered_at_location to m) y f w

      part_dropped : (n : Next) → ends_dropped (at_next n) ≡ true → all_of (written n c) ≡ Ok []
      part_dropped next.Live d = absurd cc
      part_dropped (next.Waits k) d = absurd cc
      part_dropped next.Unreachable d = by_open (innermost os) d
        where
          by_open : (o : Open) → drops_end Unreachable o ≡ true → all_of (unreachable_written o c a) ≡ Ok []
          by_open Dropped h = ap all_of (unreachable Dropped)
          by_open (Kept b) h = absurd cc

    -- the states after them
    parts : (live : FlatState) (o : Open) → drops_end Unreachable o ≡ false → live ≡ parted o os live
    parts live Dropped h = absurd cc
    parts live (Kept b) h = refl

    parts_not : (live : FlatState) (o : Open) → drops_end Unreachable o ≡ true → flat_state Unreachable os ≡ parted o os live
    parts_not live Dropped h = refl
    parts_not live (Kept b) h = absurd cc

    closes : (live : FlatState) (o : Open) → drops_end Unreachable o ≡ false → live ≡ closed_state o os live
    closes live Dropped h = absurd cc
    closes live (Kept b) h = refl

    closes_not : (live : FlatState) (o : Open) → drops_end Unreachable o ≡ true → flat_state Unreachable (around os) ≡ closed_state o os live
    closes_not live Dropped h = refl
    closes_not live (Kept b) h = absurd cc

    catch_state : (tag : ℕ) (n : Next) → ends_dropped (at_next n) ≡ false → flat_state Live os ≡ then n (Catch tag)
    catch_state tag next.Live d = refl
    catch_state tag (next.Waits k) d = refl
    catch_state tag next.Unreachable d = parts (flat_state Live os) (innermost os) d

    catch_skipped : (tag : ℕ) (n : Next) → ends_dropped (at_next n) ≡ true → at_next n ≡ then n (Catch tag)
    catch_skipped tag next.Live d = absurd cc
    catch_skipped tag (next.Waits k) d = absurd cc
    catch_skipped tag next.Unreachable d = parts_not (flat_state Live os) (innermost os) d

    catch_all_state : (n : Next) → ends_dropped (at_next n) ≡ false → flat_state Live os ≡ then n CatchAll
    catch_all_state next.Live d = refl
    catch_all_state (next.Waits k) d = refl
    catch_all_state next.Unreachable d = parts (flat_state Live os) (innermost os) d

    catch_all_skipped : (n : Next) → ends_dropped (at_next n) ≡ true → at_next n ≡ then n CatchAll
    catch_all_skipped next.Live d = absurd cc
    catch_all_skipped (next.Waits k) d = absurd cc
    catch_all_skipped next.Unreachable d = parts_not (flat_state Live os) (innermost os) d

    delegate_state : (k : ℕ) (n : Next) → ends_dropped (at_next n) ≡ false → flat_state Live (around os) ≡ then n (Delegate k)
    delegate_state k next.Live d = refl
    delegate_state k (next.Waits l) d = refl
    delegate_state k next.Unreachable d = closes (flat_state Live (around os)) (innermost os) d

    delegate_skipped : (k : ℕ) (n : Next) → ends_dropped (at_next n) ≡ true → flat_state Unreachable (around os) ≡ then n (Delegate k)
    delegate_skipped k next.Live d = absurd cc
    delegate_skipped k (next.Waits l) d = absurd cc
    delegate_skipped k next.Unreachable d = closes_not (flat_state Live (around os)) (innermost os) d

same_writer : (w : Writer) → IsSameWriter w w
same_writer w = record { «module» = refl; indices = refl; function = refl; ty = refl; out = refl; locals = refl }

-- ---- an operator that has a name in its place

module _ (old new : Writer) (type : ℕ) where
  abbrev env : Environment
  env = env_at old type

  abbrev typing : Typing
  typing = typing_of env

  abbrev to : Numbers
  to = numbers_of_writer old

  abbrev os : List Open
  os = opens_of old.«open»

  abbrev now : Next
  now = old.«open».next

  -- what was written and the state, together
  takes : (x : Marked Named) (s : FlatState) (zs : List (Located RawOperation)) → Goes old new s zs → all_of to typing (written_at (flat_state_of old.«open») x) ≡ Ok zs → s ≡ after (balanced to typing) (flat_state_of old.«open») x → Takes typing old new x
  takes x s zs g w is = record { same = g.same; operators = zs; are_numbered = w; draft = g.draft; state_is = g.state_is ∙ is }

  module _ (g : SequenceFrame Occurrence) (gs : List (SequenceFrame Occurrence)) (o : RawOperation) (text : List ℕ) (named : NamedOperation) (spells : Spells o text) (is_named : named_in env (g ∷ gs) o ≡ Ok named) (location : ℕ) where
    abbrev this : Named
    this = at_location named location

    -- it keeps the rules
    rules : (translate (naming env (g ∷ gs)) o ≡ Ok named) × (has_types env (g ∷ gs) (control_of named) named ≡ Ok tt)
    rules =
        let first = bound (allowed (g ∷ gs) (control_of o)) (λ u. translate (naming env (g ∷ gs)) o >>= λ n. has_types env (g ∷ gs) (control_of n) n >>= λ v. Ok n) named is_named in
        let second = bound (translate (naming env (g ∷ gs)) o) (λ n. has_types env (g ∷ gs) (control_of n) n >>= λ v. Ok n) named first.2 in
        let third = bound (has_types env (g ∷ gs) (control_of second.0) second.0) (λ v. Ok second.0) named second.2 in
        let same : second.0 ≡ named = cc third.2 in
        (second.1 ∙ ap (λ n. Ok n) same, subst (λ n. has_types env (g ∷ gs) (control_of n) n ≡ Ok tt) same third.1)

    pub immediates : (is : List (Immediate ℕ Signature)) × (translate_immediates (naming env (g ∷ gs)) o.immediates ≡ Ok is) × (named ≡ operation o.opcode is)
    immediates = named_immediates env g gs o named rules.0

    pub control_is : control_of named ≡ control_by (role_of o.opcode) immediates.0
    control_is = ap control_of immediates.2

    number : (t : InstrSeqType) → renumbered old t o ≡ translate (renumbering to t) named
    number t = renumbers_named env (g ∷ gs) o text named spells rules.0 to t

    -- it as it is written
    abbrev located : RawOperation → Located RawOperation
    located p = at_location p location

    as_written : (t : InstrSeqType) (p : RawOperation) → renumbered old t o ≡ Ok p → (let r : Result (Located RawOperation) EmitError = translate (renumbering to t) named >>= (λ q. Ok (at_location q location)) in r) ≡ Ok (located p)
    as_written t p e = ap (λ r. r >>= λ q. Ok (at_location q location)) (sym (number t) ∙ e)

    as_refused : (t : InstrSeqType) (f : EmitError) → renumbered old t o ≡ Err f → (let r : Result (Located RawOperation) EmitError = translate (renumbering to t) named >>= (λ q. Ok (at_location q location)) in r) ≡ Err f
    as_refused t f e = ap (λ r. r >>= λ q. Ok (at_location q location)) (sym (number t) ∙ e)

    -- of this control
    abbrev IsTakenAs : Control → Result (Unit {0}) EmitError → Type 0
    IsTakenAs c r = IsTaken typing old new (with_control this c) r

    as_control : (c : Control) (r : Result (Unit {0}) EmitError) → control_of named ≡ c → IsTakenAs c r → IsTaken typing old new (mark_named this) r
    as_control c r e h = subst (λ k. IsTakenAs k r) (sym e) h

    -- ---- operators by themselves

    module _ (action : Action) (unreachable_after : Bool) (e : fate action ≡ fate_by unreachable_after) where
      alone : (b : Bool) → is_unreachable_next now ≡ b → (r : Result (Unit {0}) EmitError) → WritesUnless b old new o (Simple None) location (flat_state_of old.«open») (flat_state (mode_if unreachable_after) os) r → IsTakenAs (Does action) r
      alone true d (Ok u) h = let k = plain_unreachable to typing os this action unreachable_after e now d in takes (with_control this (Does action)) (flat_state_of old.«open») [] h k.0 k.1
      alone true d (Err f) h = inl h
      alone false d (Ok u) h =
          takes (with_control this (Does action)) (flat_state (mode_if unreachable_after) os) (waiting_else now ++ located h.operator ∷ []) h.goes
          (plain_written to typing os this action unreachable_after e now d (located h.operator) (as_written (Simple None) h.operator h.is_renumbered)) (plain_state to typing os this action unreachable_after e now d)
      alone false d (Err f) (inl memory) = inl memory
      alone false d (Err f) (inr h) = inr (plain_refused to typing os this action unreachable_after e now d f (as_refused (Simple None) f h))

    pub steps_plain : (unreachable_after : Bool) → fate_of_role (role_of o.opcode) ≡ Some (fate_by unreachable_after) → (r : Result (Unit {0}) EmitError) →
        WritesUnless (is_unreachable_next now) old new o (Simple None) location (flat_state_of old.«open») (flat_state (mode_if unreachable_after) os) r → IsTaken typing old new (mark_named this) r
    steps_plain unreachable_after role r h =
        let d = does_as (role_of o.opcode) (fate_by unreachable_after) immediates.0 role in
        as_control (Does d.action) r (control_is ∙ d.does) (alone d.action unreachable_after d.has_fate (is_unreachable_next now) refl r h)

    pub steps_nop : control_by (role_of o.opcode) immediates.0 ≡ Does Nop → old ≡ new → IsTaken typing old new (mark_named this) (Ok tt)
    steps_nop is same =
        let k = nop_written to typing os this now in
        as_control (Does Nop) (Ok tt) (control_is ∙ is)
        (takes (with_control this (Does Nop)) (flat_state_of old.«open») []
        (record { same = subst (IsSameWriter old) same (same_writer old); draft = ap (λ (w : Writer). w.draft) (sym same); state_is = ap (λ (w : Writer). flat_state_of w.«open») (sym same) }) k.0 k.1)

    -- ---- openers

    module _ (b : BlockType) (is : List RawImmediate) (shape : o.immediates ≡ block b ∷ is) (construct : Construct) (opens : control_of named ≡ Opens construct) where
      its_pick : (u : InstrSeqType) × (pick env.types (block_signature named) ≡ Some u)
      its_pick = by_pick (pick env.types (block_signature named)) (subst (λ c. has_types env (g ∷ gs) c named ≡ Ok tt) opens rules.1)
        where
          by_pick : (p : Option InstrSeqType) → unless {E = ParseError} (is_some p) TypeMissing ≡ Ok tt → (u : InstrSeqType) × (p ≡ Some u)
          by_pick (Some u) h = (u, refl)
          by_pick None h = absurd cc

      name_is : name_block env b ≡ Ok (block_signature named)
      name_is = opener_signature env g gs o b is shape named rules.0

      type_is : (t : InstrSeqType) → IsPicked old b t → t ≡ construct_type typing named
      type_is t p = p type (block_signature named) its_pick.0 name_is its_pick.1 ∙ sym (ap (λ q. unwrap_or q (Simple None)) its_pick.1)

      opener_numbered : (t : InstrSeqType) → IsPicked old b t → (p : RawOperation) → renumbered old t o ≡ Ok p → numbered_at_location to typing (with_control this (Opens construct)) ≡ Ok (located p)
      opener_numbered t k p e = as_written (construct_type typing named) p (subst (λ q. renumbered old q o ≡ Ok p) (type_is t k) e)

      opener_fault : (t : InstrSeqType) → IsPicked old b t → (f : EmitError) → renumbered old t o ≡ Err f → numbered_at_location to typing (with_control this (Opens construct)) ≡ Err f
      opener_fault t k f e = as_refused (construct_type typing named) f (subst (λ q. renumbered old q o ≡ Err f) (type_is t k) e)

      module _ (is_if : Bool) (begins : begins_with (balanced to typing) construct named ≡ needs_one is_if (balanced to typing named)) where
        opening : (d : Bool) → is_unreachable_next now ≡ d → (r : Result (Unit {0}) EmitError) → OpensUnless d old new o b is_if location r → IsTakenAs (Opens construct) r
        opening true d (Ok u) h = let k = opener_unreachable to typing os this construct now d in takes (with_control this (Opens construct)) (flat_state Unreachable (Dropped ∷ os)) [] h k.0 k.1
        opening true d (Err f) h = inl h
        opening false d (Ok u) h =
            let w = h.writes in
            let k = opener_written to typing os this construct now d (located w.operator) (opener_numbered h.type h.is_picked w.operator w.is_renumbered) in
            let needs : needs_one is_if (to.balanced h.type) ≡ begins_with (balanced to typing) construct named = ap (λ t. needs_one is_if (to.balanced t)) (type_is h.type h.is_picked) ∙ sym begins in
            takes (with_control this (Opens construct)) (flat_state Live (Kept (needs_one is_if (to.balanced h.type)) ∷ os)) (waiting_else now ++ located w.operator ∷ []) w.goes k.0
            (ap (λ n. flat_state Live (Kept n ∷ os)) needs ∙ k.1)
        opening false d (Err f) (inl memory) = inl memory
        opening false d (Err f) (inr (inl none)) = absurd (none type (block_signature named) its_pick.0 name_is its_pick.1)
        opening false d (Err f) (inr (inr h)) = inr (opener_refused to typing os this construct now d f (opener_fault h.0 h.1 f h.2))

        pub steps_opener : (r : Result (Unit {0}) EmitError) → OpensUnless (is_unreachable_next now) old new o b is_if location r → IsTaken typing old new (mark_named this) r
        steps_opener r h = as_control (Opens construct) r opens (opening (is_unreachable_next now) refl r h)

    -- ---- `else` and `end`

    pub steps_else : control_by (role_of o.opcode) immediates.0 ≡ Else → (r : Result (Unit {0}) EmitError) → OnOk r (Goes old new (state_after_else (mode_of now) os location) (else_pieces (mode_of now) (innermost os) location)) → IfErr r (λ e. e ≡ Memory) →
        IsTaken typing old new (mark_named this) r
    steps_else is (Ok u) ok err =
        let k = else_written to typing os this now in
        as_control Else (Ok u) (control_is ∙ is) (takes (with_control this Else) (state_after_else (mode_of now) os location) (else_pieces (mode_of now) (innermost os) location) ok k.0 k.1)
    steps_else is (Err f) ok err = inl err

    pub steps_end : control_by (role_of o.opcode) immediates.0 ≡ End → (r : Result (Unit {0}) EmitError) → OnOk r (Goes old new (state_after_end (mode_of now) os) (end_pieces (mode_of now) (innermost os) location)) → IfErr r (λ e. e ≡ Memory) →
        IsTaken typing old new (mark_named this) r
    steps_end is (Ok u) ok err =
        let k = end_written to typing os this now in
        as_control End (Ok u) (control_is ∙ is) (takes (with_control this End) (state_after_end (mode_of now) os) (end_pieces (mode_of now) (innermost os) location) ok k.0 k.1)
    steps_end is (Err f) ok err = inl err

    -- ---- clauses

    module _ (tag : ℕ) (catches : named ≡ operation catch_opcode (index Tags tag ∷ [])) where
      catch_numbered : (p : RawOperation) → renumbered old (Simple None) o ≡ Ok p → numbered_at_location to typing (with_control (catch_at tag location) (Catch tag)) ≡ Ok (located p)
      catch_numbered p e = subst (λ n. (let r : Result (Located RawOperation) EmitError = translate (renumbering to (Simple None)) n >>= (λ q. Ok (at_location q location)) in r) ≡ Ok (located p)) catches (as_written (Simple None) p e)

      catch_fault : (f : EmitError) → renumbered old (Simple None) o ≡ Err f → numbered_at_location to typing (with_control (catch_at tag location) (Catch tag)) ≡ Err f
      catch_fault f e = subst (λ n. (let r : Result (Located RawOperation) EmitError = translate (renumbering to (Simple None)) n >>= (λ q. Ok (at_location q location)) in r) ≡ Err f) catches (as_refused (Simple None) f e)

      catching : (b : Bool) → ends_dropped (flat_state_of old.«open») ≡ b → (r : Result (Unit {0}) EmitError) → WritesUnless b old new o (Simple None) location (flat_state_of old.«open») (flat_state Live os) r → IsTakenAs (Catch tag) r
      catching true d (Ok u) h =
          takes (with_control this (Catch tag)) (flat_state_of old.«open») [] h (part_dropped to typing os this (Catch tag) (with_control (catch_at tag location) (Catch tag)) (λ b. refl) (λ k. refl) (λ p. refl) now d) (catch_skipped to typing os this tag now d)
      catching true d (Err f) h = inl h
      catching false d (Ok u) h =
          takes (with_control this (Catch tag)) (flat_state Live os) (waiting_else now ++ located h.operator ∷ []) h.goes
          (part_written to typing os this (Catch tag) (with_control (catch_at tag location) (Catch tag)) (λ b. refl) (λ k. refl) (λ p. refl) now d (located h.operator) (catch_numbered h.operator h.is_renumbered)) (catch_state to typing os this tag now d)
      catching false d (Err f) (inl memory) = inl memory
      catching false d (Err f) (inr h) = inr (part_refused to typing os this (Catch tag) (with_control (catch_at tag location) (Catch tag)) (λ b. refl) (λ k. refl) (λ p. refl) now d f (catch_fault f h))

      pub steps_catch : (r : Result (Unit {0}) EmitError) → WritesUnless (ends_dropped (flat_state_of old.«open»)) old new o (Simple None) location (flat_state_of old.«open») (flat_state Live os) r → IsTaken typing old new (mark_named this) r
      steps_catch r h = as_control (Catch tag) r (ap control_of catches) (catching (ends_dropped (flat_state_of old.«open»)) refl r h)

    module _ (catches : named ≡ catch_all_operation) where
      catch_all_numbered : (p : RawOperation) → renumbered old (Simple None) o ≡ Ok p → numbered_at_location to typing (with_control (catch_all_at location) CatchAll) ≡ Ok (located p)
      catch_all_numbered p e = subst (λ n. (let r : Result (Located RawOperation) EmitError = translate (renumbering to (Simple None)) n >>= (λ q. Ok (at_location q location)) in r) ≡ Ok (located p)) catches (as_written (Simple None) p e)

      catch_all_fault : (f : EmitError) → renumbered old (Simple None) o ≡ Err f → numbered_at_location to typing (with_control (catch_all_at location) CatchAll) ≡ Err f
      catch_all_fault f e = subst (λ n. (let r : Result (Located RawOperation) EmitError = translate (renumbering to (Simple None)) n >>= (λ q. Ok (at_location q location)) in r) ≡ Err f) catches (as_refused (Simple None) f e)

      catching_all : (b : Bool) → ends_dropped (flat_state_of old.«open») ≡ b → (r : Result (Unit {0}) EmitError) → WritesUnless b old new o (Simple None) location (flat_state_of old.«open») (flat_state Live os) r → IsTakenAs CatchAll r
      catching_all true d (Ok u) h =
          takes (with_control this CatchAll) (flat_state_of old.«open») [] h (part_dropped to typing os this CatchAll (with_control (catch_all_at location) CatchAll) (λ b. refl) (λ k. refl) (λ p. refl) now d) (catch_all_skipped to typing os this now d)
      catching_all true d (Err f) h = inl h
      catching_all false d (Ok u) h =
          takes (with_control this CatchAll) (flat_state Live os) (waiting_else now ++ located h.operator ∷ []) h.goes
          (part_written to typing os this CatchAll (with_control (catch_all_at location) CatchAll) (λ b. refl) (λ k. refl) (λ p. refl) now d (located h.operator) (catch_all_numbered h.operator h.is_renumbered)) (catch_all_state to typing os this now d)
      catching_all false d (Err f) (inl memory) = inl memory
      catching_all false d (Err f) (inr h) = inr (part_refused to typing os this CatchAll (with_control (catch_all_at location) CatchAll) (λ b. refl) (λ k. refl) (λ p. refl) now d f (catch_all_fault f h))

      pub steps_catch_all : (r : Result (Unit {0}) EmitError) → WritesUnless (ends_dropped (flat_state_of old.«open»)) old new o (Simple None) location (flat_state_of old.«open») (flat_state Live os) r → IsTaken typing old new (mark_named this) r
      steps_catch_all r h = as_control CatchAll r (ap control_of catches) (catching_all (ends_dropped (flat_state_of old.«open»)) refl r h)

    -- ---- `delegate`, which is written at the default location

    module _ (k : ℕ) (delegates : named ≡ delegate_operation k) where
      abbrev at_default : RawOperation → Located RawOperation
      at_default p = at_location p default_location

      delegate_numbered : (p : RawOperation) → renumbered old (Simple None) o ≡ Ok p → numbered_at_location to typing (with_control (delegate_at k default_location) (Delegate k)) ≡ Ok (at_default p)
      delegate_numbered p e = ap (λ n. (let r : Result (Located RawOperation) EmitError = translate (renumbering to (Simple None)) n >>= (λ q. Ok (at_location q default_location)) in r)) (sym delegates) ∙ ap (λ r. r >>= λ q. Ok (at_location q default_location)) (sym (number (Simple None)) ∙ e)

      delegate_fault : (f : EmitError) → renumbered old (Simple None) o ≡ Err f → numbered_at_location to typing (with_control (delegate_at k default_location) (Delegate k)) ≡ Err f
      delegate_fault f e = ap (λ n. (let r : Result (Located RawOperation) EmitError = translate (renumbering to (Simple None)) n >>= (λ q. Ok (at_location q default_location)) in r)) (sym delegates) ∙ ap (λ r. r >>= λ q. Ok (at_location q default_location)) (sym (number (Simple None)) ∙ e)

      delegating : (b : Bool) → ends_dropped (flat_state_of old.«open») ≡ b → (r : Result (Unit {0}) EmitError) → WritesUnless b old new o (Simple None) default_location (flat_state Unreachable (around os)) (flat_state Live (around os)) r → IsTakenAs (Delegate k) r
      delegating true d (Ok u) h =
          takes (with_control this (Delegate k)) (flat_state Unreachable (around os)) [] h (part_dropped to typing os this (Delegate k) (with_control (delegate_at k default_location) (Delegate k)) (λ b. refl) (λ l. refl) (λ p. refl) now d) (delegate_skipped to typing os this k now d)
      delegating true d (Err f) h = inl h
      delegating false d (Ok u) h =
          takes (with_control this (Delegate k)) (flat_state Live (around os)) (waiting_else now ++ at_default h.operator ∷ []) h.goes
          (part_written to typing os this (Delegate k) (with_control (delegate_at k default_location) (Delegate k)) (λ b. refl) (λ l. refl) (λ p. refl) now d (at_default h.operator) (delegate_numbered h.operator h.is_renumbered)) (delegate_state to typing os this k now d)
      delegating false d (Err f) (inl memory) = inl memory
      delegating false d (Err f) (inr h) = inr (part_refused to typing os this (Delegate k) (with_control (delegate_at k default_location) (Delegate k)) (λ b. refl) (λ l. refl) (λ p. refl) now d f (delegate_fault f h))

      pub steps_delegate : (r : Result (Unit {0}) EmitError) → WritesUnless (ends_dropped (flat_state_of old.«open»)) old new o (Simple None) default_location (flat_state Unreachable (around os)) (flat_state Live (around os)) r → IsTaken typing old new (mark_named this) r
      steps_delegate r h = as_control (Delegate k) r (ap control_of delegates) (delegating (ends_dropped (flat_state_of old.«open»)) refl r h)
