-- Control operators that are written at once.
use Rattle.std.proofs.Common.{◌≡◌, ℕ, [], ◌∷◌, Bool, true, false, None, Some, Ok, refl, sym, ap, subst, ◌∙◌}
use Rattle.std.specs.Bool.{OnTrue}
use Rattle.walrus_ir.specs.declared.val_type.InstrSeqType.TheVariants.{Simple}
use Rattle.walrus_ir.specs.Types.{signature, pick}
use Rattle.wasm_operators.specs.declared.types.BlockType.TheVariants.{Empty}
use Rattle.wasm_operators.specs.declared.types.Opcode.TheVariants.{Byte}
use Rattle.wasm_operators.specs.declared.operator.Op.TheVariants as op
use Rattle.wasm_operators.specs.Meaning.{Listed, meaning}
use Rattle.wasm_operators.specs.Operations.{block, operation}
use Rattle.wasm_operators.specs.Shortest.{short_number}
use Rattle.wasm_body.specs.Flat.{Kept, Dropped, Live, Unreachable, flat_state, innermost, around}
use Rattle.walrus_from_operators.specs.OperatorKinds.{is_instruction}
use Rattle.walrus_parser.specs.OperatorKinds.{makes_unreachable}
use Rattle.walrus_emit_state.specs.TreeWriting.Drafts.{with_bytes}
use Rattle.walrus_flat.specs.declared.writer.Writer.{Writer}
use Rattle.walrus_flat.specs.declared.sequences.Next.TheVariants as next
use Rattle.walrus_flat.specs.declared.control.Control.{Control}
use Rattle.walrus_flat.specs.declared.control.Control.TheVariants as control
use Rattle.walrus_flat.specs.Controls.{control_listed}
use Rattle.walrus_flat.specs.Written.{opens_of, flat_state_of, mode_of, mode_if, is_unreachable_next, waiting_location, end_if, end_pieces, state_after_end}
use Rattle.walrus_flat.specs.Writers.{numbers_of_writer, IsSameWriter, IsPicked, needs_one, PutsAsIs, Goes, WritesUnless, WritesOpener, OpensUnless, StepsWriter, OpensEmpty, ClosesShort}
use Rattle.walrus_flat.proofs.Drafts.{nothing_waits}
use Rattle.walrus_flat.proofs.TypeBytes.{without_result}
use Rattle.walrus_flat.proofs.WriterShort.{opener_written}
use Rattle.walrus_flat.proofs.WriterOperators.{at_block, at_loop, at_if, at_end, at_nop, at_other}

module _ (old new : Writer) (location : ℕ) (live : old.«open».next ≡ next.Live) where
  -- ---- openers

  module _ (o : Listed) (byte : ℕ) (shape : meaning o ≡ operation (Byte byte) (block Empty ∷ [])) (h : OpensEmpty old new byte location) where
    abbrev mid : Writer
    mid = record old { draft = with_bytes old.draft (byte ∷ short_number 0x40) location }

    put : PutsAsIs old mid (meaning o) (Simple None) location (Ok tt)
    put = opener_written old old (meaning o) (Simple None) location (nothing_waits old (ap waiting_location live)) mid (byte, 0x40) ((Empty, shape), without_result (Simple None) None refl refl) (Ok tt) refl tt

    same : IsSameWriter old new
    same = record {
      «module» = ap (λ (k : Writer). k.«module») h.is;
      indices = ap (λ (k : Writer). k.indices.ids) h.is;
      function = ap (λ (k : Writer). k.indices.function) h.is;
      ty = ap (λ (k : Writer). k.ty) h.is;
      out = ap (λ (k : Writer). k.out) h.is;
      locals = ap (λ (k : Writer). k.locals.numbered) h.is;
    }

    is_picked : IsPicked old Empty (Simple None)
    is_picked type s u named picks =
        let is : signature [] [] ≡ s = cc named in
        let both : Some (Simple None) ≡ Some u = subst (λ t. pick old.«module».now.types t ≡ Some u) (sym is) picks in
        cc both

    no_else : (is_if : Bool) → needs_one is_if ((numbers_of_writer old).balanced (Simple None)) ≡ false
    no_else true = refl
    no_else false = refl

    opened : (is_if : Bool) → WritesOpener old new (meaning o) Empty is_if location
    opened is_if = record {
      type = Simple None;
      is_picked = is_picked;
      writes = record {
        operator = put.operator;
        is_renumbered = put.is_renumbered;
        goes = record {
          same = same;
          draft = ap (λ (k : Writer). k.draft) h.is ∙ put.draft;
          state_is = (λ i. flat_state (mode_of ((h.next ∙ live) i)) (h.opens i)) ∙ ap (λ b. flat_state Live (Kept b ∷ opens_of old.«open»)) (sym (no_else is_if));
        };
      };
    }

    pub opens : (is_if : Bool) → OpensUnless (is_unreachable_next old.«open».next) old new (meaning o) Empty is_if location (Ok tt)
    opens is_if = subst (λ d. OpensUnless d old new (meaning o) Empty is_if location (Ok tt)) (sym (ap is_unreachable_next live)) (opened is_if)

  -- ---- `end`

  closed : ClosesShort old new location → Goes old new (state_after_end (mode_of old.«open».next) (opens_of old.«open»)) (end_pieces (mode_of old.«open».next) (innermost (opens_of old.«open»)) location)
  closed h = subst (λ n. Goes old new (state_after_end (mode_of n) (opens_of old.«open»)) (end_pieces (mode_of n) (innermost (opens_of old.«open»)) location)) (sym live)
      (subst (λ b. Goes old new (flat_state Live (around (opens_of old.«open»))) (end_if b location)) (sym h.short)
      (record {
        same = record {
          «module» = ap (λ (k : Writer). k.«module») h.is;
          indices = ap (λ (k : Writer). k.indices.ids) h.is;
          function = ap (λ (k : Writer). k.indices.function) h.is;
          ty = ap (λ (k : Writer). k.ty) h.is;
          out = ap (λ (k : Writer). k.out) h.is;
          locals = ap (λ (k : Writer). k.locals.numbered) h.is;
        };
        draft = ap (λ (k : Writer). k.draft) h.is;
        state_is = λ i. flat_state (mode_of ((h.next ∙ live) i)) (h.closes i);
      }))

  -- ---- by the operator

  module _ (c : Control) (b : Bool) where
    abbrev Steps : Control → Type 0
    Steps d = OnTrue b (StepsWriter old new (meaning (control_listed d)) location (Ok tt))

    when : {P Q : Type 0} → (P → Q) → (r : Bool) → OnTrue r P → OnTrue r Q
    when f true p = f p
    when f false p = tt

    pub block_at_once : c ≡ control.Block → OnTrue b (OpensEmpty old new 0x02 location) → Steps c
    block_at_once is done = subst Steps (sym is) (when (λ h. at_block old new (op.Block Empty) location (Ok tt) Empty refl (opens (op.Block Empty) 0x02 refl h false)) b done)

    pub loop_at_once : c ≡ control.Loop → OnTrue b (OpensEmpty old new 0x03 location) → Steps c
    loop_at_once is done = subst Steps (sym is) (when (λ h. at_loop old new (op.Loop Empty) location (Ok tt) Empty refl (opens (op.Loop Empty) 0x03 refl h false)) b done)

    pub if_at_once : c ≡ control.If → OnTrue b (OpensEmpty old new 0x04 location) → Steps c
    if_at_once is done = subst Steps (sym is) (when (λ h. at_if old new (op.If Empty) location (Ok tt) Empty refl (opens (op.If Empty) 0x04 refl h true)) b done)

    pub end_at_once : c ≡ control.End → OnTrue b (ClosesShort old new location) → Steps c
    end_at_once is done = subst Steps (sym is) (when (λ h. at_end old new op.End location (Ok tt) refl (closed h) tt) b done)

-- `nop`
pub nop_at_once : (old : Writer) (c : Control) (location : ℕ) → c ≡ control.Nop → StepsWriter old old (meaning (control_listed c)) location (Ok tt)
nop_at_once old c location is = subst (λ d. StepsWriter old old (meaning (control_listed d)) location (Ok tt)) (sym is) (at_nop old op.Nop location refl)

-- ---- in unreachable code

module _ (old new : Writer) (location : ℕ) (dead : is_unreachable_next old.«open».next ≡ true) (c : Control) (b : Bool) where
  abbrev Skips : Control → Type 0
  Skips d = OnTrue b (StepsWriter old new (meaning (control_listed d)) location (Ok tt))

  abbrev OpensDropped : Type 0
  OpensDropped = Goes old new (flat_state Unreachable (Dropped ∷ opens_of old.«open»)) []

  opens_dropped : (o : Listed) (is_if : Bool) → OpensDropped → OpensUnless (is_unreachable_next old.«open».next) old new (meaning o) Empty is_if location (Ok tt)
  opens_dropped o is_if goes = subst (λ d. OpensUnless d old new (meaning o) Empty is_if location (Ok tt)) (sym dead) goes

  skipped : {P Q : Type 0} → (P → Q) → (r : Bool) → OnTrue r P → OnTrue r Q
  skipped f true p = f p
  skipped f false p = tt

  pub block_skipped : c ≡ control.Block → OnTrue b OpensDropped → Skips c
  block_skipped is done = subst Skips (sym is) (skipped (λ h. at_block old new (op.Block Empty) location (Ok tt) Empty refl (opens_dropped (op.Block Empty) false h)) b done)

  pub loop_skipped : c ≡ control.Loop → OnTrue b OpensDropped → Skips c
  loop_skipped is done = subst Skips (sym is) (skipped (λ h. at_loop old new (op.Loop Empty) location (Ok tt) Empty refl (opens_dropped (op.Loop Empty) false h)) b done)

  pub if_skipped : c ≡ control.If → OnTrue b OpensDropped → Skips c
  if_skipped is done = subst Skips (sym is) (skipped (λ h. at_if old new (op.If Empty) location (Ok tt) Empty refl (opens_dropped (op.If Empty) true h)) b done)

  pub end_skipped : c ≡ control.End → OnTrue b (Goes old new (state_after_end (mode_of old.«open».next) (opens_of old.«open»)) (end_pieces (mode_of old.«open».next) (innermost (opens_of old.«open»)) location)) → Skips c
  end_skipped is done = subst Skips (sym is) (skipped (λ h. at_end old new op.End location (Ok tt) refl h tt) b done)

-- a common operator
pub common_skipped : (old : Writer) (x : Listed) (location : ℕ) → is_instruction x ≡ true → is_unreachable_next old.«open».next ≡ true → StepsWriter old old (meaning x) location (Ok tt)
common_skipped old x location alone dead = at_other old old x location (Ok tt) alone
    (subst (λ d. WritesUnless d old old (meaning x) (Simple None) location (flat_state_of old.«open») (flat_state (mode_if (makes_unreachable x)) (opens_of old.«open»)) (Ok tt)) (sym dead)
    (record { same = record { «module» = refl; indices = refl; function = refl; ty = refl; out = refl; locals = refl }; draft = refl; state_is = refl }))
