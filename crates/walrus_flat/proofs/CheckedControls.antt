-- Control operators that are checked at once.
use Rattle.std.proofs.Common.{◌≡◌, ◌≢◌, ◌≤◌, ◌+◌, ℕ, List, [], ◌∷◌, ◌++◌, length, Bool, true, false, None, Some, Ok, refl, sym, ap, subst, ◌∙◌, length-append, arith}
use Rattle.std.specs.Bool.{OnTrue, OnFalse}
use Rattle.walrus_ir.specs.declared.control.BlockKind.{BlockKind}
use Rattle.walrus_ir.specs.declared.control.BlockKind.TheVariants as kind
use Rattle.walrus_ir.specs.declared.val_type.InstrSeqType.TheVariants.{Simple}
use Rattle.walrus_ir.specs.Types.{Signature, signature}
use Rattle.wasm_operators.specs.declared.types.BlockType.TheVariants.{Empty}
use Rattle.wasm_operators.specs.declared.operator.Op.TheVariants as op
use Rattle.wasm_operators.specs.Meaning.{Listed, meaning}
use Rattle.wasm_operators.specs.Operations.{block, operation}
use Rattle.wasm_operators.specs.declared.types.Opcode.TheVariants.{Byte}
use Rattle.wasm_body.specs.Naming.{name_block, has_pick}
use Rattle.walrus_flat.specs.declared.checker.Checker.{Checker}
use Rattle.walrus_flat.specs.declared.open_sequence.OpenSequence.{OpenSequence}
use Rattle.walrus_flat.specs.declared.control.Control.{Control}
use Rattle.walrus_flat.specs.declared.control.Control.TheVariants as control
use Rattle.walrus_flat.specs.Controls.{control_listed}
use Rattle.walrus_flat.specs.Checked.{env_of_checker, StaysSame, ChecksAtOnce}
use Rattle.walrus_flat.specs.Checkers.{ClosesInner, OpensSequence, BeginsConstruct}
use Rattle.walrus_flat.proofs.NoParts.{at_opener}
use Rattle.walrus_flat.proofs.CheckerOperators.{at_block, at_loop, at_if, at_end, at_nop, same_opening, same_end}

-- sequences of which one is the last
some_with : {A : Type 0} (xs : List A) (x : A) → xs ++ x ∷ [] ≢ []
some_with [] x e = absurd cc
some_with (y ∷ ys) x e = absurd cc

-- others are open around the innermost of two
pub some_around : (old new : List OpenSequence) (top : OpenSequence) → old ≡ new ++ top ∷ [] → 2 ≤ length old → new ≢ []
some_around old new top was two none =
    let whole : length old ≡ length new + 1 = ap length was ∙ length-append new (top ∷ []) in
    let empty : length new ≡ 0 = ap length none in
    absurd (omega (arith, whole, empty, two))

module _ (old new : Checker) where
  -- an opener with the empty block type
  empty_signature : (s : Signature) → name_block (env_of_checker old) Empty ≡ Ok s → signature [] [] ≡ s
  empty_signature s named = cc named

  begins : (o : Listed) (byte : ℕ) → meaning o ≡ operation (Byte byte) (block Empty ∷ []) → (k : BlockKind) → OpensSequence old new k (Simple None) → BeginsConstruct old new (meaning o) k Empty
  begins o byte is k opens = record {
    parts = at_opener o byte Empty is true (λ env. refl) old;
    type = Simple None;
    has_type = λ s named. ap (λ (t : Signature). Some t) (empty_signature s named);
    picks = λ s named. subst (λ (t : Signature). has_pick (env_of_checker old) t ≡ Ok tt) (empty_signature s named) refl;
    opens = opens;
  }

  opened_inside : (k : BlockKind) → OpensSequence old new k (Simple None) → new.«open».items ≢ []
  opened_inside k opens none = some_with old.«open».items (record { kind = k; ty = Simple None; before = old.unreachable }) (sym opens.opens ∙ none)

  module _ (some : old.«open».items ≢ []) (c : Control) (b : Bool) where
    abbrev Steps : Control → Type 0
    Steps d = ChecksAtOnce old new (meaning (control_listed d)) b

    abbrev Inside : Type 0
    Inside = OnTrue b (new.«open».items ≢ [])

    pub block_at_once : c ≡ control.Block → OnTrue b (OpensSequence old new kind.Block (Simple None)) → OnFalse b (StaysSame old new) → Steps c
    block_at_once is done same = subst Steps (sym is) (by_result b done same)
      where
        by_result : (r : Bool) → OnTrue r (OpensSequence old new kind.Block (Simple None)) → OnFalse r (StaysSame old new) → ChecksAtOnce old new (meaning (op.Block Empty)) r
        by_result true opens same =
            let h = begins (op.Block Empty) 0x02 refl kind.Block opens in
            (at_block old new some (op.Block Empty) (Ok tt) Empty refl h tt, same_opening old new (meaning (op.Block Empty)) kind.Block Empty (Ok tt) h)
        by_result false opens same = same

    pub loop_at_once : c ≡ control.Loop → OnTrue b (OpensSequence old new kind.Loop (Simple None)) → OnFalse b (StaysSame old new) → Steps c
    loop_at_once is done same = subst Steps (sym is) (by_result b done same)
      where
        by_result : (r : Bool) → OnTrue r (OpensSequence old new kind.Loop (Simple None)) → OnFalse r (StaysSame old new) → ChecksAtOnce old new (meaning (op.Loop Empty)) r
        by_result true opens same =
            let h = begins (op.Loop Empty) 0x03 refl kind.Loop opens in
            (at_loop old new some (op.Loop Empty) (Ok tt) Empty refl h tt, same_opening old new (meaning (op.Loop Empty)) kind.Loop Empty (Ok tt) h)
        by_result false opens same = same

    pub if_at_once : c ≡ control.If → OnTrue b (OpensSequence old new kind.If (Simple None)) → OnFalse b (StaysSame old new) → Steps c
    if_at_once is done same = subst Steps (sym is) (by_result b done same)
      where
        by_result : (r : Bool) → OnTrue r (OpensSequence old new kind.If (Simple None)) → OnFalse r (StaysSame old new) → ChecksAtOnce old new (meaning (op.If Empty)) r
        by_result true opens same =
            let h = begins (op.If Empty) 0x04 refl kind.If opens in
            (at_if old new some (op.If Empty) (Ok tt) Empty refl h tt, same_opening old new (meaning (op.If Empty)) kind.If Empty (Ok tt) h)
        by_result false opens same = same

    pub end_at_once : c ≡ control.End → OnTrue b (ClosesInner old new) → OnFalse b (StaysSame old new) → Steps c
    end_at_once is done same = subst Steps (sym is) (by_result b done same)
      where
        by_result : (r : Bool) → OnTrue r (ClosesInner old new) → OnFalse r (StaysSame old new) → ChecksAtOnce old new (meaning op.End) r
        by_result true closes same = (at_end old new some op.End refl (Some closes.0) closes.1, same_end old new some (Some closes.0) closes.1)
        by_result false closes same = same

    pub opens_inside : (k : BlockKind) → OnTrue b (OpensSequence old new k (Simple None)) → Inside
    opens_inside k done = by_result b done
      where
        by_result : (r : Bool) → OnTrue r (OpensSequence old new k (Simple None)) → OnTrue r (new.«open».items ≢ [])
        by_result true opens = opened_inside k opens
        by_result false opens = tt

    pub closes_inside : OnTrue b (ClosesInner old new) → Inside
    closes_inside done = by_result b done
      where
        by_result : (r : Bool) → OnTrue r (ClosesInner old new) → OnTrue r (new.«open».items ≢ [])
        by_result true closes = closes.2
        by_result false closes = tt

-- `nop`
pub nop_at_once : (old : Checker) → old.«open».items ≢ [] → (c : Control) → c ≡ control.Nop → ChecksAtOnce old old (meaning (control_listed c)) true
nop_at_once old some c is = subst (λ d. ChecksAtOnce old old (meaning (control_listed d)) true) (sym is) (at_nop old some op.Nop refl, refl)
