-- Operators other than common ones that are written at once.
use Rattle.std.proofs.Common.{◌≡◌, ℕ, [], ◌∷◌, Result, Ok, Err, OnOk, IfErr, inl, refl, sym, ap, subst, ◌∙◌, append-nil}
use Rattle.walrus_ir.specs.declared.val_type.InstrSeqType.{InstrSeqType}
use Rattle.wasm_operators.specs.declared.types.BlockType.{BlockType}
use Rattle.wasm_operators.specs.declared.types.Opcode.TheVariants.{Byte}
use Rattle.wasm_operators.specs.Operations.{RawImmediate, block, operation, RawOperation}
use Rattle.wasm_operators.specs.Shortest.{short, short_block, short_bits, short_immediate, short_number}
use Rattle.wasm_body.specs.declared.error.EmitError.{EmitError}
use Rattle.wasm_body.specs.declared.error.EmitError.TheVariants.{Memory}
use Rattle.wasm_body.specs.Bytes.{numbered_block}
use Rattle.wasm_body.specs.Translation.{at_location}
use Rattle.walrus_emit_state.specs.TreeWriting.Drafts.{with_bytes, with_written}
use Rattle.walrus_flat.specs.declared.writer.Writer.{Writer}
use Rattle.walrus_flat.specs.Written.{drafted, waiting_else, awake}
use Rattle.walrus_flat.specs.Checkers.{IsOneByte}
use Rattle.walrus_flat.specs.Writers.{renumbered, numbers_of_writer, IsShortOpener, PutsAsIs}
use Rattle.walrus_flat.proofs.Drafts.{written_as_is}

-- an opener with the block type for its sequences
opener_numbered : (w : Writer) (byte : ℕ) (type : InstrSeqType) (b c : BlockType) → numbered_block (numbers_of_writer w) type ≡ Ok c →
    renumbered w type (operation (Byte byte) (block b ∷ [])) ≡ Ok (operation (Byte byte) (block c ∷ []))
opener_numbered w byte type b c is = rw is refl

opener_spelt : (byte code : ℕ) (c : BlockType) → short_block c ≡ short_number code → short (operation (Byte byte) (block c ∷ [])) ≡ byte ∷ short_number code
opener_spelt byte code c is = ap (λ bs. byte ∷ bs) (append-nil (short_block c) ∙ is)

module _ (old w : Writer) (o : RawOperation) (type : InstrSeqType) (location : ℕ) (woke : w ≡ record old { draft = drafted old.draft (waiting_else old.«open».next); «open» = awake old.«open» })
    (new : Writer) where
  -- an operator with its numbers was written after the `else` that waited
  pub put_as_is : (p : RawOperation) → renumbered w type o ≡ Ok p → (r : Result (Unit {0}) EmitError) → OnOk r (new ≡ record w { draft = with_written w.draft (at_location p location) }) → IfErr r (λ e. e ≡ Memory) →
      PutsAsIs old new o type location r
  put_as_is p numbered (Ok u) is err =
      written_as_is old w new o p type location woke numbered
      (record {
        «module» = ap (λ (k : Writer). k.«module») is;
        indices = ap (λ (k : Writer). k.indices.ids) is;
        function = ap (λ (k : Writer). k.indices.function) is;
        ty = ap (λ (k : Writer). k.ty) is;
        out = ap (λ (k : Writer). k.out) is;
        locals = ap (λ (k : Writer). k.locals.numbered) is;
      }) (ap (λ (k : Writer). k.«open») is) (Ok tt) (ap (λ (k : Writer). k.draft) is) tt
  put_as_is p numbered (Err e) ok err = inl err

  -- an opener was, by its two bytes
  pub opener_written : (bytes : ℕ × ℕ) → IsShortOpener o type bytes → (r : Result (Unit {0}) EmitError) → OnOk r (new ≡ record w { draft = with_bytes w.draft (bytes.0 ∷ short_number bytes.1) location }) → IfErr r (λ e. e ≡ Memory) →
      PutsAsIs old new o type location r
  opener_written (byte, code) ((b, is_opener), (c, is_numbered, is_spelt)) r ok err =
      put_as_is (operation (Byte byte) (block c ∷ []))
      (subst (λ x. renumbered w type x ≡ Ok (operation (Byte byte) (block c ∷ []))) (sym is_opener) (opener_numbered w byte type b c (is_numbered (numbers_of_writer w))))
      r (subst (λ bs. OnOk r (new ≡ record w { draft = with_bytes w.draft bs location })) (sym (opener_spelt byte code c is_spelt)) ok) err

  -- an operator that is one byte was
  pub plain_written : (byte : ℕ) → IsOneByte o byte → (r : Result (Unit {0}) EmitError) → OnOk r (new ≡ record w { draft = with_written w.draft (at_location (operation (Byte byte) []) location) }) → IfErr r (λ e. e ≡ Memory) →
      PutsAsIs old new o type location r
  plain_written byte is = put_as_is (operation (Byte byte) []) (ap (renumbered w type) is)

-- a constant that is a byte and its bits
module _ (old new : Writer) (type : InstrSeqType) (location : ℕ) (byte count bits : ℕ) (raw : RawImmediate) (spelt : short_immediate raw ≡ short_bits count bits)
    (numbered : (w : Writer) → renumbered w type (operation (Byte byte) (raw ∷ [])) ≡ Ok (operation (Byte byte) (raw ∷ []))) where
  abbrev woke : Writer
  woke = record old { draft = drafted old.draft (waiting_else old.«open».next); «open» = awake old.«open» }

  pub float_written : (r : Result (Unit {0}) EmitError) →
      OnOk r (new ≡ record old { draft = with_bytes (drafted old.draft (waiting_else old.«open».next)) (byte ∷ short_bits count bits) location; «open» = awake old.«open» }) → IfErr r (λ e. e ≡ Memory) →
      PutsAsIs old new (operation (Byte byte) (raw ∷ [])) type location r
  float_written r ok err =
      put_as_is old woke (operation (Byte byte) (raw ∷ [])) type location refl new (operation (Byte byte) (raw ∷ [])) (numbered woke) r
      (subst (λ bs. OnOk r (new ≡ record woke { draft = with_bytes woke.draft (byte ∷ bs) location })) (sym (append-nil (short_immediate raw) ∙ spelt)) ok) err
