-- Reading an operator agrees with its encodings.
use Rattle.std.proofs.Common.{◌≡◌, ℕ, Bool, true, false, cond, List, [], ◌∷◌, ◌++◌, Option, Some, None, Result, Ok, refl, sym, ap, subst, ◌∙◌, inl, inr}
use Rattle.wasm_numbers.specs.declared.fault.ReadFault.{ReadFault}
use Rattle.wasm_operators.specs.declared.types.Opcode.{Opcode}
use Rattle.wasm_operators.specs.declared.types.Opcode.TheVariants.{Byte, Prefixed}
use Rattle.wasm_numbers.specs.Results.{◌>>=◌}
use Rattle.wasm_numbers.specs.Numbers.{unsigned, u32}
use Rattle.wasm_operators.specs.Operations.{RawImmediate, RawOperation, operation}
use Rattle.wasm_operators.specs.Immediates.{Kind, immediates}
use Rattle.wasm_operators.specs.Opcodes.{is_prefix, kinds_of, IsOpcode, opcode}
use Rattle.wasm_operators.specs.Spelling.{Spells, operands_of, operands, read_operation}
use Rattle.wasm_numbers.proofs.Agreement.{IsBytes, IsBytes-rest, ok_is, chosen, Takes, Agrees, joined, parted}
use Rattle.wasm_numbers.proofs.NumberLaws.{integers_agree}
use Rattle.wasm_operators.proofs.ImmediateLaws.{immediates_agree, immediates_again}
use Rattle.wasm_numbers.proofs.ResultLemmas.{bind_ok}

-- ---- opcodes

-- a prefix byte and the number after it
abbrev numbered : ℕ → List ℕ → Result (Opcode × List ℕ) ReadFault
numbered prefix bytes = u32 bytes >>= λ n. Ok (Prefixed prefix n.0, n.1)

opcode_takes : (bytes : List ℕ) (o : Opcode) (rest : List ℕ) → IsBytes bytes → opcode bytes ≡ Ok (o, rest) → Takes IsOpcode bytes o rest
unfolding opcode
opcode_takes [] o rest fits e = absurd cc
opcode_takes (b ∷ bytes) o rest fits e =
    let more = IsBytes-rest b bytes fits in
    elim (chosen (is_prefix b) (numbered b bytes) (Ok (Byte b, bytes)) (Ok (o, rest)) e) [
      | inl p ↦
          let x = bind_ok (u32 bytes) (λ n. Ok (Prefixed b n.0, n.1)) (o, rest) p.1 in
          let t = (integers_agree unsigned 32).takes bytes x.0.0 x.0.1 more x.1 in
          let one : Takes IsOpcode (b ∷ bytes) (Prefixed b x.0.0) x.0.1 = record {
            text = b ∷ t.text;
            parts = ap (λ (z : List ℕ). b ∷ z) t.parts;
            spelt = (p.0, fits 0, t.text, refl, t.spelt);
            rest_fits = t.rest_fits;
          } in
          subst (λ (z : Opcode × List ℕ). Takes IsOpcode (b ∷ bytes) z.0 z.1) (ok_is (Prefixed b x.0.0, x.0.1) (o, rest) x.2) one
      | inr q ↦
          let one : Takes IsOpcode (b ∷ bytes) (Byte b) bytes = record { text = b ∷ []; parts = refl; spelt = (q.0, fits 0, refl {a = b ∷ []}); rest_fits = more } in
          subst (λ (z : Opcode × List ℕ). Takes IsOpcode (b ∷ bytes) z.0 z.1) (ok_is (Byte b, bytes) (o, rest) q.1) one
    ]

taken_true : {A : Type 0} (b : Bool) (x y : A) → b ≡ true → cond b x y ≡ x
taken_true true x y e = refl
taken_true false x y e = absurd cc

taken_false : {A : Type 0} (b : Bool) (x y : A) → b ≡ false → cond b x y ≡ y
taken_false true x y e = absurd cc
taken_false false x y e = refl

opcode_again : (o : Opcode) (text rest : List ℕ) → IsOpcode o text → opcode (text ++ rest) ≡ Ok (o, rest)
unfolding opcode
opcode_again (Byte b) text rest h = ap (λ (t : List ℕ). opcode (t ++ rest)) h.2 ∙ taken_false (is_prefix b) (numbered b rest) _ h.0
opcode_again (Prefixed prefix n) text rest h =
    ap (λ (t : List ℕ). opcode (t ++ rest)) h.3
    ∙ taken_true (is_prefix prefix) (numbered prefix (h.2 ++ rest)) (Ok (Byte prefix, h.2 ++ rest)) h.0
    ∙ ap (λ (r : Result (ℕ × List ℕ) ReadFault). r >>= λ n. Ok (Prefixed prefix n.0, n.1)) ((integers_agree unsigned 32).again n h.2 rest h.4)

pub opcodes_agree : Agrees IsOpcode opcode
opcodes_agree = record { takes = opcode_takes; again = opcode_again }

-- ---- operators

-- the immediates that were read after an opcode
record Read (o : Opcode) (kinds : Option (List Kind)) (bytes : List ℕ) (v : RawOperation) (rest : List ℕ) : Type 0 where
  opcode_kinds : List Kind
  known : kinds ≡ Some opcode_kinds
  is : List RawImmediate
  read : immediates opcode_kinds bytes ≡ Ok (is, rest)
  whole : operation o is ≡ v

operands_ok : (o : Opcode) (kinds : Option (List Kind)) (bytes : List ℕ) (v : RawOperation) (rest : List ℕ) → operands_of o kinds bytes ≡ Ok (v, rest) → Read o kinds bytes v rest
operands_ok o None bytes v rest e = absurd cc
operands_ok o (Some kinds) bytes v rest e =
    let x = bind_ok (immediates kinds bytes) (λ is. Ok (operation o is.0, is.1)) (v, rest) e in
    let both = ok_is (operation o x.0.0, x.0.1) (v, rest) x.2 in
    record {
      opcode_kinds = kinds;
      known = refl;
      is = x.0.0;
      read = x.1 ∙ ap (λ (p : RawOperation × List ℕ). Ok (x.0.0, p.1)) both;
      whole = ap (λ (p : RawOperation × List ℕ). p.0) both;
    }

operation_takes : (bytes : List ℕ) (v : RawOperation) (rest : List ℕ) → IsBytes bytes → read_operation bytes ≡ Ok (v, rest) → Takes Spells bytes v rest
unfolding read_operation
operation_takes bytes v rest fits e =
    let x = bind_ok (opcode bytes) (λ o. operands o.0 o.1) (v, rest) e in
    let y = operands_ok x.0.0 (kinds_of x.0.0) x.0.1 v rest x.2 in
    let p = opcodes_agree.takes bytes x.0.0 x.0.1 fits x.1 in
    let q = (immediates_agree y.opcode_kinds).takes x.0.1 y.is rest p.rest_fits y.read in
    let one : Spells (operation x.0.0 y.is) (p.text ++ q.text) = record {
      first = p.text;
      others = q.text;
      parts = refl {a = p.text ++ q.text};
      opcode = p.spelt;
      kinds = y.known ∙ ap (λ (ks : List Kind). Some ks) (sym q.spelt.0);
      immediates = q.spelt.1;
    } in
    record {
      text = p.text ++ q.text;
      parts = joined bytes p.text x.0.1 q.text rest p.parts q.parts;
      spelt = subst (λ (o : RawOperation). Spells o (p.text ++ q.text)) y.whole one;
      rest_fits = q.rest_fits;
    }

operation_again : (v : RawOperation) (text rest : List ℕ) → Spells v text → read_operation (text ++ rest) ≡ Ok (v, rest)
unfolding read_operation
operation_again v text rest h =
    ap read_operation (parted text rest h.first h.others h.parts) ∙ rw (opcodes_agree.again v.opcode h.first (h.others ++ rest) h.opcode, h.kinds, immediates_again v.immediates h.others rest h.immediates) refl

-- an operator that is read is encoded by the bytes that are taken, and one that is encoded at the front is read
pub operations_agree : Agrees Spells read_operation
operations_agree = record { takes = operation_takes; again = operation_again }
