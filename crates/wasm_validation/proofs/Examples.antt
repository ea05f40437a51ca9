-- Examples that pin the definitions, by the standard's text (sections 3.4 and 5.4, and the appendix): bodies of a function of two i32 that gives
-- an i32.
use Rattle.std.proofs.Common.{◌≡◌, ℕ, zero, suc, ◌+◌, List, [], ◌∷◌, ◌++◌, length, Result, Ok, Err, refl, subst, arith}
use Rattle.wasm_types.specs.declared.val_type.ValType.TheVariants.{I32}
use Rattle.wasm_numbers.specs.declared.fault.ReadFault.TheVariants.{Truncated}
use Rattle.wasm_numbers.specs.Numbers.{integer}
use Rattle.wasm_numbers.specs.Results.{◌>>=◌, with_fault}
use Rattle.wasm_numbers.proofs.ResultLemmas.{bind_ok, with_fault_ok, ok_same}
use Rattle.wasm_operators.specs.Opcodes.{kinds_of_byte, opcode}
use Rattle.wasm_operators.specs.Laws.{AreBytes}
use Rattle.wasm_operators.specs.Spelling.{read_operation}
use Rattle.wasm_operators.proofs.ReadingBytes.{reading_agrees}
use Rattle.wasm_typing.proofs.Examples.Module.{context}
use Rattle.wasm_context.specs.Validation.{BodyContext, BodyState, raw_step}
use Rattle.wasm_validation.specs.declared.error.ValidationError.{ValidationError}
use Rattle.wasm_validation.specs.declared.error.ValidationError.TheVariants.{Read, Invalid, Trailing, MissingEnd}
use Rattle.wasm_validation.specs.BodyValidation.{BodySetting, begin_state, IsValidCode, IsFaultOfRest, IsFirstFaultOfCode}
use Rattle.wasm_validation.proofs.Fronts.{TakenFront, nothing_taken, taken_more}

-- ---- so many operators are read and taken

abbrev Reached : Type 0
Reached = Result (BodyState × List ℕ) ValidationError

walk : ℕ → BodyContext → BodyState → List ℕ → Reached
walk zero c s bytes = Ok (s, bytes)
walk (suc n) c s bytes = with_fault Read (read_operation bytes) >>= λ x. with_fault (λ e. Invalid) (raw_step c x.0 s) >>= λ t. walk n c t x.1

-- the front that they are
record Walked (g : BodySetting) (place : ℕ) (bytes : List ℕ) (rest : List ℕ) (s : BodyState) : Type 0 where
  at : ℕ
  taken : TakenFront g place bytes at rest s

abbrev done : BodyState → List ℕ → Reached
done s rest = Ok (s, rest)

walked : (n : ℕ) (g : BodySetting) (place : ℕ) (bytes : List ℕ) (at : ℕ) (rest last : List ℕ) (s end : BodyState) → TakenFront g place bytes at rest s → AreBytes rest
    → walk n g.context s rest ≡ Ok (end, last) → Walked g place bytes last end
unfolding walk
walked zero g place bytes at rest last s end f fits h =
    let both : (s, rest) ≡ (end, last) = ok_same (s, rest) (end, last) h in
    record { at = at; taken = subst (λ (x : BodyState × List ℕ). TakenFront g place bytes at x.1 x.0) both f }
walked (suc n) g place bytes at rest last s end f fits h =
    let p = bind_ok (with_fault Read (read_operation rest)) (λ x. with_fault (λ e. Invalid) (raw_step g.context x.0 s) >>= λ t. walk n g.context t x.1) (end, last) h in
    let q = bind_ok (with_fault (λ e. Invalid) (raw_step g.context p.0.0 s)) (λ t. walk n g.context t p.0.1) (end, last) p.2 in
    let read = with_fault_ok Read (read_operation rest) p.0 p.1 in
    let step = with_fault_ok (λ e. Invalid) (raw_step g.context p.0.0 s) q.0 q.1 in
    let spelt = reading_agrees.takes rest p.0.0 p.0.1 fits read in
    let here : TakenFront g place bytes at (spelt.0 ++ p.0.1) s = subst (λ (z : List ℕ). TakenFront g place bytes at z s) spelt.1 f in
    walked n g place bytes (at + length spelt.0) p.0.1 last q.0 end (taken_more g place bytes at spelt.0 p.0.1 p.0.0 s q.0 here spelt.2 step) spelt.3 q.2

-- ---- the function

abbrev adding : BodySetting
adding = record {
  context = record { operands = record context { locals = I32 ∷ I32 ∷ [] }; tags = [] };
  parameters = 2;
  results = I32 ∷ [];
}

abbrev reached : Reached → BodyState
reached (Ok x) = x.0
reached (Err e) = begin_state adding

-- 20 00 20 01 6a 0b: local.get 0, local.get 1, i32.add, end
abbrev sum : List ℕ
sum = 0x20 ∷ 0x00 ∷ 0x20 ∷ 0x01 ∷ 0x6a ∷ 0x0b ∷ []

end_of_sum : BodyState
end_of_sum = reached (walk 4 adding.context (begin_state adding) sum)

sum_is_valid : IsValidCode adding 10 sum
unfolding walk end_of_sum read_operation opcode kinds_of_byte integer
sum_is_valid =
    let w = walked 4 adding 10 sum 10 sum [] (begin_state adding) end_of_sum (nothing_taken adding 10 sum) (omega arith, (omega arith, (omega arith, (omega arith, (omega arith, (omega arith, tt)))))) refl in
    record { operators = w.taken.front; reached = end_of_sum; leads = w.taken.leads; closed = refl }

-- the first fault of these bytes, after so many operators
fault_after : (n : ℕ) (bytes rest : List ℕ) (end : BodyState) (at : ℕ) (e : ValidationError) → AreBytes bytes → walk n adding.context (begin_state adding) bytes ≡ Ok (end, rest)
    → at + length rest ≡ 10 + length bytes → IsFaultOfRest adding.context end end.controls rest e → IsFirstFaultOfCode adding 10 bytes (record { error = e; at = at })
fault_after n bytes rest end at e fits h here fault =
    let w = walked n adding 10 bytes 10 bytes rest (begin_state adding) end (nothing_taken adding 10 bytes) fits h in
    record { front = w.taken.front; rest = rest; reached = end; leads = w.taken.leads; place_is = here; fault = fault }

-- 20 00 20 01 7c 0b: i64.add takes no i32
abbrev other_type : List ℕ
other_type = 0x20 ∷ 0x00 ∷ 0x20 ∷ 0x01 ∷ 0x7c ∷ 0x0b ∷ []

refuses_other_type : IsFirstFaultOfCode adding 10 other_type (record { error = Invalid; at = 14 })
unfolding walk read_operation opcode kinds_of_byte integer
refuses_other_type = fault_after 2 other_type (0x7c ∷ 0x0b ∷ []) (reached (walk 2 adding.context (begin_state adding) other_type)) 14 Invalid
    (omega arith, (omega arith, (omega arith, (omega arith, (omega arith, (omega arith, tt)))))) refl refl refl

-- 20 00 0b 0b: nothing follows the function's `end`
abbrev trailing : List ℕ
trailing = 0x20 ∷ 0x00 ∷ 0x0b ∷ 0x0b ∷ []

refuses_trailing : IsFirstFaultOfCode adding 10 trailing (record { error = Trailing; at = 13 })
unfolding walk read_operation opcode kinds_of_byte integer
refuses_trailing = fault_after 2 trailing (0x0b ∷ []) (reached (walk 2 adding.context (begin_state adding) trailing)) 13 Trailing
    (omega arith, (omega arith, (omega arith, (omega arith, tt)))) refl refl refl

-- 20 00: the `end` is missing
abbrev unended : List ℕ
unended = 0x20 ∷ 0x00 ∷ []

refuses_unended : IsFirstFaultOfCode adding 10 unended (record { error = MissingEnd; at = 12 })
unfolding walk read_operation opcode kinds_of_byte integer
refuses_unended = fault_after 1 unended [] (reached (walk 1 adding.context (begin_state adding) unended)) 12 MissingEnd (omega arith, (omega arith, tt)) refl refl refl

-- 20: the number of the local is missing
abbrev truncated : List ℕ
truncated = 0x20 ∷ []

refuses_truncated : IsFirstFaultOfCode adding 10 truncated (record { error = Read Truncated; at = 10 })
unfolding walk read_operation opcode kinds_of_byte integer
refuses_truncated = fault_after 0 truncated truncated (begin_state adding) 10 (Read Truncated) (omega arith, tt) refl refl refl
