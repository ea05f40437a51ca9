-- An operation is read whatever follows it.
use Rattle.std.proofs.Common.{◌≡◌, ℕ, ◌-◌, ◌<◌, Bool, true, false, cond, eqb, leb, ◌||◌, List, [], ◌∷◌, ◌++◌, length, drop, Some, Result, Ok, Err, refl, sym, ap, ◌∙◌, subst, inl, inr, length-append, arith}
use Rattle.std.proofs.lemmas.Bool.{cases_Bool, eqb-true, and_parts}
use Rattle.std.proofs.lemmas.List.{take_at}
use Rattle.wasm_numbers.specs.Reading.{many}
use Rattle.wasm_numbers.specs.Results.{◌>>=◌, some_or}
use Rattle.wasm_numbers.proofs.ResultLemmas.{bind_ok, some_or_ok, ok_same}
use Rattle.dwarf_bytes.specs.declared.fault.DebugFault.{DebugFault}
use Rattle.dwarf_bytes.specs.declared.fault.DebugFault.TheVariants as faults
use Rattle.dwarf_bytes.specs.Faults.{DebugReader}
use Rattle.dwarf_bytes.specs.Numbers.{size_in_bytes, fixed_number, unsigned_leb, signed_leb, part_and_rest}
use Rattle.dwarf_bytes.proofs.Local.{IsLocal, just_local, fail_local, cond_local, then_local, fixed_local, unsigned_local, signed_local, parts_local}
use Rattle.dwarf_expressions.specs.declared.encoding.Encoding.{Encoding}
use Rattle.dwarf_expressions.specs.declared.operand.Operand.{Operand}
use Rattle.dwarf_expressions.specs.declared.operand.Operand.TheVariants.{Nothing, Address, Fixed, Unsigned, Signed, Branch, Block, ShortBlock, Expression, Place, EntryAt, Entry, EntryOfAnyUnit}
use Rattle.dwarf_expressions.specs.Operands.{reference_size, expression_operands}
use Rattle.dwarf_expressions.specs.Expressions.{Simple, local, other, skipped, sized, expression_place, expression_operand, names_local, before, both_operands, simple_operation, entry_value_parts, expression_operands_of, simple_has}

-- ---- operands

skipped_local : {A : Type 0} (read : DebugReader A) → IsLocal read → IsLocal (skipped read)
skipped_local read f = then_local read (λ v bytes. Ok (tt, bytes)) f (λ v. just_local tt)

pub sized_local : (size : DebugReader ℕ) → IsLocal size → IsLocal (sized size)
sized_local size f = then_local size part_and_rest f parts_local

place_local : IsLocal expression_place
place_local =
    then_local (fixed_number 1) (λ kind bytes. cond (leb kind 2) (skipped unsigned_leb bytes) (cond (eqb kind 3) (skipped (fixed_number 4) bytes) (Err faults.UnknownOperation))) (fixed_local 1)
    (λ kind. cond_local (leb kind 2) (skipped unsigned_leb) _ (skipped_local unsigned_leb unsigned_local) (cond_local (eqb kind 3) (skipped (fixed_number 4)) _ (skipped_local (fixed_number 4) (fixed_local 4)) (fail_local faults.UnknownOperation)))

operand_local : (e : Encoding) (kind : Operand) → IsLocal (expression_operand e kind)
unfolding expression_operand
operand_local e Nothing = just_local tt
operand_local e Address = skipped_local (fixed_number (size_in_bytes e.address_size)) (fixed_local (size_in_bytes e.address_size))
operand_local e (Fixed size) = skipped_local (fixed_number (size_in_bytes size)) (fixed_local (size_in_bytes size))
operand_local e Unsigned = skipped_local unsigned_leb unsigned_local
operand_local e Signed = skipped_local signed_leb signed_local
operand_local e Branch = skipped_local (fixed_number 2) (fixed_local 2)
operand_local e Block = skipped_local (sized unsigned_leb) (sized_local unsigned_leb unsigned_local)
operand_local e ShortBlock = skipped_local (sized (fixed_number 1)) (sized_local (fixed_number 1) (fixed_local 1))
operand_local e Expression = fail_local faults.Unsupported
operand_local e Place = place_local
operand_local e (EntryAt size) = skipped_local (fixed_number (size_in_bytes size)) (fixed_local (size_in_bytes size))
operand_local e Entry = skipped_local unsigned_leb unsigned_local
operand_local e EntryOfAnyUnit = skipped_local (fixed_number (size_in_bytes (reference_size e))) (fixed_local (size_in_bytes (reference_size e)))

operands_local : (e : Encoding) (kinds : Operand × Operand) → IsLocal (both_operands e kinds)
operands_local e kinds = then_local (expression_operand e kinds.0) (λ v. expression_operand e kinds.1) (operand_local e kinds.0) (λ v. operand_local e kinds.1)

-- ---- operations

before_is : (text rest : List ℕ) → before (text ++ rest) rest ≡ text
before_is text rest =
    let k : length (text ++ rest) - length rest ≡ length text = omega (arith, length-append text rest) in
    rw k (take_at text rest (length text) refl)

-- an operation of which the bytes are these begins some bytes, and begins others that begin with the same bytes
abbrev pub Again : Encoding → List ℕ → Simple → List ℕ → Type 0
Again e bytes (local index) rest = (number : List ℕ) × (bytes ≡ 0xed ∷ 0 ∷ (number ++ rest))
Again e bytes (other code ops) rest =
    (bytes ≡ code ∷ (ops ++ rest)) × ((following : List ℕ) → simple_operation e (code ∷ (ops ++ following)) ≡ Ok (other code ops, following))

local_parts : (bytes : List ℕ) → names_local bytes ≡ true → bytes ≡ 0xed ∷ 0 ∷ drop 2 bytes
local_parts [] t = absurd cc
local_parts (code ∷ []) t = absurd cc
local_parts (code ∷ kind ∷ bytes) t =
    let both = and_parts (eqb code 0xed) (eqb kind 0) t in
    let one = eqb-true code 0xed both.0 in
    let two = eqb-true kind 0 both.1 in
    ap (λ (c : ℕ). c ∷ kind ∷ bytes) one ∙ ap (λ (k : ℕ). 0xed ∷ k ∷ bytes) two

same_again : (e : Encoding) (bytes : List ℕ) (x y : Simple × List ℕ) → x ≡ y → Again e bytes x.0 x.1 → Again e bytes y.0 y.1
same_again e bytes x y p a = subst (λ (z : Simple × List ℕ). Again e bytes z.0 z.1) p a

local_again : (e : Encoding) (bytes : List ℕ) (s : Simple) (rest : List ℕ) → names_local bytes ≡ true → simple_operation e bytes ≡ Ok (s, rest) → Again e bytes s rest
unfolding simple_operation
local_again e bytes s rest t r =
    let x = bind_ok (unsigned_leb (drop 2 bytes)) (λ index. Ok (local index.0, index.1)) (s, rest) (rw t at r) in
    let f = unsigned_local.takes (drop 2 bytes) x.0.0 x.0.1 x.1 in
    same_again e bytes (local x.0.0, x.0.1) (s, rest) (ok_same (local x.0.0, x.0.1) (s, rest) x.2) (f.text, local_parts bytes t ∙ ap (λ (l : List ℕ). 0xed ∷ 0 ∷ l) f.split)

no_byte : fixed_number 1 [] ≡ Err faults.Truncated
unfolding many
no_byte = refl

place_known : expression_operands 0xed ≡ Some (Place, Nothing)
unfolding expression_operands
place_known = refl

pub not_both : {A E : Type 0} {fault : E} {v : A} {r : Result A E} → r ≡ Err fault → r ≡ Ok v → ⊥
not_both e f = cc

no_place : (e : Encoding) → both_operands e (Place, Nothing) [] ≡ Err faults.Truncated
unfolding expression_operand
no_place e = rw no_byte refl

-- the operand of DW_OP_WASM_location has a byte
some_operand : (e : Encoding) (code : ℕ) (kinds : Operand × Operand) → expression_operands code ≡ Some kinds → both_operands e kinds [] ≡ Ok (tt, []) → eqb code 0xed ≡ false
some_operand e code kinds known none =
    elim (cases_Bool (eqb code 0xed)) [
      | inl t ↦
          let is = sym known ∙ (ap expression_operands (eqb-true code 0xed t) ∙ place_known) in
          let same : kinds ≡ (Place, Nothing) = cc in
          absurd (not_both (no_place e) (ap (λ (k : Operand × Operand). both_operands e k []) (sym same) ∙ none))
      | inr f ↦ f
    ]

still_other : (e : Encoding) (code : ℕ) (kinds : Operand × Operand) (text rest following : List ℕ) → expression_operands code ≡ Some kinds → ((more : List ℕ) → both_operands e kinds (text ++ more) ≡ Ok (tt, more))
    → names_local (code ∷ (text ++ rest)) ≡ false → names_local (code ∷ (text ++ following)) ≡ false
still_other e code kinds [] rest [] known reads f = refl
still_other e code kinds [] rest (k ∷ following) known reads f = let no = some_operand e code kinds known (reads []) in rw no refl
still_other e code kinds (k ∷ text) rest following known reads f = f

abbrev after_operands : ℕ → List ℕ → (Unit {0}) × List ℕ → Result (Simple × List ℕ) DebugFault
after_operands code bytes x = Ok (other code (before bytes x.1), x.1)

abbrev after_kinds : Encoding → ℕ → List ℕ → Operand × Operand → Result (Simple × List ℕ) DebugFault
after_kinds e code bytes kinds = both_operands e kinds bytes >>= after_operands code bytes

other_is : (e : Encoding) (code : ℕ) (bytes rest : List ℕ) (kinds : Operand × Operand) → names_local (code ∷ bytes) ≡ false → expression_operands code ≡ Some kinds → both_operands e kinds bytes ≡ Ok (tt, rest)
    → simple_operation e (code ∷ bytes) ≡ Ok (other code (before bytes rest), rest)
unfolding simple_operation
other_is e code bytes rest kinds f known r = rw (f, known, r) refl

other_found : (e : Encoding) (code : ℕ) (bytes : List ℕ) (s : Simple) (rest left : List ℕ) (kinds : Operand × Operand) → names_local (code ∷ bytes) ≡ false → expression_operands code ≡ Some kinds → both_operands e kinds bytes ≡ Ok (tt, left)
    → after_operands code bytes (tt, left) ≡ Ok (s, rest) → Again e (code ∷ bytes) s rest
other_found e code bytes s rest left kinds t known r is =
    let f = (operands_local e kinds).takes bytes tt left r in
    let text : before bytes left ≡ f.text = ap (λ (l : List ℕ). before l left) f.split ∙ before_is f.text left in
    let other_bytes = subst (λ (l : List ℕ). names_local (code ∷ l) ≡ false) f.split t in
    let whole : Again e (code ∷ bytes) (other code f.text) left = (
      ap (λ (l : List ℕ). code ∷ l) f.split,
      λ following.
          other_is e code (f.text ++ following) following kinds (still_other e code kinds f.text left following known f.again other_bytes) known (f.again following)
          ∙ ap (λ (l : List ℕ). Ok (other code l, following)) (before_is f.text following),
    ) in
    same_again e (code ∷ bytes) (other code f.text, left) (s, rest) (ap (λ (l : List ℕ). (other code l, left)) (sym text) ∙ ok_same (other code (before bytes left), left) (s, rest) is) whole

other_again : (e : Encoding) (code : ℕ) (bytes : List ℕ) (s : Simple) (rest : List ℕ) → names_local (code ∷ bytes) ≡ false → simple_operation e (code ∷ bytes) ≡ Ok (s, rest) → Again e (code ∷ bytes) s rest
unfolding simple_operation
other_again e code bytes s rest t r =
    let x = bind_ok (some_or (expression_operands code) faults.UnknownOperation) (after_kinds e code bytes) (s, rest) (rw t at r) in
    let known = some_or_ok (expression_operands code) faults.UnknownOperation x.0 x.1 in
    let y = bind_ok (both_operands e x.0 bytes) (after_operands code bytes) (s, rest) x.2 in
    other_found e code bytes s rest y.0.1 x.0 t known y.1 y.2

pub no_operation : (e : Encoding) → simple_operation e [] ≡ Err faults.Truncated
unfolding simple_operation
no_operation e = refl

pub again : (e : Encoding) (bytes : List ℕ) (s : Simple) (rest : List ℕ) → simple_operation e bytes ≡ Ok (s, rest) → Again e bytes s rest
again e [] s rest r = absurd (not_both (no_operation e) r)
again e (code ∷ bytes) s rest r =
    elim (cases_Bool (names_local (code ∷ bytes))) [
      | inl t ↦ local_again e (code ∷ bytes) s rest t r
      | inr f ↦ other_again e code bytes s rest f r
    ]

again_shorter : (e : Encoding) (bytes : List ℕ) (s : Simple) (rest : List ℕ) → Again e bytes s rest → length rest < length bytes
again_shorter e bytes (local index) rest a = omega (arith, ap length a.1, length-append a.0 rest)
again_shorter e bytes (other code ops) rest a = omega (arith, ap length a.0, length-append ops rest)

pub shorter : (e : Encoding) (bytes : List ℕ) (s : Simple) (rest : List ℕ) → simple_operation e bytes ≡ Ok (s, rest) → length rest < length bytes
shorter e bytes s rest r = again_shorter e bytes s rest (again e bytes s rest r)

-- DW_OP_entry_value
pub entry_shorter : (bytes : List ℕ) (code : ℕ) (inside rest : List ℕ) → entry_value_parts bytes ≡ Ok ((code, inside), rest) → (tail : List ℕ) × (bytes ≡ code ∷ tail) × (length rest < length bytes)
unfolding entry_value_parts
entry_shorter [] code inside rest r = absurd cc
entry_shorter (c ∷ bytes) code inside rest r =
    let x = bind_ok (sized unsigned_leb bytes) (λ x. Ok ((c, x.0), x.1)) ((code, inside), rest) r in
    let f = (sized_local unsigned_leb unsigned_local).takes bytes x.0.0 x.0.1 x.1 in
    let same = ok_same ((c, x.0.0), x.0.1) ((code, inside), rest) x.2 in
    let one : c ≡ code = ap (λ (z : (ℕ × List ℕ) × List ℕ). z.0.0) same in
    let end : x.0.1 ≡ rest = ap (λ (z : (ℕ × List ℕ) × List ℕ). z.1) same in
    (bytes, ap (λ (n : ℕ). n ∷ bytes) one, omega (arith, ap length f.split, length-append f.text x.0.1, ap length end))

-- the operation has operands of these kinds
pub has_kinds : (test : Operand → Bool) (s : Simple) (kinds : Operand × Operand) (b : Bool) → b ≡ (test kinds.0 || test kinds.1) → kinds ≡ expression_operands_of s → b ≡ simple_has test s
has_kinds test s kinds b e f = e ∙ ap (λ (k : Operand × Operand). test k.0 || test k.1) f
