-- What is written of an entry is read as it.
use Rattle.std.proofs.Common.{◌≡◌, ℕ, ◌%◌, ◌<◌, ◌^◌, true, false, List, [], ◌∷◌, ◌++◌, length, Option, Some, None, Ok, refl, ap, ◌∙◌, subst, append_assoc, arith}
use Rattle.dwarf_bytes.specs.declared.size.Size.{Size}
use Rattle.dwarf_bytes.specs.Numbers.{size_in_bytes, fixed_number}
use Rattle.dwarf_bytes.specs.Writing.{padded}
use Rattle.dwarf_bytes.proofs.Fixed.{fixed_read}
use Rattle.dwarf_bytes.proofs.Padded.{padded_read}
use Rattle.dwarf_bytes.proofs.Local.{parts_again}
use Rattle.dwarf_new_lists.specs.declared.kind.Lists.{Lists}
use Rattle.dwarf_new_lists.specs.declared.kind.Kind.{Kind}
use Rattle.dwarf_new_lists.specs.declared.kind.Operand.{Operand}
use Rattle.dwarf_new_lists.specs.declared.kind.Operand.TheVariants.{Nothing, Address, Number}
use Rattle.dwarf_new_lists.specs.Kinds.{new_list_kind_of, new_list_operands, has_expression}
use Rattle.dwarf_new_lists.specs.Entries.{AnEntry, new_list_operand, an_expression, expression, an_entry}
use Rattle.dwarf_new_lists.specs.Writing.{IsText, as_operand, written_operand, FitsOperand, AppendsOfNewList}
use Rattle.dwarf_new_lists.specs.declared.entry.Entry.{Entry}

pub operand_text : (size : Size) (kind : Operand) (width value : ℕ) → FitsOperand size kind value → IsText (new_list_operand size kind) (written_operand size kind width value) (as_operand kind value)
unfolding new_list_operand
operand_text size Nothing width value fits following = refl
operand_text size Address width value fits following = fixed_read (size_in_bytes size) value following fits
operand_text size Number width value fits following = padded_read width value following fits

pub expression_text : (width : ℕ) (added : List ℕ) → length added < 2 ^ 64 → IsText an_expression (padded width (length added) ++ added) (Some added)
expression_text width added few following =
    rw (append_assoc (padded width (length added)) added following, padded_read width (length added) (added ++ following) few, parts_again added following) refl

one_byte : (code : ℕ) (following : List ℕ) → code < 256 → fixed_number 1 (code ∷ following) ≡ Ok (code, following)
one_byte code following small =
    let is : code % 256 ≡ code = omega arith in
    subst (λ (n : ℕ). fixed_number 1 (n ∷ following) ≡ Ok (code, following)) is (fixed_read 1 code following small)

-- an entry, from its operands and its expression
pub entry_text : (lists : Lists) (size : Size) (code : ℕ) (kind : Kind) (one two : List ℕ) (a b : ℕ) (e : List ℕ) (new : Option (List ℕ)) → code < 256 → new_list_kind_of lists code ≡ Some kind
    → IsText (new_list_operand size (new_list_operands kind).0) one a → IsText (new_list_operand size (new_list_operands kind).1) two b → IsText (expression lists kind) e new
    → IsText (an_entry lists size) (code ∷ (one ++ (two ++ e))) (let n : AnEntry = record { kind = kind; one = a; two = b; expression = new } in n)
unfolding an_entry
entry_text lists size code kind one two a b e new byte known first second third following =
    rw (append_assoc one (two ++ e) following, append_assoc two e following)
    (rw (one_byte code (one ++ (two ++ (e ++ following))) byte, known, first (two ++ (e ++ following)), second (e ++ following), third following) refl)

-- the entry has an expression, or none
pub with_expression : (lists : Lists) (kind : Kind) (e : List ℕ) (new : List ℕ) → true ≡ has_expression lists kind → IsText an_expression e (Some new) → IsText (expression lists kind) e (Some new)
with_expression lists kind e new has text following = rw (← has) (text following)

pub without_expression : (lists : Lists) (kind : Kind) → false ≡ has_expression lists kind → IsText (expression lists kind) [] None
without_expression lists kind has following = rw (← has) refl

-- ---- an entry that is appended: its code, its operands, and its expression

-- an entry as it is written
abbrev pub kept : Entry → (expression : Option (List ℕ)) → AnEntry
kept entry new = record {
  kind = entry.kind;
  one = as_operand (new_list_operands entry.kind).0 entry.one.value;
  two = as_operand (new_list_operands entry.kind).1 entry.two.value;
  expression = new;
}

module _ (lists : Lists) (size : Size) (entry : Entry) (kinds : Operand × Operand) (front pushed first second : List ℕ) where
  pub appended : (last text : List ℕ) (new : Option (List ℕ)) → pushed ≡ front ++ entry.code ∷ [] → first ≡ pushed ++ written_operand size kinds.0 entry.one.width entry.one.value
      → second ≡ first ++ written_operand size kinds.1 entry.two.width entry.two.value → last ≡ second ++ text → kinds ≡ new_list_operands entry.kind
      → FitsOperand size kinds.0 entry.one.value → FitsOperand size kinds.1 entry.two.value → entry.code < 256 → new_list_kind_of lists entry.code ≡ Some entry.kind
      → IsText (expression lists entry.kind) text new → AppendsOfNewList (an_entry lists size) front last (kept entry new)
  appended last text new a b d e k f g small known read =
      let kinds_are = new_list_operands entry.kind in
      let one = written_operand size kinds_are.0 entry.one.width entry.one.value in
      let two = written_operand size kinds_are.1 entry.two.width entry.two.value in
      let b' : first ≡ pushed ++ one = b ∙ ap (λ (ks : Operand × Operand). pushed ++ written_operand size ks.0 entry.one.width entry.one.value) k in
      let d' : second ≡ first ++ two = d ∙ ap (λ (ks : Operand × Operand). first ++ written_operand size ks.1 entry.two.width entry.two.value) k in
      let f' = operand_text size kinds_are.0 entry.one.width entry.one.value (subst (λ (ks : Operand × Operand). FitsOperand size ks.0 entry.one.value) k f) in
      let g' = operand_text size kinds_are.1 entry.two.width entry.two.value (subst (λ (ks : Operand × Operand). FitsOperand size ks.1 entry.two.value) k g) in (
        entry.code ∷ (one ++ (two ++ text)),
        joined one two text last a b' d' e,
        entry_text lists size entry.code entry.kind one two _ _ text new small known f' g' read,
      )
    where
      joined : (one two text last : List ℕ) → pushed ≡ front ++ entry.code ∷ [] → first ≡ pushed ++ one → second ≡ first ++ two → last ≡ second ++ text
          → last ≡ front ++ (entry.code ∷ (one ++ (two ++ text)))
      joined one two text last a b d e =
          rw (e, d, b, a, append_assoc ((front ++ entry.code ∷ []) ++ one) two text, append_assoc (front ++ entry.code ∷ []) one (two ++ text), append_assoc front (entry.code ∷ []) (one ++ (two ++ text))) refl
