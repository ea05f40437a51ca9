-- Entries that are written are read.
use Rattle.std.proofs.Common.{◌≡◌, ℕ, ◌^◌, ◌<◌, false, eqb, ◌&&◌, List, ◌++◌, length, Ok, refl, ap, ◌∙◌, inl, inr, append_assoc}
use Rattle.std.proofs.lemmas.Bool.{eq-eqb, cases_Bool}
use Rattle.dwarf_bytes.specs.declared.size.Size.{Size}
use Rattle.dwarf_bytes.specs.Numbers.{size_in_bytes, fixed_number}
use Rattle.dwarf_bytes.specs.Writing.{fixed_bytes}
use Rattle.dwarf_bytes.proofs.Fixed.{fixed_read}
use Rattle.dwarf_bytes.proofs.Local.{parts_again}
use Rattle.dwarf_expressions.specs.Expressions.{sized}
use Rattle.dwarf_lists.specs.declared.entry.Kind.{Kind}
use Rattle.dwarf_lists.specs.Entries.{base, range, greatest, of_pair, expression_of, list_entry}
use Rattle.dwarf_lists.specs.Moving.{non_zero}

-- a pair of addresses is read
pub pair_read : (kind : Kind) (size : Size) (one other : ℕ) (following : List ℕ) → one < 256 ^ size_in_bytes size → other < 256 ^ size_in_bytes size
    → list_entry kind size ((fixed_bytes (size_in_bytes size) one ++ fixed_bytes (size_in_bytes size) other) ++ following) ≡ of_pair kind (greatest size) one other following
unfolding list_entry
pair_read kind size one other following p q =
    let n = size_in_bytes size in
    let first = fixed_read n one (fixed_bytes n other ++ following) p in
    let second = fixed_read n other following q in
    let text = append_assoc (fixed_bytes n one) (fixed_bytes n other) following in
    rw (text, first, second) refl

pub base_read : (kind : Kind) (size : Size) (most address : ℕ) (following : List ℕ) → most ≡ greatest size → most < 256 ^ size_in_bytes size → address < 256 ^ size_in_bytes size
    → list_entry kind size ((fixed_bytes (size_in_bytes size) most ++ fixed_bytes (size_in_bytes size) address) ++ following) ≡ Ok (base address, following)
base_read kind size most address following is p q =
    pair_read kind size most address following p q ∙ (let same = eq-eqb most (greatest size) is in rw same refl)

pub range_is : (kind : Kind) (size : Size) (low high : ℕ) (text expression following : List ℕ) → low < 256 ^ size_in_bytes size → high < 256 ^ size_in_bytes size → eqb low (greatest size) ≡ false → (eqb low 0 && eqb high 0) ≡ false
    → expression_of kind (text ++ following) ≡ Ok (expression, following)
    → list_entry kind size (((fixed_bytes (size_in_bytes size) low ++ fixed_bytes (size_in_bytes size) high) ++ text) ++ following) ≡ Ok (range low high expression, following)
range_is kind size low high text expression following p q not_base not_end read =
    let pair = fixed_bytes (size_in_bytes size) low ++ fixed_bytes (size_in_bytes size) high in
    ap (list_entry kind size) (append_assoc pair text following) ∙ (pair_read kind size low high (text ++ following) p q ∙ rw (not_base, not_end, read) refl)

-- an expression after its length is read
pub sized_read : (expression following : List ℕ) → length expression < 256 ^ 2 → sized (fixed_number 2) ((fixed_bytes 2 (length expression) ++ expression) ++ following) ≡ Ok (expression, following)
sized_read expression following few =
    let read = fixed_read 2 (length expression) (expression ++ following) few in
    rw (append_assoc (fixed_bytes 2 (length expression)) expression following, read, parts_again expression following) refl

pub never_zero : (pair : ℕ × ℕ) → (eqb (non_zero pair).0 0 && eqb (non_zero pair).1 0) ≡ false
never_zero (low, high) =
    elim (cases_Bool (eqb low 0 && eqb high 0)) [
      | inl t ↦ rw t refl
      | inr f ↦ rw (f, f) refl
    ]
