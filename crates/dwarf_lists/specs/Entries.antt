-- Lists of ranges and of locations (DWARF 4, sections 2.17.3 and 2.6.2).
use Rattle.std.specs.Prelude.{◌≡◌, ℕ, ◌-◌, ◌^◌, ◌&&◌, ◌==◌, if◌then◌else◌, List, [], Ok, ⊤}
use Rattle.wasm_numbers.specs.Results.{◌>>=◌}
use Rattle.dwarf_bytes.specs.declared.size.Size.{Size}
use Rattle.dwarf_bytes.specs.Faults.{DebugReader}
use Rattle.dwarf_bytes.specs.Numbers.{size_in_bytes, fixed_number}
use Rattle.dwarf_expressions.specs.Expressions.{BeginWith, sized}
use Rattle.dwarf_lists.specs.declared.entry.Kind.{Kind}
use Rattle.dwarf_lists.specs.declared.entry.Kind.TheVariants.{Ranges, Locations}

-- The end of a list; the address from which entries are counted that follow; or a range from `low` on, up to `high`, counted from that
-- address, with the expression of a location. A range has no expression.
pub data Entry : Type 0 where
  end : Entry
  base : (address : ℕ) → Entry
  range : (low high : ℕ) (expression : List ℕ) → Entry

abbrev pub greatest : Size → ℕ
greatest size = 256 ^ size_in_bytes size - 1

-- the expression of a location follows its length in two bytes
abbrev pub expression_of : Kind → DebugReader (List ℕ)
expression_of Ranges bytes = Ok ([], bytes)
expression_of Locations bytes = sized (fixed_number 2) bytes

-- An entry is a pair of addresses. If the first is the greatest one, the second is the base; two zeros are the end.
abbrev pub of_pair : Kind → (greatest low high : ℕ) → DebugReader Entry
of_pair kind most low high bytes =
    if low == most then Ok (base high, bytes)
    else if (low == 0) && (high == 0) then Ok (end, bytes)
    else (expression_of kind bytes >>= λ x. Ok (range low high x.0, x.1))

unfoldable pub list_entry : Kind → Size → DebugReader Entry
list_entry kind size bytes =
    fixed_number (size_in_bytes size) bytes >>= λ low.
    fixed_number (size_in_bytes size) low.1 >>= λ high.
    of_pair kind (greatest size) low.0 high.0 high.1

-- ---- lists

abbrev pub IsItem : Entry → Type 0
IsItem end = ⊥
IsItem (base address) = ⊤
IsItem (range low high expression) = ⊤

abbrev pub BeginsItem : Kind → Size → List ℕ → Entry → List ℕ → Type 0
BeginsItem kind size bytes x rest = IsItem x × (list_entry kind size bytes ≡ Ok (x, rest))

-- the bytes begin with a list of these entries up to its end, and these bytes follow
abbrev pub BeginsList : Kind → Size → List ℕ → List Entry → List ℕ → Type 0
BeginsList kind size bytes xs rest = (last : List ℕ) × BeginWith (BeginsItem kind size) bytes xs last × (list_entry kind size last ≡ Ok (end, rest))
