-- Lists of which the code moves.
use Rattle.std.specs.Prelude.{◌≡◌, ◌<◌, ◌≤◌, ◌^◌, ◌⊎◌, ⊤, ℕ, ◌+◌, ◌&&◌, ◌==◌, nat_le, if◌then◌else◌, Bool, true, false, List, [], ◌∷◌, ◌++◌, length, Option, Some, None, MatchOption, Ok}
use Rattle.code_moves.specs.declared.body.Body.{Body}
use Rattle.code_moves.specs.Moves.{body_with_address, new_address}
use Rattle.dwarf_bytes.specs.declared.fault.DebugFault.{DebugFault}
use Rattle.dwarf_bytes.specs.declared.fault.DebugFault.TheVariants as faults
use Rattle.dwarf_bytes.specs.declared.size.Size.{Size}
use Rattle.dwarf_bytes.specs.Numbers.{size_in_bytes}
use Rattle.dwarf_expressions.specs.declared.encoding.Encoding.{Encoding}
use Rattle.dwarf_expressions.specs.Expressions.{ExpressionOperation, IsExpression}
use Rattle.dwarf_expressions.specs.Moving.{IsAppendedOfExpression, IsRefusedOfExpression}
use Rattle.dwarf_lists.specs.declared.entry.Kind.{Kind}
use Rattle.dwarf_lists.specs.declared.entry.Kind.TheVariants.{Ranges, Locations}
use Rattle.dwarf_lists.specs.Entries.{Entry, end, base, range, greatest, list_entry, IsItem}

-- ---- entries

-- The body that a range begins in that is counted from this address. A range that begins or ends after the greatest address begins in
-- no body: no sum of addresses is greater.
abbrev pub list_body_of : List Body → (most from low high : ℕ) → Option Body
list_body_of bodies most from low high = if nat_le (from + low) most && nat_le (from + high) most then body_with_address bodies (from + low) else None

-- Two zeros would be the end of the list. A range without bytes covers no address, wherever it is.
abbrev pub non_zero : ℕ × ℕ → ℕ × ℕ
non_zero (low, high) = if (low == 0) && (high == 0) then (1, 1) else (low, high)

abbrev pub list_range_at : ℕ × ℕ → (expression : List ℕ) → Entry
list_range_at (low, high) expression = range low high expression

-- A range of a body is between the new addresses, counted from where the address goes that it was counted from. Its expression has the
-- new indices of the body's locals.
abbrev pub IsMovedRange : Encoding → List Body → Body → (from low high : ℕ) (expression : List ℕ) → Entry → Type 0
IsMovedRange e bodies b from low high expression new =
    (new_low new_high : ℕ) × (os : List ExpressionOperation) × (added : List ℕ) × (names : Bool)
    × (new_address bodies from + new_low ≡ new_address bodies (from + low))
    × (new_address bodies from + new_high ≡ new_address bodies (from + high))
    × IsExpression e expression os × IsAppendedOfExpression e (Some b) expression os added names
    × (new ≡ list_range_at (non_zero (new_low, new_high)) added)

-- A base goes where its address goes. A range that begins in no body stays as it is.
abbrev pub IsMovedOfList : Encoding → List Body → (from : ℕ) → (old new : Entry) → Type 0
IsMovedOfList e bodies from end new = new ≡ end
IsMovedOfList e bodies from (base address) new = new ≡ base (new_address bodies address)
IsMovedOfList e bodies from (range low high expression) new =
    MatchOption (list_body_of bodies (greatest e.address_size) from low high) (new ≡ range low high expression) (λ b. IsMovedRange e bodies b from low high expression new)

-- the address from which entries are counted after this one, or after all of these
abbrev pub from_after : (from : ℕ) → Entry → ℕ
from_after from end = from
from_after from (base address) = address
from_after from (range low high expression) = from

abbrev pub from_all : (from : ℕ) → List Entry → ℕ
from_all from [] = from
from_all from (x ∷ xs) = from_all (from_after from x) xs

abbrev pub AreMovedOfList : Encoding → List Body → (from : ℕ) → (old new : List Entry) → Type 0
AreMovedOfList e bodies from [] [] = ⊤
AreMovedOfList e bodies from [] (y ∷ ys) = ⊥
AreMovedOfList e bodies from (x ∷ xs) [] = ⊥
AreMovedOfList e bodies from (x ∷ xs) (y ∷ ys) = IsMovedOfList e bodies from x y × AreMovedOfList e bodies (from_after from x) xs ys

-- ---- what is written

-- the text is read as this entry, whatever follows
abbrev pub WritesOfList : Kind → Size → (text : List ℕ) → Entry → Type 0
WritesOfList kind size text x = IsItem x × ((following : List ℕ) → list_entry kind size (text ++ following) ≡ Ok (x, following))

-- a range has no expression
abbrev pub HasExpression : Kind → List ℕ → Type 0
HasExpression Ranges expression = expression ≡ []
HasExpression Locations expression = ⊤

abbrev pub HasItsExpression : Kind → Entry → Type 0
HasItsExpression kind end = ⊤
HasItsExpression kind (base address) = ⊤
HasItsExpression kind (range low high expression) = HasExpression kind expression

-- what is written of an entry, if it changes
abbrev pub IsWrittenIf : Kind → Encoding → List Body → (from : ℕ) (old : Entry) → (text : List ℕ) (changes : Bool) → Type 0
IsWrittenIf kind e bodies from old text true = (new : Entry) × IsMovedOfList e bodies from old new × WritesOfList kind e.address_size text new
IsWrittenIf kind e bodies from old text false = IsMovedOfList e bodies from old old

-- ---- what is refused

-- an address goes before the one that it is counted from, or at least this far after it
abbrev pub IsOutside : List Body → (from address limit : ℕ) → Type 0
IsOutside bodies from address limit =
    (new_address bodies address < new_address bodies from) ⊎ (new_address bodies from + limit ≤ new_address bodies address)

-- what is appended of an expression is longer than a length of two bytes can say
abbrev pub IsTooLong : Encoding → Body → (expression : List ℕ) → Type 0
IsTooLong e b expression =
    (os : List ExpressionOperation) × (added : List ℕ) × (names : Bool) × IsExpression e expression os × IsAppendedOfExpression e (Some b) expression os added names × (65536 ≤ length added)

-- A range can't be written: it begins or ends outside of what its numbers can say, or its expression is too long.
abbrev pub HasNoPlace : Encoding → List Body → Body → (from low high : ℕ) (expression : List ℕ) → Type 0
HasNoPlace e bodies b from low high expression =
    IsOutside bodies from (from + low) (greatest e.address_size)
    ⊎ (IsOutside bodies from (from + high) (256 ^ size_in_bytes e.address_size) ⊎ IsTooLong e b expression)

-- Why a range of a body isn't moved: it can't be written, or the expression of a location is refused.
abbrev pub IsRefusedRange : Kind → Encoding → List Body → Body → (from low high : ℕ) (expression : List ℕ) → DebugFault → Type 0
IsRefusedRange kind e bodies b from low high expression fault =
    ((fault ≡ faults.DoesNotFit) × HasNoPlace e bodies b from low high expression) ⊎ ((kind ≡ Locations) × IsRefusedOfExpression e (Some b) expression fault)

-- why an entry isn't moved
abbrev pub IsRefusedEntry : Kind → Encoding → List Body → (from : ℕ) → Entry → DebugFault → Type 0
IsRefusedEntry kind e bodies from end fault = ⊥
IsRefusedEntry kind e bodies from (base address) fault = (fault ≡ faults.DoesNotFit) × (256 ^ size_in_bytes e.address_size ≤ new_address bodies address)
IsRefusedEntry kind e bodies from (range low high expression) fault =
    MatchOption (list_body_of bodies (greatest e.address_size) from low high) ⊥ (λ b. IsRefusedRange kind e bodies b from low high expression fault)
