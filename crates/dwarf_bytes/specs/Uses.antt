-- Addresses of `.debug_addr` that are used as those of code.
use Rattle.std.specs.Prelude.{◌≡◌, ◌⊎◌, ℕ, ◌+◌, ◌-◌, ◌/◌, ◌^◌, min, List, [], ◌∷◌, ◌++◌, map, length, drop, Bool, ◌&&◌, ◌||◌, ◌==◌, nat_lt, nat_le, if◌then◌else◌, Option, Some, None, Result, Ok, Err}
use Rattle.wasm_numbers.specs.Results.{◌>>=◌, unless}
use Rattle.dwarf_bytes.specs.declared.addresses.Address.{Address}
use Rattle.dwarf_bytes.specs.Addresses.{AddressesOfUnit}
use Rattle.dwarf_bytes.specs.declared.addresses.AddressUse.{AddressUse}
use Rattle.dwarf_bytes.specs.declared.addresses.AddressUses.{AddressUses}
use Rattle.dwarf_bytes.specs.declared.addresses.LongerTable.{LongerTable}
use Rattle.dwarf_bytes.specs.declared.fault.DebugFault.{DebugFault}
use Rattle.dwarf_bytes.specs.declared.fault.DebugFault.TheVariants.{BadLength, BadOffset, Overlap, Unsupported}
use Rattle.dwarf_bytes.specs.declared.size.Format.{Format}
use Rattle.dwarf_bytes.specs.declared.size.Size.{Size}
use Rattle.dwarf_bytes.specs.declared.size.Size.TheVariants.{Eight}
use Rattle.dwarf_bytes.specs.Changes.{SectionChange, end_from}
use Rattle.dwarf_bytes.specs.Merging.{MergeSteps, AreAllMerged, IsFaultOfAll}
use Rattle.dwarf_bytes.specs.Numbers.{size_in_bytes, fixed_number, offset_size}
use Rattle.dwarf_bytes.specs.Patches.{sized_part_of}
use Rattle.dwarf_bytes.specs.Sorting.{sorted_by}

-- those that are told, each with what it becomes
abbrev pub told_address : AddressUse → Address × ℕ
told_address one = (one.address, one.new)

abbrev pub told : AddressUses → List (Address × ℕ)
told u = map told_address u.uses.items

-- the tables that get one more address
abbrev pub lengthened : AddressUses → List LongerTable
lengthened u = u.longer.items

-- ---- a table that gets one more address, which is none

-- how far in front of the first address its length is: a version and two sizes are between them (DWARF 5, section 7.27)
abbrev pub distance_of_length : Format → ℕ
distance_of_length format = size_in_bytes (offset_size format) + 4

-- the table with this length, which counts all that follows it
abbrev pub longer_by_length : AddressesOfUnit → (length_at : ℕ) → (length_size : Size) → (size : ℕ) → Result LongerTable DebugFault
longer_by_length t at size_of_length size =
    if nat_lt size 4 then Err BadLength
    else if nat_lt (length t.section - t.base) (size - 4) then Err BadLength
    else Ok (record { length_at = at; length_size = size_of_length; length = size; end = t.base + (size - 4); size = t.size })

-- the table whose first address this is
unfoldable pub longer_table : AddressesOfUnit → Format → Result LongerTable DebugFault
longer_table t format =
    let at = t.base - distance_of_length format in
    if nat_lt t.base (distance_of_length format) || nat_lt (length t.section) t.base then Err BadOffset
    else (fixed_number (size_in_bytes (offset_size format)) (drop at t.section) >>= λ n. longer_by_length t at (offset_size format) n.0)

-- an address has four or eight bytes
abbrev pub bytes_of_address : Size → ℕ
bytes_of_address Eight = 8
bytes_of_address _ = 4

-- the index of the address that is none, and the tables
abbrev pub none_added : AddressesOfUnit → Format → List LongerTable → Result (ℕ × List LongerTable) DebugFault
none_added t format ls = longer_table t format >>= λ l. Ok ((l.end - t.base) / bytes_of_address t.size, ls ++ l ∷ [])

-- ---- what is replaced

-- The number of this size at this place becomes this one, after the parts before it. Places are numbers of 64 bits.
abbrev pub number_at_replaced : (at : ℕ) → Size → (number : ℕ) → List SectionChange → Result (List SectionChange) DebugFault
number_at_replaced at size n cs =
    sized_part_of at (size_in_bytes size) size n >>= λ c.
    unless (nat_lt (at + size_in_bytes size) (2 ^ 64)) BadOffset >>= λ u.
    unless (nat_le (end_from 0 cs) at) Overlap >>= λ v.
    Ok (cs ++ c ∷ [])

abbrev pub is_same_address : Address → Address → Bool
is_same_address a b = (a.at == b.at) && ((a.value == b.value) && (size_in_bytes a.size == size_in_bytes b.size))

-- An address becomes what it is told, where this one was before it: the same address becomes the same, and only once.
abbrev pub address_replaced : (before : Option (Address × ℕ)) → Address × ℕ → List SectionChange → Result (List SectionChange) DebugFault
address_replaced None x cs = number_at_replaced x.0.at x.0.size x.1 cs
address_replaced (Some b) x cs =
    if is_same_address b.0 x.0 then (unless (b.1 == x.1) Unsupported >>= λ u. Ok cs) else number_at_replaced x.0.at x.0.size x.1 cs

abbrev pub addresses_replaced : (before : Option (Address × ℕ)) → List (Address × ℕ) → List SectionChange → Result (List SectionChange) DebugFault
addresses_replaced before [] cs = Ok cs
addresses_replaced before (x ∷ xs) cs = address_replaced before x cs >>= λ now. addresses_replaced (Some x) xs now

-- A table's length counts one more address (DWARF 5, section 7.27), and after its last address is one that is none: the greatest number.
abbrev pub longer_table_steps : LongerTable → MergeSteps
longer_table_steps t =
    sized_part_of t.length_at (size_in_bytes t.length_size) t.length_size (min (t.length + size_in_bytes t.size) (2 ^ 64 - 1))
    ∷ sized_part_of t.end 0 t.size (256 ^ size_in_bytes t.size - 1) ∷ []

abbrev pub is_same_table : LongerTable → LongerTable → Bool
is_same_table t s =
    (t.length_at == s.length_at)
    && ((size_in_bytes t.length_size == size_in_bytes s.length_size)
    && ((t.length == s.length) && ((t.end == s.end) && (size_in_bytes t.size == size_in_bytes s.size))))

-- each table only once
abbrev pub longer_steps_after : (before : Option LongerTable) → LongerTable → MergeSteps
longer_steps_after None t = longer_table_steps t
longer_steps_after (Some s) t = if is_same_table s t then [] else longer_table_steps t

abbrev pub longer_steps : (before : Option LongerTable) → List LongerTable → MergeSteps
longer_steps before [] = []
longer_steps before (t ∷ ts) = longer_steps_after before t ++ longer_steps (Some t) ts

-- the told addresses by ascending places, and the tables by ascending ends
abbrev pub places_told : List (Address × ℕ) → List (Address × ℕ)
places_told = sorted_by (λ x. x.0.at)

abbrev pub steps_of_longer : List LongerTable → MergeSteps
steps_of_longer ls = longer_steps None (sorted_by (λ (t : LongerTable). t.end) ls)

-- What is replaced in the section: the addresses, and then the tables.
abbrev pub AreAddressesReplaced : (told : List (Address × ℕ)) → List LongerTable → (cs : List SectionChange) → Type 0
AreAddressesReplaced xs ls cs =
    (first : List SectionChange) × (addresses_replaced None (places_told xs) [] ≡ Ok first) × AreAllMerged first (steps_of_longer ls) cs

abbrev pub IsFaultOfAddresses : (told : List (Address × ℕ)) → List LongerTable → DebugFault → Type 0
IsFaultOfAddresses xs ls fault =
    (addresses_replaced None (places_told xs) [] ≡ Err fault)
    ⊎ ((first : List SectionChange) × (addresses_replaced None (places_told xs) [] ≡ Ok first) × IsFaultOfAll first (steps_of_longer ls) fault)
