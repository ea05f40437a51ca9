-- What follows the code in the entries of a section, step by step: of each unit, of each of its entries, of each attribute, in order
-- (DWARF 5, sections 2.2, 2.17, 3.1 and 3.3).
use Rattle.std.specs.Prelude.{ℕ, zero, suc, ◌-◌, Bool, true, false, ◌&&◌, ◌||◌, ◌==◌, if◌then◌else◌, unwrap_or, fold, List, [], ◌∷◌, ◌++◌, length, take, slice_get, Option, Some, None, Result, Ok, Err}
use Rattle.wasm_numbers.specs.Results.{◌>>=◌}
use Rattle.code_moves.specs.declared.body.Body.{Body}
use Rattle.dwarf_bytes.specs.declared.fault.DebugFault.{DebugFault}
use Rattle.dwarf_bytes.specs.declared.fault.DebugFault.TheVariants.{Truncated}
use Rattle.dwarf_bytes.specs.Addresses.{AddressesOfUnit, indexed_address}
use Rattle.dwarf_expressions.specs.declared.encoding.Encoding.{Encoding}
use Rattle.dwarf_info.specs.declared.attribute.Meaning.{Meaning}
use Rattle.dwarf_info.specs.declared.attribute.Meaning.TheVariants as means
use Rattle.dwarf_info.specs.declared.context.EntryPlaces.{EntryPlaces}
use Rattle.dwarf_info.specs.declared.effect.Effect.{Effect}
use Rattle.dwarf_info.specs.declared.form.Form.{Form}
use Rattle.dwarf_info.specs.declared.form.FormClass.{FormClass}
use Rattle.dwarf_info.specs.declared.form.FormClass.TheVariants as forms
use Rattle.dwarf_info.specs.declared.form.Layout.{Layout}
use Rattle.dwarf_info.specs.declared.moved.CodeRange.{CodeRange}
use Rattle.dwarf_info.specs.declared.scope.Scope.{Scope}
use Rattle.dwarf_info.specs.declared.scope.Scope.TheVariants as scopes
use Rattle.dwarf_info.specs.declared.unit.UnitSection.{UnitSection}
use Rattle.dwarf_info.specs.Abbreviations.{AbbreviationsAt}
use Rattle.dwarf_info.specs.Effects.{UnitBases, EntryContext, subprogram, scope_of_entry, effect_of}
use Rattle.dwarf_info.specs.Entries.{SpelledAttribute, SpelledEntry, next_entry}
use Rattle.dwarf_info.specs.Forms.{SpelledValue}
use Rattle.dwarf_info.specs.Units.{SpelledUnit, spelled_unit}

-- ---- what the attributes of an entry say of places

abbrev pub no_places : EntryPlaces
no_places = record { low = None; has_ranges = false; addresses = 0; range_lists = 0; location_lists = 0 }

abbrev pub places_by : EntryPlaces → Meaning → Form → (number : ℕ) → EntryPlaces
places_by p means.LowPc form n = record p { low = Some (form, n) }
places_by p means.Ranges form n = record p { has_ranges = true }
places_by p means.AddressBase form n = record p { addresses = n }
places_by p means.RangeListBase form n = record p { range_lists = n }
places_by p means.LocationListBase form n = record p { location_lists = n }
places_by p _ form n = p

abbrev pub places_after : EntryPlaces → SpelledAttribute → EntryPlaces
places_after p a = places_by p a.meaning a.form a.value.number

abbrev pub entry_places : List SpelledAttribute → EntryPlaces
entry_places attributes = fold places_after no_places attributes

-- the address that a value is, if it is one
abbrev pub address_of_class : AddressesOfUnit → FormClass → (number : ℕ) → Result (Option ℕ) DebugFault
address_of_class t forms.Address n = Ok (Some n)
address_of_class t forms.AddressIndex n = indexed_address t n >>= λ a. Ok (Some a.value)
address_of_class t _ n = Ok None

-- the first address of an entry's code (DW_AT_low_pc)
abbrev pub low_address : AddressesOfUnit → Option (Form × ℕ) → Result (Option ℕ) DebugFault
low_address t None = Ok None
low_address t (Some (form, n)) = address_of_class t form.class n

-- What the first entry of a unit says of what the entries are counted from. `section`: the contents of `.debug_addr`.
abbrev pub addresses_said : Encoding → (section : List ℕ) → EntryPlaces → AddressesOfUnit
addresses_said e section p = record { section = section; base = p.addresses; size = e.address_size }

abbrev pub bases_said : Encoding → (section : List ℕ) → EntryPlaces → Result UnitBases DebugFault
bases_said e section p =
    low_address (addresses_said e section p) p.low >>= λ low.
    Ok (record { addresses = addresses_said e section p; ranges = p.range_lists; locations = p.location_lists; low = unwrap_or low 0 })

-- the bases that are known, or else those that this entry says: it is the first one
abbrev pub bases_known : Option UnitBases → Encoding → (section : List ℕ) → EntryPlaces → Result UnitBases DebugFault
bases_known (Some bases) e section p = Ok bases
bases_known None e section p = bases_said e section p

-- ---- steps

-- A step: the code of a function or a unit is noted; or a value in this layout has this effect.
pub data EntryStep : Type 0 where
  notes : CodeRange → EntryStep
  changes : EntryContext → Layout → SpelledValue → Effect → EntryStep

-- steps in order, and faults among them: the first one ends all
abbrev pub EntrySteps : Type 0
EntrySteps = List (Result EntryStep DebugFault)

-- the steps with what is read or decided, or the fault
abbrev pub steps_with : {A : Type 0} → Result A DebugFault → (A → EntrySteps) → EntrySteps
steps_with (Ok x) f = f x
steps_with (Err fault) f = Err fault ∷ []

-- ---- the steps of an attribute

abbrev pub is_high_pc : Meaning → Bool
is_high_pc means.HighPc = true
is_high_pc _ = false

-- the tag of a unit (section 7.5.3)
abbrev pub compile_unit : ℕ
compile_unit = 0x11

-- where the code begins that is noted, if DW_AT_high_pc of this entry says how far it goes
abbrev pub noted_begin : EntryContext → Meaning → Option ℕ
noted_begin c m = if is_high_pc m && ((c.tag == subprogram) || (c.tag == compile_unit)) then c.low else None

-- DW_AT_high_pc is the address after the code, or how many bytes the code has (section 2.17.2).
abbrev pub code_length : (begin number : ℕ) → (end : Option ℕ) → ℕ
code_length begin number None = number
code_length begin number (Some end) = end - begin

abbrev pub noted : EntryContext → SpelledAttribute → (begin : ℕ) → Result EntryStep DebugFault
noted c a begin =
    address_of_class c.bases.addresses a.form.class a.value.number >>= λ end.
    Ok (notes (record { unit = c.unit; begin = begin; length = code_length begin a.value.number end }))

abbrev pub noting_steps : EntryContext → SpelledAttribute → Option ℕ → EntrySteps
noting_steps c a None = []
noting_steps c a (Some begin) = noted c a begin ∷ []

abbrev pub change_decided : EntryContext → SpelledAttribute → Result EntryStep DebugFault
change_decided c a = effect_of c a.meaning a.form a.value >>= λ effect. Ok (changes c a.form.layout a.value effect)

-- nothing is done below a function that isn't in the module
abbrev pub is_dropped : Scope → Bool
is_dropped scopes.Dropped = true
is_dropped _ = false

abbrev pub steps_of_attribute : EntryContext → SpelledAttribute → EntrySteps
steps_of_attribute c a =
    if is_dropped c.scope then [] else noting_steps c a (noted_begin c a.meaning) ++ (change_decided c a ∷ [])

abbrev pub steps_of_attributes : EntryContext → List SpelledAttribute → EntrySteps
steps_of_attributes c [] = []
steps_of_attributes c (a ∷ others) = steps_of_attribute c a ++ steps_of_attributes c others

-- ---- the steps of entries

-- of a unit: the bodies of the code, the contents of `.debug_addr`, and the unit
pub record UnitSetting : Type 0 where
  pub bodies : List Body
  pub addresses : List ℕ
  pub unit : SpelledUnit

-- the scope of the entry that owns the next one: the last of those around it; that of the unit around all
abbrev pub innermost_scope : List Scope → Scope
innermost_scope around = unwrap_or (slice_get around (length around - 1)) scopes.Unit

-- the scopes after the end of an entry's children
abbrev pub scopes_closed : List Scope → List Scope
scopes_closed around = take (length around - 1) around

abbrev pub context_with : UnitSetting → UnitBases → (around : Scope) → (tag : ℕ) → (has_ranges : Bool) → (low : Option ℕ) → EntryContext
context_with s bases around tag has_ranges low = record {
  bodies = s.bodies;
  encoding = s.unit.encoding;
  unit = s.unit.start;
  bases = bases;
  scope = scope_of_entry s.bodies around tag low has_ranges;
  tag = tag;
  low = low;
}

-- what the attributes of an entry with this tag are read with, in this scope; what they say of places
abbrev pub context_in : UnitSetting → UnitBases → (around : Scope) → (tag : ℕ) → EntryPlaces → Result EntryContext DebugFault
context_in s bases around tag places =
    low_address bases.addresses places.low >>= λ low. Ok (context_with s bases around tag places.has_ranges low)

-- the scopes for the entry that follows one with this scope
abbrev pub scopes_below : (has_children : Bool) → Scope → List Scope → List Scope
scopes_below has_children scope around = if has_children then around ++ scope ∷ [] else around

-- The steps of an entry, and then the others, in these scopes and with the bases of the unit. The end of an entry's children: one scope fewer.
abbrev pub steps_from_entry : UnitSetting → (around : List Scope) → (known : Option UnitBases) → Option SpelledEntry → (others : List Scope → Option UnitBases → EntrySteps) → EntrySteps
steps_from_entry s around known None others = others (scopes_closed around) known
steps_from_entry s around known (Some entry) others =
    steps_with (bases_known known s.unit.encoding s.addresses (entry_places entry.attributes)) (λ bases.
    steps_with (context_in s bases (innermost_scope around) entry.tag (entry_places entry.attributes)) (λ c.
    steps_of_attributes c entry.attributes ++ others (scopes_below entry.has_children c.scope around) (Some bases)))

-- The steps of the entries that these bytes spell. Each entry takes at least one byte: at most this many are read.
unfoldable pub steps_of_entries : UnitSetting → (most : ℕ) → (around : List Scope) → (known : Option UnitBases) → List ℕ → EntrySteps
steps_of_entries s most around known [] = []
steps_of_entries s zero around known (b ∷ bytes) = Err Truncated ∷ []
steps_of_entries s (suc most) around known (b ∷ bytes) =
    steps_with (next_entry s.unit (b ∷ bytes)) (λ x.
    steps_from_entry s around known x.0 (λ scopes bases. steps_of_entries s most scopes bases x.1))

abbrev pub steps_of_unit : List Body → (addresses : List ℕ) → SpelledUnit → EntrySteps
steps_of_unit bodies addresses u =
    steps_of_entries (record { bodies = bodies; addresses = addresses; unit = u }) (length u.entries) [] None u.entries

-- ---- the steps of units

-- of a section: which one it is, its tables of abbreviations, the bodies of the code, the contents of `.debug_addr`, and its length
pub record SectionSetting : Type 0 where
  pub kind : UnitSection
  pub tables : List AbbreviationsAt
  pub bodies : List Body
  pub addresses : List ℕ
  pub end : ℕ

unfoldable pub steps_of_units : SectionSetting → (most : ℕ) → List ℕ → EntrySteps
steps_of_units s most [] = []
steps_of_units s zero (b ∷ bytes) = Err Truncated ∷ []
steps_of_units s (suc most) (b ∷ bytes) =
    steps_with (spelled_unit s.kind s.tables s.end (b ∷ bytes)) (λ u.
    steps_of_unit s.bodies s.addresses u.0 ++ steps_of_units s most u.1)

abbrev pub steps_of_section : UnitSection → List AbbreviationsAt → List Body → (addresses section : List ℕ) → EntrySteps
steps_of_section kind tables bodies addresses section =
    steps_of_units (record { kind = kind; tables = tables; bodies = bodies; addresses = addresses; end = length section }) (length section) section
