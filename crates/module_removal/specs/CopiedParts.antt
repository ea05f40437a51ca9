-- What is copied of a part of a module whose items have other indices (WebAssembly core specification 3.0, binary format, values and
-- types): what is written for it, with the new indices, and the items that it names.
use Rattle.std.specs.Prelude.{◌≡◌, ◌⊎◌, ℕ, zero, suc, List, [], ◌∷◌, ◌++◌, Option, Result, Ok, Err}
use Rattle.wasm_types.specs.declared.val_type.HeapType.{HeapType}
use Rattle.wasm_types.specs.declared.val_type.HeapType.TheVariants.{Abstract, Concrete}
use Rattle.wasm_types.specs.declared.val_type.ValType.{ValType}
use Rattle.wasm_types.specs.declared.val_type.ValType.TheVariants.{Ref}
use Rattle.wasm_numbers.specs.Results.{◌>>=◌, some_or}
use Rattle.wasm_operators.specs.declared.types.Space.{Space}
use Rattle.wasm_operators.specs.declared.types.Space.TheVariants.{Types}
use Rattle.wasm_operators.specs.Shortest.{short_number, short_value}
use Rattle.wasm_body.specs.declared.error.IndexError.TheVariants as index
use Rattle.wasm_sections.specs.declared.fault.ModuleError.{ModuleError}
use Rattle.wasm_sections.specs.declared.fault.ModuleFault.{ModuleFault}
use Rattle.wasm_sections.specs.declared.fault.ModuleFault.TheVariants as fault
use Rattle.wasm_sections.specs.CodeSections.{entry}
use Rattle.wasm_sections.specs.Format.{value_part, limits_part}
use Rattle.wasm_sections.specs.Parts.{Part, ◌>=>◌, just, checked, extent, number, one_byte, bytes_part}
use Rattle.module_removal.specs.declared.item.Item.{Item}
use Rattle.module_removal.specs.declared.copier.Copier.{Copier}

-- what is written for a part, and the items that it names, in order
pub record Copied : Type 0 where
  pub written : List ℕ
  pub named : List Item

-- bytes are written, and nothing is named
abbrev pub writes : List ℕ → Copied
writes bytes = record { written = bytes; named = [] }

-- an item is named, and nothing is written
abbrev pub names_item : Item → Copied
names_item item = record { written = []; named = item ∷ [] }

abbrev pub copied_both : Copied → Copied → Copied
copied_both a b = record { written = a.written ++ b.written; named = a.named ++ b.named }

-- ---- one part after the other

-- a part with a value, and what is copied of it
abbrev pub CopiedPart : Type 0 → Type 0
CopiedPart A = Part (A × Copied)

-- a part of no bytes, for which these are written, or none
abbrev pub puts : List ℕ → CopiedPart (Unit {0})
puts bytes end text = Ok ((tt, writes bytes), text)

abbrev pub nothing : CopiedPart (Unit {0})
nothing = puts []

infixl 10 ◌>+>◌
-- The second part follows the first, and may depend on its value.
abbrev pub ◌>+>◌ : {A B : Type 0} → CopiedPart A → (A → CopiedPart B) → CopiedPart B
first >+> second = first >=> λ x. second x.0 >=> λ y. just (y.0, copied_both x.1 y.1)

-- the same part with another value
abbrev pub with_other_value : {A B : Type 0} → (A → B) → CopiedPart A → CopiedPart B
with_other_value f part = part >=> λ x. just (f x.0, x.1)

-- so many parts, one after the other
unfoldable pub times : CopiedPart (Unit {0}) → ℕ → CopiedPart (Unit {0})
times part zero = nothing
times part (suc n) = part >+> λ u. times part n

-- ---- values (binary format, values): the same ones, each number in its shortest encoding

abbrev pub copied_byte : CopiedPart ℕ
copied_byte = one_byte >=> λ b. just (b, writes (b ∷ []))

abbrev pub copied_number : CopiedPart ℕ
copied_number = number >=> λ n. just (n, writes (short_number n))

-- a vector of bytes
abbrev pub copied_bytes : CopiedPart (Unit {0})
copied_bytes = bytes_part >=> λ bytes. just (tt, writes (entry bytes))

-- a vector: how many, and each one
abbrev pub copied_vector : CopiedPart (Unit {0}) → CopiedPart (Unit {0})
copied_vector part = copied_number >+> times part

-- ---- indices (binary format, modules, indices)

-- for each item the index that is written for it, if it is left
abbrev pub NewIndices : Type 0
NewIndices = Item → Option ℕ

abbrev pub item_at : Space → (index : ℕ) → Item
item_at space index = record { space = space; index = index }

abbrev pub new_index_of : NewIndices → Item → Result ℕ ModuleFault
new_index_of w item = some_or (w item) (fault.Index (index.Unnumbered item.space))

-- an item: its new index, which isn't written here
abbrev pub named_item : NewIndices → Item → Result (ℕ × Copied) ModuleFault
named_item w item = new_index_of w item >>= λ i. Ok (i, names_item item)

-- its new index, in its shortest encoding
abbrev pub copied_item : NewIndices → Item → Result (Unit {0} × Copied) ModuleFault
copied_item w item = new_index_of w item >>= λ i. Ok (tt, record { written = short_number i; named = item ∷ [] })

-- an index of this space; a fault is where it begins
abbrev pub copied_index : NewIndices → Space → CopiedPart (Unit {0})
copied_index w space = checked number (λ i. copied_item w (item_at space i))

-- ---- types (binary format, types)

-- the heap type, and the value type, with the new index of the type that it names
abbrev pub new_heap : NewIndices → HeapType ℕ → Result (HeapType ℕ × Copied) ModuleFault
new_heap w (Concrete i) = named_item w (item_at Types i) >>= λ x. Ok (Concrete x.0, x.1)
new_heap w (Abstract a) = Ok (Abstract a, writes [])

abbrev pub new_type : NewIndices → ValType ℕ → Result (ValType ℕ × Copied) ModuleFault
new_type w (Ref r) = new_heap w r.heap_type >>= λ h. Ok (Ref (record { nullable = r.nullable; heap_type = h.0 }), h.1)
new_type w t = Ok (t, writes [])

-- in its shortest encoding
abbrev pub written_type : ValType ℕ × Copied → Result (Unit {0} × Copied) ModuleFault
written_type x = Ok (tt, record { written = short_value x.0; named = x.1.named })

abbrev pub copied_value : NewIndices → CopiedPart (Unit {0})
copied_value w = checked value_part (λ t. new_type w t >>= written_type)

-- limits: the same bytes
abbrev pub copied_limits : CopiedPart (Unit {0})
copied_limits = extent limits_part >=> λ bytes. just (tt, writes bytes)

-- ---- for results of the code

-- a fault at this place
abbrev pub fault_with_place : (at : ℕ) → ModuleFault → ModuleError
fault_with_place at f = record { fault = f; at = at }

-- What is copied is appended to what was copied before.
pub record AppendsCopied (old : Copier) (copied : Copied) (new : Copier) : Type 0 where
  pub left : new.left ≡ old.left
  pub out : new.out.items ≡ old.out.items ++ copied.written
  pub found : new.found.items ≡ old.found.items ++ copied.named

-- What is given is copied, with this value; or the fault that is given is the error, unless memory ran out.
abbrev pub PutsCopied : {A : Type 0} → (old new : Copier) → Result A ModuleError → (given : Result (A × Copied) ModuleError) → Type 0
PutsCopied old new (Ok x) given = (copied : Copied) × (given ≡ Ok (x, copied)) × AppendsCopied old copied new
PutsCopied old new (Err e) given = (e.fault ≡ fault.Memory) ⊎ (given ≡ Err e)

-- The same of a part that these bytes follow.
abbrev pub Copies : {A : Type 0} → (old new : Copier) → (following : List ℕ) → Result A ModuleError → (part : Result ((A × Copied) × List ℕ) ModuleError) → Type 0
Copies old new following (Ok x) part = (copied : Copied) × (part ≡ Ok ((x, copied), following)) × AppendsCopied old copied new
Copies old new following (Err e) part = (e.fault ≡ fault.Memory) ⊎ (part ≡ Err e)
