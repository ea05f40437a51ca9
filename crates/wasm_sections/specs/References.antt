-- The functions to which a module refers outside of bodies and custom sections (WebAssembly core specification 3.0, validation,
-- modules: the context's `refs`, as a list), and the start function.
use Rattle.std.specs.Prelude.{◌≡◌, ◌⊎◌, ◌==◌, ◌%◌, ◌++◌, ℕ, zero, suc, nat_le, if◌then◌else◌, Bool, true, false, List, [], ◌∷◌, length, flat_map, Result, Ok, Err}
use Rattle.std.specs.List.{concat}
use Rattle.wasm_numbers.specs.declared.fault.ReadFault.TheVariants as unread
use Rattle.wasm_numbers.specs.Results.{◌>>=◌, each}
use Rattle.wasm_operators.specs.declared.immediates.Immediates.TheVariants as immediates
use Rattle.wasm_operators.specs.declared.types.Opcode.{Opcode}
use Rattle.wasm_operators.specs.declared.types.Opcode.TheVariants.{Byte, Prefixed}
use Rattle.wasm_operators.specs.declared.types.Space.{Space}
use Rattle.wasm_operators.specs.declared.types.Space.TheVariants.{Funcs}
use Rattle.wasm_operators.specs.Operations.{RawOperation}
use Rattle.wasm_operators.specs.Parts.{ListedImmediates, shape_of}
use Rattle.wasm_sections.specs.declared.fault.ModuleError.{ModuleError}
use Rattle.wasm_sections.specs.declared.fault.ModuleFault.{ModuleFault}
use Rattle.wasm_sections.specs.declared.fault.ModuleFault.TheVariants as fault
use Rattle.wasm_sections.specs.Format.{operator_part, ends_constant, is_end_opcode, table_front_part, global_type_part, export_part, element_flags_part, element_type_part}
use Rattle.wasm_sections.specs.Parts.{Part, fault_here, just, ◌>=>◌, checked, number, vector_of}
use Rattle.wasm_sections.specs.Sections.{SectionAt}

-- ---- constant expressions (binary format, expressions)

-- `ref.func` (binary format, reference instructions)
abbrev pub is_ref_func : Opcode → Bool
is_ref_func (Byte b) = b == 0xd2
is_ref_func (Prefixed p n) = false

-- the index that is the only immediate
abbrev pub only_index : ListedImmediates → List ℕ
only_index (immediates.Index space n) = n ∷ []
only_index _ = []

-- the function to which an operator of a constant expression refers: that of `ref.func`
abbrev pub referred_by : RawOperation → List ℕ
referred_by o = if is_ref_func o.opcode then only_index (shape_of o.immediates) else []

-- an operator, if it may be in a constant expression
abbrev pub if_constant : RawOperation → Result RawOperation ModuleFault
if_constant o = ends_constant o >>= λ is_end. Ok o

-- the operators up to the `end`, which is the last of them; at most so many
unfoldable pub expression_part : (most : ℕ) → Part (List RawOperation)
expression_part zero end text = Err (fault_here end text (fault.Read unread.Truncated))
expression_part (suc n) end text =
    checked operator_part if_constant end text >>= λ x.
    if is_end_opcode x.0.opcode then Ok (x.0 ∷ [], x.1) else expression_part n end x.1 >>= λ others. Ok (x.0 ∷ others.0, others.1)

-- a constant expression: the functions to which its operators refer; each operator has at least one byte
abbrev pub constant_references : Part (List ℕ)
constant_references end text = (expression_part (length text) >=> λ operators. just (flat_map referred_by operators)) end text

-- the same if it is there
abbrev pub constant_references_if : (is_there : Bool) → Part (List ℕ)
constant_references_if true = constant_references
constant_references_if false = just []

-- ---- items of sections (binary format, modules)

-- the index of a function
abbrev pub index_references : Part (List ℕ)
index_references = number >=> λ index. just (index ∷ [])

-- a vector: the functions to which each item refers, in order
abbrev pub references_of_each : Part (List ℕ) → Part (List ℕ)
references_of_each item = vector_of item >=> λ found. just (concat found)

-- a table: the functions of its initial value, if it has one
abbrev pub table_references : Part (List ℕ)
table_references = table_front_part >=> constant_references_if

-- a global: the functions of its initial value
abbrev pub global_references : Part (List ℕ)
global_references = global_type_part >=> λ type. constant_references

-- an export: the function that is exported, if it is one
abbrev pub exported_function : Space → (index : ℕ) → List ℕ
exported_function Funcs index = index ∷ []
exported_function _ index = []

abbrev pub export_references : Part (List ℕ)
export_references = export_part >=> λ x. just (exported_function x.1 x.2)

-- an element: the functions of an expression, from flag 4 on, or the function with an index
abbrev pub element_references : (are_expressions : Bool) → Part (List ℕ)
element_references true = constant_references
element_references false = index_references

-- the elements of a segment with these flags, after their kind or type
abbrev pub elements_references : (flags : ℕ) → Part (List ℕ)
elements_references flags = element_type_part flags >=> λ u. references_of_each (element_references (nat_le 4 flags))

-- an element segment: the functions of its offset, where bit 0 of the flags is clear, and those of its elements
abbrev pub segment_references : Part (List ℕ)
segment_references =
    element_flags_part >=> λ flags. constant_references_if ((flags % 2) == 0) >=> λ offset. elements_references flags >=> λ elements.
    just (offset ++ elements)

-- an item of the section with this id
abbrev pub item_references : (id : ℕ) → Part (List ℕ)
item_references id =
    if id == 4 then table_references
    else if id == 6 then global_references
    else if id == 7 then export_references
    else segment_references

-- ---- sections

-- the contents of the section with this id: the functions of its items, or the start function; no other section refers to one
abbrev pub contents_references : (id : ℕ) → Part (List ℕ)
contents_references id =
    if id == 4 then references_of_each (item_references 4)
    else if id == 6 then references_of_each (item_references 6)
    else if id == 7 then references_of_each (item_references 7)
    else if id == 8 then index_references
    else if id == 9 then references_of_each (item_references 9)
    else just []

abbrev pub section_references : SectionAt → Result (List ℕ) ModuleError
section_references s = contents_references s.id s.end s.contents >>= λ x. Ok x.0

-- the functions to which the sections of a module refer, in order, each as often as they refer to it
abbrev pub references_of : List SectionAt → Result (List ℕ) ModuleError
references_of sections = each section_references sections >>= λ found. Ok (concat found)

-- ---- for results of the code

-- The functions to which a part refers are added, and these bytes follow the part; or this is its fault, unless memory ran out.
abbrev pub AddsReferences : (old new following : List ℕ) → Result (Unit {0}) ModuleError → (part : Result (List ℕ × List ℕ) ModuleError) → Type 0
AddsReferences old new following (Ok u) part = (found : List ℕ) × (part ≡ Ok (found, following)) × (new ≡ old ++ found)
AddsReferences old new following (Err e) part = (e.fault ≡ fault.Memory) ⊎ (part ≡ Err e)

-- The same of an operator of a constant expression, which is the last one or not.
abbrev pub AddsOperator : (old new following : List ℕ) → (is_end : Result Bool ModuleError) → (part : Result (RawOperation × List ℕ) ModuleError) → Type 0
AddsOperator old new following (Ok is_end) part =
    (o : RawOperation) × (part ≡ Ok (o, following)) × (is_end_opcode o.opcode ≡ is_end) × (new ≡ old ++ referred_by o)
AddsOperator old new following (Err e) part = (e.fault ≡ fault.Memory) ⊎ (part ≡ Err e)

-- what an operator of a constant expression refers to, and whether it is the last one
abbrev pub constant_reference : RawOperation → Result (List ℕ × Bool) ModuleFault
constant_reference o = ends_constant o >>= λ is_end. Ok (referred_by o, is_end)
