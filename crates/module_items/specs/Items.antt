-- The items of a section, one by one, and a section in which one is replaced (WebAssembly core specification 3.0, binary format,
-- modules: the contents of most sections are a vector of items).
use Rattle.std.specs.Prelude.{◌-◌, ◌+◌, ℕ, nat_lt, if◌then◌else◌, List, ◌++◌, Option, Some, None, Result, Ok, Err}
use Rattle.wasm_numbers.specs.Results.{◌>>=◌}
use Rattle.wasm_operators.specs.Shortest.{short_number}
use Rattle.wasm_sections.specs.declared.fault.ModuleError.{ModuleError}
use Rattle.wasm_sections.specs.declared.fault.ModuleFault.TheVariants as fault
use Rattle.wasm_sections.specs.declared.sections.SectionKind.{SectionKind}
use Rattle.wasm_sections.specs.declared.sections.SectionKind.TheVariants as kind
use Rattle.wasm_sections.specs.Format.{export_part, import_part, table_part, global_part, tag_part, limits_part, element_segment_part, data_segment_part}
use Rattle.wasm_sections.specs.Parts.{Part, fault_here, just, passed, ◌>=>◌, repeated, extent, number}

-- an item of a section of this kind; those of type and code sections, which are groups and bodies, aren't replaced
abbrev pub item_part : SectionKind → Part (Unit {0})
item_part kind.Import = passed import_part
item_part kind.Function = passed number
item_part kind.Table = passed table_part
item_part kind.Memory = passed limits_part
item_part kind.Tag = passed tag_part
item_part kind.Global = passed global_part
item_part kind.Export = passed export_part
item_part kind.Element = element_segment_part
item_part kind.Data = data_segment_part
item_part _ = λ end text. Err (fault_here end text fault.SectionOutOfOrder)

-- so many items, as their bytes
abbrev pub several_items : SectionKind → (count : ℕ) → Part (List ℕ)
several_items kind count = extent (repeated (λ u. item_part kind) count tt)

-- the items before the one at this place, and that one, as their bytes
abbrev pub items_up_to : SectionKind → (place : ℕ) → Part (List ℕ × List ℕ)
items_up_to kind place = several_items kind place >=> λ before. several_items kind 1 >=> λ item. just (before, item)

-- What becomes of the contents of a section, which end at this place of the file, if the item at a place gives way to so many items with
-- these bytes: the number of items is the new one, in its shortest encoding, and all others stay. None if there is no such item.
abbrev pub replaced_in : SectionKind → (place more : ℕ) → (new : List ℕ) → (count end : ℕ) → (text : List ℕ) → Result (Option (List ℕ)) ModuleError
replaced_in kind place more new count end text =
    if nat_lt place count
    then (items_up_to kind place end text >>= λ x. Ok (Some (short_number ((count - 1) + more) ++ (x.0.0 ++ (new ++ x.1)))))
    else Ok None

abbrev pub contents_replaced : SectionKind → (place more : ℕ) → (new : List ℕ) → (end : ℕ) → (contents : List ℕ) → Result (Option (List ℕ)) ModuleError
contents_replaced kind place more new end contents =
    number end contents >>= λ c. replaced_in kind place more new c.0 end c.1
