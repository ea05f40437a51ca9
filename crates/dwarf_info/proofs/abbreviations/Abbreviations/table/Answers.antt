use Rattle.std.proofs.Common.{◌≡◌, List, Option, option_map, map, slice_range, Result, Ok, refl, sym, ap, ◌∙◌}
use Rattle.wasm_numbers.specs.Results.{some_or}
use Rattle.dwarf_bytes.specs.declared.fault.DebugFault.{DebugFault}
use Rattle.dwarf_bytes.specs.declared.fault.DebugFault.TheVariants.{BadOffset}
use Rattle.dwarf_info.specs.declared.abbreviations.Table.{Table}
use Rattle.dwarf_info.specs.Abbreviations.{Declaration}
use Rattle.dwarf_info.specs.InMemory.{declaration_of}
use Rattle.dwarf_info.specs.Views.{declarations_of}
use Rattle.dwarf_info.proofs.Tables.{table_found}
use Rattle.dwarf_info.proofs.abbreviations.Abbreviations.table.Goals as goal

pub returns-in-Some : goal.returns-in-Some
returns-in-Some c =
    let a = c.args.self.now in
    let xs = a.attributes.items in
    let declared : List Declaration = map (declaration_of xs) (slice_range a.abbreviations.items c.in-Some.table.now.first c.in-Some.table.now.end) in
    let same : declarations_of c.part.result ≡ declared = rw (c.part.ensures.abbreviations, c.part.ensures.attributes, c.deref-abbreviations.ensures.value, c.deref-attributes.ensures.value) refl in
    table_found xs a.abbreviations.items a.tables.items c.args.offset
    ∙ (ap (λ (o : Option Table). some_or (option_map (λ (t : Table). map (declaration_of xs) (slice_range a.abbreviations.items t.first t.end)) o) BadOffset) (sym c.in-Some.ensures.found)
    ∙ ap (λ (ds : List Declaration). let r : Result (List Declaration) DebugFault = Ok ds in r) (sym same))

pub returns-in-None : goal.returns-in-None
returns-in-None c =
    let a = c.args.self.now in
    table_found a.attributes.items a.abbreviations.items a.tables.items c.args.offset
    ∙ ap (λ (o : Option Table). some_or (option_map (λ (t : Table). map (declaration_of a.attributes.items) (slice_range a.abbreviations.items t.first t.end)) o) BadOffset) (sym c.in-None.ensures.found)
