use Rattle.std.proofs.Common.{List, Option, option_map, slice_range, Result, Ok, sym, ap, ◌∙◌}
use Rattle.wasm_numbers.specs.Results.{some_or}
use Rattle.dwarf_bytes.specs.declared.fault.DebugFault.{DebugFault}
use Rattle.dwarf_bytes.specs.declared.fault.DebugFault.TheVariants.{BadNumber}
use Rattle.dwarf.specs.declared.index_abbreviations.IndexAbbreviation.{IndexAbbreviation}
use Rattle.dwarf.specs.declared.index_abbreviations.IndexAttribute.{IndexAttribute}
use Rattle.dwarf.proofs.IndexTables.{attributes_found}
use Rattle.dwarf.proofs.index_abbreviations.IndexAbbreviations.get.Goals as goal

abbrev given : List IndexAttribute → Option IndexAbbreviation → Result (List IndexAttribute) DebugFault
given attributes o = some_or (option_map (λ (a : IndexAbbreviation). slice_range attributes a.first a.end) o) BadNumber

pub returns-in-Some : goal.returns-in-Some
returns-in-Some c =
    let s = c.args.self.now in
    attributes_found s.attributes.items s.abbreviations.items c.args.code
    ∙ ap (given s.attributes.items) (sym c.in-Some.ensures.found)
    ∙ ap (λ (l : List IndexAttribute). let r : Result (List IndexAttribute) DebugFault = Ok l in r) (sym c.attributes_of.ensures)

pub returns-in-None : goal.returns-in-None
returns-in-None c =
    let s = c.args.self.now in
    attributes_found s.attributes.items s.abbreviations.items c.args.code ∙ ap (given s.attributes.items) (sym c.in-None.ensures.found)
