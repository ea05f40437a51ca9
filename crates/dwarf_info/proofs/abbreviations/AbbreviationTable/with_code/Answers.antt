use Rattle.std.proofs.Common.{length, Option, option_map, sym, ap, ◌∙◌}
use Rattle.wasm_numbers.specs.Results.{some_or}
use Rattle.dwarf_bytes.specs.declared.fault.DebugFault.TheVariants.{BadNumber}
use Rattle.dwarf_info.specs.declared.abbreviations.Abbreviation.{Abbreviation}
use Rattle.dwarf_info.specs.InMemory.{declaration_of}
use Rattle.dwarf_info.specs.Sound.{HasAttributes}
use Rattle.dwarf_info.proofs.Search.{all_found, if_copied}
use Rattle.dwarf_info.proofs.Tables.{declaration_found}
use Rattle.dwarf_info.proofs.abbreviations.AbbreviationTable.with_code.Goals as goal

pub returns-in-Some-clause-found : goal.returns-in-Some-clause-found
returns-in-Some-clause-found c =
    let t = c.args.self.now in
    declaration_found t.attributes.now t.abbreviations.now c.args.code
    ∙ ap (λ (o : Option Abbreviation). some_or (option_map (declaration_of t.attributes.now) o) BadNumber) c.in-Some.ensures

pub returns-in-Some-clause-within : goal.returns-in-Some-clause-within
returns-in-Some-clause-within c =
    let t = c.args.self.now in
    all_found (HasAttributes (length t.attributes.now)) (λ (a : Abbreviation). a.code) c.args.code t.abbreviations.now c.in-Some.abbreviation.now t.sound.1 c.in-Some.ensures

pub returns-in-None-clause-found : goal.returns-in-None-clause-found
returns-in-None-clause-found c =
    let t = c.args.self.now in
    declaration_found t.attributes.now t.abbreviations.now c.args.code
    ∙ ap (λ (o : Option Abbreviation). some_or (option_map (declaration_of t.attributes.now) o) BadNumber) (sym c.search.ensures)

pub returns-in-None-clause-within : goal.returns-in-None-clause-within
returns-in-None-clause-within c =
    let t = c.args.self.now in
    if_copied (HasAttributes (length t.attributes.now)) c.search.result
    (λ x e. all_found (HasAttributes (length t.attributes.now)) (λ (a : Abbreviation). a.code) c.args.code t.abbreviations.now x t.sound.1 (sym c.search.ensures ∙ e))
