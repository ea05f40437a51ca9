use Rattle.std.proofs.Common.{◌≡◌, arith}
use Rattle.dwarf_info.specs.declared.abbreviations.Abbreviation.{Abbreviation}
use Rattle.dwarf_info.proofs.Search.{finds_read}
use Rattle.dwarf_info.proofs.abbreviations.AbbreviationTable.find_next_to_first.Goals as goal

pub returns-in-Some : goal.returns-in-Some
returns-in-Some c =
    let a = c.in-Some.abbreviation.now in
    let found = c.in-Some.ensures.lookup in
    let is : a.code ≡ c.args.code = omega arith in
    finds_read (λ (b : Abbreviation). b.code) 0 c.args.self.now.abbreviations.now c.args.self.now.sound.0 _ a c.args.code found.3.0 found.1 is
