use Rattle.dwarf.proofs.IndexCodes.{CodesSoFar}
use Rattle.dwarf.proofs.index_abbreviations.check_codes.Given as goal

abbrev pub invariant-codes : goal.invariant-codes
invariant-codes l = CodesSoFar l.abbreviations l.abbreviation-index l.last
