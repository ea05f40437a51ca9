use Rattle.renamed_locals.proofs.NumberedLocals.{written_are_renamed, declarations_have_types}
use Rattle.renamed_locals.proofs.laws.law_written_locals.Goals as goal

pub returns : goal.returns
returns c = record { renamed = written_are_renamed; declarations = declarations_have_types }
