use Rattle.dwarf.specs.Sections.{contents_by_name}
use Rattle.dwarf.proofs.NamedContents.{contents_are}
use Rattle.dwarf.proofs.sections.DebugSections.get.Goals as goal

pub returns-clause-named : goal.returns-clause-named
returns-clause-named c = contents_are (contents_by_name c.args.self.now.sections.items) c.args.name c.find.result.now c.find.ensures
