use Rattle.std.proofs.Common.{◌≡◌, drop}
use Rattle.wasm_sections.specs.Sections.{section_id}
use Rattle.wasm_sections.specs.GivenContents.{contents_in}
use Rattle.wasm_sections.proofs.changes.Changes.contents_of.Given as goal

abbrev pub invariant-given : goal.invariant-given
invariant-given l = contents_in (drop l.given-index l.self.given.items) (section_id l.kind) ≡ contents_in l.self.given.items (section_id l.kind)
