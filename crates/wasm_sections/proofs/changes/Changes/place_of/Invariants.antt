use Rattle.std.proofs.Common.{◌≡◌, take, None}
use Rattle.wasm_sections.specs.Sections.{section_id}
use Rattle.wasm_sections.specs.GivenContents.{contents_in}
use Rattle.wasm_sections.proofs.changes.Changes.place_of.Given as goal

abbrev pub invariant-given : goal.invariant-given
invariant-given l = contents_in (take l.at l.self.given.items) (section_id l.fn.kind) ≡ None
