use Rattle.std.proofs.Common.{List, ℕ, length}
use Rattle.wasm_sections.specs.Views.{HasSubsection}
use Rattle.wasm_sections.proofs.input.Input.subsection.Given as goal

abbrev pub invariant-subsections : goal.invariant-subsections
invariant-subsections l = (contents : List ℕ) → HasSubsection l.id l.self.rest.now contents → HasSubsection l.id l.fn.self.rest.now contents

abbrev pub decreases-subsections : goal.decreases-subsections
decreases-subsections l = length l.self.rest.now
