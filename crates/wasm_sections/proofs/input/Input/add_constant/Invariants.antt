use Rattle.std.proofs.Common.{◌≡◌, length}
use Rattle.wasm_sections.proofs.ReferenceLemmas.{ReferencesLeft}
use Rattle.wasm_sections.proofs.input.Input.add_constant.Given as goal

abbrev pub invariant-operators : goal.invariant-operators
invariant-operators l = record {
  same_end : l.self.end ≡ l.initial.self.end;
  left : ReferencesLeft l.initial.self.end l.initial.self.rest.now l.self.rest.now l.initial.found.items l.found.items;
}

abbrev pub decreases-operators : goal.decreases-operators
decreases-operators l = length l.self.rest.now
