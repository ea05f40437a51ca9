use Rattle.std.proofs.Common.{◌≡◌, ◌≤◌, length}
use Rattle.wasm_sections.specs.Declarations.{max_locals}
use Rattle.wasm_sections.proofs.LocalLemmas.{DeclareSoFar}
use Rattle.wasm_sections.proofs.locals.Locals.declared.Given as goal

abbrev pub invariant-groups : goal.invariant-groups
invariant-groups l = record {
  declare : DeclareSoFar l.indices l.counter l.initial.input.rest.now l.input.rest.now l.params l.locals.types;
  count : l.locals.count ≡ length l.locals.types;
  few : length l.params ≤ max_locals → l.locals.count ≤ max_locals;
}
