use Rattle.std.proofs.Common.{◌≡◌, ◌-◌}
use Rattle.wasm_sections.specs.Components.{body_part}
use Rattle.wasm_sections.specs.Parts.{passed, repeated}
use Rattle.wasm_module.proofs.parsed.pass_bodies.Given as goal

abbrev pub invariant-bodies : goal.invariant-bodies
invariant-bodies l = record {
  same_end : l.input.end ≡ l.fn.input.end;
  is :
      repeated (λ u. passed body_part) l.count tt l.fn.input.end l.fn.input.rest.now
      ≡ repeated (λ u. passed body_part) (l.count - l.counter) tt l.input.end l.input.rest.now;
}
