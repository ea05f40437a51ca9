use Rattle.std.proofs.Common.{◌≡◌}
use Rattle.wasm_sections.specs.OtherLocals.{HasOtherLocals}
use Rattle.wasm_sections.proofs.spaces.Spaces.ensure_locals.Given as goal

abbrev pub invariant-locals : goal.invariant-locals
invariant-locals l = record {
  others : HasOtherLocals l.fn.self l.self;
  reached : l.self.locals ≡ l.index;
}
