use Rattle.std.proofs.Common.{◌≡◌, take}
use Rattle.wasm_sections.proofs.locals.Locals.of_params.Given as goal

abbrev pub invariant-params : goal.invariant-params
invariant-params l = l.types ≡ take l.ty-index l.params
