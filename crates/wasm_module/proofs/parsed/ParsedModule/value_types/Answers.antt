use Rattle.std.proofs.lemmas.Option.{slice_get-get_or}
use Rattle.wasm_module.proofs.TypeSectionLemmas.{value_fails, value_kept}
use Rattle.wasm_module.proofs.parsed.ParsedModule.value_types.Goals as goal

pub returns-in-Err : goal.returns-in-Err
returns-in-Err c = λ limit ids below.
    absurd (value_fails c.args.self.now.spaces.indices limit c.args.types.now c.types.ty-index c.in-Err.error c.in-Err.ensures
    (slice_get-get_or c.args.types.now c.types.ty-index _ c.types-test.true) ids below)

pub types-preserved : goal.types-preserved
types-preserved c = λ limit ids below.
    value_kept c.args.self.now.spaces.indices limit c.args.types.now c.types.ty-index c.in-Ok.ty c.types.made.items c.push.new.self.items c.in-Ok.ensures
    (slice_get-get_or c.args.types.now c.types.ty-index _ c.types-test.true) ids below (c.types.invariant limit ids below) c.in_ok-push-in-Ok.ensures.items
