use Rattle.std.proofs.Common.{sym, ◌∙◌}
use Rattle.wasm_module.specs.ReadModules.{components_of}
use Rattle.wasm_module.proofs.ReadingLemmas.{missing_type_at, found_type_at, other_type_at}
use Rattle.wasm_module.proofs.parsed.ParsedModule.func_type.Goals as goal

pub returns-in-Err : goal.returns-in-Err
returns-in-Err c =
    let now = c.args.self.now in
    missing_type_at (components_of now) now.spaces c.args.index c.args.place c.in-Err.error c.of_index.result c.in-Err.ensures c.of_index.ensures.fault c.of_index.ensures.place

pub returns-then-is_func : goal.returns-then-is_func
returns-then-is_func c =
    let now = c.args.self.now in
    found_type_at (components_of now) now.spaces c.args.index c.in-Ok.id c.args.place c.in-Ok.ensures (sym c.is_func.ensures ∙ c.if-is_func.true)

pub returns : goal.returns
returns c =
    let now = c.args.self.now in
    other_type_at (components_of now) now.spaces c.args.index c.in-Ok.id c.args.place c.in-Ok.ensures (sym c.is_func.ensures ∙ c.if-is_func.false)
