use Rattle.wasm_sections.specs.Components.{start_part}
use Rattle.wasm_module.specs.ReadModules.{components_of}
use Rattle.wasm_module.proofs.ReadingLemmas.{whole_done, start_is, start_fails}
use Rattle.wasm_module.proofs.parsed.ParsedModule.read_start.Goals as goal

pub returns-in-Ok : goal.returns-in-Ok
returns-in-Ok c = λ so.
    let now = c.args.self.now in
    let m = components_of now in
    let new = c.index_in.new.self in
    whole_done (start_part m) c.args.input.end new.end c.args.input.rest.now new.rest.now m c.finish.result
    (start_is m now.spaces c.args.input.end c.args.input.rest.now new.rest.now so c.in-Ok.ensures.is) c.index_in.ensures.same_end c.finish.ensures.is

pub returns-in-Err : goal.returns-in-Err
returns-in-Err c = λ so.
    let now = c.args.self.now in
    start_fails (components_of now) now.spaces c.args.input.end c.args.input.rest.now c.in-Err.error so c.in-Err.ensures.is
