use Rattle.std.proofs.Common.{rules}
use Rattle.wasm_module.specs.ToldModules.{module_told}
use Rattle.wasm_module.proofs.MapLineLemmas.{lines_told}
use Rattle.wasm_module.proofs.WritingLemmas.{ok_so}
use Rattle.wasm_module.proofs.parsed.ParsedModule.write_module_with_map.Goals as goal

pub returns-clause-written : goal.returns-clause-written
returns-clause-written g c =
    let made = c.args.rewritten.now in
    let writes = g.B.BodyWriter.writes made.bodies in
    ok_so c.write_with_sink.result c.write_with_sink.ensures.written (λ w.
    let bodies = module_told writes c.args.self.now made.changes made.omitted w.bytes w.is_written in
    let lines = lines_told (λ s. g.M.Write.contents s.0.now) (λ s. s.0.ghost_name) _ bodies c.write_with_sink.new.sink w.told in
    let name = lines.0 in
    let appends = lines.1 in
    (w.bytes, w.is_written, w.appends, search rules))
