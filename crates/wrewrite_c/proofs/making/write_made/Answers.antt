use Rattle.std.proofs.Common.{◌++◌, sym, ap, ◌∙◌}
use Rattle.wasm_module.specs.ToldModules.{module_told}
use Rattle.wasm_module.proofs.KeptLemmas.{on_then}
use Rattle.wrewrite_c.specs.Made.{lines_if}
use Rattle.wrewrite_c.proofs.making.write_made.Goals as goal

pub returns-in-true-clause-written : goal.returns-in-true-clause-written
returns-in-true-clause-written g c =
    let now = c.args.rewritten.now in
    let lines = c.args.made.now.lines.items in
    on_then c.write_module_with_map.result _ _
    (λ made. (
      made.0,
      made.1,
      made.2,
      made.3 ∙ ap (λ b. lines ++ lines_if b (module_told (g.B.BodyWriter.writes now.bodies) c.args.parsed.now now.changes now.omitted made.0 made.1)) (sym c.in-true.is),
    ))
    c.write_module_with_map.ensures.written
