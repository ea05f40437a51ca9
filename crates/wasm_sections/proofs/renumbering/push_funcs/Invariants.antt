use Rattle.wasm_operators.specs.declared.types.Space.TheVariants.{Funcs}
use Rattle.walrus_maps.specs.IndexMaps.{numbers_in}
use Rattle.wasm_sections.specs.MovedFunctions.{ArePushed}
use Rattle.wasm_sections.proofs.renumbering.push_funcs.Given as goal

abbrev pub invariant-funcs : goal.invariant-funcs
invariant-funcs l = ArePushed l.first l.index (numbers_in l.fn.to Funcs) (numbers_in l.to Funcs)
