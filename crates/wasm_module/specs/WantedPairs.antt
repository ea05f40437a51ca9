-- What is needed of a body besides its bytes.
use Rattle.std.specs.Prelude.{Bool, true, false}
use Rattle.wasm_module.specs.declared.body_writer.Needed.{Needed}
use Rattle.wasm_module.specs.declared.body_writer.Needed.TheVariants.{Nothing, Pairs, Function}

-- whether its location pairs are
abbrev pub wants_pairs : Needed → Bool
wants_pairs Nothing = false
wants_pairs Pairs = true
wants_pairs Function = true
