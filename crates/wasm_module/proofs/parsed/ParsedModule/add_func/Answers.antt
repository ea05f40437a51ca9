use Rattle.std.proofs.Common.{ℕ, ◌≡◌, ◌++◌, ◌∷◌, [], length, arith}
use Rattle.wasm_operators.specs.declared.types.Space.TheVariants as spaces
use Rattle.wasm_sections.specs.Components.{Components}
use Rattle.wasm_module.specs.ReadModules.{components_of}
use Rattle.wasm_module.proofs.ReadStepLemmas.{typed_refused, function_added}
use Rattle.wasm_module.proofs.parsed.ParsedModule.add_func.Goals as goal

pub returns-in-Err-add_func : goal.returns-in-Err-add_func
returns-in-Err-add_func c =
    let before = c.args.self.now in
    let m = components_of before in
    typed_refused m before.spaces spaces.Funcs (λ (type : ℕ). let more : Components = record m { functions = m.functions ++ type ∷ [] } in more) c.args.index c.in-Ok.ty c.args.place
    c.in-Err-add_func.error c.of_index.result c.in-Ok.ensures c.in-Err-add_func.ensures.refused c.of_index.ensures.fault c.of_index.ensures.place

pub returns : goal.returns
returns c =
    let before = c.args.self.now in
    let m = components_of before in
    let e = c.in-Ok-add_func.ensures in
    let next : c.new-id.result ≡ length m.functions = omega (arith, c.new-id.ensures, c.len.ensures, before.func_types.ok.0) in
    function_added m before.spaces c.add_func.new.self c.args.index c.in-Ok.ty c.args.place c.new-id.result c.push.new.self.items c.in-Ok.ensures next e.added e.numbered
    c.in_ok-push.ensures.items
