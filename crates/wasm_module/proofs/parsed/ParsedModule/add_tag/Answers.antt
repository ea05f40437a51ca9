use Rattle.std.proofs.Common.{ℕ, ◌++◌, ◌∷◌, []}
use Rattle.wasm_operators.specs.declared.types.Space.TheVariants as spaces
use Rattle.wasm_sections.specs.Components.{Components}
use Rattle.wasm_module.specs.ReadModules.{components_of}
use Rattle.wasm_module.proofs.ReadStepLemmas.{typed_refused, tag_added}
use Rattle.wasm_module.proofs.parsed.ParsedModule.add_tag.Goals as goal

pub returns-in-Err-add_tag : goal.returns-in-Err-add_tag
returns-in-Err-add_tag c =
    let before = c.args.self.now in
    let m = components_of before in
    typed_refused m before.spaces spaces.Tags (λ (type : ℕ). let more : Components = record m { tags = m.tags ++ type ∷ [] } in more) c.args.index c.in-Ok.ty c.args.place
    c.in-Err-add_tag.error c.of_index.result c.in-Ok.ensures c.in-Err-add_tag.ensures.refused c.of_index.ensures.fault c.of_index.ensures.place

pub returns : goal.returns
returns c =
    let before = c.args.self.now in
    let m = components_of before in
    let e = c.in-Ok-add_tag.ensures in
    tag_added m before.spaces c.add_tag.new.self c.args.index c.in-Ok.ty c.args.place c.add.new.self c.in-Ok.ensures e.added e.numbered c.in_ok-add.ensures.ok
