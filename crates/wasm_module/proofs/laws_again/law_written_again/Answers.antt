use Rattle.std.proofs.Common.{ap, ◌∙◌}
use Rattle.wasm_sections.specs.Components.{module_of}
use Rattle.wasm_module.specs.ReadAgain.{HasUnchangedCode}
use Rattle.wasm_module.specs.ReadModules.{components_of}
use Rattle.wasm_module.specs.RewrittenCode.{IsRewrittenWith}
use Rattle.wasm_module.proofs.ReadAgainLemmas.{read_again}
use Rattle.wasm_module.proofs.SameModuleLemmas.{written_same}
use Rattle.wasm_module.proofs.Again.Code.{code_unchanged}
use Rattle.wasm_module.proofs.Again.Modules.{written_again, same_module}
use Rattle.wasm_module.proofs.Again.Rewritten.{body_unchanged}
use Rattle.wasm_module.proofs.laws_again.law_written_again.Goals as goal

pub returns : goal.returns
returns c = record {
  alike = λ source again bytes new new' changes changes' omitted omitted' p none w q none' kept v.
      let spells = ap module_of p.bytes_are ∙ p.spells in
      let same = written_same IsRewrittenWith source changes omitted none (components_of source) new spells w in
      let items = (read_again IsRewrittenWith source again bytes new p q same).items in
      let unchanged : HasUnchangedCode source again = λ s read code code' one at two. code_unchanged source again (body_unchanged bytes source again p items) s read code code' items.imported one at two in
      written_again source again unchanged changes changes' omitted omitted' new new' none w q.bytes_are none' kept v;
  same = same_module;
}
