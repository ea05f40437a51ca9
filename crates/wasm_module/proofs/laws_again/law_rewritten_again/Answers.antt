use Rattle.wasm_module.proofs.Again.Code.{code_unchanged}
use Rattle.wasm_module.proofs.Again.Rewritten.{body_unchanged}
use Rattle.wasm_module.proofs.laws_again.law_rewritten_again.Goals as goal

pub returns : goal.returns
returns c = record {
  bodies = λ source again bytes p items. body_unchanged bytes source again p items;
  code = λ source again bytes p items. λ s read code code' one at two.
      code_unchanged source again (body_unchanged bytes source again p items) s read code code' items.imported one at two;
}
