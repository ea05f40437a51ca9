use Rattle.wasm_module.proofs.ChangedLemmas.{changed_module}
use Rattle.wasm_module.proofs.laws.law_changed_module.Goals as goal

pub returns : goal.returns
returns g c = λ source now before after kept changes omitted new x k w.
    changed_module g.C.ChangeFunction.changes source before after now kept x k changes omitted new w
