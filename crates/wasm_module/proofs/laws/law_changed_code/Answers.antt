use Rattle.wasm_module.proofs.ChangedLemmas.{changed_code}
use Rattle.wasm_module.proofs.laws.law_changed_code.Goals as goal

pub returns : goal.returns
returns g c = λ source now before after kept s text x k w.
    changed_code g.C.ChangeFunction.changes source before after now kept x k s text w
