use Rattle.std.proofs.Common.{◌∷◌, [], Ok, sym, ap, ◌∙◌}
use Rattle.wasm_operators.specs.Operations.{branch_table}
use Rattle.wasm_operators.specs.Parts.{immediates_of}
use Rattle.wasm_body.specs.Translation.{translate_immediates}
use Rattle.walrus_run.specs.Namers.{env_of_namer, anywhere}
use Rattle.walrus_run.proofs.NamesAnywhere.{labels_stay}
use Rattle.walrus_run.proofs.naming.Namer.immediates.Goals as goal

pub returns-in_ok-labels-in-Table : goal.returns-in_ok-labels-in-Table
returns-in_ok-labels-in-Table c =
    let env = env_of_namer c.args.self.now in
    let table = c.in-Table.table in
    ap (λ is. translate_immediates (anywhere env) (immediates_of is)) c.in-Table.is
    ∙ labels_stay env table.0 table.1
    ∙ ap (λ ls. Ok (branch_table ls table.1 ∷ [])) (sym c.in_ok-labels-in-Table.ensures.ok)
    ∙ ap (λ l. Ok (branch_table c.in_ok-labels-in-Table.labels.items l ∷ [])) (sym c.default.ensures)
