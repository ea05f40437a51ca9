use denote.Signature.{static_lft}
use Rattle.std.proofs.Common.{sym, ap, ◌∙◌}
use Rattle.wasm_operators.specs.Parts.{ListedImmediates}
use Rattle.wasm_operators.specs.contracts.immediates.ImmediatesPartialEq.TheImpl.{ghosts as immediates_ghosts}
use Rattle.wasm_operators.specs.contracts.immediates.ImmediatesEq.TheImpl.Laws.{laws-law as immediates_equiv}
use Rattle.wasm_operators.specs.contracts.branch_table.BrTable.{the_row as table_row}
use Rattle.wasm_operators.specs.contracts.branch_table.BrTablePartialEq.TheImpl.{ghosts as table_ghosts, dict as table_dict}
use Rattle.wasm_operators.specs.contracts.branch_table.BrTablePartialEq.TheImpl.Laws.{lawful as table_per}
use Rattle.wasm_operators.specs.contracts.branch_table.BrTableEq.TheImpl.{ghosts as table_eq_ghosts, dict as table_eq_dict}
use Rattle.wasm_operators.specs.contracts.branch_table.BrTableEq.TheImpl.Laws.{lawful as table_equiv}
use Rattle.wasm_operators.specs.contracts.catch_list.CatchList.{the_row as clauses_row}
use Rattle.wasm_operators.specs.contracts.catch_list.CatchListPartialEq.TheImpl.{ghosts as clauses_ghosts, dict as clauses_dict}
use Rattle.wasm_operators.specs.contracts.catch_list.CatchListPartialEq.TheImpl.Laws.{lawful as clauses_per}
use Rattle.wasm_operators.specs.contracts.catch_list.CatchListEq.TheImpl.{ghosts as clauses_eq_ghosts, dict as clauses_eq_dict}
use Rattle.wasm_operators.specs.contracts.catch_list.CatchListEq.TheImpl.Laws.{lawful as clauses_equiv}
use Rattle.wasm_operators.proofs.law.same_immediates.Goals as goal

pub returns-clause-same : goal.returns-clause-same
returns-clause-same c = λ e. c.equal_immediates.ensures (sym c.eq.ensures ∙ e)

pub returns-clause-equal : goal.returns-clause-equal
returns-clause-equal c = λ e.
    let equal = (immediates_ghosts (table_row static_lft) (clauses_row static_lft) table_ghosts table_dict clauses_ghosts clauses_dict).eq in
    let themselves = immediates_equiv (table_row static_lft) (clauses_row static_lft) table_eq_ghosts table_eq_dict table_ghosts table_dict
    clauses_eq_ghosts clauses_eq_dict clauses_ghosts clauses_dict table_equiv table_per clauses_equiv clauses_per in
    c.eq.ensures ∙ (ap (λ (i : ListedImmediates). equal i c.args.b.now) e ∙ themselves.refl c.args.b.now)
