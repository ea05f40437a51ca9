use Rattle.std.proofs.Common.{◌≡◌, ◌∷◌, [], List, map, refl, sym, ap, ◌∙◌}
use Rattle.wasm_body.specs.Control as C
use Rattle.walrus_machine.specs.declared.named_op.NamedCatch.{NamedCatch}
use Rattle.walrus_machine.specs.declared.named_op.NamedImmediates.{NamedImmediates}
use Rattle.walrus_machine.specs.Controls.{clause_meaning}
use Rattle.walrus_machine.specs.NamedOperators.{named_clause, named_immediates}
use Rattle.walrus_machine.proofs.named_op.NamedImmediates.clauses.Goals as goal

caught : (cs : List NamedCatch) → map clause_meaning cs ≡ map C.catching (map named_clause cs)
caught [] = refl
caught (c ∷ cs) = ap (λ more. clause_meaning c ∷ more) (caught cs)

pub returns-in-Clauses : goal.returns-in-Clauses
returns-in-Clauses c =
    ap (map clause_meaning) c.deref.ensures.value
    ∙ (caught c.in-Clauses.clauses.items ∙ sym (ap (λ (is : NamedImmediates). C.catch_list (named_immediates is)) c.in-Clauses.is))
