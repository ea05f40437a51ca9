use Rattle.std.proofs.Common.{◌≡◌, ◌++◌, ℕ, List, Ok, sym, ap, subst, ◌∙◌}
use Rattle.wasm_operators.specs.Operations.{RawOperation}
use Rattle.wasm_operators.specs.Meaning.{Listed, meaning}
use Rattle.wasm_operators.specs.Spelling.{Spells, read_operation}
use Rattle.wasm_ops.specs.Position.{Moves}
use Rattle.wasm_ops.proofs.reader.Reader.pass_common.Goals as goal

pub pass-requires : goal.pass-requires
pass-requires c = c.requires ∙ ap (λ (o : Listed). Ok (meaning o, c.args.rest.now)) (sym c.operator.ensures)

pub returns-clause-found : goal.returns-clause-found
returns-clause-found c = subst (λ (o : Listed). (text : List ℕ) × Moves c.args.self.now text c.pass.new.self × Spells (meaning o) text) c.operator.ensures c.pass.ensures.found

pub returns-clause-only : goal.returns-clause-only
returns-clause-only c = subst (λ (l : Listed). (o : RawOperation) (text rest : List ℕ) → Spells o text → c.args.self.now.rest ≡ text ++ rest → (meaning l ≡ o) × Moves c.args.self.now text c.pass.new.self) c.operator.ensures c.pass.ensures.only

pub returns-clause-is_read : goal.returns-clause-is_read
returns-clause-is_read c = c.pass.ensures.is_read ∙ ap (λ (o : Listed). Ok (meaning o, c.pass.new.self.rest)) c.operator.ensures
