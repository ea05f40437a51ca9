use Rattle.std.proofs.Common.{Result, Ok, Err, sym, subst, inr}
use Rattle.wasm_numbers.specs.Results.{Gives}
use Rattle.wasm_operators.specs.Meaning.{meaning}
use Rattle.wasm_body.specs.declared.error.ParseError.{ParseError}
use Rattle.wasm_body.specs.InstructionTable.{operation_of}
use Rattle.walrus_from_operators.specs.Placed.{placed_by, GivesOrMemory}
use Rattle.walrus_from_operators.proofs.instructions.instruction.Goals as goal

pub returns-in-BrTable-clause-placed : goal.returns-in-BrTable-clause-placed
returns-in-BrTable-clause-placed c = subst (λ o. GivesOrMemory operation_of c.branch_table.result (placed_by c.args.context.now (meaning o))) (sym c.in-BrTable.is) c.branch_table.ensures.placed

pub returns-in-Rethrow-clause-placed : goal.returns-in-Rethrow-clause-placed
returns-in-Rethrow-clause-placed c = subst (λ o. GivesOrMemory operation_of c.rethrow.result (placed_by c.args.context.now (meaning o))) (sym c.in-Rethrow.is) c.rethrow.ensures.placed

-- if nothing is allocated
gives_or_memory : {A B : Type 0} (view : A → B) (r : Result A ParseError) (given : Result B ParseError) → Gives view r given → GivesOrMemory view r given
gives_or_memory view (Ok x) given h = h
gives_or_memory view (Err e) given h = inr h

pub returns-in-Reference-clause-placed : goal.returns-in-Reference-clause-placed
returns-in-Reference-clause-placed c =
    subst (λ o. GivesOrMemory operation_of c.reference.result (placed_by c.args.context.now (meaning o))) (sym c.in-Reference.is)
    (gives_or_memory operation_of c.reference.result _ c.reference.ensures.placed)
