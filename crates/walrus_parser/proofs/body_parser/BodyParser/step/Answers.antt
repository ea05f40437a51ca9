use Rattle.std.proofs.Common.{reverse, sym, subst}
use Rattle.wasm_operators.specs.Meaning.{meaning}
use Rattle.walrus_context.specs.OpenTrees.{env_of}
use Rattle.walrus_parser.specs.Advancing.{Advances}
use Rattle.walrus_parser.specs.BodyParsers.{state_of, ParsesStep}
use Rattle.walrus_parser.proofs.SingleInstructions.{passes_nop}
use Rattle.walrus_parser.proofs.Roles.{makes_instruction}
use Rattle.walrus_parser.proofs.body_parser.BodyParser.step.Goals as goal

pub returns-in-Nop-clause-step : goal.returns-in-Nop-clause-step
returns-in-Nop-clause-step c = λ ls s place keeps.
    let old = c.args.self.now in
    subst (λ o. Advances (env_of old.context) (state_of old) ls s (meaning o) place c.args.location) (sym c.in-Nop.is) (passes_nop old.context (reverse old.if_else.items) ls s place c.args.location keeps)

pub returns-in-Block-clause-step : goal.returns-in-Block-clause-step
returns-in-Block-clause-step c = subst (λ o. ParsesStep c.args.self.now c.open_block.new.self (meaning o) c.args.location c.open_block.result) (sym c.in-Block.is) c.open_block.ensures.step

pub returns-in-Loop-clause-step : goal.returns-in-Loop-clause-step
returns-in-Loop-clause-step c = subst (λ o. ParsesStep c.args.self.now c.open_loop.new.self (meaning o) c.args.location c.open_loop.result) (sym c.in-Loop.is) c.open_loop.ensures.step

pub returns-in-If-clause-step : goal.returns-in-If-clause-step
returns-in-If-clause-step c = subst (λ o. ParsesStep c.args.self.now c.open_if.new.self (meaning o) c.args.location c.open_if.result) (sym c.in-If.is) c.open_if.ensures.step

pub returns-in-Else-clause-step : goal.returns-in-Else-clause-step
returns-in-Else-clause-step c = subst (λ o. ParsesStep c.args.self.now c.begin_else.new.self (meaning o) c.args.location c.begin_else.result) (sym c.in-Else.is) c.begin_else.ensures.step

pub returns-in-End-clause-step : goal.returns-in-End-clause-step
returns-in-End-clause-step c = subst (λ o. ParsesStep c.args.self.now c.end_construct.new.self (meaning o) c.args.location c.end_construct.result) (sym c.in-End.is) c.end_construct.ensures.step

pub returns-in-Try-clause-step : goal.returns-in-Try-clause-step
returns-in-Try-clause-step c = subst (λ o. ParsesStep c.args.self.now c.open_try.new.self (meaning o) c.args.location c.open_try.result) (sym c.in-Try.is) c.open_try.ensures.step

pub returns-in-Catch-clause-step : goal.returns-in-Catch-clause-step
returns-in-Catch-clause-step c = subst (λ o. ParsesStep c.args.self.now c.begin_clause.new.self (meaning o) c.args.location c.begin_clause.result) (sym c.in-Catch.is) c.begin_clause.ensures.step

pub returns-in-CatchAll-clause-step : goal.returns-in-CatchAll-clause-step
returns-in-CatchAll-clause-step c = subst (λ o. ParsesStep c.args.self.now c.begin_clause-in-CatchAll.new.self (meaning o) c.args.location c.begin_clause-in-CatchAll.result) (sym c.in-CatchAll.is) c.begin_clause-in-CatchAll.ensures.step

pub returns-in-Delegate-clause-step : goal.returns-in-Delegate-clause-step
returns-in-Delegate-clause-step c = subst (λ o. ParsesStep c.args.self.now c.close_delegate.new.self (meaning o) c.args.location c.close_delegate.result) (sym c.in-Delegate.is) (c.close_delegate.ensures.step c.args.location)

pub returns-in-TryTable-clause-step : goal.returns-in-TryTable-clause-step
returns-in-TryTable-clause-step c = subst (λ o. ParsesStep c.args.self.now c.open_try_table.new.self (meaning o) c.args.location c.open_try_table.result) (sym c.in-TryTable.is) c.open_try_table.ensures.step

pub push_any-requires-clause-kind : goal.push_any-requires-clause-kind
push_any-requires-clause-kind c =
    let other = c.in_default in
    makes_instruction c.args.operator.now other.not-Nop other.not-Block other.not-Loop other.not-If other.not-Else other.not-Try other.not-Catch other.not-CatchAll other.not-Delegate other.not-TryTable other.not-End
