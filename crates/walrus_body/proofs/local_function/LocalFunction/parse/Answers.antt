use Rattle.std.proofs.Common.{◌+◌, subst, Ok, Err}
use Rattle.walrus_parser.specs.declared.parse.ParsedOperators.{ParsedOperators}
use Rattle.walrus_parser.specs.Bodies.{body_input, input_of, AcceptsBody, RefusesBody}
use Rattle.walrus_parser.proofs.BodyResults.{body_returned, fault_returned}
use Rattle.walrus_body.proofs.local_function.LocalFunction.parse.Goals as goal

pub returns-in-Ok-clause-each_fault : goal.returns-in-Ok-clause-each_fault
returns-in-Ok-clause-each_fault g c = λ locations f both fault.
    let a = c.args in
    let check = g.V.OpCheck.check in
    let first = g.V.OpCheck.state a.validator in
    let made = c.in-Ok.parsed in
    let accepted = subst (λ bytes. AcceptsBody g.F.Fn (input_of a.module.now a.indices.now a.id a.ty (a.body.start + a.body.ops) bytes a.on_instr_pos check first) made.builder made.instruction_mapping.items) c.operators.ensures c.in-Ok.ensures.ok in
    fault_returned g.F.Fn (body_input a.module.now a.indices.now a.id a.ty a.body a.on_instr_pos check first) locations f both fault
    (λ (p : ParsedOperators). p.builder) (λ (p : ParsedOperators). p.instruction_mapping.items) (Ok made) accepted tt

pub returns-in-Err-clause-refused : goal.returns-in-Err-clause-refused
returns-in-Err-clause-refused g c =
    let a = c.args in
    let check = g.V.OpCheck.check in
    let first = g.V.OpCheck.state a.validator in
    subst (λ bytes. RefusesBody g.F.Fn (input_of a.module.now a.indices.now a.id a.ty (a.body.start + a.body.ops) bytes a.on_instr_pos check first) c.in-Err.failure) c.operators.ensures c.in-Err.ensures.err

pub returns-in-Err-clause-each_body : goal.returns-in-Err-clause-each_body
returns-in-Err-clause-each_body g c = λ locations b both accepted.
    let a = c.args in
    let i = body_input a.module.now a.indices.now a.id a.ty a.body a.on_instr_pos g.V.OpCheck.check (g.V.OpCheck.state a.validator) in
    body_returned g.F.Fn i locations b both accepted {A = ParsedOperators} (Err c.in-Err.failure) (returns-in-Err-clause-refused g c)

pub returns-in-Err-clause-each_fault : goal.returns-in-Err-clause-each_fault
returns-in-Err-clause-each_fault g c = λ locations f both fault.
    let a = c.args in
    let i = body_input a.module.now a.indices.now a.id a.ty a.body a.on_instr_pos g.V.OpCheck.check (g.V.OpCheck.state a.validator) in
    fault_returned g.F.Fn i locations f both fault (λ (p : ParsedOperators). p.builder) (λ (p : ParsedOperators). p.instruction_mapping.items) (Err c.in-Err.failure) tt (returns-in-Err-clause-refused g c)
