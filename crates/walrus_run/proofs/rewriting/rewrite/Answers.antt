use Rattle.std.proofs.Common.{rules, inl, ◌⊎◌, ◌<◌, ◌^◌, length}
use Rattle.walrus_run.specs.Rewriting.{IsNormalBytes, IsRewrittenDemo, IsFaulty}
use Rattle.walrus_rewrite.specs.Errors.{IsOutOfMemory}
use Rattle.walrus_run.proofs.RewritingLemmas.{demo_tree, demo_accepts, demo_refuses}
use Rattle.walrus_rewrite.proofs.SameResults.{if_ok, if_err}
use Rattle.wasm_body.specs.SourceTree.{Body}
use Rattle.wasm_body.specs.Naming.{Occurrence}
use Rattle.walrus_parser.specs.Bodies.{IsFunction}
use Rattle.walrus_run.proofs.rewriting.rewrite.Goals as goal

pub written_operators-requires-clause-is_parsed : goal.written_operators-requires-clause-is_parsed
written_operators-requires-clause-is_parsed c =
    let a = c.args in
    let made = c.in-Ok.function in
    let x = demo_accepts _ a.module.now a.indices.now c.new-2.result c.new-3.result c.requires.module_is c.requires.indices_are c.new-2.ensures c.new-3.ensures a.ops.now made.builder made.instruction_mapping c.in-Ok.ensures.accepted in
    let few : length a.ops.now < 2 ^ 64 = search rules in
    record { ops = a.ops.now; few = few; body = x.0; accepted = x.1; is_function = x.2 }

pub returns-in-Ok-clause-ok : goal.returns-in-Ok-clause-ok
returns-in-Ok-clause-ok c =
    let a = c.args in
    let made = c.in-Ok.function in
    let x = demo_accepts _ a.module.now a.indices.now c.new-2.result c.new-3.result c.requires.module_is c.requires.indices_are c.new-2.ensures c.new-3.ensures a.ops.now made.builder made.instruction_mapping c.in-Ok.ensures.accepted in
    if_ok (λ out. (b : Body Occurrence) → IsFunction made.builder (demo_tree b) → IsNormalBytes b out.items) (λ out. IsRewrittenDemo a.ops.now out.items) (λ out h. (x.0, x.1, h x.0 x.2))
    c.written_operators.result c.written_operators.ensures.ok

pub returns-in-Ok-clause-err : goal.returns-in-Ok-clause-err
returns-in-Ok-clause-err c = if_err IsOutOfMemory (λ e. IsOutOfMemory e ⊎ IsFaulty c.args.ops.now e) (λ e h. inl h) c.written_operators.result c.written_operators.ensures.err

pub returns-clause-err : goal.returns-clause-err
returns-clause-err c =
    let a = c.args in
    demo_refuses a.module.now a.indices.now c.new-2.result c.new-3.result c.requires.module_is c.requires.indices_are c.new-2.ensures c.new-3.ensures a.ops.now c.in-Err.failure c.in-Err.ensures.refused
