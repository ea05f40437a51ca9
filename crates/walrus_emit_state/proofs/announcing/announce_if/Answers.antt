use Rattle.walrus_ir.specs.Types.{signature_of_type}
use Rattle.wasm_body.specs.NormalForm.{is_balanced_type}
use Rattle.walrus_emit_state.proofs.TreeWriting.IfScopes.{if_announced, first_kept}
use Rattle.walrus_emit_state.proofs.announcing.announce_if.Goals as goal

pub returns-in_err-announce_closed-2-clause-unchanged : goal.returns-in_err-announce_closed-2-clause-unchanged
returns-in_err-announce_closed-2-clause-unchanged c =
    first_kept c.from_residual-in_err-announce_closed-2.result c.args.scopes.now c.announce_closed.new.self c.announce_closed-2.new.self
    c.scopes_of_if-first.result.1 c.in_ok-announce_closed.ensures.ok c.in_err-announce_closed-2.ensures.err

pub returns-clause-ok : goal.returns-clause-ok
returns-clause-ok c =
    if_announced (λ t. is_balanced_type (signature_of_type c.args.types.now t)) c.args.builder.now.sequences c.args.construct.now.consequent
    c.args.construct.now.alternative c.seq.result.now c.seq-2.result.now c.scopes_of_if-first.result.0 c.scopes_of_if-first.result.1 c.args.scopes.now
    c.announce_closed.new.self c.announce_closed-2.new.self c.seq.ensures c.seq-2.ensures c.scopes_of_if-first.ensures.scopes
    c.in_ok-announce_closed.ensures.ok c.in_ok-announce_closed-2.ensures.ok
