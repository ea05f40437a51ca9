use Rattle.std.proofs.Common.{inl, inr, reverse, [], ◌∷◌, None, refl}
use Rattle.wasm_operators.specs.declared.types.Opcode.TheVariants.{Byte}
use Rattle.wasm_operators.specs.Operations.{operation, block}
use Rattle.wasm_body.specs.Control.{If}
use Rattle.walrus_context.specs.OpenTrees.{env_of}
use Rattle.walrus_parser.proofs.Openings.{opens_if, opener_faults, pushed_steps}
use Rattle.walrus_parser.proofs.body_parser.BodyParser.open_if.Goals as goal

pub returns-in-Ok-clause-step : goal.returns-in-Ok-clause-step
returns-in-Ok-clause-step c = λ ls s place keeps.
    let old = c.args.self.now in
    let m = c.push_block.new.self in
    pushed_steps (env_of old.context) m old.if_else.items c.push_or_fail.new.list.items ls s place c.args.start (operation (Byte 0x04) (block c.args.ty ∷ [])) (record { start = c.args.start; consequent = c.in-Ok.consequent; alternative = None }) c.push_or_fail.result c.push_or_fail.ensures.ok c.push_or_fail.ensures.err
    (opens_if old.context m m (reverse old.if_else.items) ls s place c.args.start c.args.ty c.in-Ok.consequent keeps c.in-Ok.ensures.ok)

pub returns-in-Err-clause-step : goal.returns-in-Err-clause-step
returns-in-Err-clause-step c = λ ls s place keeps. elim c.in-Err.ensures.err [ inl is ↦ inl is | inr is ↦ inr (opener_faults (env_of c.args.self.now.context) ls (Byte 0x04) If c.args.ty c.in-Err.error refl (λ z. refl) is) ]
