use Rattle.std.proofs.Common.{inl, inr, reverse, [], ◌∷◌, refl}
use Rattle.wasm_operators.specs.declared.types.Opcode.TheVariants.{Byte}
use Rattle.wasm_operators.specs.Operations.{operation, block}
use Rattle.wasm_body.specs.Control.{Block}
use Rattle.walrus_ir.specs.declared.instr.Instr.TheVariants as instr
use Rattle.walrus_ir.specs.declared.control.BlockKind.TheVariants as kind
use Rattle.walrus_context.specs.OpenTrees.{env_of}
use Rattle.walrus_context.specs.Keeping.{IsAny}
use Rattle.walrus_parser.proofs.Openings.{block_at_once, opens_block_type, opener_faults, appended_steps}
use Rattle.walrus_parser.proofs.body_parser.BodyParser.open_block.Goals as goal

pub returns-in-Ok-clause-step : goal.returns-in-Ok-clause-step
returns-in-Ok-clause-step c = λ ls s place keeps.
    let old = c.args.self.now in
    let m = c.push_block.new.self in
    let n = c.alloc_instr_in_control.new.self in
    let ifs = reverse old.if_else.items in
    let done = c.alloc_instr_in_control in
    appended_steps old.context m n ifs ls s place c.args.location c.args.ty c.in-Ok.seq keeps kind.Block c.in-Ok.ensures.ok (instr.Block (record { seq = c.in-Ok.seq })) (operation (Byte 0x02) (block c.args.ty ∷ [])) done.result done.ensures.ok done.ensures.err
    (opens_block_type old.context m n ifs ls s place c.args.location c.args.ty c.in-Ok.seq keeps (Byte 0x02) Block kind.Block IsAny (instr.Block (record { seq = c.in-Ok.seq })) (block_at_once (env_of old.context)) refl (λ z. refl) refl refl refl tt c.in-Ok.ensures.ok)

pub returns-in-Err-clause-step : goal.returns-in-Err-clause-step
returns-in-Err-clause-step c = λ ls s place keeps. elim c.in-Err.ensures.err [ inl is ↦ inl is | inr is ↦ inr (opener_faults (env_of c.args.self.now.context) ls (Byte 0x02) Block c.args.ty c.in-Err.error refl (λ z. refl) is) ]
