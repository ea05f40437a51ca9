use Rattle.std.proofs.Common.{inl, inr, reverse, sym}
use Rattle.walrus_ir.specs.declared.control.BlockKind.TheVariants as kind
use Rattle.walrus_context.specs.OpenTrees.{env_of}
use Rattle.walrus_parser.proofs.Openings.{appended_steps}
use Rattle.walrus_parser.proofs.TryTables.{table_operation, no_block, no_clause, no_pick, table, opens_table}
use Rattle.walrus_parser.proofs.body_parser.BodyParser.open_try_table.Goals as goal

pub returns-in-Err-clause-step : goal.returns-in-Err-clause-step
returns-in-Err-clause-step c = λ ls s place keeps. inr (no_block c.args.ty c.args.catches.now (env_of c.args.self.now.context) ls c.in-Err.error (sym c.in-Err.ensures))

pub returns-in-Err-clauses-clause-step : goal.returns-in-Err-clauses-clause-step
returns-in-Err-clauses-clause-step c = λ ls s place keeps.
    let old = c.args.self.now in
    elim c.in-Err-clauses.ensures.err [
      | inl is ↦ inl is
      | inr is ↦ inr (no_clause old.context (reverse old.if_else.items) ls s c.args.ty c.args.catches.now keeps (sym c.in-Ok.ensures) c.in-Err-clauses.error is)
    ]

pub returns-in-Ok-push_block-clause-step : goal.returns-in-Ok-push_block-clause-step
returns-in-Ok-push_block-clause-step c = λ ls s place keeps.
    let old = c.args.self.now in
    let m = c.push_block.new.self in
    let n = c.alloc_instr_in_control.new.self in
    let ifs = reverse old.if_else.items in
    let id = c.in-Ok-push_block.seq in
    let done = c.alloc_instr_in_control in
    let made = c.in-Ok-clauses.catches.items in
    let found = sym c.in-Ok.ensures in
    appended_steps old.context m n ifs ls s place c.args.location c.args.ty id keeps kind.TryTable c.in-Ok-push_block.ensures.ok
    (table old.context ifs ls s c.args.ty c.args.catches.now keeps found made c.in-Ok-clauses.ensures.ok id) (table_operation c.args.ty c.args.catches.now) done.result done.ensures.ok done.ensures.err
    (opens_table old.context ifs ls s c.args.ty c.args.catches.now keeps found made c.in-Ok-clauses.ensures.ok m n place c.args.location id c.in-Ok-push_block.ensures.ok)

pub returns-in-Err-push_block-clause-step : goal.returns-in-Err-push_block-clause-step
returns-in-Err-push_block-clause-step c = λ ls s place keeps.
    let old = c.args.self.now in
    elim c.in-Err-push_block.ensures.err [
      | inl is ↦ inl is
      | inr is ↦ inr (no_pick old.context (reverse old.if_else.items) ls s c.args.ty c.args.catches.now keeps (sym c.in-Ok.ensures) c.in-Ok-clauses.catches.items c.in-Ok-clauses.ensures.ok c.in-Err-push_block.error is)
    ]
