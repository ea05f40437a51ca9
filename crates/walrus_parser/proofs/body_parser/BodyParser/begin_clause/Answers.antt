use Rattle.std.proofs.Common.{inl, inr, reverse, sym, ◌∙◌}
use Rattle.walrus_context.specs.OpenTrees.{env_of}
use Rattle.walrus_parser.specs.BodyParsers.{state_of}
use Rattle.walrus_parser.proofs.NextSequences.{some_open, popped_in_arena}
use Rattle.walrus_parser.proofs.Handlers.{no_clause, not_caught, no_pick, clause_steps}
use Rattle.walrus_parser.proofs.body_parser.BodyParser.begin_clause.Goals as goal

pub returns-in-Err-clause-step : goal.returns-in-Err-clause-step
returns-in-Err-clause-step c = λ ls s place keeps. elim c.in-Err.ensures.err [
  | inl is ↦ inl is
  | inr is ↦ absurd (some_open (env_of c.args.self.now.context) (state_of c.args.self.now) ls s keeps is.1)
]

pub returns-then-not-has_clauses-clause-step : goal.returns-then-not-has_clauses-clause-step
returns-then-not-has_clauses-clause-step c = λ ls s place keeps.
    let old = c.args.self.now in
    inr (no_clause old.context c.pop_control.new.self (reverse old.if_else.items) s place c.args.location c.in-Ok.popped.0 c.in-Ok.popped.1 c.in-Ok.ensures.ok c.args.tag
    (sym c.has_clauses.ensures ∙ c.if-not-has_clauses.true) ls keeps)

pub returns-in-Err-caught-clause-step : goal.returns-in-Err-caught-clause-step
returns-in-Err-caught-clause-step c = λ ls s place keeps.
    let old = c.args.self.now in
    inr (not_caught old.context c.pop_control.new.self (reverse old.if_else.items) s place c.args.location c.in-Ok.popped.0 c.in-Ok.popped.1 c.in-Ok.ensures.ok c.args.tag
    (sym c.has_clauses.ensures ∙ c.if-not-has_clauses.false) c.in-Err-caught.error c.in-Err-caught.ensures ls keeps)

pub end_sequence-requires : goal.end_sequence-requires
end_sequence-requires c = popped_in_arena c.args.self.now.context c.pop_control.new.self c.in-Ok.popped.0 c.in-Ok.popped.1 c.in-Ok.ensures.ok

pub returns-in-Ok-pushed-clause-step : goal.returns-in-Ok-pushed-clause-step
returns-in-Ok-pushed-clause-step c = λ ls s place keeps.
    let old = c.args.self.now in
    let h = c.in-Ok-caught.caught in
    let added = c.add_legacy_catch in
    clause_steps old.context c.pop_control.new.self (reverse old.if_else.items) s place c.args.location c.in-Ok.popped.0 c.in-Ok.popped.1 c.in-Ok.ensures.ok c.args.tag
    (sym c.has_clauses.ensures ∙ c.if-not-has_clauses.false) (h.tag, h.parameters.now) c.in-Ok-caught.ensures c.end_sequence.new.self c.end_sequence.ensures c.deref.result.now c.deref.ensures.value
    c.push_control-pushed.new.self added.new.self c.in-Ok-pushed.handler c.handler_kind-kind.result c.clause_of.result c.handler_kind-kind.ensures c.clause_of.ensures c.in-Ok-pushed.ensures.ok added.result added.ensures.ok added.ensures.err ls keeps

pub returns-clause-step : goal.returns-clause-step
returns-clause-step c = λ ls s place keeps.
    let old = c.args.self.now in
    let h = c.in-Ok-caught.caught in
    elim c.in-Err-pushed.ensures.err [
      | inl is ↦ inl is
      | inr is ↦ inr (rw is.0 (no_pick old.context c.pop_control.new.self (reverse old.if_else.items) s place c.args.location c.in-Ok.popped.0 c.in-Ok.popped.1 c.in-Ok.ensures.ok c.args.tag
          (sym c.has_clauses.ensures ∙ c.if-not-has_clauses.false) (h.tag, h.parameters.now) c.in-Ok-caught.ensures c.end_sequence.new.self c.end_sequence.ensures c.deref.result.now c.deref.ensures.value is.1 ls keeps))
    ]
