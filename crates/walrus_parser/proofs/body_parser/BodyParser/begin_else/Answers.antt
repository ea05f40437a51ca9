use Rattle.std.proofs.Common.{inl, inr, reverse, sym, subst}
use Rattle.walrus_context.specs.OpenTrees.{env_of}
use Rattle.wasm_body.specs.Control.{else_operation}
use Rattle.walrus_parser.specs.Advancing.{Advances}
use Rattle.walrus_parser.specs.BodyParsers.{state_of, state_with}
use Rattle.walrus_parser.proofs.NextSequences.{some_open, popped_in_arena, no_else, pick_kept, parts_else, missing}
use Rattle.walrus_parser.proofs.body_parser.BodyParser.begin_else.Goals as goal

pub returns-in-Err-clause-step : goal.returns-in-Err-clause-step
returns-in-Err-clause-step c = λ ls s place keeps. elim c.in-Err.ensures.err [
  | inl is ↦ inl is
  | inr is ↦ absurd (some_open (env_of c.args.self.now.context) (state_of c.args.self.now) ls s keeps is.1)
]

pub end_sequence-requires : goal.end_sequence-requires
end_sequence-requires c = popped_in_arena c.args.self.now.context c.pop_control.new.self c.in-Ok.popped.0 c.in-Ok.popped.1 c.in-Ok.ensures.ok

pub returns-in_default : goal.returns-in_default
returns-in_default c = record {
  step = λ ls s place keeps.
      let old = c.args.self.now in
      inr (no_else old.context c.pop_control.new.self (reverse old.if_else.items) s place c.args.location c.in-Ok.popped.0 c.in-Ok.popped.1 c.in-Ok.ensures.ok c.in_default.not-If ls keeps);
  rest = tt;
}

pub returns-in-Ok-pushed-clause-step : goal.returns-in-Ok-pushed-clause-step
returns-in-Ok-pushed-clause-step c = λ ls s place keeps.
    let old = c.args.self.now in
    let ifs = reverse old.if_else.items in
    let made = parts_else old.context c.pop_control.new.self ifs s place c.args.location c.in-Ok.popped.0 c.in-Ok.popped.1 c.in-Ok.ensures.ok
    c.deref.result.now c.deref-2.result.now c.deref.ensures.value c.deref-2.ensures.value
    c.end_sequence.new.self c.push_control-pushed.new.self c.in-Ok-pushed.alternative c.in-If.is c.end_sequence.ensures c.in-Ok-pushed.ensures.ok ls keeps in
    subst (λ p. Advances (env_of old.context) p ls s else_operation place c.args.location)
    (λ i. state_with (sym c.begin_alternative.ensures.context i) (sym c.begin_alternative.ensures.ifs i)) made

pub returns-clause-step : goal.returns-clause-step
returns-clause-step c = λ ls s place keeps.
    let old = c.args.self.now in
    let mid = c.pop_control.new.self in
    let kept = pick_kept old.context mid (reverse old.if_else.items) s place c.args.location c.in-Ok.popped.0 c.in-Ok.popped.1 c.in-Ok.ensures.ok
    c.deref.result.now c.deref-2.result.now c.deref.ensures.value c.deref-2.ensures.value c.in-If.is ls keeps in
    elim c.in-Err-pushed.ensures.err [
      | inl is ↦ inl is
      | inr is ↦ absurd (missing old.context mid c.end_sequence.new.self c.in-Ok.popped.1 c.args.location c.in-Ok.popped.0 c.in-Ok.ensures.ok c.end_sequence.ensures
          c.deref.result.now c.deref-2.result.now kept.0 kept.1 is.1)
    ]
