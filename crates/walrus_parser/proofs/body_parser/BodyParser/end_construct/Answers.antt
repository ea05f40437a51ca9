use Rattle.std.proofs.Common.{inl, inr, reverse, refl, ap, ◌∙◌}
use Rattle.wasm_body.specs.Control.{end_operation}
use Rattle.walrus_context.specs.OpenTrees.{OpenTrees, env_of}
use Rattle.walrus_parser.specs.Advancing.{Advances, IsStep}
use Rattle.walrus_parser.specs.BodyParsers.{state_of, state_with}
use Rattle.walrus_parser.proofs.NextSequences.{pick_kept, missing}
use Rattle.walrus_parser.proofs.Endings.{of_layers, ends_plain, steps_else, steps_if_alone}
use Rattle.walrus_parser.proofs.body_parser.BodyParser.end_construct.Goals as goal

pub returns-in-Ok-empty_alternative-clause-step : goal.returns-in-Ok-empty_alternative-clause-step
returns-in-Ok-empty_alternative-clause-step c = λ ls s place keeps.
    let old = c.args.self.now in
    let ifs = reverse old.if_else.items in
    of_layers old.context ifs
    (λ ls s. IsStep (env_of old.context) (state_of c.append_if.new.self) ls s end_operation place c.args.location c.append_if.result)
    c.requires.inside
    (λ l ls s keeps. steps_if_alone old.context c.pop_control.new.self c.end_sequence.new.self ifs s place c.args.location c.in-Ok.popped.0 c.in-Ok.popped.1 c.in-Ok.ensures.ok c.end_sequence.ensures l ls keeps
    c.in-If.is c.deref.result.now c.deref-in-If.result.now c.deref.ensures.value c.deref-in-If.ensures.value c.in-Ok-empty_alternative.alternative
    c.empty_alternative.new.self c.append_if.new.self c.in-Ok-empty_alternative.ensures.ok (ap (λ v. reverse v.items) c.in-Ok-empty_alternative.ensures.ifs) c.append_if.result c.append_if.ensures.ok c.append_if.ensures.err)
    ls s keeps

pub returns-in-If-clause-step : goal.returns-in-If-clause-step
returns-in-If-clause-step c = λ ls s place keeps.
    let old = c.args.self.now in
    let mid = c.pop_control.new.self in
    let kept = pick_kept old.context mid (reverse old.if_else.items) s place c.args.location c.in-Ok.popped.0 c.in-Ok.popped.1 c.in-Ok.ensures.ok
    c.deref.result.now c.deref-in-If.result.now c.deref.ensures.value c.deref-in-If.ensures.value c.in-If.is ls keeps in
    elim c.in-Err-empty_alternative.ensures.err [
      | inl is ↦ inl is
      | inr is ↦ absurd (missing old.context mid c.end_sequence.new.self c.in-Ok.popped.1 c.args.location c.in-Ok.popped.0 c.in-Ok.ensures.ok c.end_sequence.ensures
          c.deref.result.now c.deref-in-If.result.now kept.0 kept.1 is.1)
    ]

pub returns-in-Else-clause-step : goal.returns-in-Else-clause-step
returns-in-Else-clause-step c = λ ls s place keeps.
    let old = c.args.self.now in
    let ifs = reverse old.if_else.items in
    of_layers old.context ifs
    (λ ls s. IsStep (env_of old.context) (state_of c.append_if-in-Else.new.self) ls s end_operation place c.args.location c.append_if-in-Else.result)
    c.requires.inside
    (λ l ls s keeps. steps_else old.context c.pop_control.new.self c.end_sequence.new.self ifs s place c.args.location c.in-Ok.popped.0 c.in-Ok.popped.1 c.in-Ok.ensures.ok c.end_sequence.ensures l ls keeps
    c.in-Else.is (record { context = c.end_sequence.new.self; if_else = old.if_else }) c.append_if-in-Else.new.self refl refl c.append_if-in-Else.result c.append_if-in-Else.ensures.ok c.append_if-in-Else.ensures.err)
    ls s keeps

pub returns : goal.returns
returns c =
    let old = c.args.self.now in
    let ifs = reverse old.if_else.items in
    let closes = c.in-Ok.ensures.ok.closes in record {
      step = λ ls s place keeps. of_layers old.context ifs
          (λ ls s. Advances (env_of old.context) (state_with c.end_sequence.new.self ifs) ls s end_operation place c.args.location)
          c.requires.inside
          (λ l ls s keeps. ends_plain old.context c.pop_control.new.self c.end_sequence.new.self ifs s place c.args.location c.in-Ok.popped.0 c.in-Ok.popped.1 c.in-Ok.ensures.ok c.end_sequence.ensures l ls keeps
          c.in_default.not-If c.in_default.not-Else)
          ls s keeps;
      rest = record {
        env = ap env_of c.end_sequence.ensures.is ∙ ap env_of closes.is;
        entry = ap (λ (t : OpenTrees). t.builder.entry) c.end_sequence.ensures.is ∙ ap (λ (t : OpenTrees). t.builder.entry) closes.is;
      };
    }
