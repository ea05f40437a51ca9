use Rattle.std.proofs.Common.{inl, inr, reverse, sym, ap, ◌∙◌, Ok}
use Rattle.walrus_parser.proofs.Delegates.{none_open, no_try_body, no_depth, delegates_to, ends_delegate}
use Rattle.walrus_parser.proofs.body_parser.BodyParser.close_delegate.Goals as goal

pub returns-in-Err-clause-step : goal.returns-in-Err-clause-step
returns-in-Err-clause-step c = λ location ls s place keeps.
    let old = c.args.self.now in
    absurd (none_open old.context (reverse old.if_else.items) s place location c.args.relative_depth c.in-Err.error (sym c.in-Err.ensures) ls keeps)

pub returns-in_default : goal.returns-in_default
returns-in_default c =
    let old = c.args.self.now in
    record {
      step = λ location ls s place keeps. inr (no_try_body old.context (reverse old.if_else.items) s place location c.args.relative_depth c.in-Ok.kind (sym c.in-Ok.ensures) c.in_default.not-Try ls keeps);
      rest = tt;
    }

pub returns-in-Err-kind_at-clause-step : goal.returns-in-Err-kind_at-clause-step
returns-in-Err-kind_at-clause-step c = λ location ls s place keeps.
    let old = c.args.self.now in
    inr (no_depth old.context (reverse old.if_else.items) s place location c.args.relative_depth (sym c.in-Ok.ensures ∙ ap Ok c.in-Try.is) c.in-Err-kind_at.error (sym c.in-Err-kind_at.ensures) ls keeps)

pub returns-in-Err-add_legacy_catch-clause-step : goal.returns-in-Err-add_legacy_catch-clause-step
returns-in-Err-add_legacy_catch-clause-step c = λ location ls s place keeps.
    let old = c.args.self.now in
    elim c.in-Err-add_legacy_catch.ensures.err [
      | inl is ↦ inl is
      | inr is ↦ absurd (delegates_to old.context (reverse old.if_else.items) s place location c.args.relative_depth (sym c.in-Ok.ensures ∙ ap Ok c.in-Try.is) c.in-Err-add_legacy_catch.error is ls keeps)
    ]

pub returns-in-Ok-pop_control-clause-step : goal.returns-in-Ok-pop_control-clause-step
returns-in-Ok-pop_control-clause-step c = λ location ls s place keeps.
    let old = c.args.self.now in
    let mid = c.add_legacy_catch.new.self in
    ends_delegate old.context (reverse old.if_else.items) s place location c.args.relative_depth (sym c.in-Ok.ensures ∙ ap Ok c.in-Try.is) mid c.in-Ok-add_legacy_catch.ensures.ok
    c.in-Ok-kind_at.field-0 (sym c.in-Ok-kind_at.ensures) c.pop_control.new.self c.in-Ok-pop_control._frame c.in-Ok-pop_control._block c.in-Ok-pop_control.ensures.ok ls keeps
