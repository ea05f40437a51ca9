use Rattle.std.proofs.Common.{ℕ, subst}
use Rattle.wasm_sections.specs.Format.{flags_up_to}
use Rattle.wasm_sections.specs.Parts.{checked, number, GivesUnlessMemory}
use Rattle.module_context.specs.ReadContexts.{read_setting}
use Rattle.module_validator.specs.Checks.{after_flags_rule}
use Rattle.module_validator.proofs.LoopLemmas.{after_first}
use Rattle.module_validator.proofs.segments.check_element_segment.Goals as goal

pub returns-in-Ok-clause-is : goal.returns-in-Ok-clause-is
returns-in-Ok-clause-is c =
    let s = read_setting c.args.setting.now in
    let input = c.args.input.now in
    let at = c.segment_flags.new.self in
    let new = c.check_after_flags.new.input in
    after_first (λ u. (tt, new.rest.now)) c.check_after_flags.result (checked number (flags_up_to 7) input.end input.rest.now) (λ x. after_flags_rule s x.0 input.end x.1)
    (c.in-Ok.flags, at.rest.now) c.in-Ok.ensures.is
    (subst (λ (n : ℕ). GivesUnlessMemory (λ u. (tt, new.rest.now)) c.check_after_flags.result (after_flags_rule s c.in-Ok.flags n at.rest.now)) c.in-Ok.ensures.same_end
    c.check_after_flags.ensures.is)
