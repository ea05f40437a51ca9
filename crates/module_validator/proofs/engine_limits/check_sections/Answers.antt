use Rattle.std.proofs.Common.{length, Some, Result, subst, inr}
use Rattle.wasm_sections.specs.declared.fault.ModuleError.{ModuleError}
use Rattle.wasm_sections.specs.declared.sections.Section.{Section}
use Rattle.wasm_sections.specs.Components.{preamble_part}
use Rattle.wasm_sections.specs.Sections.{TakesSection}
use Rattle.wasm_sections.proofs.TypeReadingLemmas.{first_fails}
use Rattle.module_context.specs.ReadContexts.{read_setting}
use Rattle.module_context.specs.SectionSteps.{through_sections, through_module}
use Rattle.module_context.proofs.SectionStepLemmas.{all_sections, section_unread, step_failed, one_more_section}
use Rattle.module_validator.specs.EngineLimits.{section_limits}
use Rattle.module_validator.proofs.engine_limits.check_sections.Goals as goal

pub sections-preserved : goal.sections-preserved
sections-preserved c =
    let rule = section_limits (read_setting c.args.setting.now) in
    let bytes = c.args.bytes.now in
    let at = c.sections in
    let section = c.in-Ok-section.section in
    let next = c.next.new.self in
    let takes = subst (λ (r : Result Section ModuleError). TakesSection at.section-iterator (Some r) next) c.in-Ok-section.is c.in-Some.ensures.steps in
    one_more_section rule (through_module rule tt bytes) (length bytes) at.section-iterator next section tt at.invariant takes tt c.in-Ok-check_section.ensures

pub returns-in-Err-check_section : goal.returns-in-Err-check_section
returns-in-Err-check_section c =
    let rule = section_limits (read_setting c.args.setting.now) in
    let bytes = c.args.bytes.now in
    let at = c.sections in
    let section = c.in-Ok-section.section in
    let next = c.next.new.self in
    let takes = subst (λ (r : Result Section ModuleError). TakesSection at.section-iterator (Some r) next) c.in-Ok-section.is c.in-Some.ensures.steps in
    step_failed rule (through_module rule tt bytes) (length bytes) at.section-iterator next section tt at.invariant takes c.in-Err-check_section.error
    c.in-Err-check_section.ensures

pub returns-in-Err-section : goal.returns-in-Err-section
returns-in-Err-section c =
    let rule = section_limits (read_setting c.args.setting.now) in
    let bytes = c.args.bytes.now in
    let at = c.sections in
    let next = c.next.new.self in
    let takes = subst (λ (r : Result Section ModuleError). TakesSection at.section-iterator (Some r) next) c.in-Err-section.is c.in-Some.ensures.steps in
    inr (section_unread rule (through_module rule tt bytes) (length bytes) at.section-iterator next tt c.in-Err-section.error at.invariant takes)

pub returns-in-Err : goal.returns-in-Err
returns-in-Err c =
    let rule = section_limits (read_setting c.args.setting.now) in
    let end = length c.args.bytes.now in
    inr (first_fails (preamble_part end c.args.bytes.now) (λ x. through_sections rule (length x.1) 0 tt end x.1) c.in-Err.error c.in-Err.ensures.is)

pub returns : goal.returns
returns c =
    let rule = section_limits (read_setting c.args.setting.now) in
    let bytes = c.args.bytes.now in
    let at = c.sections in
    all_sections rule (through_module rule tt bytes) (length bytes) at.section-iterator tt c.in-None.ensures.steps at.invariant
