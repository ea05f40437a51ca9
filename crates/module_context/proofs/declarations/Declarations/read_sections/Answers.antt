use Rattle.std.proofs.Common.{length, Some, Result, inr, subst}
use Rattle.wasm_sections.specs.declared.fault.ModuleError.{ModuleError}
use Rattle.wasm_sections.specs.declared.sections.Section.{Section}
use Rattle.wasm_sections.specs.Sections.{TakesSection}
use Rattle.module_context.specs.ModuleContexts.{declared_section}
use Rattle.module_context.specs.ReadContexts.{declared_so_far}
use Rattle.module_context.specs.SectionSteps.{through_module}
use Rattle.module_context.proofs.SectionStepLemmas.{all_sections, section_unread, step_failed, one_more_section}
use Rattle.module_context.proofs.declarations.Declarations.read_sections.Goals as goal

pub sections-preserved : goal.sections-preserved
sections-preserved c =
    let bytes = c.args.bytes.now in
    let at = c.sections in
    let section = c.in-Ok-section.section in
    let next = c.next.new.self in
    let takes = subst (λ (r : Result Section ModuleError). TakesSection at.section-iterator (Some r) next) c.in-Ok-section.is c.in-Some.ensures.steps in
    one_more_section declared_section (through_module declared_section (declared_so_far c.args.self.now) bytes) (length bytes) at.section-iterator next section
    (declared_so_far at.self) at.invariant takes (declared_so_far c.read_section.new.self) c.in-Ok-read_section.ensures

pub returns-in-Err-read_section : goal.returns-in-Err-read_section
returns-in-Err-read_section c =
    let bytes = c.args.bytes.now in
    let at = c.sections in
    let section = c.in-Ok-section.section in
    let next = c.next.new.self in
    let takes = subst (λ (r : Result Section ModuleError). TakesSection at.section-iterator (Some r) next) c.in-Ok-section.is c.in-Some.ensures.steps in
    step_failed declared_section (through_module declared_section (declared_so_far c.args.self.now) bytes) (length bytes) at.section-iterator next section
    (declared_so_far at.self) at.invariant takes c.in-Err-read_section.error c.in-Err-read_section.ensures

pub returns-in-Err-section : goal.returns-in-Err-section
returns-in-Err-section c =
    let bytes = c.args.bytes.now in
    let at = c.sections in
    let next = c.next.new.self in
    let takes = subst (λ (r : Result Section ModuleError). TakesSection at.section-iterator (Some r) next) c.in-Err-section.is c.in-Some.ensures.steps in
    inr (section_unread declared_section (through_module declared_section (declared_so_far c.args.self.now) bytes) (length bytes) at.section-iterator next
    (declared_so_far at.self) c.in-Err-section.error at.invariant takes)

pub returns : goal.returns
returns c =
    let bytes = c.args.bytes.now in
    let at = c.sections in
    all_sections declared_section (through_module declared_section (declared_so_far c.args.self.now) bytes) (length bytes) at.section-iterator (declared_so_far at.self)
    c.in-None.ensures.steps at.invariant
