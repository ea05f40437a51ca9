use Rattle.std.proofs.Common.{length}
use Rattle.module_context.specs.ReadContexts.{read_setting}
use Rattle.module_context.specs.SectionSteps.{through_module}
use Rattle.module_context.proofs.SectionStepLemmas.{ThroughLeft}
use Rattle.module_validator.specs.EngineLimits.{section_limits}
use Rattle.module_validator.proofs.engine_limits.check_sections.Given as goal

abbrev pub invariant-sections : goal.invariant-sections
invariant-sections l =
    ThroughLeft (section_limits (read_setting l.setting)) (through_module (section_limits (read_setting l.setting)) tt l.bytes) (length l.bytes) l.section-iterator tt
