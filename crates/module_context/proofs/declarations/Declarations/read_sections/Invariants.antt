use Rattle.std.proofs.Common.{length}
use Rattle.module_context.specs.ModuleContexts.{declared_section}
use Rattle.module_context.specs.ReadContexts.{declared_so_far}
use Rattle.module_context.specs.SectionSteps.{through_module}
use Rattle.module_context.proofs.SectionStepLemmas.{ThroughLeft}
use Rattle.module_context.proofs.declarations.Declarations.read_sections.Given as goal

abbrev pub invariant-sections : goal.invariant-sections
invariant-sections l =
    ThroughLeft declared_section (through_module declared_section (declared_so_far l.fn.self) l.bytes) (length l.bytes) l.section-iterator (declared_so_far l.self)
