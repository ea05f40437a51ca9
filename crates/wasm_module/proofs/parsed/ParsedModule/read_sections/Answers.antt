use Rattle.std.proofs.Common.{length, Some, Result, sym, subst, inl, inr}
use Rattle.wasm_numbers.specs.Results.{Gives}
use Rattle.wasm_sections.specs.declared.fault.ModuleError.{ModuleError}
use Rattle.wasm_sections.specs.declared.sections.Section.{Section}
use Rattle.wasm_sections.specs.Components.{Components, module_of}
use Rattle.wasm_sections.specs.Sections.{TakesSection}
use Rattle.wasm_module.specs.ReadModules.{components_of}
use Rattle.wasm_module.proofs.ReadingLemmas.{steps_from_gives}
use Rattle.wasm_module.proofs.SectionsReadLemmas.{sections_end, section_fails, section_done, contents_fail, none_before}
use Rattle.wasm_module.proofs.parsed.ParsedModule.read_sections.Goals as goal

pub sections-preserved : goal.sections-preserved
sections-preserved c = λ none so.
    let bytes = c.args.self.now.bytes.now in
    let at = c.sections in
    let left = at.invariant none so in
    let m = components_of at.self in
    let section = c.in-Ok-section.section in
    let next = c.next.new.self in
    let new = c.read_section.new.self in
    let takes = subst (λ (r : Result Section ModuleError). TakesSection at.section-iterator (Some r) next) c.in-Ok-section.is c.in-Some.ensures.steps in
    let done =
    c.in-Ok-read_section.ensures (none_before (module_of bytes) (length bytes) at.section-iterator next section m at.self.spaces left takes) left.so_far in
    section_done (module_of bytes) (length bytes) at.section-iterator next section m at.self.spaces left takes (components_of new) new.spaces done.0 done.1

pub returns-in-Err-read_section : goal.returns-in-Err-read_section
returns-in-Err-read_section c = λ none so.
    let bytes = c.args.self.now.bytes.now in
    let at = c.sections in
    let left = at.invariant none so in
    let m = components_of at.self in
    let section = c.in-Ok-section.section in
    let next = c.next.new.self in
    let takes = subst (λ (r : Result Section ModuleError). TakesSection at.section-iterator (Some r) next) c.in-Ok-section.is c.in-Some.ensures.steps in
    elim (c.in-Err-read_section.ensures (none_before (module_of bytes) (length bytes) at.section-iterator next section m at.self.spaces left takes) left.so_far) [
      | inl memory ↦ inl memory
      | inr failed ↦
          inr (contents_fail (module_of bytes) (length bytes) at.section-iterator next section m at.self.spaces left takes c.in-Err-read_section.error failed)
    ]

pub returns-in-Err-section : goal.returns-in-Err-section
returns-in-Err-section c = λ none so.
    let bytes = c.args.self.now.bytes.now in
    let at = c.sections in
    let next = c.next.new.self in
    let takes = subst (λ (r : Result Section ModuleError). TakesSection at.section-iterator (Some r) next) c.in-Err-section.is c.in-Some.ensures.steps in
    inr (section_fails (module_of bytes) (length bytes) at.section-iterator next (components_of at.self) at.self.spaces c.in-Err-section.error (at.invariant none so) takes)

pub returns : goal.returns
returns c = λ none.
    let before = c.args.self.now in
    let bytes = before.bytes.now in
    let at = c.sections in
    let n = components_of at.self in
    steps_from_gives (components_of before) before.spaces n at.self.spaces (module_of bytes) c.check_counts.result (λ so. (at.invariant none so).so_far)
    (λ so. subst (λ (r : Result Components ModuleError). Gives (λ u. n) c.check_counts.result r)
    (sym (sections_end (module_of bytes) (length bytes) at.section-iterator n at.self.spaces c.in-None.ensures.steps (at.invariant none so))) c.check_counts.ensures)
