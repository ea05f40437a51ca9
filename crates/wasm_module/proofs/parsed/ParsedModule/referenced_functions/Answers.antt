use Rattle.std.proofs.Common.{◌≡◌, ℕ, List, ◌++◌, length, Option, Some, Result, Ok, sym, ap, subst, ◌∙◌}
use Rattle.wasm_sections.specs.declared.fault.ModuleError.{ModuleError}
use Rattle.wasm_sections.specs.declared.sections.Section.{Section}
use Rattle.wasm_sections.specs.declared.sections.Sections.{Sections}
use Rattle.wasm_sections.specs.Components.{module_of}
use Rattle.wasm_sections.specs.Sections.{preamble, IsModule, TakesSection}
use Rattle.wasm_sections.proofs.ReferenceLemmas.{references_at_first, one_more_section, all_found}
use Rattle.wasm_module.proofs.SpelledSectionLemmas.{begins_with_preamble, all_spell, never_fails, others_spell, refers_unless_memory}
use Rattle.wasm_module.proofs.parsed.ParsedModule.referenced_functions.Goals as goal

pub sections-init : goal.sections-init
sections-init c =
    let file = c.bytes.result.now in
    let first = c.into_iter-section-iterator.result in
    let same = c.into_iter-section-iterator.ensures.into_iter_gives in
    let parts : file ≡ preamble ++ first.left.rest.now = c.in-Ok.ensures.rest ∙ ap (λ (s : Sections). preamble ++ s.left.rest.now) (sym same) in
    let stop : first.left.end ≡ length file = ap (λ (s : Sections). s.left.end) same ∙ c.in-Ok.ensures.end in
    record {
      so_far = λ all m.
          references_at_first file all first c.new-found.result.items (subst (λ (l : List ℕ). IsModule l all) (sym c.bytes.ensures) m) parts stop
          c.new-found.ensures.items;
      spell = λ m is.
          all_spell file m first (ap (λ (l : List ℕ). module_of l) c.bytes.ensures ∙ is)
          (c.in-Ok.ensures.is ∙ ap (λ (s : Sections). Ok (tt, s.left.rest.now)) (sym same)) stop
          (ap (λ (s : Sections). s.rank) same ∙ c.in-Ok.ensures.rank);
    }

pub sections-preserved : goal.sections-preserved
sections-preserved c =
    let at = c.sections in
    let next = c.next.new.self in
    let section = c.in-Ok-section.section in
    let added = c.in-Ok-add_references.ensures in
    let is = c.in-Some.is ∙ ap (λ (r : _). Some r) c.in-Ok-section.is in
    record {
      so_far = λ all m.
          one_more_section all at.section-iterator next c.next.result at.found.items (at.invariant.so_far all m) section c.add_references.new.found.items
          added.0 is c.next.ensures.steps added.1;
      spell = λ m e.
          others_spell at.section-iterator next section (at.invariant.spell m e)
          (subst (λ (o : Option (Result Section ModuleError)). TakesSection at.section-iterator o next) is c.next.ensures.steps);
    }

pub returns-clause-found : goal.returns-clause-found
returns-clause-found c = λ all m.
    let at = c.sections in
    all_found all at.section-iterator c.next.new.self c.next.result at.found.items (at.invariant.so_far all m) c.in-None.is c.next.ensures.steps

pub returns-in-Err-add_references-clause-refused : goal.returns-in-Err-add_references-clause-refused
returns-in-Err-add_references-clause-refused c = λ m e.
    let at = c.sections in
    let next = c.next.new.self in
    let section = c.in-Ok-section.section in
    let takes =
    subst (λ (o : Option (Result Section ModuleError)). TakesSection at.section-iterator o next)
    (c.in-Some.is ∙ ap (λ (r : _). Some r) c.in-Ok-section.is) c.next.ensures.steps in
    refers_unless_memory at.section-iterator next section (at.invariant.spell m e) takes c.in-Err-add_references.error c.in-Err-add_references.ensures.1

pub returns-in-Err-section-clause-refused : goal.returns-in-Err-section-clause-refused
returns-in-Err-section-clause-refused c = λ m e.
    let at = c.sections.section-iterator in
    let next = c.next.new.self in
    absurd (never_fails at next c.in-Err-section.error (c.sections.invariant.spell m e)
    (subst (λ (o : Option (Result Section ModuleError)). TakesSection at o next) (c.in-Some.is ∙ ap (λ (r : _). Some r) c.in-Err-section.is) c.next.ensures.steps))

pub returns-in-Err-clause-refused : goal.returns-in-Err-clause-refused
returns-in-Err-clause-refused c = λ m e.
    absurd (begins_with_preamble c.bytes.result.now m c.in-Err.error (ap (λ (l : List ℕ). module_of l) c.bytes.ensures ∙ e) c.in-Err.ensures.is)
