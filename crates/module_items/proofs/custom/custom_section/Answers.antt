use Rattle.std.proofs.Common.{◌≡◌, ℕ, List, ◌++◌, Option, Some, Result, sym, ap, subst, ◌∙◌, option_map}
use Rattle.wasm_sections.specs.declared.fault.ModuleError.{ModuleError}
use Rattle.wasm_sections.specs.declared.sections.Section.{Section}
use Rattle.wasm_sections.specs.declared.sections.Sections.{Sections}
use Rattle.wasm_sections.specs.Sections.{preamble, IsModule, section_at, TakesSection}
use Rattle.module_items.specs.CustomSections.{IsCustomSection}
use Rattle.module_items.proofs.NamedSectionLemmas.{no_section_passed, one_passed, one_found, none_found}
use Rattle.module_items.proofs.custom.custom_section.Goals as goal

pub sections-init : goal.sections-init
sections-init c = λ all m.
    let file = c.bytes.result.now in
    let first = c.into_iter-section-iterator.result in
    let read = c.in-Ok.sections in
    let same : first ≡ read = c.into_iter-section-iterator.ensures.into_iter_gives in
    no_section_passed file all c.args.name.now first (subst (λ (l : _). IsModule l all) (sym c.bytes.ensures) m)
    (c.in-Ok.ensures.rest ∙ ap (λ (s : Sections). preamble ++ s.left.rest.now) (sym same))
    (ap (λ (s : Sections). s.left.end) same ∙ c.in-Ok.ensures.end)

pub returns-in-Ok-Some : goal.returns-in-Ok-Some
returns-in-Ok-Some c = λ all m.
    let at = c.sections.section-iterator in
    let next = c.next.new.self in
    let section = c.in-Ok-section.section in
    let name = c.args.name.now in
    let takes =
    subst (λ (o : Option (Result Section ModuleError)). TakesSection at o next) (c.in-Some.is ∙ ap (λ (r : _). Some r) c.in-Ok-section.is) c.next.ensures.steps in
    let named = subst (λ (o : Option (List ℕ)). IsCustomSection name (section_at section) o) (ap (λ (f : _). option_map (λ s. s.now) f) c.in-Ok-Some.field-0-is) c.in-Ok-Some.ensures in
    one_found all name at next section (c.sections.invariant all m) takes c.in-Ok-Some.contents.now named

pub sections-preserved : goal.sections-preserved
sections-preserved c = λ all m.
    let at = c.sections.section-iterator in
    let next = c.next.new.self in
    let section = c.in-Ok-section.section in
    let name = c.args.name.now in
    let takes =
    subst (λ (o : Option (Result Section ModuleError)). TakesSection at o next) (c.in-Some.is ∙ ap (λ (r : _). Some r) c.in-Ok-section.is) c.next.ensures.steps in
    let other = subst (λ (o : Option (List ℕ)). IsCustomSection name (section_at section) o) (ap (λ (f : _). option_map (λ s. s.now) f) c.in-Ok-None.field-0-is) c.in-Ok-None.ensures in
    one_passed all name at next section (c.sections.invariant all m) takes other

pub returns : goal.returns
returns c = λ all m.
    none_found all c.args.name.now c.sections.section-iterator c.next.new.self (c.sections.invariant all m)
    (subst (λ (o : Option (Result Section ModuleError)). TakesSection c.sections.section-iterator o c.next.new.self) c.in-None.is c.next.ensures.steps)
