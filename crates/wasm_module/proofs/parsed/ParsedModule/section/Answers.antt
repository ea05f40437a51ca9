use Rattle.std.proofs.Common.{◌≡◌, ◌==◌, ℕ, true, false, List, ◌++◌, length, Option, Some, Result, Ok, sym, ap, subst, ◌∙◌, eq-eqb, ne_eqb}
use Rattle.wasm_sections.specs.declared.fault.ModuleError.{ModuleError}
use Rattle.wasm_sections.specs.declared.sections.Section.{Section}
use Rattle.wasm_sections.specs.declared.sections.Sections.{Sections}
use Rattle.wasm_sections.specs.Components.{module_of}
use Rattle.wasm_sections.specs.Sections.{preamble, IsModule, section_id, TakesSection}
use Rattle.wasm_sections.proofs.ViewLemmas.{none_passed, one_passed, one_found, none_found}
use Rattle.wasm_module.proofs.SpelledSectionLemmas.{begins_with_preamble, all_spell, never_fails, section_counted, others_spell}
use Rattle.wasm_module.proofs.parsed.ParsedModule.section.Goals as goal

pub sections-init : goal.sections-init
sections-init c =
    let file = c.bytes.result.now in
    let first = c.into_iter-section-iterator.result in
    let read = c.in-Ok.sections in
    let same : first ≡ read = c.into_iter-section-iterator.ensures.into_iter_gives in
    let parts : file ≡ preamble ++ first.left.rest.now = c.in-Ok.ensures.rest ∙ ap (λ (s : Sections). preamble ++ s.left.rest.now) (sym same) in
    let stop : first.left.end ≡ length file = ap (λ (s : Sections). s.left.end) same ∙ c.in-Ok.ensures.end in
    record {
      first = λ all m. none_passed file all (section_id c.args.kind) first (subst (λ (l : List ℕ). IsModule l all) (sym c.bytes.ensures) m) parts stop;
      spell = λ m is.
          all_spell file m first (ap (λ (l : List ℕ). module_of l) c.bytes.ensures ∙ is)
          (c.in-Ok.ensures.is ∙ ap (λ (s : Sections). Ok (tt, s.left.rest.now)) (sym same)) stop
          (ap (λ (s : Sections). s.rank) same ∙ c.in-Ok.ensures.rank);
    }

pub returns-then-next-id-clause-found : goal.returns-then-next-id-clause-found
returns-then-next-id-clause-found c = λ all m.
    let section = c.in-Ok-section.section in
    let id = section_id c.args.kind in
    let same : (section_id section.kind == id) ≡ true = eq-eqb (section_id section.kind) id (sym c.id-next.ensures ∙ c.if-next-id.true ∙ c.id-id.ensures) in
    one_found all id c.sections.section-iterator c.next.new.self c.next.result section (c.sections.invariant.first all m)
    (c.in-Some.is ∙ ap (λ (r : _). Some r) c.in-Ok-section.is) c.next.ensures.steps same

pub sections-preserved : goal.sections-preserved
sections-preserved c =
    let section = c.in-Ok-section.section in
    let id = section_id c.args.kind in
    let other : (section_id section.kind == id) ≡ false = ne_eqb (section_id section.kind) id (λ e. c.if-next-id.false (c.id-next.ensures ∙ e ∙ sym c.id-id.ensures)) in
    let at = c.sections.section-iterator in
    let next = c.next.new.self in
    let is = c.in-Some.is ∙ ap (λ (r : _). Some r) c.in-Ok-section.is in
    record {
      first = λ all m. one_passed all id at next c.next.result section (c.sections.invariant.first all m) is c.next.ensures.steps other;
      spell = λ m e.
          others_spell at next section (c.sections.invariant.spell m e)
          (subst (λ (o : Option (Result Section ModuleError)). TakesSection at o next) is c.next.ensures.steps);
    }

pub returns-clause-found : goal.returns-clause-found
returns-clause-found c = λ all m.
    none_found all (section_id c.args.kind) c.sections.section-iterator c.next.new.self c.next.result (c.sections.invariant.first all m) c.in-None.is c.next.ensures.steps

pub returns-in-Err-section-clause-never_refused : goal.returns-in-Err-section-clause-never_refused
returns-in-Err-section-clause-never_refused c = λ m e.
    let at = c.sections.section-iterator in
    let next = c.next.new.self in
    absurd (never_fails at next c.in-Err-section.error (c.sections.invariant.spell m e)
    (subst (λ (o : Option (Result Section ModuleError)). TakesSection at o next) (c.in-Some.is ∙ ap (λ (r : _). Some r) c.in-Err-section.is) c.next.ensures.steps))

pub returns-in-Err-clause-never_refused : goal.returns-in-Err-clause-never_refused
returns-in-Err-clause-never_refused c = λ m e.
    absurd (begins_with_preamble c.bytes.result.now m c.in-Err.error (ap (λ (l : List ℕ). module_of l) c.bytes.ensures ∙ e) c.in-Err.ensures.is)

pub returns-then-next-id-clause-counted : goal.returns-then-next-id-clause-counted
returns-then-next-id-clause-counted c = λ m e.
    let section = c.in-Ok-section.section in
    let at = c.sections.section-iterator in
    let next = c.next.new.self in
    section_counted at next section (c.sections.invariant.spell m e)
    (subst (λ (o : Option (Result Section ModuleError)). TakesSection at o next) (c.in-Some.is ∙ ap (λ (r : _). Some r) c.in-Ok-section.is) c.next.ensures.steps)
