use Rattle.std.proofs.Common.{ℕ, List, inl, inr, subst}
use Rattle.wasm_sections.specs.declared.fault.ModuleError.{ModuleError}
use Rattle.module_removal.specs.declared.writing.Writer.{Writer}
use Rattle.module_removal.specs.SeveralSteps.{SoManySteps}
use Rattle.module_removal.specs.LeftSections.{WritesItem}
use Rattle.module_removal.proofs.LeftSectionLemmas.{ok_then}
use Rattle.module_removal.specs.Refusals.{StopsAfter, StopsAtItem, StopsAtItems}
use Rattle.module_removal.proofs.RefusalLemmas.{if_err_then}
use Rattle.module_removal.proofs.writing.Writer.items.Goals as goal

pub returns-clause-is : goal.returns-clause-is
returns-clause-is c =
    let section = c.args.section.now in
    let count = c.in-Ok.value in
    let old : Writer × List ℕ = (c.args.self.now, c.number.new.self.rest.now) in
    let new : Writer × List ℕ = (c.several.new.self, c.several.new.input.rest.now) in
    ok_then c.several.result c.several.ensures.is
    (λ steps. (
      count,
      c.number.new.self.rest.now,
      c.several.new.input.rest.now,
      c.in-Ok.ensures.value,
      subst (λ (n : ℕ). SoManySteps (WritesItem section.kind n) count old new) c.in-Ok.ensures.same_end steps,
    ))

pub returns-in-Err-clause-err : goal.returns-in-Err-clause-err
returns-in-Err-clause-err c = inl c.in-Err.ensures.is

pub returns-clause-err : goal.returns-clause-err
returns-clause-err c =
    let section = c.args.section.now in
    let kind = section.kind in
    let count = c.in-Ok.value in
    let old : Writer × List ℕ = (c.args.self.now, c.number.new.self.rest.now) in
    let Stops : ℕ → ModuleError → Type 0 = λ n. StopsAfter (WritesItem kind n) (StopsAtItem kind n) count old in
    if_err_then (Stops c.number.new.self.end) (StopsAtItems kind section.contents.end section.contents.rest.now c.args.self.now) c.several.result c.several.ensures.err
    (λ e s. inr (count, c.number.new.self.rest.now, c.in-Ok.ensures.is, subst (λ (n : ℕ). Stops n e) c.in-Ok.ensures.same_end s))
