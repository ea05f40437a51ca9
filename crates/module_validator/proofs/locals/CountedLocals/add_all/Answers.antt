use Rattle.std.proofs.Common.{◌≡◌, ℕ, List, [], Ok, sym, ap, subst, ◌∙◌}
use Rattle.wasm_types.specs.declared.val_type.ValType.{ValType}
use Rattle.wasm_context.specs.Contexts.{without_locals}
use Rattle.wasm_sections.specs.Parts.{Part}
use Rattle.wasm_sections.proofs.TypeReadingLemmas.{unless_memory_as}
use Rattle.module_validator.specs.ModuleRules.{run_of_locals}
use Rattle.module_validator.proofs.LoopLemmas.{ItemsLeft, no_item_passed, item_passed, item_fails, items_passed}
use Rattle.module_validator.proofs.locals.CountedLocals.add_all.Goals as goal

pub runs-init : goal.runs-init
runs-init c =
    let step : List (ValType ℕ) → Part (List (ValType ℕ)) = run_of_locals (without_locals c.args.context.now) c.args.params in
    let end = c.args.input.now.end in
    let text = c.args.input.now.rest.now in
    let rest = c.number.new.self.rest.now in
    record {
      same_end = c.number.ensures.same_end;
      left = subst (λ (types : List (ValType ℕ)). ItemsLeft step c.in-Ok.count 0 [] types end text rest) (sym c.requires)
          (no_item_passed step c.in-Ok.count [] end text rest c.in-Ok.ensures.is);
    }

pub runs-preserved : goal.runs-preserved
runs-preserved c =
    let step : List (ValType ℕ) → Part (List (ValType ℕ)) = run_of_locals (without_locals c.args.context.now) c.args.params in
    let end = c.args.input.now.end in
    let at = c.runs in
    let new = c.add_run.new in
    let is : step at.self end at.input.rest.now ≡ Ok (new.self, new.input.rest.now) =
    ap (λ (n : ℕ). step at.self n at.input.rest.now) (sym at.invariant.same_end) ∙ c.in-Ok-add_run.ensures.is in
    record {
      same_end = c.add_run.ensures.same_end ∙ at.invariant.same_end;
      left = item_passed step c.in-Ok.count at.counter [] at.self end c.args.input.now.rest.now at.input.rest.now at.invariant.left new.self new.input.rest.now
          c.runs-test.true is;
    }

pub returns-in-Err-add_run-clause-is : goal.returns-in-Err-add_run-clause-is
returns-in-Err-add_run-clause-is c =
    let step : List (ValType ℕ) → Part (List (ValType ℕ)) = run_of_locals (without_locals c.args.context.now) c.args.params in
    let end = c.args.input.now.end in
    let at = c.runs in
    let error = c.in-Err-add_run.error in
    item_fails step c.in-Ok.count at.counter [] at.self end c.args.input.now.rest.now at.input.rest.now at.invariant.left error c.runs-test.true
    (unless_memory_as error (step at.self at.input.end at.input.rest.now) (step at.self end at.input.rest.now)
    (ap (λ (n : ℕ). step at.self n at.input.rest.now) (sym at.invariant.same_end)) c.in-Err-add_run.ensures.is)

pub returns-clause-is : goal.returns-clause-is
returns-clause-is c =
    let step : List (ValType ℕ) → Part (List (ValType ℕ)) = run_of_locals (without_locals c.args.context.now) c.args.params in
    let at = c.runs in
    items_passed step c.in-Ok.count at.counter [] at.self c.args.input.now.end c.args.input.now.rest.now at.input.rest.now at.invariant.left c.runs-test.false
