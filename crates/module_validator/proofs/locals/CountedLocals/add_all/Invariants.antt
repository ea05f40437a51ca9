use Rattle.std.proofs.Common.{◌≡◌, []}
use Rattle.wasm_context.specs.Contexts.{without_locals}
use Rattle.module_validator.specs.ModuleRules.{run_of_locals}
use Rattle.module_validator.proofs.LoopLemmas.{ItemsLeft}
use Rattle.module_validator.proofs.locals.CountedLocals.add_all.Given as goal

abbrev pub invariant-runs : goal.invariant-runs
invariant-runs l = record {
  same_end : l.input.end ≡ l.fn.input.end;
  left :
      ItemsLeft (run_of_locals (without_locals l.context) l.params) l.count l.counter [] l.self l.fn.input.end l.fn.input.rest.now l.input.rest.now;
}
