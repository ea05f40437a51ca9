use Rattle.std.proofs.Common.{length}
use Rattle.wasm_context.specs.Contexts.{without_locals}
use Rattle.module_validator.proofs.ConstantLemmas.{ConstantsLeft}
use Rattle.module_validator.proofs.constant.check_operators.Given as goal

abbrev pub invariant-operators : goal.invariant-operators
invariant-operators l = ConstantsLeft (without_locals l.context) l.globals l.start l.code l.reader.place l.reader.rest

abbrev pub decreases-operators : goal.decreases-operators
decreases-operators l = length l.reader.rest
