use Rattle.std.proofs.Common.{rules}
use Rattle.walrus_context.proofs.context.ValidationContext.push_function_type.Goals as goal

pub returns-in-Some-clause-ok : goal.returns-in-Some-clause-ok
returns-in-Some-clause-ok c = search rules
