use Rattle.std.proofs.Common.{rules}
use Rattle.walrus_emit_state.proofs.announcing.scopes_of_if.Goals as goal

pub returns-clause-scopes : goal.returns-clause-scopes
returns-clause-scopes c = search rules
