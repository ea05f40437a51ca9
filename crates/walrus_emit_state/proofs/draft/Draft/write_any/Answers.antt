use Rattle.std.proofs.Common.{rules}
use Rattle.walrus_emit_state.proofs.draft.Draft.write_any.Goals as goal

pub returns-clause-ok : goal.returns-clause-ok
returns-clause-ok c = search rules
