use Rattle.std.proofs.Common.{rules}
use Rattle.walrus_emit_state.proofs.draft.Draft.append_to.Goals as goal

pub returns-in_err-reserve-clause-err : goal.returns-in_err-reserve-clause-err
returns-in_err-reserve-clause-err c = search rules
