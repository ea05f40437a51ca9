use Rattle.std.proofs.Common.{sym, ◌∙◌}
use Rattle.walrus_flat.proofs.Drafts.{nothing_waits}
use Rattle.walrus_flat.proofs.writer.Writer.write_else.Goals as goal

pub returns-in-None-clause-ok : goal.returns-in-None-clause-ok
returns-in-None-clause-ok c = nothing_waits c.args.self.now (sym c.waiting.ensures ∙ c.in-None.is)
