use Rattle.std.proofs.Common.{codes}
use Rattle.std.proofs.lemmas.Str.Pattern.{starts_text}
use Rattle.module_removal.proofs.followed.is_metadata.Goals as goal

pub returns : goal.returns
returns c = starts_text c.starts_with.result (codes "metadata.code.") c.args.name.now c.starts_with.ensures.cases
