use Rattle.std.proofs.Common.{rules}
use Rattle.walrus_parser.proofs.parse.unread.Goals as goal

pub returns : goal.returns
returns c = search rules
