use Rattle.std.proofs.Common.{sym, subst}
use Rattle.std.specs.Str.{IsUtf8}
use Rattle.source_map.proofs.Pieces.{utf8_front}
use Rattle.source_map.proofs.json_text.parts.front_of.Goals as goal

pub returns-clause-utf8 : goal.returns-clause-utf8
returns-clause-utf8 c = subst IsUtf8 (sym c.in_ok-push.ensures.items) (utf8_front _ c.text_of-text.ensures.utf8)
