use Rattle.json.specs.Value.{value_view}
use Rattle.json.proofs.Numbered.{document-HasNumbers}
use Rattle.source_map.proofs.json_text.source_map.SourceMap.read.Goals as goal

pub source_map_of-requires : goal.source_map_of-requires
source_map_of-requires c = document-HasNumbers c.in-Ok.text.now (value_view c.in-Ok-read_text.value) c.in-Ok-read_text.ensures.value
