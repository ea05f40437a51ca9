use Rattle.std.proofs.Common.{◌≡◌, ◌++◌, append_assoc, arith}
use Rattle.source_map.specs.Shortest.{spelling}
use Rattle.source_map.proofs.Plain.{plain_spelling, utf8_spelling}
use Rattle.source_map.proofs.ReadBack.{is_text_with}
use Rattle.source_map.proofs.json_text.source_map.SourceMap.text_with.Goals as goal

pub returns : goal.returns
returns c = λ source members from.
    let map = c.args.self.now in
    let mappings = c.args.mappings.now in
    let new = spelling mappings in
    let text = c.extend_from_slice-2.new.self.items in
    let whole : text ≡ map.front.items ++ (new ++ map.back.items) = grind (arith, append_assoc) in
    is_text_with source members map new text from (plain_spelling mappings) (utf8_spelling mappings) whole
