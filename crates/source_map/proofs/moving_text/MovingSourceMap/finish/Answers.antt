use Rattle.std.proofs.Common.{◌≡◌, ◌++◌, ap, ◌∙◌, append_assoc, rules}
use Rattle.source_map.specs.Moving.{moved_all}
use Rattle.source_map.specs.Shortest.{spelling}
use Rattle.source_map.proofs.MovingTexts.{whole_text}
use Rattle.source_map.proofs.Plain.{plain_spelling, utf8_spelling}
use Rattle.source_map.proofs.ReadBack.{is_text_with}
use Rattle.source_map.proofs.moving_text.MovingSourceMap.finish.Goals as goal

pub returns : goal.returns
returns c = λ all moves h source members from.
    let map = c.args.self.map.now in
    let new = spelling (moved_all moves all) in
    let text = c.extend_from_slice.new.self.items in
    let added : text ≡ c.args.self.text.items ++ map.back.items = search rules in
    let whole : text ≡ map.front.items ++ (new ++ map.back.items) = added ∙ (ap (λ x. x ++ map.back.items) (whole_text all moves c.args.self h) ∙ append_assoc map.front.items new map.back.items) in
    is_text_with source members map new text from (plain_spelling (moved_all moves all)) (utf8_spelling (moved_all moves all)) whole
