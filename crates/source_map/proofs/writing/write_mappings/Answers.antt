use Rattle.std.proofs.Common.{◌≡◌, ◌∷◌, ◌++◌, None, get_or, drop, sym, ap, ◌∙◌, append_assoc, drop-cons, arith}
use Rattle.std.proofs.lemmas.List.{take_rest}
use Rattle.source_map.specs.declared.mapping.Mapping.{Mapping}
use Rattle.source_map.specs.Spelling.{no_fields}
use Rattle.source_map.specs.Shortest.{short_segment, spelling}
use Rattle.source_map.proofs.Loops.{first_written}
use Rattle.source_map.proofs.writing.write_mappings.Goals as goal

pub loop-mapping-init : goal.loop-mapping-init
loop-mapping-init c =
    let all = c.args.mappings.now in
    let before = c.args.out.now.items in
    let none : Mapping = record { generated = 0; original = None } in
    let item = get_or all 0 none in
    let whole : all ≡ item ∷ drop 1 all = drop-cons all 0 none (omega arith) in
    rw (take_rest all 1, c.in_ok-write_segment.ensures, c.after-fields.ensures, c.start-fields.ensures)
    (append_assoc before (short_segment no_fields item) _ ∙ ap (λ l. before ++ l) (first_written no_fields item (drop 1 all) ∙ sym (ap spelling whole)))
