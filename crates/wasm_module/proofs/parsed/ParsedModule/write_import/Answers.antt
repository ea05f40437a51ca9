use Rattle.wasm_module.proofs.parsed.ParsedModule.write_import.Goals as goal

-- The number of imports is no section, so the sections are moved as if it were the one from before.
pub returns-in-Ok-add_item : goal.returns-in-Ok-add_item
returns-in-Ok-add_item c all m =
    let s = c.in-Ok.ensures all m in
    record {
      moved = c.move_sections.new.changes;
      moves = (s.0, record { moved = s.1.moved; others = s.1.others }, s.2);
      adds = c.in-Ok-add_item.ensures.ok all m;
    }
