use Rattle.std.proofs.Common.{refl}
use Rattle.wasm_module.proofs.parsed.ParsedModule.move_sections.Goals as goal

pub returns-in-Ok-move_section-4 : goal.returns-in-Ok-move_section-4
returns-in-Ok-move_section-4 c all m = (
  c.move_section.new.changes,
  c.in-Ok.ensures all m,
  (
    c.move_section-2.new.changes,
    c.in-Ok-move_section.ensures all m,
    (
      c.move_section-3.new.changes,
      c.in-Ok-move_section-2.ensures all m,
      (
        c.move_section-4.new.changes,
        c.in-Ok-move_section-3.ensures all m,
        (c.move_section-5.new.changes, c.in-Ok-move_section-4.ensures all m, λ id. refl),
      ),
    ),
  ),
)
