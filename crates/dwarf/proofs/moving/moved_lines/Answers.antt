use Rattle.std.proofs.Common.{◌≡◌, ℕ, List, inl, inr, refl, subst}
use Rattle.std.proofs.lemmas.Result.{err_from_is_err_and}
use Rattle.dwarf_bytes.specs.declared.fault.DebugError.{DebugError}
use Rattle.dwarf_bytes.specs.declared.fault.DebugError.TheVariants.{Memory, Fault}
use Rattle.dwarf_line.specs.LineTables.{IsMovedSection, AreTablesAt}
use Rattle.dwarf_line.specs.Refusals.{IsRefusal}
use Rattle.dwarf_info.proofs.Taking.{IsMemoryOr}
use Rattle.dwarf.specs.declared.sections.SectionName.TheVariants as names
use Rattle.dwarf.specs.MovedDebug.{section_read}
use Rattle.dwarf.specs.MovedDebugViews.{debug_setting}
use Rattle.dwarf.proofs.Failures.{ok_of, err_of, failure_within}
use Rattle.dwarf.proofs.moving.moved_lines.Goals as goal

-- out of memory, or a fault
line_refused : (section : List ℕ) (e : DebugError) → IsRefusal section e → IsMemoryOr (λ fault. IsRefusal section (Fault fault)) e
line_refused section Memory h = inl refl
line_refused section (Fault f) h = inr (f, refl, h)

pub returns-clause-moved : goal.returns-clause-moved
returns-clause-moved c =
    let bodies = c.args.moves.now.bodies.items in
    let lines = c.in_ok-lines.lines in
    let moved = ok_of c.move_lines.result lines _ c.in_ok-lines.ensures.moved c.move_lines.ensures.moved in
    let places = ok_of c.move_lines.result lines _ c.in_ok-lines.ensures.moved c.move_lines.ensures.places in (
      lines.sequences.items,
      subst (λ (l : List ℕ). IsMovedSection bodies l lines.bytes.items) c.get.ensures.named moved,
      subst (λ (l : List ℕ). AreTablesAt bodies 0 0 lines.tables.items lines.sequences.items l lines.bytes.items) c.get.ensures.named places,
    )

pub returns-in_err-lines-clause-refused : goal.returns-in_err-lines-clause-refused
returns-in_err-lines-clause-refused c =
    let d = debug_setting c.args.sections.now c.args.moves.now in
    let r = c.in_err-lines.ensures.refused in
    let p = err_from_is_err_and c.from_residual.result c.from_residual.ensures.1 in
    rw (p.1, p.2)
    (failure_within names.Lines _ (λ section fault. (section ≡ names.Lines) × IsRefusal (section_read d names.Lines) (Fault fault)) _ r.0
    (line_refused c.get.result.now _ (err_of c.move_lines.result _ _ r.1 c.move_lines.ensures.refused))
    (λ fault h. (refl, subst (λ (l : List ℕ). IsRefusal l (Fault fault)) c.get.ensures.named h)))
