use Rattle.std.proofs.Common.{rules, ap, ◌≡◌, ◌++◌, ◌∷◌, [], List, Ok, Err, inl, inr, sym, ◌∙◌, subst}
use Rattle.std.proofs.lemmas.Result.{err_from_is_err_and}
use Rattle.dwarf_bytes.specs.declared.fault.DebugError.TheVariants.{Fault}
use Rattle.dwarf_line.specs.declared.moved.Moved.{Moved}
use Rattle.dwarf_line.specs.Refusals.{IsRefusal}
use Rattle.dwarf_info.specs.Sound.{Ascend}
use Rattle.dwarf.specs.declared.moving.MovedSection.{MovedSection}
use Rattle.dwarf.specs.declared.sections.SectionName.TheVariants as names
use Rattle.dwarf.specs.Macros.{macro_section_followed}
use Rattle.dwarf.specs.Sections.{NamedContents, moved_contents}
use Rattle.dwarf.specs.MovedDebug.{section_read, AreOthersMoved, AreOthersNotMoved, AreSectionsNotMoved}
use Rattle.dwarf.specs.MovedDebugViews.{debug_setting}
use Rattle.dwarf.proofs.Failures.{failure_more, added_two}
use Rattle.dwarf.proofs.TablesAscend.{tables_ascend}
use Rattle.dwarf.proofs.moving.move_sections.Goals as goal

pub add_macros-requires : goal.add_macros-requires
add_macros-requires c =
    let d = debug_setting c.args.sections.now c.args.moves.now in
    let lines = c.in_ok-lines.lines in
    let places = c.in_ok-lines.ensures.moved in
    subst (λ (ms : List Moved). Ascend (λ (m : Moved). m.old) 0 ms) (sym c.deref.ensures.value)
    (tables_ascend d.bodies 0 0 lines.tables.items places.0 (section_read d names.Lines) lines.bytes.items places.2)

pub returns-clause-moved : goal.returns-clause-moved
returns-clause-moved c =
    let d = debug_setting c.args.sections.now c.args.moves.now in
    let lines = c.in_ok-lines.lines in
    let macros = c.in_ok-add_macros.ensures.added in
    let others = c.in_ok-move_others.ensures.moved in
    let one : List NamedContents = (names.Lines, lines.bytes.items) ∷ [] in
    let two : List NamedContents = (names.Macros, macros.0) ∷ [] in
    let empty : c.new.result.items ≡ [] = search rules in
    let begun = c.in_ok-add.ensures.added ∙ ap (λ (l : List MovedSection). moved_contents l ++ one) empty in
    record {
      lines = lines.bytes.items;
      tables = lines.tables.items;
      lines_are = c.in_ok-lines.ensures.moved;
      macros = macros.0;
      macros_are = subst (λ (ts : List Moved). macro_section_followed ts (section_read d names.Macros) ≡ Ok macros.0) c.deref.ensures.value macros.1;
      others = others.0;
      others_are = subst (λ (ts : List Moved). AreOthersMoved d ts others.0) c.deref-2.ensures.value others.1;
      news_are = added_two [] _ _ one (two ++ others.0) begun (added_two _ _ _ two others.0 macros.2 others.2);
    }

pub returns-in_err-lines-clause-refused : goal.returns-in_err-lines-clause-refused
returns-in_err-lines-clause-refused c =
    let d = debug_setting c.args.sections.now c.args.moves.now in
    let p = err_from_is_err_and c.from_residual.result c.from_residual.ensures.1 in
    rw (p.1, p.2)
    (failure_more (λ section fault. (section ≡ names.Lines) × IsRefusal (section_read d names.Lines) (Fault fault)) (AreSectionsNotMoved d) c.in_err-lines.field-0.0 (λ section fault h. inl h)
    c.in_err-lines.ensures.refused)

pub returns-in_err-add-clause-refused : goal.returns-in_err-add-clause-refused
returns-in_err-add-clause-refused c =
    let p = err_from_is_err_and c.from_residual-in_err-add.result c.from_residual-in_err-add.ensures.1 in
    rw (p.1, p.2) (inl c.in_err-add.ensures.memory)

pub returns-in_err-add_macros-clause-refused : goal.returns-in_err-add_macros-clause-refused
returns-in_err-add_macros-clause-refused c =
    let d = debug_setting c.args.sections.now c.args.moves.now in
    let lines = c.in_ok-lines.lines in
    let p = err_from_is_err_and c.from_residual-in_err-add_macros.result c.from_residual-in_err-add_macros.ensures.1 in
    rw (p.1, p.2)
    (failure_more (λ section fault. (section ≡ names.Macros) × (macro_section_followed c.deref.result.now (section_read d names.Macros) ≡ Err fault)) (AreSectionsNotMoved d) c.in_err-add_macros.field-0.0
    (λ section fault h.
    inr (
      lines.bytes.items,
      lines.tables.items,
      c.in_ok-lines.ensures.moved,
      inl (h.0, subst (λ (ts : List Moved). macro_section_followed ts (section_read d names.Macros) ≡ Err fault) c.deref.ensures.value h.1),
    ))
    c.in_err-add_macros.ensures.refused)

pub returns-in_err-move_others-clause-refused : goal.returns-in_err-move_others-clause-refused
returns-in_err-move_others-clause-refused c =
    let d = debug_setting c.args.sections.now c.args.moves.now in
    let lines = c.in_ok-lines.lines in
    let macros = c.in_ok-add_macros.ensures.added in
    let known = subst (λ (ts : List Moved). macro_section_followed ts (section_read d names.Macros) ≡ Ok macros.0) c.deref.ensures.value macros.1 in
    let p = err_from_is_err_and c.from_residual-in_err-move_others.result c.from_residual-in_err-move_others.ensures.1 in
    rw (p.1, p.2)
    (failure_more (AreOthersNotMoved d c.deref-2.result.now) (AreSectionsNotMoved d) c.in_err-move_others.field-0.0
    (λ section fault h.
    inr (
      lines.bytes.items,
      lines.tables.items,
      c.in_ok-lines.ensures.moved,
      inr (macros.0, known, subst (λ (ts : List Moved). AreOthersNotMoved d ts section fault) c.deref-2.ensures.value h),
    ))
    c.in_err-move_others.ensures.refused)
