use Rattle.std.proofs.Common.{refl, inr, arith}
use Rattle.std.proofs.lemmas.Result.{err_from_is_err_and}
use Rattle.dwarf_line.specs.Views.{line_table}
use Rattle.dwarf_line.proofs.RepeatedLemmas.{nothing_left, something_left}
use Rattle.dwarf_line.proofs.TableLemmas.{no_table, one_more_table, section_written, section_places, section_shorter, table_shorter, refused_table, refused_program}
use Rattle.dwarf_line.proofs.section.move_lines.Goals as goal

pub tables-init : goal.tables-init
tables-init c = rw (c.new.ensures.items, c.new-2.ensures.items, c.new-3.ensures.items) (no_table _ c.args.section.now)

pub overflow_sub-place : goal.overflow_sub-place
overflow_sub-place c = section_shorter _ _ _ _ _ _ c.tables.invariant

pub tables-smaller : goal.tables-smaller
tables-smaller c = table_shorter _ (line_table c.in_ok-table.table) _ c.in_ok-table.ensures

pub tables-preserved : goal.tables-preserved
tables-preserved c =
    one_more_table _ _ _ _ (line_table c.in_ok-table.table) _ c.in_ok-program_place.program_place _ c.move_program.new.out.items _ _ _ _ _ _ c.tables.invariant c.in_ok-table.ensures c.clear.ensures.items
    c.in_ok-move_program.ensures.adds (rw (← c.as_slice.ensures.value) c.in_ok-write_table.ensures.adds) refl (omega (arith, c.len.ensures)) c.in_ok-program_place.ensures.old c.in_ok-program_place.ensures.new c.in_ok-push.ensures.items

pub returns-clause-moved : goal.returns-clause-moved
returns-clause-moved c = section_written _ _ _ _ _ _ c.tables.invariant (nothing_left c.tables.rest.now c.tables-test.ensures)

pub returns-clause-places : goal.returns-clause-places
returns-clause-places c = section_places _ _ _ _ _ _ c.tables.invariant (nothing_left c.tables.rest.now c.tables-test.ensures)

pub returns-in_err-table-clause-refused : goal.returns-in_err-table-clause-refused
returns-in_err-table-clause-refused c =
    let p = err_from_is_err_and c.from_residual.result c.from_residual.ensures.1 in
    rw (p.1, p.2) (inr (refused_table _ _ _ _ _ _ c.tables.invariant (something_left c.tables.rest.now c.tables-test.ensures) _ c.in_err-table.ensures))

pub returns-in_err-move_program-clause-refused : goal.returns-in_err-move_program-clause-refused
returns-in_err-move_program-clause-refused c =
    let p = err_from_is_err_and c.from_residual-in_err-move_program.result c.from_residual-in_err-move_program.ensures.1 in
    rw (p.1, p.2) (refused_program _ _ _ _ _ _ c.tables.invariant (something_left c.tables.rest.now c.tables-test.ensures) (line_table c.in_ok-table.table) _ _ c.in_ok-table.ensures
    c.in_err-move_program.ensures.errors)
