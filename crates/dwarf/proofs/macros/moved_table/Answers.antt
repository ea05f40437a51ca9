use Rattle.std.proofs.Common.{rules, ◌≡◌, ◌<◌, ◌≤◌, length, false, ltb, Option, Some, None, option_map, sym, ap, refl, arith}
use Rattle.std.proofs.lemmas.Bool.{ltb-false}
use Rattle.wasm_numbers.specs.Results.{some_or}
use Rattle.code_moves.proofs.Bisection.{point_before, fails_at}
use Rattle.dwarf_bytes.specs.declared.fault.DebugFault.TheVariants.{BadOffset}
use Rattle.dwarf_line.specs.declared.moved.Moved.{Moved}
use Rattle.dwarf_info.specs.Taken.{table_from}
use Rattle.dwarf_info.proofs.Search.{keys_rise, finds_read, finds_no_more, finds_greater}
use Rattle.dwarf.proofs.macros.moved_table.Goals as goal

-- what is found, or not
found_at : (found is : Option Moved) → found ≡ is → some_or (option_map (λ (t : Moved). t.new) found) BadOffset ≡ some_or (option_map (λ (t : Moved). t.new) is) BadOffset
found_at found is e = ap (λ (o : Option Moved). some_or (option_map (λ (t : Moved). t.new) o) BadOffset) e

pub returns-in_default : goal.returns-in_default
returns-in_default c =
    let ts = c.args.tables.now in
    let place = c.partition_point-place.result in
    let point = point_before (λ (t : Moved). t.old) c.args.offset ts ts place refl (keys_rise (λ (t : Moved). t.old) 0 ts c.requires) c.partition_point-place.ensures.partitioned (λ a r f k. search rules) in
    let few : length ts ≤ place = search (arith, rules) in
    sym (found_at (table_from ts c.args.offset) None (finds_no_more (λ (t : Moved). t.old) 0 ts c.requires c.args.offset place point.0 few))

pub returns-then-table-offset : goal.returns-then-table-offset
returns-then-table-offset c =
    let ts = c.args.tables.now in
    let place = c.partition_point-place.result in
    let point = point_before (λ (t : Moved). t.old) c.args.offset ts ts place refl (keys_rise (λ (t : Moved). t.old) 0 ts c.requires) c.partition_point-place.ensures.partitioned (λ a r f k. search rules) in
    let t = c.in-Some.table.now in
    let found = c.in-Some.ensures.lookup in
    let other = c.if-table-offset.true in
    let le = ltb-false t.old c.args.offset (fails_at (λ (y : Moved). ltb y.old c.args.offset ≡ false) ts ts place t refl found.3.0 found.1 point.1) in
    let before : c.args.offset < t.old = omega arith in
    sym (found_at (table_from ts c.args.offset) None (finds_greater (λ (y : Moved). y.old) 0 ts c.requires c.args.offset place point.0 t found.3.0 found.1 before))

pub returns : goal.returns
returns c =
    let ts = c.args.tables.now in
    let t = c.in-Some.table.now in
    let found = c.in-Some.ensures.lookup in
    sym (found_at (table_from ts c.args.offset) (Some t) (finds_read (λ (y : Moved). y.old) 0 ts c.requires c.partition_point-place.result t c.args.offset found.3.0 found.1 c.if-table-offset.false))
