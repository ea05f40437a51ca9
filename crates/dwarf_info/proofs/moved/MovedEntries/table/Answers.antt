use Rattle.std.proofs.Common.{rules, ◌≡◌, ◌<◌, ◌≤◌, length, true, false, ltb, sym, refl, arith}
use Rattle.std.specs.List.Sorted.{IsPartitionPoint}
use Rattle.std.proofs.lemmas.Bool.{ltb-false}
use Rattle.code_moves.proofs.Bisection.{point_before, fails_at}
use Rattle.dwarf_line.specs.declared.moved.Moved.{Moved}
use Rattle.dwarf_info.specs.Sound.{Ascend}
use Rattle.dwarf_info.proofs.Search.{keys_rise, finds_read, finds_no_more, finds_greater}
use Rattle.dwarf_info.proofs.moved.MovedEntries.table.Goals as goal
use Rattle.dwarf_info.proofs.moved.MovedEntries.table.Goals.{After-partition_point-place, in_default-via-in-Some+else-table-offset, in_default-via-in_default}

-- the tables before the offset are those up to the place
point : (c : After-partition_point-place) → Ascend (λ (t : Moved). t.old) 0 c.args.self.now.tables.now
    → IsPartitionPoint (λ (t : Moved). ltb t.old c.args.offset ≡ true) (λ (t : Moved). ltb t.old c.args.offset ≡ false) c.args.self.now.tables.now c.partition_point-place.result
point c order =
    let ts = c.args.self.now.tables.now in
    point_before (λ (t : Moved). t.old) c.args.offset ts ts c.partition_point-place.result refl
    (keys_rise (λ (t : Moved). t.old) 0 ts order) c.partition_point-place.ensures.partitioned (λ a r f k. search rules)

pub returns-in-Some : goal.returns-in-Some
returns-in-Some c = λ order.
    let t = c.in-Some.table.now in
    let is : t.old ≡ c.args.offset = omega arith in
    let found = c.in-Some.ensures.lookup in
    sym (finds_read (λ (t : Moved). t.old) 0 c.args.self.now.tables.now order c.partition_point-place.result t c.args.offset found.3.0 found.1 is)

pub returns-in_default : goal.returns-in_default
returns-in_default c = λ order.
    let ts = c.args.self.now.tables.now in
    let place = c.partition_point-place.result in
    let at = (goal.at.returns-in_default c).After-partition_point-place in
    elim c.in_default.branch [
      | in_default-via-in-Some+else-table-offset w ↦
          let t = w.in-Some.table.now in
          let found = w.in-Some.ensures.lookup in
          let other = w.if-table-offset.false in
          let le = ltb-false t.old c.args.offset (fails_at (λ (y : Moved). ltb y.old c.args.offset ≡ false) ts ts place t refl found.3.0 found.1 (point at order).1) in
          let before : c.args.offset < t.old = omega arith in
          sym (finds_greater (λ (t : Moved). t.old) 0 ts order c.args.offset place (point at order).0 t found.3.0 found.1 before)
      | in_default-via-in_default w ↦
          let few : length ts ≤ place = search (arith, rules) in
          sym (finds_no_more (λ (t : Moved). t.old) 0 ts order c.args.offset place (point at order).0 few)
    ]
