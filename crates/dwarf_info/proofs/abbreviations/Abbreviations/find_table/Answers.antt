use Rattle.std.proofs.Common.{rules, ◌≡◌, drop, ◌+◌, ◌<◌, ◌≤◌, ◌∷◌, List, length, true, false, ltb, eqb, sym, ap, ◌∙◌, arith}
use Rattle.std.specs.List.{find}
use Rattle.std.specs.List.Sorted.{IsPartitionPoint}
use Rattle.std.proofs.lemmas.Bool.{ltb-false}
use Rattle.std.proofs.lemmas.List.{drop_all}
use Rattle.code_moves.proofs.Bisection.{point_before, others_from, fails_at}
use Rattle.dwarf_info.specs.declared.abbreviations.Table.{Table}
use Rattle.dwarf_info.proofs.Search.{keys_rise, finds_here, finds_passing, finds_none_from, all_found}
use Rattle.dwarf_info.specs.Sound.{IsSoundTable}
use Rattle.dwarf_info.proofs.abbreviations.Abbreviations.find_table.Goals as goal
use Rattle.dwarf_info.proofs.abbreviations.Abbreviations.find_table.Goals.{After-partition_point-place, In-Some, in_default-via-in-Some+else-table-offset, in_default-via-in_default}

-- the tables before the offset are those up to the place
point : (c : After-partition_point-place) → IsPartitionPoint (λ (t : Table). ltb t.offset c.args.offset ≡ true) (λ (t : Table). ltb t.offset c.args.offset ≡ false) c.args.self.now.tables.items c.partition_point-place.result
point c =
    let a = c.args.self.now in
    point_before (λ (t : Table). t.offset) c.args.offset c.deref.result.now a.tables.items c.partition_point-place.result c.deref.ensures.value
    (keys_rise (λ (t : Table). t.offset) 0 a.tables.items a.sound.0) c.partition_point-place.ensures.partitioned (λ a r f k. search rules)

-- they don't matter
passed : (c : After-partition_point-place) → find (λ (t : Table). eqb t.offset c.args.offset) c.args.self.now.tables.items
    ≡ find (λ (t : Table). eqb t.offset c.args.offset) (drop c.partition_point-place.result c.args.self.now.tables.items)
passed c = finds_passing (λ (t : Table). t.offset) c.args.self.now.tables.items c.args.offset c.partition_point-place.result (point c).0

-- the table at the place is the first of the others
others : (c : In-Some) → drop c.partition_point-place.result c.args.self.now.tables.items ≡ c.in-Some.table.now ∷ drop (c.partition_point-place.result + 1) c.args.self.now.tables.items
others c =
    let found = c.in-Some.ensures.lookup in
    others_from c.deref-2.result.now c.args.self.now.tables.items c.partition_point-place.result c.in-Some.table.now c.deref-2.ensures.value found.3.0 found.1

pub returns-in-Some-clause-found : goal.returns-in-Some-clause-found
returns-in-Some-clause-found c =
    let t = c.in-Some.table.now in
    let is : t.offset ≡ c.args.offset = omega arith in
    sym (passed (goal.at.returns-in-Some-clause-found c).After-partition_point-place
    ∙ (ap (λ (ts : List Table). find (λ (t : Table). eqb t.offset c.args.offset) ts) (others (goal.at.returns-in-Some-clause-found c).In-Some)
    ∙ finds_here (λ (t : Table). t.offset) t (drop (c.partition_point-place.result + 1) c.args.self.now.tables.items) c.args.offset is))

pub returns-in-Some-clause-sound : goal.returns-in-Some-clause-sound
returns-in-Some-clause-sound c =
    let t = c.in-Some.table.now in
    let a = c.args.self.now in
    let is : t.offset ≡ c.args.offset = omega arith in
    all_found (IsSoundTable a.abbreviations.items (length a.attributes.items)) (λ (t : Table). t.offset) c.args.offset a.tables.items t a.sound.1
    (passed (goal.at.returns-in-Some-clause-sound c).After-partition_point-place
    ∙ (ap (λ (ts : List Table). find (λ (t : Table). eqb t.offset c.args.offset) ts) (others (goal.at.returns-in-Some-clause-sound c).In-Some)
    ∙ finds_here (λ (t : Table). t.offset) t (drop (c.partition_point-place.result + 1) a.tables.items) c.args.offset is))

pub returns-in_default-clause-found : goal.returns-in_default-clause-found
returns-in_default-clause-found c =
    let xs = c.args.self.now.tables.items in
    let place = c.partition_point-place.result in
    let at = (goal.at.returns-in_default-clause-found c).After-partition_point-place in
    elim c.in_default.branch [
      | in_default-via-in-Some+else-table-offset w ↦
          let x = w.in-Some.table.now in
          let found = w.in-Some.ensures.lookup in
          let other = w.if-table-offset.false in
          let left = others_from c.deref-2.result.now xs place x c.deref-2.ensures.value found.3.0 found.1 in
          let le = ltb-false x.offset c.args.offset (fails_at (λ (y : Table). ltb y.offset c.args.offset ≡ false) c.deref-2.result.now xs place x c.deref-2.ensures.value found.3.0 found.1 (point at).1) in
          let before : c.args.offset < x.offset = omega arith in
          sym (passed at
          ∙ (ap (λ (ys : List Table). find (λ (y : Table). eqb y.offset c.args.offset) ys) left
          ∙ finds_none_from (λ (y : Table). y.offset) 0 xs c.args.self.now.sound.0 place x (drop (place + 1) xs) left c.args.offset before))
      | in_default-via-in_default w ↦
          let few : length xs ≤ place = search (arith, rules) in
          sym (passed at ∙ ap (λ (ys : List Table). find (λ (y : Table). eqb y.offset c.args.offset) ys) (drop_all place xs few))
    ]
