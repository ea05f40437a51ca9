use Rattle.std.proofs.Common.{rules, ◌≡◌, drop, ◌+◌, ◌<◌, ◌≤◌, ◌∷◌, List, length, true, false, ltb, eqb, refl, sym, ap, ◌∙◌, arith}
use Rattle.std.specs.List.{find}
use Rattle.std.specs.List.Sorted.{IsPartitionPoint}
use Rattle.std.proofs.lemmas.Bool.{ltb-false}
use Rattle.std.proofs.lemmas.List.{drop_all}
use Rattle.code_moves.proofs.Bisection.{point_before, others_from, fails_at}
use Rattle.dwarf_info.specs.declared.abbreviations.Abbreviation.{Abbreviation}
use Rattle.dwarf_info.proofs.Search.{keys_rise, finds_here, finds_passing, finds_none_from}
use Rattle.dwarf_info.proofs.abbreviations.AbbreviationTable.search.Goals as goal
use Rattle.dwarf_info.proofs.abbreviations.AbbreviationTable.search.Goals.{After-partition_point-place, In-Some, in_default-via-in-Some+else-abbreviation-code, in_default-via-in_default}

-- the abbreviations before the code are those up to the place
point : (c : After-partition_point-place) → IsPartitionPoint (λ (a : Abbreviation). ltb a.code c.args.code ≡ true) (λ (a : Abbreviation). ltb a.code c.args.code ≡ false) c.args.self.now.abbreviations.now c.partition_point-place.result
point c =
    let xs = c.args.self.now.abbreviations.now in
    point_before (λ (a : Abbreviation). a.code) c.args.code xs xs c.partition_point-place.result refl
    (keys_rise (λ (a : Abbreviation). a.code) 0 xs c.args.self.now.sound.0) c.partition_point-place.ensures.partitioned (λ a r f k. search rules)

-- they don't matter
passed : (c : After-partition_point-place) → find (λ (a : Abbreviation). eqb a.code c.args.code) c.args.self.now.abbreviations.now
    ≡ find (λ (a : Abbreviation). eqb a.code c.args.code) (drop c.partition_point-place.result c.args.self.now.abbreviations.now)
passed c = finds_passing (λ (a : Abbreviation). a.code) c.args.self.now.abbreviations.now c.args.code c.partition_point-place.result (point c).0

-- the abbreviation at the place is the first of the others
others : (c : In-Some) → drop c.partition_point-place.result c.args.self.now.abbreviations.now ≡ c.in-Some.abbreviation.now ∷ drop (c.partition_point-place.result + 1) c.args.self.now.abbreviations.now
others c =
    let found = c.in-Some.ensures.lookup in
    let xs = c.args.self.now.abbreviations.now in
    others_from xs xs c.partition_point-place.result c.in-Some.abbreviation.now refl found.3.0 found.1

pub returns-in-Some : goal.returns-in-Some
returns-in-Some c =
    let a = c.in-Some.abbreviation.now in
    let is : a.code ≡ c.args.code = omega arith in
    sym (passed (goal.at.returns-in-Some c).After-partition_point-place
    ∙ (ap (λ (xs : List Abbreviation). find (λ (a : Abbreviation). eqb a.code c.args.code) xs) (others (goal.at.returns-in-Some c).In-Some)
    ∙ finds_here (λ (a : Abbreviation). a.code) a (drop (c.partition_point-place.result + 1) c.args.self.now.abbreviations.now) c.args.code is))

pub returns-in_default : goal.returns-in_default
returns-in_default c =
    let xs = c.args.self.now.abbreviations.now in
    let place = c.partition_point-place.result in
    let at = (goal.at.returns-in_default c).After-partition_point-place in
    elim c.in_default.branch [
      | in_default-via-in-Some+else-abbreviation-code w ↦
          let x = w.in-Some.abbreviation.now in
          let found = w.in-Some.ensures.lookup in
          let other = w.if-abbreviation-code.false in
          let left = others_from xs xs place x refl found.3.0 found.1 in
          let le = ltb-false x.code c.args.code (fails_at (λ (y : Abbreviation). ltb y.code c.args.code ≡ false) xs xs place x refl found.3.0 found.1 (point at).1) in
          let before : c.args.code < x.code = omega arith in
          sym (passed at
          ∙ (ap (λ (ys : List Abbreviation). find (λ (y : Abbreviation). eqb y.code c.args.code) ys) left
          ∙ finds_none_from (λ (y : Abbreviation). y.code) 0 xs c.args.self.now.sound.0 place x (drop (place + 1) xs) left c.args.code before))
      | in_default-via-in_default w ↦
          let few : length xs ≤ place = search (arith, rules) in
          sym (passed at ∙ ap (λ (ys : List Abbreviation). find (λ (y : Abbreviation). eqb y.code c.args.code) ys) (drop_all place xs few))
    ]
