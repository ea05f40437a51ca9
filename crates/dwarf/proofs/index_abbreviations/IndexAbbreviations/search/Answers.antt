use Rattle.std.proofs.Common.{rules, ◌≡◌, drop, ◌+◌, ◌<◌, ◌≤◌, ◌∷◌, List, length, true, false, ltb, eqb, sym, ap, ◌∙◌, arith}
use Rattle.std.specs.List.{find}
use Rattle.std.specs.List.Sorted.{IsPartitionPoint}
use Rattle.std.proofs.lemmas.Bool.{ltb-false}
use Rattle.std.proofs.lemmas.List.{drop_all}
use Rattle.code_moves.proofs.Bisection.{point_before, others_from, fails_at}
use Rattle.dwarf.specs.declared.index_abbreviations.IndexAbbreviation.{IndexAbbreviation}
use Rattle.dwarf_info.proofs.Search.{keys_rise, finds_here, finds_passing, finds_none_from, all_found}
use Rattle.dwarf.specs.IndexSound.{HasIndexAttributes}
use Rattle.dwarf.proofs.index_abbreviations.IndexAbbreviations.search.Goals as goal
use Rattle.dwarf.proofs.index_abbreviations.IndexAbbreviations.search.Goals.{After-partition_point-place, In-Some, in_default-via-in-Some+else-abbreviation-code, in_default-via-in_default}

-- the abbreviations before the code are those up to the place
point : (c : After-partition_point-place) → IsPartitionPoint (λ (t : IndexAbbreviation). ltb t.code c.args.code ≡ true) (λ (t : IndexAbbreviation). ltb t.code c.args.code ≡ false) c.args.self.now.abbreviations.items c.partition_point-place.result
point c =
    let a = c.args.self.now in
    point_before (λ (t : IndexAbbreviation). t.code) c.args.code c.deref.result.now a.abbreviations.items c.partition_point-place.result c.deref.ensures.value
    (keys_rise (λ (t : IndexAbbreviation). t.code) 0 a.abbreviations.items a.sound.0) c.partition_point-place.ensures.partitioned (λ a r f k. search rules)

-- they don't matter
passed : (c : After-partition_point-place) → find (λ (t : IndexAbbreviation). eqb t.code c.args.code) c.args.self.now.abbreviations.items
    ≡ find (λ (t : IndexAbbreviation). eqb t.code c.args.code) (drop c.partition_point-place.result c.args.self.now.abbreviations.items)
passed c = finds_passing (λ (t : IndexAbbreviation). t.code) c.args.self.now.abbreviations.items c.args.code c.partition_point-place.result (point c).0

-- the abbreviation at the place is the first of the others
others : (c : In-Some) → drop c.partition_point-place.result c.args.self.now.abbreviations.items ≡ c.in-Some.abbreviation.now ∷ drop (c.partition_point-place.result + 1) c.args.self.now.abbreviations.items
others c =
    let found = c.in-Some.ensures.lookup in
    others_from c.deref-2.result.now c.args.self.now.abbreviations.items c.partition_point-place.result c.in-Some.abbreviation.now c.deref-2.ensures.value found.3.0 found.1

pub returns-in-Some-clause-found : goal.returns-in-Some-clause-found
returns-in-Some-clause-found c =
    let t = c.in-Some.abbreviation.now in
    let is : t.code ≡ c.args.code = omega arith in
    sym (passed (goal.at.returns-in-Some-clause-found c).After-partition_point-place
    ∙ (ap (λ (ts : List IndexAbbreviation). find (λ (t : IndexAbbreviation). eqb t.code c.args.code) ts) (others (goal.at.returns-in-Some-clause-found c).In-Some)
    ∙ finds_here (λ (t : IndexAbbreviation). t.code) t (drop (c.partition_point-place.result + 1) c.args.self.now.abbreviations.items) c.args.code is))

pub returns-in-Some-clause-within : goal.returns-in-Some-clause-within
returns-in-Some-clause-within c =
    let t = c.in-Some.abbreviation.now in
    let a = c.args.self.now in
    let is : t.code ≡ c.args.code = omega arith in
    all_found (HasIndexAttributes (length a.attributes.items)) (λ (t : IndexAbbreviation). t.code) c.args.code a.abbreviations.items t a.sound.1
    (passed (goal.at.returns-in-Some-clause-within c).After-partition_point-place
    ∙ (ap (λ (ts : List IndexAbbreviation). find (λ (t : IndexAbbreviation). eqb t.code c.args.code) ts) (others (goal.at.returns-in-Some-clause-within c).In-Some)
    ∙ finds_here (λ (t : IndexAbbreviation). t.code) t (drop (c.partition_point-place.result + 1) a.abbreviations.items) c.args.code is))

pub returns-in_default-clause-found : goal.returns-in_default-clause-found
returns-in_default-clause-found c =
    let xs = c.args.self.now.abbreviations.items in
    let place = c.partition_point-place.result in
    let at = (goal.at.returns-in_default-clause-found c).After-partition_point-place in
    elim c.in_default.branch [
      | in_default-via-in-Some+else-abbreviation-code w ↦
          let x = w.in-Some.abbreviation.now in
          let found = w.in-Some.ensures.lookup in
          let other = w.if-abbreviation-code.false in
          let left = others_from c.deref-2.result.now xs place x c.deref-2.ensures.value found.3.0 found.1 in
          let le = ltb-false x.code c.args.code (fails_at (λ (y : IndexAbbreviation). ltb y.code c.args.code ≡ false) c.deref-2.result.now xs place x c.deref-2.ensures.value found.3.0 found.1 (point at).1) in
          let before : c.args.code < x.code = omega arith in
          sym (passed at
          ∙ (ap (λ (ys : List IndexAbbreviation). find (λ (y : IndexAbbreviation). eqb y.code c.args.code) ys) left
          ∙ finds_none_from (λ (y : IndexAbbreviation). y.code) 0 xs c.args.self.now.sound.0 place x (drop (place + 1) xs) left c.args.code before))
      | in_default-via-in_default w ↦
          let few : length xs ≤ place = search (arith, rules) in
          sym (passed at ∙ ap (λ (ys : List IndexAbbreviation). find (λ (y : IndexAbbreviation). eqb y.code c.args.code) ys) (drop_all place xs few))
    ]
