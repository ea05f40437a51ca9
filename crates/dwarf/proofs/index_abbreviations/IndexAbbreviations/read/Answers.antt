use Rattle.std.proofs.Common.{rules, ◌≡◌, ℕ, Bool, false, not, eqb, List, length, map, slice_range, Option, option_map, Ok, Err, inr, refl, sym, ap, subst, ◌∙◌}
use Rattle.std.specs.List.{AllByRecursion, find}
use Rattle.std.specs.List.Sorted.{IsNonDecreasingBy}
use Rattle.std.proofs.lemmas.Bool.{not-true}
use Rattle.std.proofs.lemmas.List.Sorted.{IsNonDecreasingBy-from_sort_by_key}
use Rattle.std.proofs.lemmas.Result.{err_from_is_err_and}
use Rattle.wasm_numbers.specs.Results.{some_or, unless}
use Rattle.wasm_numbers.proofs.ResultLemmas.{unless_ok}
use Rattle.dwarf_bytes.specs.declared.fault.DebugFault.TheVariants.{BadNumber, Unsupported}
use Rattle.dwarf.specs.declared.index_abbreviations.IndexAbbreviation.{IndexAbbreviation}
use Rattle.dwarf.specs.declared.index_abbreviations.IndexAttribute.{IndexAttribute}
use Rattle.dwarf.specs.IndexEntries.{repeats, codes_of, attributes_with}
use Rattle.dwarf.specs.IndexInMemory.{index_declaration_of}
use Rattle.dwarf.specs.IndexSound.{HasIndexAttributes}
use Rattle.dwarf_bytes.specs.Sorting.{sorted_by}
use Rattle.dwarf.proofs.IndexCodes.{code, codes_sorted, codes_declared, ascends}
use Rattle.dwarf.proofs.IndexTables.{attributes_found}
use Rattle.dwarf_bytes.proofs.SortingLemmas.{sorted_by_calls, find_sorted, all_sorted}
use Rattle.dwarf.proofs.index_abbreviations.IndexAbbreviations.read.Goals as goal
use Rattle.dwarf.proofs.index_abbreviations.IndexAbbreviations.read.Goals.{In_ok-sort_by_key}

up : (c : In_ok-sort_by_key) → IsNonDecreasingBy code c.sort_by_key.new.self.items
up c = IsNonDecreasingBy-from_sort_by_key code c.sort_by_key.new.self.items c.in_ok-sort_by_key.ensures.sorted (λ a r f k. search rules)

sorted : (c : In_ok-sort_by_key) → c.sort_by_key.new.self.items ≡ sorted_by code c.read_table.new.abbreviations.items
sorted c = sorted_by_calls code c.read_table.new.abbreviations.items c.sort_by_key.new.self.items c.in_ok-sort_by_key.ensures.sorted c.in_ok-sort_by_key.ensures.stable (λ a r f k. search rules)

-- whether codes repeat, in the order of the source and in memory
same_codes : (attributes : List IndexAttribute) (xs ys : List IndexAbbreviation) → ys ≡ sorted_by code xs → repeats (codes_of (map (index_declaration_of attributes) xs)) ≡ repeats (map code ys)
same_codes attributes xs ys is = ap repeats (codes_declared attributes xs) ∙ sym (codes_sorted xs) ∙ ap (λ (l : List IndexAbbreviation). repeats (map code l)) (sym is)

none_repeats : (ys : List IndexAbbreviation) (u : Unit {0}) → Ok u ≡ unless (not (repeats (map code ys))) Unsupported → repeats (map code ys) ≡ false
none_repeats ys u e = not-true (repeats (map code ys)) (unless_ok (not (repeats (map code ys))) Unsupported u (sym e))

-- the attributes of an entry
same_attributes : (attributes : List IndexAttribute) (xs ys : List IndexAbbreviation) → ys ≡ sorted_by code xs → (k : ℕ)
    → attributes_with (map (index_declaration_of attributes) ys) k ≡ attributes_with (map (index_declaration_of attributes) xs) k
same_attributes attributes xs ys is k =
    attributes_found attributes ys k
    ∙ ap (λ (o : Option IndexAbbreviation). some_or (option_map (λ (a : IndexAbbreviation). slice_range attributes a.first a.end) o) BadNumber)
    (ap (find (λ (a : IndexAbbreviation). eqb a.code k)) is ∙ find_sorted code k xs)
    ∙ sym (attributes_found attributes xs k)

pub check_codes-requires : goal.check_codes-requires
check_codes-requires c = subst (IsNonDecreasingBy code) (sym c.deref.ensures.value) (up (goal.at.check_codes-requires c).In_ok-sort_by_key)

pub returns-in_err-check_codes-clause-refused : goal.returns-in_err-check_codes-clause-refused
returns-in_err-check_codes-clause-refused c =
    let xs = c.read_table.new.abbreviations.items in
    let attributes = c.read_table.new.attributes.items in
    let is = c.deref.ensures.value ∙ sorted (goal.at.returns-in_err-check_codes-clause-refused c).In_ok-sort_by_key in
    let p = err_from_is_err_and c.from_residual-in_err-check_codes.result c.from_residual-in_err-check_codes.ensures.1 in
    let repeated : unless (not (repeats (codes_of (map (index_declaration_of attributes) xs)))) Unsupported ≡ Err c.in_err-check_codes.field-0.0 =
    ap (λ (b : Bool). unless (not b) Unsupported) (same_codes attributes xs c.deref.result.now is) ∙ sym c.in_err-check_codes.ensures in
    rw (p.1, p.2) (inr (_, refl, rw (c.in_ok-read_table.ensures.read.reads, repeated) refl))

pub invariant_of-result : goal.invariant_of-result
invariant_of-result c =
    let xs = c.read_table.new.abbreviations.items in
    let ys = c.sort_by_key.new.self.items in
    let at = (goal.at.invariant_of-result c).In_ok-sort_by_key in
    let none = ap (λ (l : List IndexAbbreviation). repeats (map code l)) (sym c.deref.ensures.value) ∙ none_repeats c.deref.result.now tt c.in_ok-check_codes.ensures in
    let has = HasIndexAttributes (length c.read_table.new.attributes.items) in
    record { sound = (ascends ys (up at) none, subst (AllByRecursion has) (sym (sorted at)) (all_sorted code has xs c.in_ok-read_table.ensures.read.within)) }

pub returns-clause-read : goal.returns-clause-read
returns-clause-read c =
    let xs = c.read_table.new.abbreviations.items in
    let attributes = c.read_table.new.attributes.items in
    let ys = c.sort_by_key.new.self.items in
    let is = sorted (goal.at.returns-clause-read c).In_ok-sort_by_key in
    let none = same_codes attributes xs c.deref.result.now (c.deref.ensures.value ∙ is) ∙ none_repeats c.deref.result.now tt c.in_ok-check_codes.ensures in (
      map (index_declaration_of attributes) xs,
      rw (c.in_ok-read_table.ensures.read.reads, none) refl,
      same_attributes attributes xs ys is,
    )
