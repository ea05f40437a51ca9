use Rattle.std.proofs.Common.{◌≡◌, ℕ, Bool, List, sym, ap, subst}
use Rattle.std.specs.List.{list_any}
use Rattle.std.specs.List.Sorted.{IsNonDecreasingBy}
use Rattle.code_moves.specs.declared.body.Body.{Body}
use Rattle.dwarf_bytes.specs.Changes.{SectionChange}
use Rattle.dwarf_bytes.specs.Patches.{changes}
use Rattle.dwarf_info.specs.declared.moved.CodeRange.{CodeRange}
use Rattle.dwarf.specs.AddressRanges.{is_range_of, address_ranges_followed, code_followed}
use Rattle.dwarf.proofs.address_ranges.move_address_ranges.Goals as goal

-- the order of the code doesn't matter
any_order : (bodies : List Body) (code sorted : List CodeRange) (info : List SectionChange) (section : List ℕ) → ((p : CodeRange → Bool) → list_any p sorted ≡ list_any p code)
    → code_followed bodies sorted info section ≡ code_followed bodies code info section
any_order bodies code sorted info section same =
    λ i. address_ranges_followed (record { bodies = bodies; is_code = λ unit begin size. same (is_range_of unit begin size) i; info = info }) section

pub follow_tables-requires : goal.follow_tables-requires
follow_tables-requires c =
    subst (λ (l : List CodeRange). IsNonDecreasingBy (λ (r : CodeRange). r.begin) l) (sym c.deref.ensures.value) c.in_ok-sorted.ensures.sorted

pub returns-clause-followed : goal.returns-clause-followed
returns-clause-followed c =
    let code = c.args.code.now in
    let section = c.args.section.now in
    let info = changes c.args.info.now in
    let bodies = c.args.moves.now.bodies.items in
    let sorted = c.in_ok-sorted.sorted.items in
    let all = ap (λ (l : List CodeRange). code_followed bodies l info section) c.deref.ensures.value in
    rw (← any_order bodies code sorted info section c.in_ok-sorted.ensures.same, ← all) c.follow_tables.ensures.followed

pub returns-clause-refused : goal.returns-clause-refused
returns-clause-refused c =
    let code = c.args.code.now in
    let section = c.args.section.now in
    let info = changes c.args.info.now in
    let bodies = c.args.moves.now.bodies.items in
    let sorted = c.in_ok-sorted.sorted.items in
    let all = ap (λ (l : List CodeRange). code_followed bodies l info section) c.deref.ensures.value in
    rw (← any_order bodies code sorted info section c.in_ok-sorted.ensures.same, ← all) c.follow_tables.ensures.refused
