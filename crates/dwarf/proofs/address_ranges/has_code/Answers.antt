use Rattle.std.proofs.Common.{◌≡◌, ◌≢◌, ◌<◌, ◌≤◌, ℕ, Bool, true, false, eqb, ltb, List, length, slice_index_or, refl, sym, ap, arith}
use Rattle.std.proofs.lemmas.Bool.{ne_eqb, ltb-true, ltb-false}
use Rattle.std.proofs.lemmas.List.{get_or_default}
use Rattle.std.proofs.lemmas.List.Folds.{list_any_none}
use Rattle.std.proofs.Math.Bool.{and-false}
use Rattle.dwarf_info.specs.declared.moved.CodeRange.{CodeRange}
use Rattle.dwarf.specs.AddressRanges.{is_range_of}
use Rattle.dwarf.proofs.address_ranges.has_code.Goals as goal

begins_elsewhere : (unit begin size : ℕ) (r : CodeRange) → (r.begin ≡ begin → ⊥) → is_range_of unit begin size r ≡ false
begins_elsewhere unit begin size r other = rw (ne_eqb r.begin begin other) (and-false (eqb r.unit unit))

-- one that is after another that begins after the address
begins_after : (unit begin size : ℕ) (code : List CodeRange) (at k : ℕ) (d e : CodeRange) → at < length code → (slice_index_or code at e).begin ≢ begin → begin ≤ (slice_index_or code at d).begin
    → (slice_index_or code at d).begin ≤ (slice_index_or code k d).begin → is_range_of unit begin size (slice_index_or code k d) ≡ false
begins_after unit begin size code at k d e within other least up =
    let same : (slice_index_or code at d).begin ≡ (slice_index_or code at e).begin = ap (λ (r : CodeRange). r.begin) (get_or_default code at d e within) in
    begins_elsewhere unit begin size (slice_index_or code k d) (λ is. other (omega (arith, same, least, up, is)))

pub returns-else-code-at : goal.returns-else-code-at
returns-else-code-at c =
    let code = c.args.code.now in
    let range = c.args.range.now in
    let at = c.same.at in
    let test : CodeRange → Bool = is_range_of range.unit range.begin range.length in
    let none = c.same.invariant.none in
    let later = c.same.invariant.later in
    let sorted = c.requires in
    let all : (k : ℕ) (d : CodeRange) → k < length code → test (slice_index_or code k d) ≡ false = λ k d within.
    elim (ltb k at) as (λ b. ltb k at ≡ b → test (slice_index_or code k d) ≡ false) [
      | true ↦ λ before. none k d (ltb-true k at before)
      | false ↦ λ after.
          let le = ltb-false k at after in
          begins_after range.unit range.begin range.length code at k d (record { unit = 0; begin = 0; length = 0 }) c.same-test.true c.if-code-at.false (later at d (omega arith) c.same-test.true) (sorted at k d le within)
    ] refl in
    sym (list_any_none test code all)

pub returns-after-same : goal.returns-after-same
returns-after-same c =
    let range = c.args.range.now in
    let end = c.same-test.false in
    sym (list_any_none (is_range_of range.unit range.begin range.length) c.args.code.now (λ k d within. c.same.invariant.none k d (omega (arith, within, end))))
