use Rattle.std.proofs.Common.{◌≡◌, inl, inr, arith, length, ℕ, List, ◌++◌, Option, Some, MatchOption, refl, sym, ap, ◌∙◌, subst}
use Rattle.code_moves.specs.declared.body.Body.{Body}
use Rattle.code_moves.specs.Moves.{new_address}
use Rattle.std.proofs.lemmas.Result.{err_from_is_err_and}
use Rattle.dwarf_bytes.specs.declared.fault.DebugFault.{DebugFault}
use Rattle.dwarf_bytes.specs.declared.fault.DebugFault.TheVariants as faults
use Rattle.dwarf_expressions.specs.declared.encoding.Encoding.{Encoding}
use Rattle.dwarf_lists.specs.declared.entry.Kind.{Kind}
use Rattle.dwarf_lists.specs.Entries.{Entry, range, greatest}
use Rattle.dwarf_lists.specs.Moving.{list_body_of, non_zero, list_range_at, IsMovedRange, WritesOfList, IsRefusedRange, IsRefusedEntry, HasNoPlace}
use Rattle.dwarf_lists.proofs.moving.move_range.Goals as goal

pub returns-clause-moved : goal.returns-clause-moved
returns-clause-moved c =
    let context = c.args.context.now in
    let e = context.encoding in
    let bodies = context.moves.now.bodies.items in
    let (low, high) = c.args.pair in
    let from = c.args.from in
    let old = c.args.expression.now in
    let found = c.in-Some.ensures.some in
    let moved = c.in_ok-move_expression.ensures.moved in
    let added = c.move_expression.new.out.items in
    let pair : ℕ × ℕ = (c.in_ok-low.low, c.in_ok-high.high) in
    let new : Entry = list_range_at (non_zero pair) added in
    let begins = c.in_ok-low.ensures.ok ∙ ap (new_address bodies) found.1 in
    let ends = c.in_ok-high.ensures.ok ∙ ap (new_address bodies) found.2 in
    let is : IsMovedRange e bodies c.in-Some.body.now from low high old new = (pair.0, pair.1, moved.0, added, moved.1, begins, ends, moved.2, moved.3, refl) in
    let P = λ (b : Option Body). MatchOption b (new ≡ range low high old) (λ body. IsMovedRange e bodies body from low high old new) in
    let written = c.in_ok-write_range.ensures.written in
    let text : c.write_range.new.out.items ≡ written.0 = written.1 ∙ ap (λ (l : List ℕ). l ++ written.0) c.clear.ensures.items in
    let same = ap (λ (l : List ℕ). list_range_at (non_zero pair) l) c.deref.ensures.value in
    (new, subst P (sym found.0) is, subst (λ (x : Entry). WritesOfList context.kind e.address_size c.write_range.new.out.items x) same (subst (λ (l : List ℕ). WritesOfList context.kind e.address_size l (list_range_at (non_zero pair) c.deref.result.now)) (sym text) written.2))

-- why a range of this body isn't moved
refused_range : (kind : Kind) (e : Encoding) (bodies : List Body) (b : Body) (from low high : ℕ) (expression : List ℕ) (fault : DebugFault) → list_body_of bodies (greatest e.address_size) from low high ≡ Some b
    → IsRefusedRange kind e bodies b from low high expression fault → IsRefusedEntry kind e bodies from (range low high expression) fault
refused_range kind e bodies b from low high expression fault found refused =
    subst (λ (x : Option Body). MatchOption x ⊥ (λ body. IsRefusedRange kind e bodies body from low high expression fault)) (sym found) refused

pub returns-in_err-move_expression-clause-refused : goal.returns-in_err-move_expression-clause-refused
returns-in_err-move_expression-clause-refused c =
    let context = c.args.context.now in
    let (low, high) = c.args.pair in
    let up = refused_range context.kind context.encoding context.moves.now.bodies.items c.in-Some.body.now c.args.from low high c.args.expression.now in
    let passed = err_from_is_err_and c.from_residual-in_err-move_expression.result c.from_residual-in_err-move_expression.ensures.1 in
    rw (passed.1, passed.2) (elim c.in_err-move_expression.ensures.refused [
      | inl memory ↦ inl memory
      | inr fault ↦ inr (fault.0, fault.1, up fault.0 c.in-Some.ensures.some.0 (inr (fault.2, fault.3)))
    ])

pub returns-in_err-write_range-clause-refused : goal.returns-in_err-write_range-clause-refused
returns-in_err-write_range-clause-refused c =
    let context = c.args.context.now in
    let e = context.encoding in
    let bodies = context.moves.now.bodies.items in
    let b = c.in-Some.body.now in
    let from = c.args.from in
    let (low, high) = c.args.pair in
    let old = c.args.expression.now in
    let found = c.in-Some.ensures.some in
    let moved = c.in_ok-move_expression.ensures.moved in
    let begins = c.in_ok-low.ensures.ok ∙ ap (new_address bodies) found.1 in
    let ends = c.in_ok-high.ensures.ok ∙ ap (new_address bodies) found.2 in
    let up = λ (place : HasNoPlace e bodies b from low high old). refused_range context.kind e bodies b from low high old faults.DoesNotFit found.0 (inl (refl, place)) in
    let passed = err_from_is_err_and c.from_residual-in_err-write_range.result c.from_residual-in_err-write_range.ensures.1 in
    rw (passed.1, passed.2) (elim c.in_err-write_range.ensures.refused [
      | inl memory ↦ inl memory
      | inr fault ↦ inr (
        faults.DoesNotFit,
        fault.0,
        up (elim fault.1 [
          | inl less ↦ inl (inr (omega (arith, less, begins)))
          | inr others ↦ inr (elim others [
            | inl less ↦ inl (inr (omega (arith, less, ends)))
            | inr long ↦ inr (moved.0, c.move_expression.new.out.items, moved.1, moved.2, moved.3, omega (arith, long, ap length c.deref.ensures.value))
          ])
        ]),
      )
    ])
