use Rattle.std.proofs.Common.{◌≡◌, ◌-◌, ◌<◌, ◌^◌, [], ◌∷◌, ◌++◌, Some, length, refl, sym, ap, ◌∙◌, append_assoc, rules, option_map, arith}
use Rattle.dwarf_bytes.specs.Writing.{padded}
use Rattle.dwarf_expressions.specs.Expressions.{local, other}
use Rattle.dwarf_expressions.specs.Moving.{moved_simple}
use Rattle.dwarf_expressions.specs.Reading.{expression_named, simple_of}
use Rattle.dwarf_expressions.proofs.moving.move_simple.Goals as goal

pub returns-in_default-clause-moved : goal.returns-in_default-clause-moved
returns-in_default-clause-moved c =
    let s = c.args.operation.now in
    let is : simple_of s ≡ other s.code s.bytes.now = ap (expression_named s.code s.bytes.now) c.in_default.is in
    let text : c.extend_from_slice.new.self.items ≡ (c.args.out.now.items ++ s.code ∷ []) ++ s.bytes.now = search rules in
    (other s.code s.bytes.now, ap (moved_simple c.args.body.now) is, tt, text ∙ append_assoc c.args.out.now.items (s.code ∷ []) s.bytes.now)

pub returns-clause-moved : goal.returns-clause-moved
returns-clause-moved c =
    let s = c.args.operation.now in
    let new = c.in-Some-local.new in
    let is : simple_of s ≡ local c.in-Some.index = ap (expression_named s.code s.bytes.now) c.in-Some.is in
    let moved : moved_simple c.args.body.now (simple_of s) ≡ Some (local new) = ap (moved_simple c.args.body.now) is ∙ ap (option_map local) (sym c.in-Some-local.ensures) in
    let width : c.saturating_sub-width.result ≡ length s.bytes.now - 1 = search rules in
    let text : c.write_padded.new.out.items ≡ (c.args.out.now.items ++ 0xed ∷ 0 ∷ []) ++ padded c.saturating_sub-width.result c.from.result = search rules in
    let range : c.from.result < 2 ^ 64 = c.from.type_inv in
    let fits : new < 2 ^ 64 = omega (arith, c.from.ensures, range) in
    (local new, moved, fits, text ∙ (append_assoc c.args.out.now.items (0xed ∷ 0 ∷ []) _ ∙ rw (width, c.from.ensures) refl))
