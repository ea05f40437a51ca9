use Rattle.std.proofs.Common.{◌≡◌, ℕ, ◌<◌, ◌^◌, List, ◌++◌, length, option_map, sym, ap, ◌∙◌, subst, append_assoc, rules, arith}
use Rattle.dwarf_bytes.specs.Writing.{padded}
use Rattle.dwarf_expressions.specs.Moving.{IsAppendedOfExpression}
use Rattle.dwarf_new_lists.proofs.Texts.{expression_text}
use Rattle.dwarf_new_lists.proofs.writing.write_expression.Goals as goal

pub returns-clause-written : goal.returns-clause-written
returns-clause-written c =
    let m = c.in_ok-moved_expression.ensures.moved in
    let added = c.moved_expression.new.out.items in
    let width = c.args.expression.now.width in
    let is : added ≡ m.1 = search rules in
    let size : c.len.result ≡ length added = search rules in
    let few : length added < 2 ^ 64 = omega (arith, c.len.type_inv, size) in
    let front = c.args.out.now.items in
    let text = padded width (length added) in
    let tail : c.deref.result.now ≡ added = search rules in
    let counted : c.write_padded.new.out.items ≡ front ++ text = c.in_ok-write_padded.ensures ∙ ap (λ (n : ℕ). front ++ padded width n) size in
    let all : c.extend_from_slice.new.self.items ≡ front ++ (text ++ added) =
    c.in_ok-extend_from_slice.ensures.items
    ∙ (ap (λ (l : List ℕ). l ++ c.deref.result.now) counted ∙ (append_assoc front text c.deref.result.now ∙ ap (λ (l : List ℕ). front ++ (text ++ l)) tail)) in (
      added,
      (text ++ added, all, expression_text width added few),
      (m.0, c.in_ok-moved_expression.field-0, m.2, subst (λ (l : List ℕ). IsAppendedOfExpression c.args.encoding (option_map (λ b. b.now) c.args.body) c.args.expression.now.bytes.now m.0 l c.in_ok-moved_expression.field-0) (sym is) m.4),
    )
