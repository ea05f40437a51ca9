use Rattle.std.proofs.Common.{◌≡◌, ℕ, ◌<◌, ◌^◌, List, [], ◌∷◌, ◌++◌, length, sym, ap, ◌∙◌, subst, append_assoc, rules, arith}
use Rattle.std.proofs.lemmas.List.{append-nil}
use Rattle.std.proofs.lemmas.Bool.{MatchBool-at_true}
use Rattle.dwarf_bytes.specs.Writing.{padded}
use Rattle.dwarf_expressions.specs.Expressions.{BeginWith, BeginsSimple}
use Rattle.dwarf_expressions.proofs.moving.move_entry_value.Goals as goal

pub returns-clause-moved : goal.returns-clause-moved
returns-clause-moved c =
    let B = BeginsSimple c.args.encoding in
    let kept = MatchBool-at_true _ _ c.if-not-branch.false c.in_ok-move_simples.ensures.moved in
    let inside = c.move_simples.new.out.items in
    let is : inside ≡ kept.2 = kept.5 ∙ ap (λ (l : List ℕ). l ++ kept.2) c.new-inside.ensures.items in
    let read : BeginWith B inside kept.1 [] = subst (λ (l : List ℕ). BeginWith B l kept.1 []) (append-nil kept.2 ∙ sym is) (kept.6 []) in
    let value = c.args.value.now in
    let old = c.args.out.now.items in
    let size = c.len.result in
    let small : size < 2 ^ 64 = c.len.type_inv in
    let len : size ≡ length inside = omega (arith, c.len.ensures, c.move_simples.new.out.ok.0) in
    let text : c.extend_from_slice.new.self.items ≡ ((old ++ value.code ∷ []) ++ padded value.width size) ++ c.deref.result.now = search rules in
    let parts : c.extend_from_slice.new.self.items ≡ old ++ (value.code ∷ (padded value.width (length inside) ++ inside)) =
    text ∙ (append_assoc (old ++ value.code ∷ []) (padded value.width size) c.deref.result.now ∙ (append_assoc old (value.code ∷ []) (padded value.width size ++ c.deref.result.now)
    ∙ (ap (λ (n : ℕ). old ++ (value.code ∷ (padded value.width n ++ c.deref.result.now))) len ∙ ap (λ (l : List ℕ). old ++ (value.code ∷ (padded value.width (length inside) ++ l))) c.deref.ensures.value))) in
    (kept.0, kept.1, inside, kept.3, kept.4, read, omega (arith, small, len), parts)
