use Rattle.std.proofs.Common.{◌≡◌, ℕ, List, ◌++◌, Ok, false, eqb, ◌&&◌, sym, ap, ◌∙◌, subst, append_assoc}
use Rattle.std.proofs.lemmas.Bool.{ne_eqb}
use Rattle.dwarf_bytes.specs.Numbers.{size_in_bytes}
use Rattle.dwarf_bytes.specs.Writing.{fixed_bytes}
use Rattle.dwarf_lists.specs.Entries.{range, greatest, list_entry}
use Rattle.dwarf_lists.proofs.Written.{range_is, never_zero}
use Rattle.dwarf_lists.proofs.writing.write_range.Goals as goal

pub returns-clause-written : goal.returns-clause-written
returns-clause-written c =
    let n = size_in_bytes c.args.size in
    let (low, high) = c.non_zero-low.result in
    let pair = fixed_bytes n low ++ fixed_bytes n high in
    let tail = c.in_ok-write_expression.ensures.written in
    let written = c.in_ok-write_pair.ensures in
    let expression = c.args.expression.now in
    let not_base : eqb low (greatest c.args.size) ≡ false = ne_eqb low (greatest c.args.size) (λ e. c.if-low-greatest.false (e ∙ sym c.greatest.ensures)) in
    let not_end : (eqb low 0 && eqb high 0) ≡ false = subst (λ (p : ℕ × ℕ). (eqb p.0 0 && eqb p.1 0) ≡ false) (sym c.non_zero-low.ensures) (never_zero c.args.pair) in
    let is = λ (following : List ℕ). range_is c.args.kind c.args.size low high tail.0 expression following written.one written.other not_base not_end (tail.2 following) in (
      pair ++ tail.0,
      tail.1 ∙ (ap (λ (l : List ℕ). l ++ tail.0) written.written ∙ append_assoc c.args.out.now.items pair tail.0),
      (tt, λ following. subst (λ (p : ℕ × ℕ). list_entry c.args.kind c.args.size ((pair ++ tail.0) ++ following) ≡ Ok (range p.0 p.1 expression, following)) c.non_zero-low.ensures (is following)),
    )
