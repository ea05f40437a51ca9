use Rattle.std.proofs.Common.{◌≡◌, List, ℕ, Some, subst, sym, ◌∙◌}
use Rattle.std.proofs.lemmas.List.Elements.{All-head, All-tail}
use Rattle.std.proofs.lemmas.Map.Iter.{rest_more}
use Rattle.std.specs.List.{All}
use Rattle.std.specs.Map.Iter.{deref_pair}
use Rattle.walrus_numbering.specs.EmittedLocals.{number_in}
use Rattle.walrus_numbering.proofs.NumberTables.{are_numbered, none_there_yet, number_put}
use Rattle.walrus_numbering.proofs.local_table.number_table.Goals as goal

pub loop-id-init : goal.loop-id-init
loop-id-init c =
    let es = c.args.numbers.now.entries in
    let Numbered : List (ℕ × ℕ) → Type 0 = All (λ e. number_in es e.0 ≡ Some e.1) in (
      tt,
      tt,
      subst Numbered (sym (c.into_iter-id-iterator.ensures.into_iter_gives ∙ c.iter-id-items.ensures.rest)) (are_numbered es c.iter-id-items.ensures.found),
      none_there_yet es c.table_len.result c.new-table.result.items c.resize.new.self.items _ c.new-table.ensures.items c.in_ok-resize.ensures.items,
    )

pub loop-id-preserved : goal.loop-id-preserved
loop-id-preserved c =
    let es = c.args.numbers.now.entries in
    let entry : ℕ × ℕ = (c.in-Some.id.now, c.in-Some.number.now) in
    let first = rest_more deref_pair c.loop-id.id-iterator c.next.new.self c.next.result _ c.in-Some.is c.next.ensures.steps in
    let numbered = subst (All (λ e. number_in es e.0 ≡ Some e.1)) first c.loop-id.invariant.2 in (
      tt,
      tt,
      All-tail (λ e. number_in es e.0 ≡ Some e.1) entry c.next.new.self numbered,
      number_put es c.loop-id.table.items c.set_number.new.table.items entry.0 entry.1 (All-head (λ e. number_in es e.0 ≡ Some e.1) entry c.next.new.self numbered) c.loop-id.invariant.3 c.set_number.ensures,
    )

pub returns : goal.returns
returns c = c.loop-id.invariant.3
