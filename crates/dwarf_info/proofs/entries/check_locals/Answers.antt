use Rattle.std.proofs.Common.{sym, ◌∙◌}
use Rattle.std.proofs.lemmas.Bool.{false≢true}
use Rattle.dwarf_info.proofs.Taking.{given_more, other_fault}
use Rattle.dwarf_info.proofs.entries.check_locals.Goals as goal

pub returns-then-is_ranges-clause-none : goal.returns-then-is_ranges-clause-none
returns-then-is_ranges-clause-none c = given_more _ _ _ c.check_no_locals.ensures.none

pub returns-then-is_ranges-clause-refused : goal.returns-then-is_ranges-clause-refused
returns-then-is_ranges-clause-refused c =
    other_fault _ _ _ (λ fault h. (sym c.is_ranges.ensures ∙ c.if-is_ranges.true, h)) c.check_no_locals.ensures.refused

pub returns-clause-none : goal.returns-clause-none
returns-clause-none c = λ r. absurd (false≢true (sym c.if-is_ranges.false ∙ (c.is_ranges.ensures ∙ r)))
