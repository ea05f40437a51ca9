use Rattle.dwarf_info.specs.Contexts.{context_of_entry}
use Rattle.dwarf_info.specs.EntryViews.{attribute_spelled, entries_moved}
use Rattle.dwarf_info.specs.Steps.{noted_begin}
use Rattle.dwarf_info.proofs.Stepping.{nothing_noted, begin_noted, begin_not_noted}
use Rattle.dwarf_info.proofs.Taking.{on_ok, other_fault}
use Rattle.dwarf_info.proofs.entries.note_code.Goals as goal

pub returns-in-Some-clause-taken : goal.returns-in-Some-clause-taken
returns-in-Some-clause-taken c =
    let context = context_of_entry c.args.context.now in
    let a = attribute_spelled c.args.attribute.now in
    on_ok _ _ _ (λ t. begin_noted context a (noted_begin context a.meaning) (entries_moved c.args.out.now) c.in-Some.begin c.in-Some.ensures (entries_moved c.note_from.new.out) t)
    c.note_from.ensures.taken

pub returns-in-Some-clause-refused : goal.returns-in-Some-clause-refused
returns-in-Some-clause-refused c =
    let context = context_of_entry c.args.context.now in
    let a = attribute_spelled c.args.attribute.now in
    other_fault _ _ _ (λ fault f. begin_not_noted context a (noted_begin context a.meaning) (entries_moved c.args.out.now) c.in-Some.begin c.in-Some.ensures fault f)
    c.note_from.ensures.refused

pub returns-in-None-clause-taken : goal.returns-in-None-clause-taken
returns-in-None-clause-taken c =
    let context = context_of_entry c.args.context.now in
    let a = attribute_spelled c.args.attribute.now in
    nothing_noted context a (noted_begin context a.meaning) (entries_moved c.args.out.now) c.in-None.ensures
