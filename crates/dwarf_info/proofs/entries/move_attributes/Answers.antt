use Rattle.std.proofs.Common.{inl, inr}
use Rattle.std.proofs.lemmas.Result.{err_from_is_err_and}
use Rattle.dwarf_info.specs.Contexts.{context_of_entry}
use Rattle.dwarf_info.specs.EntryViews.{attribute_spelled, entries_moved}
use Rattle.dwarf_info.proofs.Stepping.{left_all, attributes_done, attributes_more, attributes_refused}
use Rattle.dwarf_info.proofs.entries.move_attributes.Goals as goal

pub loop-attribute-init : goal.loop-attribute-init
loop-attribute-init c = left_all _ _

pub returns-in_err-move_attribute-clause-refused : goal.returns-in_err-move_attribute-clause-refused
returns-in_err-move_attribute-clause-refused c =
    let p = err_from_is_err_and c.from_residual.result c.from_residual.ensures.1 in
    rw (p.1, p.2) (elim c.in_err-move_attribute.ensures.refused [
      | inl memory ↦ inl memory
      | inr x ↦ inr (
        x.0,
        x.1,
        attributes_refused attribute_spelled (context_of_entry c.args.context.now) _ (entries_moved c.args.out.now) (entries_moved c.loop-attribute.out) c.args.attributes.now
            c.loop-attribute.attribute-index c.loop-attribute.invariant _ c.loop-attribute-test.true x.0 x.2,
      )
    ])

pub loop-attribute-preserved : goal.loop-attribute-preserved
loop-attribute-preserved c =
    attributes_more attribute_spelled (context_of_entry c.args.context.now) _ (entries_moved c.args.out.now) (entries_moved c.loop-attribute.out) c.args.attributes.now c.loop-attribute.attribute-index
    c.loop-attribute.invariant _ c.loop-attribute-test.true (entries_moved c.move_attribute.new.out) c.in_ok-move_attribute.ensures.taken

pub returns-clause-taken : goal.returns-clause-taken
returns-clause-taken c =
    attributes_done attribute_spelled (context_of_entry c.args.context.now) _ (entries_moved c.args.out.now) (entries_moved c.loop-attribute.out) c.args.attributes.now c.loop-attribute.attribute-index
    c.loop-attribute.invariant c.loop-attribute-test.false
