use Rattle.std.proofs.Common.{inl, inr}
use Rattle.std.proofs.lemmas.Result.{err_from_is_err_and}
use Rattle.dwarf_bytes.specs.Merging.{merging}
use Rattle.dwarf_bytes.proofs.MergingLemmas.{merges_all}
use Rattle.dwarf_info.specs.EntryViews.{attribute_spelled}
use Rattle.dwarf_info.specs.FollowViews.{follow_setting}
use Rattle.dwarf_info.proofs.FollowLemmas.{followed_attributes, attribute_followed, attribute_not_followed}
use Rattle.dwarf_info.proofs.following.Following.follow_attributes.Goals as goal

pub loop-attribute-init : goal.loop-attribute-init
loop-attribute-init c = merges_all _ _

pub returns-in_err-follow_attribute-clause-refused : goal.returns-in_err-follow_attribute-clause-refused
returns-in_err-follow_attribute-clause-refused c =
    let p = err_from_is_err_and c.from_residual.result c.from_residual.ensures.1 in
    rw (p.1, p.2) (elim c.in_err-follow_attribute.ensures.refused [
      | inl memory ↦ inl memory
      | inr x ↦ inr (
        x.0,
        x.1,
        attribute_not_followed attribute_spelled (follow_setting c.args.self.now) _ (merging c.args.out.now) (merging c.loop-attribute.out) c.args.attributes.now
            c.loop-attribute.attribute-index c.loop-attribute.invariant _ c.loop-attribute-test.true x.0 x.2,
      )
    ])

pub loop-attribute-preserved : goal.loop-attribute-preserved
loop-attribute-preserved c =
    attribute_followed attribute_spelled (follow_setting c.args.self.now) _ (merging c.args.out.now) (merging c.loop-attribute.out) c.args.attributes.now c.loop-attribute.attribute-index
    c.loop-attribute.invariant _ c.loop-attribute-test.true (merging c.follow_attribute.new.out) c.in_ok-follow_attribute.ensures.merged

pub returns-clause-merged : goal.returns-clause-merged
returns-clause-merged c =
    followed_attributes attribute_spelled (follow_setting c.args.self.now) _ (merging c.args.out.now) (merging c.loop-attribute.out) c.args.attributes.now c.loop-attribute.attribute-index
    c.loop-attribute.invariant c.loop-attribute-test.false
