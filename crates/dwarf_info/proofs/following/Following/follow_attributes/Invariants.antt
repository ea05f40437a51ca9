use Rattle.std.proofs.Common.{map, drop}
use Rattle.dwarf_bytes.specs.Merging.{merging}
use Rattle.dwarf_bytes.proofs.MergingLemmas.{MergesLeft}
use Rattle.dwarf_info.specs.EntryViews.{attribute_spelled}
use Rattle.dwarf_info.specs.Following.{follow_attributes}
use Rattle.dwarf_info.specs.FollowViews.{follow_setting}
use Rattle.dwarf_info.proofs.following.Following.follow_attributes.Given as goal

abbrev pub invariant-loop-attribute : goal.invariant-loop-attribute
invariant-loop-attribute l =
    MergesLeft (follow_attributes (follow_setting l.self) (map attribute_spelled l.attributes)) (merging l.fn.out)
    (follow_attributes (follow_setting l.self) (map attribute_spelled (drop l.attribute-index l.attributes))) (merging l.out)
