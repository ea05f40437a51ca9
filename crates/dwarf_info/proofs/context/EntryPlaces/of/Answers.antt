use Rattle.std.proofs.Common.{ap, List, map, fold, sym, ◌∙◌}
use Rattle.std.proofs.lemmas.List.{drop_all}
use Rattle.dwarf_info.specs.declared.values.AttributeValue.{AttributeValue}
use Rattle.dwarf_info.specs.EntryViews.{attribute_spelled}
use Rattle.dwarf_info.specs.Steps.{places_after}
use Rattle.dwarf_info.proofs.Stepping.{places_more}
use Rattle.dwarf_info.proofs.context.EntryPlaces.of.Goals as goal

pub loop-attribute-preserved : goal.loop-attribute-preserved
loop-attribute-preserved c =
    places_more attribute_spelled c.args.attributes.now c.loop-attribute.attribute-index _ c.loop-attribute.places c.and-places.result _ c.loop-attribute-test.true c.and-places.ensures
    c.loop-attribute.invariant

pub returns : goal.returns
returns c =
    let xs = c.args.attributes.now in
    let i = c.loop-attribute.attribute-index in
    sym (ap (λ (ys : List AttributeValue). fold places_after c.loop-attribute.places (map attribute_spelled ys)) (drop_all i xs c.loop-attribute-test.false)) ∙ c.loop-attribute.invariant
