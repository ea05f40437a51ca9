use Rattle.std.proofs.Common.{rules, ◌≡◌, Some}
use Rattle.json.specs.Find.{get}
use Rattle.json.specs.Value.{value_view}
use Rattle.json.proofs.Numbered.{HasNumbers-get}
use Rattle.source_map.proofs.json_text.parts.put_named.Goals as goal

pub value-requires : goal.value-requires
value-requires c =
    let found : Some (value_view c.in-Some.member.now) ≡ get c.args.name.now (value_view c.args.value.now) = search rules in
    HasNumbers-get c.args.name.now (value_view c.args.value.now) (value_view c.in-Some.member.now) c.requires found
