use Rattle.std.proofs.Common.{◌≡◌, ◌++◌, drop}
use Rattle.json.specs.Tree.{MembersHaveNumbers}
use Rattle.json.specs.Value.{members_view}
use Rattle.source_map.specs.Tokens.{other_tokens}
use Rattle.source_map.proofs.json_text.parts.put_others.Given as goal

abbrev pub invariant-members : goal.invariant-members
invariant-members l =
    let left = members_view (drop l.member-index l.member-items) in
    (l.out.tokens ++ other_tokens left ≡ l.fn.out.tokens ++ other_tokens (members_view l.members.items)) × MembersHaveNumbers left
    × (l.out.before ≡ l.fn.out.before)
