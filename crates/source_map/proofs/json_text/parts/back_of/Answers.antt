use Rattle.std.proofs.Common.{◌≡◌, [], ◌∷◌, ◌++◌, sym, ap, ◌∙◌, subst, drop, append_assoc, arith}
use Rattle.std.specs.Str.{IsUtf8}
use Rattle.json.specs.Print.{print}
use Rattle.json.specs.Token.{string, end_object}
use Rattle.json.specs.Value.{members_view}
use Rattle.source_map.specs.Tokens.{other_tokens}
use Rattle.source_map.proofs.Pieces.{utf8_back}
use Rattle.source_map.proofs.json_text.parts.back_of.Goals as goal

pub returns-clause-utf8 : goal.returns-clause-utf8
returns-clause-utf8 c =
    let more = other_tokens (members_view c.args.members.now.items) ++ end_object ∷ [] in
    let text = c.text_of-text.result.items in
    let tokens_are : c.end_object.new.self.tokens ≡ string [] ∷ more = grind (arith, append_assoc) in
    let text_is : text ≡ print (string [] ∷ more) = c.text_of-text.ensures.text ∙ ap print tokens_are in
    let copied : c.extend_from_slice.new.self.items ≡ drop 1 text = grind arith in
    subst IsUtf8 (sym copied) (utf8_back text more text_is c.text_of-text.ensures.utf8)
