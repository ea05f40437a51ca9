use Rattle.std.proofs.Common.{◌≡◌, ℕ, List, Some, [], ◌∷◌, ◌++◌, codes, sym, ap, ◌∙◌, subst, rules}
use Rattle.source_map.specs.Spelling.{SpellsMappings}
use Rattle.json.specs.Find.{get}
use Rattle.json.specs.Json.{Json, number, string, object}
use Rattle.json.specs.Print.{print}
use Rattle.json.specs.Token.{begin_object, key}
use Rattle.json.specs.Value.{value_view, members_view}
use Rattle.json.proofs.Trees.{view-Object}
use Rattle.source_map.specs.WrittenSourceMaps.{order}
use Rattle.source_map.specs.Tokens.{ordered_tokens}
use Rattle.source_map.proofs.Pieces.{parts_around}
use Rattle.source_map.proofs.json_text.reading.source_map_of.Goals as goal

pub returns-clause-map : goal.returns-clause-map
returns-clause-map c = λ source read.
    let members = members_view c.in-Object.members.items in
    let seen : value_view c.args.value.now ≡ object members = ap value_view c.in-Object.is ∙ view-Object c.in-Object.members in
    let found = c.in-Ok.ensures.mappings in
    let text = c.in-Ok.text.now in
    let copied : c.in-Ok-from_slice.mappings.items ≡ text = search rules in
    let front = c.in-Ok-front_of.front.items in
    let front_is = λ (j : Json). front ≡ print (begin_object ∷ (ordered_tokens order j ++ key (codes "mappings") ∷ [])) ++ 34 ∷ [] in (
      members,
      record {
        is_source_map = record {
          is_object = read ∙ ap (λ j. Some j) seen;
          version_is = subst (λ j. get (codes "version") j ≡ Some (number (codes "3"))) seen found.0;
          mappings_are = subst (λ (t : List ℕ). get (codes "mappings") (object members) ≡ Some (string t)) (sym copied) (subst (λ j. get (codes "mappings") j ≡ Some (string text)) seen found.1);
        };
        all = found.2;
        spells = subst (SpellsMappings found.2) (sym copied) found.3;
        front_is_utf8 = c.in-Ok-front_of.ensures.utf8;
        back_is_utf8 = c.in-Ok-back_of.ensures.utf8;
        parts = λ text plain. parts_around members front c.in-Ok-back_of.back.items text (subst front_is seen c.in-Ok-front_of.ensures.text) c.in-Ok-back_of.ensures.text plain;
      },
    )
