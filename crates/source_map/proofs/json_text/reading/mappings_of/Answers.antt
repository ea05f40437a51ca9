use Rattle.std.proofs.Common.{◌≡◌, Some, codes, rules, sym, ap, ◌∙◌, subst}
use Rattle.json.specs.Find.{get}
use Rattle.json.specs.Json.{number, string}
use Rattle.json.specs.Value.{value_view}
use Rattle.source_map.proofs.Views.{view_string}
use Rattle.source_map.proofs.Wholes.{whole_taken}
use Rattle.source_map.proofs.json_text.reading.mappings_of.Goals as goal

pub returns-in-Ok-clause-mappings : goal.returns-in-Ok-clause-mappings
returns-in-Ok-clause-mappings c =
    let value = value_view c.args.value.now in
    let text = c.in-Some-String.text.now in
    let is_3 : get (codes "version") value ≡ Some (number (codes "3")) = search rules in
    let found : get (codes "mappings") value ≡ Some (string text) = sym c.in-Some-String.ensures ∙ ap (λ v. Some (value_view v)) c.in-Some-String.field-0-is ∙ ap (λ j. Some j) (view_string c.in-Some-String.text) in
    let bytes = c.as_bytes-text.result.now in
    let same : text ≡ bytes = search rules in
    let read = c.in-Ok.ensures.read in
    (is_3, subst (λ t. get (codes "mappings") value ≡ Some (string t)) same found, read.0, whole_taken bytes read.0 read.1)
