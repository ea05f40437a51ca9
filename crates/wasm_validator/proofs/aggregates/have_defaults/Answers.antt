use Rattle.std.proofs.Common.{◌≡◌, Bool, List, [], ◌∷◌, map, refl, sym, ap, ◌∙◌, rules, tests}
use Rattle.std.specs.Prelude.{◌&&◌}
use Rattle.std.specs.List.{list_all}
use Rattle.std.proofs.lemmas.Iterator.{YieldsList-from_slice}
use Rattle.std.proofs.lemmas.Iterator.Search.{all_from_yields_List}
use Rattle.wasm_typing.specs.Contexts as standard
use Rattle.wasm_context.specs.Contexts.{field_of}
use Rattle.wasm_context.specs.declared.types.FieldType.{FieldType}
use Rattle.wasm_validator.proofs.aggregates.have_defaults.Goals as goal

abbrev defaults : standard.FieldType → Bool
defaults f = standard.has_default (standard.unpacked f.storage)

of_fields : (fields : List FieldType) → list_all defaults (map field_of fields) ≡ list_all (λ f. defaults (field_of f)) fields
of_fields [] = refl
of_fields (f ∷ fields) = ap (λ b. defaults (field_of f) && b) (of_fields fields)

pub returns : goal.returns
returns c =
    let xs = c.args.fields.now in
    of_fields xs
    ∙ sym (all_from_yields_List (λ (f : FieldType). defaults (field_of f)) _ _ c.all.result c.all.ensures.ran (YieldsList-from_slice xs cc) (λ x b q k. search (rules, tests)))
