use Rattle.std.proofs.Common.{◌∙◌, sym, rules, tests}
use Rattle.std.proofs.lemmas.Iterator.{YieldsList-from_slice}
use Rattle.std.proofs.lemmas.Iterator.Search.{all_from_yields_List}
use Rattle.std.proofs.lemmas.List.Folds.{list_all-map}
use Rattle.wasm_context.specs.Contexts.{defined_of}
use Rattle.wasm_context.specs.declared.types.DefinedType.{DefinedType}
use Rattle.module_validator.specs.EngineLimits.{is_short_type}
use Rattle.module_validator.proofs.limited_types.are_short.Goals as goal

pub returns : goal.returns
returns c =
    let ts = c.args.types.now in
    list_all-map is_short_type defined_of ts
    ∙ sym (all_from_yields_List (λ (t : DefinedType). is_short_type (defined_of t)) _ _ c.all.result c.all.ensures.ran (YieldsList-from_slice ts cc) (λ x b q k. search (rules, tests)))
