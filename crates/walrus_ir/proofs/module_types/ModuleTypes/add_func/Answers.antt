use Rattle.std.proofs.Common.{◌≡◌, [], ◌∷◌, ◌++◌, List, map, Some, None, is_some, length, sym, ap, subst, ◌∙◌}
use Rattle.std.specs.Prelude.{All}
use Rattle.std.proofs.lemmas.List.{map-append, length-map}
use Rattle.walrus_ir.specs.Types.{ModuleType, Func, find}
use Rattle.walrus_ir.specs.TypeEntries.{module_type, KnowsFirst}
use Rattle.walrus_ir.specs.TypeIndex.{IsIndexOf}
use Rattle.walrus_ir.proofs.TypeIndex.{index-known_func, index-adds_func}
use Rattle.walrus_ir.proofs.FirstTypes.{knows-pushed, found-again, found-new}
use Rattle.walrus_ir.proofs.module_types.ModuleTypes.add_func.Goals as goal

pub invariant_of-self-in-Some : goal.invariant_of-self-in-Some
invariant_of-self-in-Some c =
    let inside = c.self.inside in
    let index = inside.index in
    let types = map module_type inside.types.items in
    let params = c.args.params.now in
    let results = c.args.results.now in
    let entry = c.in_ok-entry-in-Some.entry in
    let pushed : map module_type c.push.new.self.items ≡ types ++ Func params results ∷ [] =
    ap (map module_type) c.in_ok-push-in-Some.ensures.items
    ∙ (map-append module_type inside.types.items _ ∙ ap (λ t. types ++ t ∷ []) c.in_ok-entry-in-Some.ensures.lists) in
    let there : find types params results ≡ Some c.in-Some.first = ap (λ ts. find ts params results) c.self.view_is ∙ (sym c.find.ensures ∙ c.in-Some.is) in
    let known : KnowsFirst (types ++ Func params results ∷ []) entry =
    c.in_ok-entry-in-Some.ensures.first (types ++ Func params results ∷ []) (found-again types params results c.in-Some.first there) in
    let all : All (KnowsFirst (types ++ Func params results ∷ [])) c.push.new.self.items =
    subst (All (KnowsFirst (types ++ Func params results ∷ []))) (sym c.in_ok-push-in-Some.ensures.items)
    (knows-pushed types (Func params results) inside.types.items entry c.self.invariant.1 known) in
    subst (λ (ts : List ModuleType). IsIndexOf ts index.firsts index.func_ids index.entry_ids × All (KnowsFirst ts) c.push.new.self.items) (sym pushed)
    (index-known_func types index.firsts index.func_ids index.entry_ids c.self.invariant.0 params results (ap is_some there), all)

pub invariant_of-self-in-Ok : goal.invariant_of-self-in-Ok
invariant_of-self-in-Ok c =
    let inside = c.self.inside in
    let index = inside.index in
    let new = c.add_func.new.self in
    let types = map module_type inside.types.items in
    let params = c.args.params.now in
    let results = c.args.results.now in
    let entry = c.in_ok-entry-in-None.entry in
    let pushed : map module_type c.push-in-None.new.self.items ≡ types ++ Func params results ∷ [] =
    ap (map module_type) c.in_ok-push-in-None.ensures.items
    ∙ (map-append module_type inside.types.items _ ∙ ap (λ t. types ++ t ∷ []) c.in_ok-entry-in-None.ensures.lists) in
    let number = c.new-id.ensures ∙ (c.len.ensures ∙ (inside.types.ok.0 ∙ sym (length-map inside.types.items module_type))) in
    let none : find types params results ≡ None = ap (λ ts. find ts params results) c.self.view_is ∙ (sym c.find.ensures ∙ c.in-None.is) in
    let known : KnowsFirst (types ++ Func params results ∷ []) entry =
    c.in_ok-entry-in-None.ensures.first (types ++ Func params results ∷ []) (found-new types params results none ∙ ap Some (sym number)) in
    let all : All (KnowsFirst (types ++ Func params results ∷ [])) c.push-in-None.new.self.items =
    subst (All (KnowsFirst (types ++ Func params results ∷ []))) (sym c.in_ok-push-in-None.ensures.items)
    (knows-pushed types (Func params results) inside.types.items entry c.self.invariant.1 known) in
    subst (λ (ts : List ModuleType). IsIndexOf ts new.firsts new.func_ids new.entry_ids × All (KnowsFirst ts) c.push-in-None.new.self.items) (sym pushed) (
      index-adds_func types index.firsts index.func_ids index.entry_ids c.self.invariant.0 params results c.new-id.result new.firsts new.func_ids new.entry_ids
          number none c.in-Ok.ensures.ok c.add_func.ensures.entries,
      all,
    )

pub returns-in_ok-push-in-Some-clause-id : goal.returns-in_ok-push-in-Some-clause-id
returns-in_ok-push-in-Some-clause-id c =
    let types = c.self.inside.types in
    c.new-id.ensures ∙ (c.len.ensures ∙ (types.ok.0 ∙ (sym (length-map types.items module_type) ∙ ap length c.self.view_is)))

pub returns-in_ok-push-in-Some-clause-ok : goal.returns-in_ok-push-in-Some-clause-ok
returns-in_ok-push-in-Some-clause-ok c =
    let types = map module_type c.self.inside.types.items in
    let added : map module_type c.push.new.self.items ≡ types ++ Func c.args.params.now c.args.results.now ∷ [] =
    ap (map module_type) c.in_ok-push-in-Some.ensures.items
    ∙ (map-append module_type c.self.inside.types.items _ ∙ ap (λ t. types ++ t ∷ []) c.in_ok-entry-in-Some.ensures.lists) in
    added ∙ ap (λ (ts : List ModuleType). ts ++ Func c.args.params.now c.args.results.now ∷ []) c.self.view_is

pub returns-in-Ok-clause-id : goal.returns-in-Ok-clause-id
returns-in-Ok-clause-id c =
    let types = c.self.inside.types in
    c.new-id.ensures ∙ (c.len.ensures ∙ (types.ok.0 ∙ (sym (length-map types.items module_type) ∙ ap length c.self.view_is)))

pub returns-in-Ok-clause-ok : goal.returns-in-Ok-clause-ok
returns-in-Ok-clause-ok c =
    let types = map module_type c.self.inside.types.items in
    let added : map module_type c.push-in-None.new.self.items ≡ types ++ Func c.args.params.now c.args.results.now ∷ [] =
    ap (map module_type) c.in_ok-push-in-None.ensures.items
    ∙ (map-append module_type c.self.inside.types.items _ ∙ ap (λ t. types ++ t ∷ []) c.in_ok-entry-in-None.ensures.lists) in
    added ∙ ap (λ (ts : List ModuleType). ts ++ Func c.args.params.now c.args.results.now ∷ []) c.self.view_is
