use Rattle.std.proofs.Common.{◌≡◌, [], ◌∷◌, ◌++◌, List, length, map, is_some, sym, ap, subst, ◌∙◌}
use Rattle.std.specs.Prelude.{All}
use Rattle.std.proofs.lemmas.List.{map-append, length-map}
use Rattle.walrus_ir.specs.Types.{ModuleType, Entry, find_entry}
use Rattle.walrus_ir.specs.TypeEntries.{module_type, KnowsFirst}
use Rattle.walrus_ir.specs.TypeIndex.{IsIndexOf}
use Rattle.walrus_ir.proofs.TypeIndex.{none_there, index-known_entry, index-adds_entry}
use Rattle.walrus_ir.proofs.FirstTypes.{knows-pushed}
use Rattle.walrus_ir.proofs.module_types.ModuleTypes.add_entry.Goals as goal

pub invariant_of-self-then-is_some : goal.invariant_of-self-then-is_some
invariant_of-self-then-is_some c =
    let inside = c.self.inside in
    let index = inside.index in
    let types = map module_type inside.types.items in
    let results = c.args.results.now in
    let pushed : map module_type c.push.new.self.items ≡ types ++ Entry results ∷ [] =
    ap (map module_type) c.in_ok-push.ensures.items
    ∙ (map-append module_type inside.types.items _ ∙ ap (λ rs. types ++ Entry rs ∷ []) c.in_ok-from_slice.ensures.items) in
    let there = ap (λ ts. is_some (find_entry ts results)) c.self.view_is ∙ (ap is_some (sym c.find_for_function_entry.ensures) ∙ (sym c.is_some.ensures ∙ c.if-is_some.true)) in
    let all : All (KnowsFirst (types ++ Entry results ∷ [])) c.push.new.self.items =
    subst (All (KnowsFirst (types ++ Entry results ∷ []))) (sym c.in_ok-push.ensures.items) (knows-pushed types (Entry results) inside.types.items _ c.self.invariant.1 tt) in
    subst (λ (ts : List ModuleType). IsIndexOf ts index.firsts index.func_ids index.entry_ids × All (KnowsFirst ts) c.push.new.self.items) (sym pushed)
    (index-known_entry types index.firsts index.func_ids index.entry_ids c.self.invariant.0 results there, all)

pub invariant_of-self-in-Ok : goal.invariant_of-self-in-Ok
invariant_of-self-in-Ok c =
    let inside = c.self.inside in
    let index = inside.index in
    let new = c.add_entry.new.self in
    let types = map module_type inside.types.items in
    let results = c.args.results.now in
    let pushed : map module_type c.push-2.new.self.items ≡ types ++ Entry results ∷ [] =
    ap (map module_type) c.in_ok-push-2.ensures.items
    ∙ (map-append module_type inside.types.items _ ∙ ap (λ rs. types ++ Entry rs ∷ []) c.in_ok-from_slice.ensures.items) in
    let number = c.new-id.ensures ∙ (c.len.ensures ∙ (inside.types.ok.0 ∙ sym (length-map inside.types.items module_type))) in
    let none = none_there (find_entry types results)
    (ap (λ ts. is_some (find_entry ts results)) c.self.view_is ∙ (ap is_some (sym c.find_for_function_entry.ensures) ∙ (sym c.is_some.ensures ∙ c.if-is_some.false))) in
    let all : All (KnowsFirst (types ++ Entry results ∷ [])) c.push-2.new.self.items =
    subst (All (KnowsFirst (types ++ Entry results ∷ []))) (sym c.in_ok-push-2.ensures.items) (knows-pushed types (Entry results) inside.types.items _ c.self.invariant.1 tt) in
    subst (λ (ts : List ModuleType). IsIndexOf ts new.firsts new.func_ids new.entry_ids × All (KnowsFirst ts) c.push-2.new.self.items) (sym pushed) (
      index-adds_entry types index.firsts index.func_ids index.entry_ids c.self.invariant.0 results c.new-id.result new.firsts new.func_ids new.entry_ids
          number none c.in-Ok.ensures.ok c.add_entry.ensures.functions,
      all,
    )

pub returns-then-is_some-clause-id : goal.returns-then-is_some-clause-id
returns-then-is_some-clause-id c =
    let types = c.self.inside.types in
    c.new-id.ensures ∙ (c.len.ensures ∙ (types.ok.0 ∙ (sym (length-map types.items module_type) ∙ ap length c.self.view_is)))

pub returns-then-is_some-clause-ok : goal.returns-then-is_some-clause-ok
returns-then-is_some-clause-ok c =
    let types = c.self.inside.types in
    let added : map module_type c.push.new.self.items ≡ map module_type types.items ++ Entry c.args.results.now ∷ [] =
    ap (map module_type) c.in_ok-push.ensures.items
    ∙ (map-append module_type types.items _ ∙ ap (λ rs. map module_type types.items ++ Entry rs ∷ []) c.in_ok-from_slice.ensures.items) in
    added ∙ ap (λ (ts : List ModuleType). ts ++ Entry c.args.results.now ∷ []) c.self.view_is

pub returns-in-Ok-clause-id : goal.returns-in-Ok-clause-id
returns-in-Ok-clause-id c =
    let types = c.self.inside.types in
    c.new-id.ensures ∙ (c.len.ensures ∙ (types.ok.0 ∙ (sym (length-map types.items module_type) ∙ ap length c.self.view_is)))

pub returns-in-Ok-clause-ok : goal.returns-in-Ok-clause-ok
returns-in-Ok-clause-ok c =
    let types = c.self.inside.types in
    let added : map module_type c.push-2.new.self.items ≡ map module_type types.items ++ Entry c.args.results.now ∷ [] =
    ap (map module_type) c.in_ok-push-2.ensures.items
    ∙ (map-append module_type types.items _ ∙ ap (λ rs. map module_type types.items ++ Entry rs ∷ []) c.in_ok-from_slice.ensures.items) in
    added ∙ ap (λ (ts : List ModuleType). ts ++ Entry c.args.results.now ∷ []) c.self.view_is
