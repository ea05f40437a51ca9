use Rattle.std.proofs.Common.{◌≡◌, ◌++◌, ◌∷◌, [], List, length, true, false, Err, inr, sym, ap, ◌∙◌, arith, rules, vec_len}
use Rattle.std.specs.Prelude.{map}
use Rattle.std.specs.List.{list_all}
use Rattle.std.proofs.lemmas.List.{length-map}
use Rattle.wasm_context.specs.declared.declared_type.DeclaredType.{DeclaredType}
use Rattle.wasm_context.specs.Declarations.{declared_of, declared_within}
use Rattle.wasm_sections.specs.declared.fault.ModuleError.{ModuleError}
use Rattle.module_context.proofs.GroupLemmas.{count_defined, group_added, group_not_closed, too_many_types}
use Rattle.module_context.proofs.groups.define_group.Goals as goal

pub returns-then-end-ge-TYPE_LIMIT-clause-is : goal.returns-then-end-ge-TYPE_LIMIT-clause-is
returns-then-end-ge-TYPE_LIMIT-clause-is c = λ groups is.
    let before = c.args.input.now in
    let d = c.args.definitions.now in
    let items = c.in-Ok.group.items in
    let types = count_defined d groups is in
    let long = length-map items declared_of in
    let known : length d.context.types.items ≡ vec_len d.context.types = search rules in
    let members : length items ≡ vec_len c.in-Ok.group = search rules in
    inr (too_many_types groups (map declared_of items) before.end before.rest.now c.read_group.new.input.rest.now c.in-Ok.ensures.is (omega arith)
    ∙ ap (λ (e : ModuleError). Err e) (sym c.fault.ensures))

pub returns-then-not-are_below-clause-is : goal.returns-then-not-are_below-clause-is
returns-then-not-are_below-clause-is c = λ groups is.
    let before = c.args.input.now in
    let d = c.args.definitions.now in
    let items = c.in-Ok.group.items in
    let end = c.saturating_add-end.result in
    let types = count_defined d groups is in
    let long = length-map items declared_of in
    let known : length d.context.types.items ≡ vec_len d.context.types = search rules in
    let members : length items ≡ vec_len c.in-Ok.group = search rules in
    let below : list_all (declared_within end) (map declared_of items) ≡ false =
    sym (ap (λ (l : List DeclaredType). list_all (declared_within end) (map declared_of l)) c.deref.ensures.value) ∙ c.if-not-are_below.ensures in
    inr (group_not_closed groups (map declared_of items) before.end before.rest.now c.read_group.new.input.rest.now c.in-Ok.ensures.is end (omega arith) (omega arith) below
    ∙ ap (λ (e : ModuleError). Err e) (sym c.fault-then-not-are_below.ensures))

pub returns-clause-is : goal.returns-clause-is
returns-clause-is c = λ groups is.
    let before = c.args.input.now in
    let d = c.args.definitions.now in
    let items = c.in-Ok.group.items in
    let end = c.saturating_add-end.result in
    let types = count_defined d groups is in
    let long = length-map items declared_of in
    let known : length d.context.types.items ≡ vec_len d.context.types = search rules in
    let members : length items ≡ vec_len c.in-Ok.group = search rules in
    let below : list_all (declared_within end) (map declared_of items) ≡ true =
    sym (ap (λ (l : List DeclaredType). list_all (declared_within end) (map declared_of l)) c.deref.ensures.value) ∙ c.if-not-are_below.ensures in (
      groups ++ map declared_of items ∷ [],
      group_added groups (map declared_of items) before.end before.rest.now c.read_group.new.input.rest.now c.in-Ok.ensures.is end (omega arith) (omega arith) below,
      c.in_ok-add.ensures groups is,
    )
