use Rattle.std.proofs.Common.{refl, rules}
use Rattle.std.specs.Vec.{with_item}
use Rattle.wasm_sections.specs.declared.changes.Changes.{Changes}
use Rattle.wasm_sections.specs.declared.changes.NewContents.{NewContents}
use Rattle.wasm_sections.specs.Additions.{AreUnchanged, AddsAfter}
use Rattle.wasm_sections.specs.Sections.{section_id}
use Rattle.wasm_sections.proofs.AdditionLemmas.{after_given, after_others, not_added_there, unchanged_at, on_err, on_ok}
use Rattle.wasm_sections.proofs.changes.Changes.add_after.Goals as goal

pub returns-in-Some-clause-ok : goal.returns-in-Some-clause-ok
returns-in-Some-clause-ok c =
    let old = c.args.self.now in
    let g : NewContents = record { kind = c.index_mut.result.now.kind; contents = c.append_item.new.contents } in
    let new : Changes = record old { given = with_item old.given c.in-Some.at g } in
    on_ok c.append_item.result _ (AddsAfter old new (section_id c.args.kind) c.args.others.now c.args.item.now) c.append_item.ensures.ok
    (λ more. after_given old new (section_id c.args.kind) c.in-Some.at c.args.others.now c.args.item.now c.in-Some.ensures.found c.in-Some.ensures.within
    c.index_mut.result.now g c.index_mut.ensures.value refl more (search rules) refl)

pub returns-in-Some-clause-err : goal.returns-in-Some-clause-err
returns-in-Some-clause-err c =
    let old = c.args.self.now in
    let g : NewContents = record { kind = c.index_mut.result.now.kind; contents = c.append_item.new.contents } in
    let new : Changes = record old { given = with_item old.given c.in-Some.at g } in
    on_err c.append_item.result _ (AreUnchanged old new) c.append_item.ensures.err
    (λ same. unchanged_at old new c.in-Some.at c.index_mut.result.now g c.index_mut.ensures.value refl same (search rules) refl)

pub returns-in_ok-check_len-in-None-clause-ok : goal.returns-in_ok-check_len-in-None-clause-ok
returns-in_ok-check_len-in-None-clause-ok c =
    on_ok c.put.result _ (AddsAfter c.args.self.now c.put.new.self (section_id c.args.kind) c.args.others.now c.args.item.now) c.put.ensures.sets
    (λ sets. after_others c.args.self.now c.put.new.self (section_id c.args.kind) c.args.others.now c.args.item.now _ c.in-None.ensures.none c.in_ok-contents-in-None.ensures.made sets)

pub returns-in-Some-clause-refused : goal.returns-in-Some-clause-refused
returns-in-Some-clause-refused c =
    not_added_there c.append_item.result c.args.self.now.given.items (section_id c.args.kind) c.in-Some.at c.args.others.now c.in-Some.ensures.found
    c.in-Some.ensures.within c.index_mut.result.now c.index_mut.ensures.value c.append_item.ensures.refused
