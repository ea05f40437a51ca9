use Rattle.std.proofs.Common.{◌≡◌, [], Err, sym, ◌∙◌}
use Rattle.std.proofs.lemmas.List.{append-nil}
use Rattle.dwarf_bytes.specs.Patches.{changes}
use Rattle.dwarf_info.proofs.Taking.{on_ok}
use Rattle.wasm_numbers.specs.Results.{each}
use Rattle.dwarf.specs.Sections.{contents_by_name, moved_contents}
use Rattle.dwarf.specs.MovedDebug.{section_followed, name_followers, name_sections_moved}
use Rattle.dwarf.proofs.Failures.{failure_mapped}
use Rattle.dwarf.proofs.DebugSteps.{names_resized, names_stay}
use Rattle.dwarf.proofs.moving.add_names.Goals as goal

pub returns-then-resizes-clause-added : goal.returns-then-resizes-clause-added
returns-then-resizes-clause-added c =
    let ss = contents_by_name c.args.sections.now.sections.items in
    let is = names_resized ss (changes c.args.info.now) (sym c.resizes.ensures ∙ c.if-resizes.true) in
    on_ok c.add_all_names.result _ _ (λ h. (h.0, is ∙ h.1, h.2)) c.add_all_names.ensures.added

pub returns-then-resizes-clause-refused : goal.returns-then-resizes-clause-refused
returns-then-resizes-clause-refused c =
    let ss = contents_by_name c.args.sections.now.sections.items in
    let cs = changes c.args.info.now in
    let is = names_resized ss cs (sym c.resizes.ensures ∙ c.if-resizes.true) in
    failure_mapped c.add_all_names.result (λ section fault. each (section_followed ss) (name_followers cs) ≡ Err (section, fault)) (λ section fault. name_sections_moved ss cs ≡ Err (section, fault))
    (λ section fault h. is ∙ h) c.add_all_names.ensures.refused

pub returns-clause-added : goal.returns-clause-added
returns-clause-added c =
    let ss = contents_by_name c.args.sections.now.sections.items in
    ([], names_stay ss (changes c.args.info.now) (sym c.resizes.ensures ∙ c.if-resizes.false), sym (append-nil (moved_contents c.args.out.now.sections.items)))
