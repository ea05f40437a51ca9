use Rattle.std.proofs.Common.{◌≡◌, None, Err, ◌∙◌}
use Rattle.dwarf_bytes.specs.declared.fault.DebugFault.{DebugFault}
use Rattle.dwarf_bytes.specs.Patches.{changes}
use Rattle.dwarf_info.proofs.Taking.{other_fault}
use Rattle.dwarf.specs.IndexEntries.{attributes_with, once, all_names_followed, spelled_index_followed}
use Rattle.dwarf.specs.NameIndexViews.{index_spelled, index_declarations_of}
use Rattle.dwarf.proofs.IndexLemmas.{index_is}
use Rattle.dwarf.proofs.name_index.follow_parts.Goals as goal

pub returns-clause-refused : goal.returns-clause-refused
returns-clause-refused c =
    let i = index_spelled c.args.index in
    let info = changes c.args.info.now in
    let old = changes c.args.out.now in
    let mid = changes c.follow_units-2.new.out in
    let abbreviations = c.in_ok-abbreviations.ensures.read in
    let names = c.in_ok-names.ensures.read in
    let es = index_declarations_of c.in_ok-abbreviations.abbreviations in
    let is = index_is info i old (changes c.follow_units.new.out) mid abbreviations.0 abbreviations.1 names.0 names.1 c.in_ok-follow_units.ensures.followed c.in_ok-follow_units-2.ensures.followed es abbreviations.2
    c.deref.result.now (c.deref.ensures.value ∙ names.2) in
    other_fault c.follow_names.result (λ (fault : DebugFault). all_names_followed (record { index = i; attributes = attributes_with es; info = info }) 0 (once None c.deref.result.now) mid ≡ Err fault)
    (λ (fault : DebugFault). spelled_index_followed info i old ≡ Err fault) (λ fault e. is ∙ e) c.follow_names.ensures.refused
