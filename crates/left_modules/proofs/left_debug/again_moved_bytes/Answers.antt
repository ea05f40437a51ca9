use Rattle.std.proofs.Common.{List, arith, refl, subst}
use Rattle.module_debug.specs.declared.sections.DebugSection.{DebugSection}
use Rattle.module_debug.specs.Sections.{AreDebugSections as AreSections}
use Rattle.left_modules.proofs.NamedSectionLemmas.{one_more_named, all_named, written_named}
use Rattle.left_modules.proofs.left_debug.again_moved_bytes.Goals as goal

pub sections-preserved : goal.sections-preserved
sections-preserved c =
    one_more_named c.args.sections.now c.sections.section-index _ _ c.sections.all.items c.push.new.self.items (omega arith) refl c.in_ok-push.ensures.items
    c.sections.invariant

pub returns-in-Ok : goal.returns-in-Ok
returns-in-Ok c =
    let named = all_named c.args.sections.now c.sections.section-index c.sections.all.items (omega arith) c.sections.invariant in
    written_named c.args.sections.now c.sections.all.items c.in-Ok.bytes.items named
    (subst (λ (l : List DebugSection). AreSections l c.in-Ok.bytes.items) c.deref.ensures.value c.in-Ok.ensures)
