use Rattle.std.proofs.Common.{◌≡◌, ◌<◌, ◌≤◌, ◌⊎◌, ◌+◌, ◌++◌, ℕ, List, length, drop, get_or, Option, Some, None, Result, Ok, Err, inl, inr, refl, sym, ap, subst}
use Rattle.std.specs.Prelude.{IfOk, IfErr}
use Rattle.std.proofs.lemmas.List.{drop_more, drop_all}
use Rattle.std.proofs.lemmas.Result.{err_from_is_err_and}
use Rattle.dwarf_bytes.specs.declared.addresses.LongerTable.{LongerTable}
use Rattle.dwarf_bytes.specs.declared.fault.DebugError.{DebugError}
use Rattle.dwarf_bytes.specs.declared.fault.DebugError.TheVariants.{Memory, Fault}
use Rattle.dwarf_bytes.specs.declared.fault.DebugFault.{DebugFault}
use Rattle.dwarf_bytes.specs.declared.patches.Patches.{Patches}
use Rattle.dwarf_bytes.specs.Changes.{SectionChange}
use Rattle.dwarf_bytes.specs.Merging.{MergeSteps, Merging, merging, none_merged, all_merged, IsOverlap, AreMerged, AreAllMerged, IsFaultOfAll}
use Rattle.dwarf_bytes.specs.Patches.{changes}
use Rattle.dwarf_bytes.specs.Uses.{longer_steps_after, longer_steps}
use Rattle.dwarf_bytes.proofs.MergingLemmas.{MergesLeft, merges_then, merges_refused, are_all_merged, all_overlap}
use Rattle.dwarf_bytes.proofs.addresses.lengthened.Goals as goal

module _ (all : MergeSteps) (old now : Merging) (before : Option LongerTable) (ts : List LongerTable) (i : ℕ) (left : MergesLeft all old (longer_steps before (drop i ts)) now) where
  next_table : (d : LongerTable) → i < length ts → MergesLeft all old (longer_steps_after before (get_or ts i d) ++ longer_steps (Some (get_or ts i d)) (drop (i + 1) ts)) now
  next_table d within = subst (λ (ss : MergeSteps). MergesLeft all old ss now) (ap (longer_steps before) (drop_more ts i d within)) left

  all_tables : length ts ≤ i → AreMerged all old now
  all_tables few = left.merged now (subst (λ (l : List LongerTable). AreMerged (longer_steps before l) now now) (sym (drop_all i ts few)) refl)

module _ (first : List SectionChange) (steps : MergeSteps) (m : Merging) (e : AreMerged steps (none_merged first) m) where
  finished : {E : Type 0} (r : Result Patches E) → IfOk r (λ p. changes p ≡ all_merged m) → IfOk r (λ p. AreAllMerged first steps (changes p))
  finished (Ok p) h = are_all_merged first steps m (changes p) e h
  finished (Err f) h = h

  unfinished : {A : Type 0} (r : Result A DebugError) → IfErr r (λ e. (e ≡ Memory) ⊎ ((fault : DebugFault) × (e ≡ Fault fault) × IsOverlap (all_merged m) fault))
      → IfErr r (λ e. (e ≡ Memory) ⊎ ((fault : DebugFault) × (e ≡ Fault fault) × IsFaultOfAll first steps fault))
  unfinished (Ok x) h = h
  unfinished (Err f) (inl memory) = inl memory
  unfinished (Err f) (inr x) = inr (x.0, x.1, all_overlap first steps m x.0 e x.2)

pub returns-in_err-lengthen_after-clause-refused : goal.returns-in_err-lengthen_after-clause-refused
returns-in_err-lengthen_after-clause-refused c =
    let ts = c.args.tables.now in
    let all = longer_steps None ts in
    let old = none_merged (changes c.args.first.now) in
    let now = merging c.each.all in
    let i = c.each.table-index in
    let p = err_from_is_err_and c.from_residual.result c.from_residual.ensures.1 in
    rw (p.1, p.2) (elim c.in_err-lengthen_after.ensures.refused [
      | inl memory ↦ inl memory
      | inr x ↦ inr (x.0, x.1, inl (merges_refused all _ _ old now (next_table all old now c.each.before ts i c.each.invariant _ c.each-test.true) x.0 x.2))
    ])

pub each-preserved : goal.each-preserved
each-preserved c =
    let ts = c.args.tables.now in
    let all = longer_steps None ts in
    let old = none_merged (changes c.args.first.now) in
    let now = merging c.each.all in
    merges_then all _ _ old now (next_table all old now c.each.before ts c.each.table-index c.each.invariant _ c.each-test.true) (merging c.lengthen_after.new.all) c.in_ok-lengthen_after.ensures.merged

pub returns-clause-replaced : goal.returns-clause-replaced
returns-clause-replaced c =
    let ts = c.args.tables.now in
    let first = changes c.args.first.now in
    let merged = all_tables (longer_steps None ts) (none_merged first) (merging c.each.all) c.each.before ts c.each.table-index c.each.invariant c.each-test.false in
    finished first (longer_steps None ts) (merging c.each.all) merged c.finish.result c.finish.ensures.merged

pub returns-clause-refused : goal.returns-clause-refused
returns-clause-refused c =
    let ts = c.args.tables.now in
    let first = changes c.args.first.now in
    let merged = all_tables (longer_steps None ts) (none_merged first) (merging c.each.all) c.each.before ts c.each.table-index c.each.invariant c.each-test.false in
    unfinished first (longer_steps None ts) (merging c.each.all) merged c.finish.result c.finish.ensures.refused
