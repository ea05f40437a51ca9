use Rattle.std.proofs.Common.{inl, inr, ◌<◌, ℕ, ◌-◌, ◌≤◌, Bool, List, [], ◌∷◌, ◌++◌, length, refl, sym, ap, ◌∙◌, subst, rules, arith}
use Rattle.std.proofs.lemmas.Slice.{between_to_end}
use Rattle.std.proofs.lemmas.Bool.{MatchBool-at_true, MatchBool-at_false}
use Rattle.std.proofs.lemmas.Result.{err_from_is_err_and}
use Rattle.dwarf_bytes.specs.declared.fault.DebugFault.TheVariants as faults
use Rattle.dwarf_bytes.specs.Changes.{SectionChange}
use Rattle.dwarf_bytes.specs.Patches.{changes}
use Rattle.dwarf_lists.specs.Moving.{IsWrittenIf, from_after}
use Rattle.dwarf_lists.specs.Reading.{list_entry_of}
use Rattle.dwarf_lists.proofs.Frames.{shorter}
use Rattle.dwarf_lists.proofs.Loop.{SoFar, so_far_none, so_far_kept, so_far_moved, so_far_end, so_far_refused, so_far_overlaps}
use Rattle.dwarf_lists.proofs.list.move_list.Goals as goal
use Rattle.dwarf_lists.proofs.list.move_list.Goals.{then-branch+in_ok-push, else-branch}

pub entries-init : goal.entries-init
entries-init c =
    let list = c.args.list.now in
    let section = c.args.section.now in
    let found = c.in-Some.ensures.lookup in
    let few : list.offset ≤ length section = found.0.0 in
    let rest = found.0.2 ∙ between_to_end section list.offset (length section) (omega arith) in
    subst (λ (l : List ℕ). SoFar c.args.kind list.encoding c.args.moves.now.bodies.items section list.offset list.base list.base l (changes c.args.patches.now) (changes c.args.patches.now)) (sym rest)
    (so_far_none c.args.kind list.encoding c.args.moves.now.bodies.items section list.offset list.base (changes c.args.patches.now) few)

pub overflow_sub-result : goal.overflow_sub-result
overflow_sub-result c =
    let less = shorter c.args.kind c.args.list.now.encoding.address_size c.entries.rest.now (list_entry_of c.in_ok-entry.entry) c.in_ok-entry.after.now c.in_ok-entry.ensures.gives in
    omega (arith, less, c.entries.invariant.at_is)

pub overflow_sub-rest : goal.overflow_sub-rest
overflow_sub-rest c =
    let less = shorter c.args.kind c.args.list.now.encoding.address_size c.entries.rest.now (list_entry_of c.in_ok-entry.entry) c.in_ok-entry.after.now c.in_ok-entry.ensures.gives in
    omega (arith, less)

pub entries-smaller : goal.entries-smaller
entries-smaller c = shorter c.args.kind c.args.list.now.encoding.address_size c.entries.rest.now (list_entry_of c.in_ok-entry.entry) c.in_ok-entry.after.now c.in_ok-entry.ensures.gives

pub returns-then-is_end-clause-moved : goal.returns-then-is_end-clause-moved
returns-then-is_end-clause-moved c =
    let list = c.args.list.now in
    let is = MatchBool-at_true _ _ c.if-is_end.true c.is_end.ensures in
    so_far_end c.args.kind list.encoding c.args.moves.now.bodies.items c.args.section.now list.offset list.base c.entries.base c.entries.rest.now c.in_ok-entry.after.now (changes c.args.patches.now) (changes c.entries.patches)
    (list_entry_of c.in_ok-entry.entry) c.entries.invariant c.in_ok-entry.ensures.gives is

pub entries-preserved : goal.entries-preserved
entries-preserved c =
    let list = c.args.list.now in
    let kind = c.args.kind in
    let e = list.encoding in
    let bodies = c.args.moves.now.bodies.items in
    let section = c.args.section.now in
    let rest = c.entries.rest.now in
    let after = c.in_ok-entry.after.now in
    let before = changes c.args.patches.now in
    let now = changes c.entries.patches in
    let x = list_entry_of c.in_ok-entry.entry in
    let reads = c.in_ok-entry.ensures.gives in
    let item = MatchBool-at_false _ _ c.if-is_end.false c.is_end.ensures in
    let next : SoFar kind e bodies section list.offset list.base (from_after c.entries.base x) after before (changes c.if-branch.patches) = elim c.if-branch.branch [
      | then-branch+in_ok-push w ↦
          let text = c.move_entry.new.scratch.entry.items in
          let written = subst (λ (b : Bool). IsWrittenIf kind e bodies c.entries.base x text b) w.if-branch.true c.in_ok-move_entry.ensures.moved in
          let at = length section - length rest in
          let old = length rest - length after in
          let pushed = ap changes w.patches-is ∙ (w.in_ok-push.ensures.pushed ∙ ap (λ (l : List ℕ). let one : SectionChange = record { at = at; old = old; new = l } in now ++ one ∷ []) w.deref.ensures.value) in
          so_far_moved kind e bodies section list.offset list.base c.entries.base rest after before now x c.entries.invariant reads item written.0 text (changes c.if-branch.patches) at old refl refl written.1 written.2 pushed
      | else-branch w ↦
          let stays = subst (λ (b : Bool). IsWrittenIf kind e bodies c.entries.base x c.move_entry.new.scratch.entry.items b) w.if-branch.false c.in_ok-move_entry.ensures.moved in
          subst (λ l. SoFar kind e bodies section list.offset list.base (from_after c.entries.base x) after before l) (sym (ap changes w.patches-is)) (so_far_kept kind e bodies section list.offset list.base c.entries.base rest after before now x c.entries.invariant reads item stays)
    ] in
    subst (λ (n : ℕ). SoFar kind e bodies section list.offset list.base n after before (changes c.if-branch.patches)) (sym c.from_after-base.ensures) next

pub returns-in_err-move_entry-clause-refused : goal.returns-in_err-move_entry-clause-refused
returns-in_err-move_entry-clause-refused c =
    let list = c.args.list.now in
    let up = so_far_refused c.args.kind list.encoding c.args.moves.now.bodies.items c.args.section.now list.offset list.base c.entries.base c.entries.rest.now c.in_ok-entry.after.now (changes c.args.patches.now) (changes c.entries.patches)
    (list_entry_of c.in_ok-entry.entry) c.entries.invariant c.in_ok-entry.ensures.gives in
    let passed = err_from_is_err_and c.from_residual-in_err-move_entry.result c.from_residual-in_err-move_entry.ensures.1 in
    rw (passed.1, passed.2) (elim c.in_err-move_entry.ensures.refused [
      | inl memory ↦ inl memory
      | inr fault ↦ inr (fault.0, fault.1, up fault.0 fault.2)
    ])

pub returns-in_err-push-clause-refused : goal.returns-in_err-push-clause-refused
returns-in_err-push-clause-refused c =
    let list = c.args.list.now in
    let before = c.in_ok-entry.after.now in
    let up = so_far_overlaps c.args.kind list.encoding c.args.moves.now.bodies.items c.args.section.now list.offset list.base c.entries.base c.entries.rest.now before (changes c.args.patches.now) (changes c.entries.patches)
    (list_entry_of c.in_ok-entry.entry) c.entries.invariant c.in_ok-entry.ensures.gives in
    let few : length c.args.section.now < 18446744073709551616 = search rules in
    let passed = err_from_is_err_and c.from_residual-in_err-push.result c.from_residual-in_err-push.ensures.1 in
    rw (passed.1, passed.2) (elim c.in_err-push.ensures.refused [
      | inl memory ↦ inl memory
      | inr fault ↦ elim fault [
        | inl overlap ↦ inr (faults.Overlap, overlap.0, inr (inl (refl, up overlap.1)))
        | inr beyond ↦ absurd (omega (arith, few, beyond.1))
      ]
    ])
