use Rattle.std.proofs.Common.{◌∷◌, ◌++◌, [], inl, inr, refl, sym, ap, ◌∙◌}
use Rattle.std.proofs.lemmas.Result.{err_from_is_err_and}
use Rattle.dwarf_new_lists.specs.Kinds.{new_list_is_end}
use Rattle.dwarf_new_lists.specs.Contexts.{bodies, addresses}
use Rattle.dwarf_bytes.specs.Uses.{told}
use Rattle.dwarf_new_lists.proofs.Tellings.{tells_none, tells_more}
use Rattle.dwarf_new_lists.proofs.Entries.{entry_shorter}
use Rattle.dwarf_new_lists.proofs.Passing.{passed_more, passed_at, refused_at}
use Rattle.dwarf_new_lists.proofs.Steps.{none_so_far, one_more, open_more, whole_more}
use Rattle.dwarf_new_lists.proofs.moving.Context.append_list.Goals as goal

pub loop-step-smaller : goal.loop-step-smaller
loop-step-smaller c = let m = c.in_ok-step.ensures.moved in entry_shorter _ _ c.loop-step.rest.now m.0 c.in_ok-step.step.rest.now m.2

pub loop-step-init : goal.loop-step-init
loop-step-init c =
    let self = c.args.self.now in
    ([], [], [], none_so_far self.lists self.encoding (bodies self) (addresses self) c.args.base c.args.bytes.now c.args.out.now.items _ _ c.base_at-base.ensures.old c.base_at-base.ensures.new, tt, tt, tells_none (bodies self) self.addresses.now (told c.args.uses.now), tt, refl)

pub returns-then-step-clause-moved : goal.returns-then-step-clause-moved
returns-then-step-clause-moved c =
    let self = c.args.self.now in
    let s = c.loop-step.invariant in
    let m = c.in_ok-step.ensures.moved in
    let all =
    one_more self.lists self.encoding (bodies self) (addresses self) c.args.base c.args.bytes.now c.args.out.now.items s.0 s.1 s.2 c.loop-step.rest.now c.loop-step.out.items
    c.loop-step.base.old c.loop-step.base.new s.3 m.0 m.1 m.3.0 c.in_ok-step.step.rest.now _ c.in_ok-step.step.base.old c.in_ok-step.step.base.new m.2 m.3.1 m.3.2 m.4 m.5
    (c.in_ok-step.ensures.base s.3.bases) in
    let whole = whole_more s.0 m.0 s.4 (sym m.6 ∙ c.if-step.true) in
    let new_whole = whole_more s.1 m.1 s.5 (ap new_list_is_end m.4.kind ∙ (sym m.6 ∙ c.if-step.true)) in
    let more = tells_more (bodies self) self.addresses.now c.args.base (told c.args.uses.now) (told c.loop-step.uses) (told c.append_entry.new.uses) s.0 m.0 c.loop-step.base.old s.3.old_after s.6 m.7 in
    let passed = passed_more self.encoding (bodies self) self.addresses.now c.args.base s.0 m.0 s.7
    (passed_at self.encoding (bodies self) self.addresses.now c.loop-step.base.old c.loop-step.base.new _ m.0 s.3.old_after s.3.bases m.8) in
    (s.0 ++ m.0 ∷ [], s.1 ++ m.1 ∷ [], s.2 ++ m.3.0, (all.begins, whole), all.appended, λ following. (all.writes following, new_whole), all.moved, more, passed)

pub returns-then-step-clause-tables : goal.returns-then-step-clause-tables
returns-then-step-clause-tables c = c.in_ok-step.ensures.tables ∙ c.loop-step.invariant.8

pub returns-in_err-step-clause-tables : goal.returns-in_err-step-clause-tables
returns-in_err-step-clause-tables c = c.in_err-step.ensures.tables ∙ c.loop-step.invariant.8

pub returns-in_err-step-clause-refused : goal.returns-in_err-step-clause-refused
returns-in_err-step-clause-refused c =
    let self = c.args.self.now in
    let s = c.loop-step.invariant in
    let p = err_from_is_err_and c.from_residual.result c.from_residual.ensures.1 in
    rw (p.1, p.2) (elim c.in_err-step.ensures.refused [
      | inl memory ↦ inl memory
      | inr x ↦ inr (
        x.0,
        x.1,
        record {
          passed = s.0;
          rest = c.loop-step.rest.now;
          begins = s.3.begins;
          are_open = s.4;
          are_passed = s.7;
          refused =
              refused_at self.lists self.encoding (bodies self) self.addresses.now c.loop-step.base.old c.loop-step.base.new _ c.loop-step.rest.now x.0 s.3.old_after s.3.bases x.2;
        },
      )
    ])

pub loop-step-preserved : goal.loop-step-preserved
loop-step-preserved c =
    let self = c.args.self.now in
    let s = c.loop-step.invariant in
    let m = c.in_ok-step.ensures.moved in (
      s.0 ++ m.0 ∷ [],
      s.1 ++ m.1 ∷ [],
      s.2 ++ m.3.0,
      one_more self.lists self.encoding (bodies self) (addresses self) c.args.base c.args.bytes.now c.args.out.now.items s.0 s.1 s.2 c.loop-step.rest.now c.loop-step.out.items
          c.loop-step.base.old c.loop-step.base.new s.3 m.0 m.1 m.3.0 c.in_ok-step.step.rest.now _ c.in_ok-step.step.base.old c.in_ok-step.step.base.new m.2 m.3.1 m.3.2 m.4 m.5
          (c.in_ok-step.ensures.base s.3.bases),
      open_more s.0 m.0 s.4 (sym m.6 ∙ c.if-step.false),
      open_more s.1 m.1 s.5 (ap new_list_is_end m.4.kind ∙ (sym m.6 ∙ c.if-step.false)),
      tells_more (bodies self) self.addresses.now c.args.base (told c.args.uses.now) (told c.loop-step.uses) (told c.append_entry.new.uses) s.0 m.0 c.loop-step.base.old s.3.old_after s.6 m.7,
      passed_more self.encoding (bodies self) self.addresses.now c.args.base s.0 m.0 s.7
          (passed_at self.encoding (bodies self) self.addresses.now c.loop-step.base.old c.loop-step.base.new _ m.0 s.3.old_after s.3.bases m.8),
      c.in_ok-step.ensures.tables ∙ s.8,
    )
