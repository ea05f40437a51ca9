use Rattle.std.proofs.Common.{arith, ◌≡◌, ◌-◌, length, inl, inr, refl, ap, subst, ◌∙◌, ℕ}
use Rattle.std.proofs.lemmas.Result.{err_from_is_err_and}
use Rattle.dwarf_bytes.specs.Merging.{merging, MergeSteps, AreMerged, IsFaultOfMerging}
use Rattle.dwarf_bytes.proofs.MergingLemmas.{MergesLeft, merges_all}
use Rattle.dwarf.specs.ListTables.{list_offset_steps, list_offsets_steps}
use Rattle.dwarf.specs.ListTablesViews.{offsets_of}
use Rattle.dwarf.proofs.ListTableLemmas.{offsets_followed, offset_unread, offset_not_followed, offset_is_followed}
use Rattle.dwarf.proofs.list_tables.Offsets.follow_offsets.Goals as goal

pub loop-number-init : goal.loop-number-init
loop-number-init c =
    let t = offsets_of c.args.self.now c.args.input.now.end in
    let old = merging c.args.out.now in
    let all = list_offsets_steps t c.args.count c.args.input.now.rest.now in
    let same : c.args.count ≡ c.args.count - 0 = omega arith in
    record {
      left = subst (λ (n : ℕ). MergesLeft all old (list_offsets_steps t n c.args.input.now.rest.now) old) same (merges_all all old);
      same_end = refl;
    }

pub returns-in_err-at-clause-refused : goal.returns-in_err-at-clause-refused
returns-in_err-at-clause-refused c =
    let t = offsets_of c.args.self.now c.args.input.now.end in
    let all = list_offsets_steps t c.args.count c.args.input.now.rest.now in
    let p = err_from_is_err_and c.from_residual.result c.from_residual.ensures.1 in
    rw (p.1, p.2) (inr (
      _,
      refl,
      offset_unread t all (merging c.args.out.now) (merging c.loop-number.out) c.args.count c.loop-number.number c.loop-number.input.rest.now c.loop-number.invariant.left c.loop-number-test.true
          c.in_err-at.field-0.0 c.in_err-at.ensures.gives,
    ))

pub returns-in_err-follow_offset-clause-refused : goal.returns-in_err-follow_offset-clause-refused
returns-in_err-follow_offset-clause-refused c =
    let t = offsets_of c.args.self.now c.args.input.now.end in
    let all = list_offsets_steps t c.args.count c.args.input.now.rest.now in
    let rest = c.loop-number.input.rest.now in
    let now = merging c.loop-number.out in
    let offset = c.in_ok-at.offset in
    let at_is = c.in_ok-at.ensures.place ∙ ap (λ (n : ℕ). n - length rest) c.loop-number.invariant.same_end in
    let steps = ap (λ (n : ℕ). list_offset_steps (offsets_of c.args.self.now n) c.in_ok-at.at offset) c.end-end.ensures ∙ ap (λ (n : ℕ). list_offset_steps t n offset) at_is in
    let p = err_from_is_err_and c.from_residual-in_err-follow_offset.result c.from_residual-in_err-follow_offset.ensures.1 in
    rw (p.1, p.2) (elim c.in_err-follow_offset.ensures.refused [
      | inl memory ↦ inl memory
      | inr x ↦ inr (
        x.0,
        x.1,
        offset_not_followed t all (merging c.args.out.now) now c.args.count c.loop-number.number rest c.loop-number.invariant.left c.loop-number-test.true offset c.read_placed.new.input.rest.now
            c.in_ok-at.ensures.gives x.0 (subst (λ (ss : MergeSteps). IsFaultOfMerging ss now x.0) steps x.2),
      )
    ])

pub loop-number-preserved : goal.loop-number-preserved
loop-number-preserved c =
    let t = offsets_of c.args.self.now c.args.input.now.end in
    let all = list_offsets_steps t c.args.count c.args.input.now.rest.now in
    let rest = c.loop-number.input.rest.now in
    let now = merging c.loop-number.out in
    let new = merging c.follow_offset.new.out in
    let offset = c.in_ok-at.offset in
    let at_is = c.in_ok-at.ensures.place ∙ ap (λ (n : ℕ). n - length rest) c.loop-number.invariant.same_end in
    let steps = ap (λ (n : ℕ). list_offset_steps (offsets_of c.args.self.now n) c.in_ok-at.at offset) c.end-end.ensures ∙ ap (λ (n : ℕ). list_offset_steps t n offset) at_is in
    record {
      left = offset_is_followed t all (merging c.args.out.now) now c.args.count c.loop-number.number rest c.loop-number.invariant.left c.loop-number-test.true offset c.read_placed.new.input.rest.now
          c.in_ok-at.ensures.gives new (subst (λ (ss : MergeSteps). AreMerged ss now new) steps c.in_ok-follow_offset.ensures.merged);
      same_end = c.in_ok-at.ensures.end ∙ c.loop-number.invariant.same_end;
    }

pub returns-clause-merged : goal.returns-clause-merged
returns-clause-merged c =
    let t = offsets_of c.args.self.now c.args.input.now.end in
    let all = list_offsets_steps t c.args.count c.args.input.now.rest.now in
    offsets_followed t all (merging c.args.out.now) (merging c.loop-number.out) c.args.count c.loop-number.number c.loop-number.input.rest.now c.loop-number.invariant.left c.loop-number-test.false
