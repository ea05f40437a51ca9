use Rattle.std.proofs.Common.{ℕ, length, inl, inr, ap, subst}
use Rattle.std.proofs.lemmas.Result.{err_from_is_err_and}
use Rattle.dwarf_bytes.specs.Merging.{MergeSteps, merging, AreMerged, IsFaultOfMerging}
use Rattle.dwarf_info.specs.Following.{FollowSetting, length_steps, type_steps, follow_entries, follow_unit}
use Rattle.dwarf_info.specs.FollowViews.{follow_setting}
use Rattle.dwarf_info.proofs.FollowLemmas.{length_not_followed, type_not_followed, unit_left}
use Rattle.dwarf_info.proofs.Taking.{on_ok, other_fault}
use Rattle.dwarf_info.proofs.following.Following.follow_unit.Goals as goal

abbrev ls : FollowSetting → MergeSteps
ls s = length_steps s.own s.unit.encoding.format s.unit.start s.unit.end

abbrev ts : FollowSetting → MergeSteps
ts s = type_steps s s.unit.type_offset

abbrev es : FollowSetting → MergeSteps
es s = follow_entries s (length s.unit.entries) s.unit.entries

pub returns-in_err-follow_length-clause-refused : goal.returns-in_err-follow_length-clause-refused
returns-in_err-follow_length-clause-refused c =
    let s = follow_setting c.args.self.now in
    let old = merging c.args.out.now in
    let same = ap (λ (n : ℕ). length_steps s.own s.unit.encoding.format s.unit.start n) c.end.ensures in
    let p = err_from_is_err_and c.from_residual.result c.from_residual.ensures.1 in
    rw (p.1, p.2) (elim c.in_err-follow_length.ensures.refused [
      | inl memory ↦ inl memory
      | inr x ↦ inr (x.0, x.1, length_not_followed (ls s) (ts s) (es s) old x.0 (subst (λ (steps : MergeSteps). IsFaultOfMerging steps old x.0) same x.2))
    ])

pub returns-in_err-follow_type-clause-refused : goal.returns-in_err-follow_type-clause-refused
returns-in_err-follow_type-clause-refused c =
    let s = follow_setting c.args.self.now in
    let old = merging c.args.out.now in
    let mid = merging c.follow_length.new.out in
    let same = ap (λ (n : ℕ). length_steps s.own s.unit.encoding.format s.unit.start n) c.end.ensures in
    let first = subst (λ (steps : MergeSteps). AreMerged steps old mid) same c.in_ok-follow_length.ensures.merged in
    let p = err_from_is_err_and c.from_residual-in_err-follow_type.result c.from_residual-in_err-follow_type.ensures.1 in
    rw (p.1, p.2) (elim c.in_err-follow_type.ensures.refused [
      | inl memory ↦ inl memory
      | inr x ↦ inr (x.0, x.1, type_not_followed (ls s) (ts s) (es s) old mid first x.0 x.2)
    ])

pub returns-clause-merged : goal.returns-clause-merged
returns-clause-merged c =
    let s = follow_setting c.args.self.now in
    let old = merging c.args.out.now in
    let mid = merging c.follow_length.new.out in
    let last = merging c.follow_type.new.out in
    let new = merging c.follow_entries.new.out in
    let same = ap (λ (n : ℕ). length_steps s.own s.unit.encoding.format s.unit.start n) c.end.ensures in
    let first = subst (λ (steps : MergeSteps). AreMerged steps old mid) same c.in_ok-follow_length.ensures.merged in
    let left = unit_left (ls s) (ts s) (es s) old mid first last c.in_ok-follow_type.ensures.merged in
    on_ok c.follow_entries.result (AreMerged (es s) last new) (AreMerged (follow_unit s) old new) (left.merged new) c.follow_entries.ensures.merged

pub returns-clause-refused : goal.returns-clause-refused
returns-clause-refused c =
    let s = follow_setting c.args.self.now in
    let old = merging c.args.out.now in
    let mid = merging c.follow_length.new.out in
    let last = merging c.follow_type.new.out in
    let same = ap (λ (n : ℕ). length_steps s.own s.unit.encoding.format s.unit.start n) c.end.ensures in
    let first = subst (λ (steps : MergeSteps). AreMerged steps old mid) same c.in_ok-follow_length.ensures.merged in
    let left = unit_left (ls s) (ts s) (es s) old mid first last c.in_ok-follow_type.ensures.merged in
    other_fault c.follow_entries.result (IsFaultOfMerging (es s) last) (IsFaultOfMerging (follow_unit s) old) left.refused c.follow_entries.ensures.refused
