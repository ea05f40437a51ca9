use Rattle.std.proofs.Common.{rules, ◌≡◌, List, [], Some, None, inl, inr, refl, ap, subst, ◌∙◌, map}
use Rattle.std.proofs.lemmas.Result.{err_from_is_err_and}
use Rattle.dwarf_bytes.specs.Merging.{MergeSteps, merging, AreMerged, IsFaultOfMerging}
use Rattle.dwarf_info.specs.declared.values.AttributeValue.{AttributeValue}
use Rattle.dwarf_info.specs.EntryViews.{attribute_spelled, entry_spelled}
use Rattle.dwarf_info.specs.Following.{follow_attributes}
use Rattle.dwarf_info.specs.FollowViews.{follow_setting}
use Rattle.dwarf_info.proofs.FollowLemmas.{no_entries_yet, followed_entries, entry_unread, entry_followed, entry_not_followed}
use Rattle.dwarf_info.proofs.following.Following.follow_entries.Goals as goal

pub entries-init : goal.entries-init
entries-init c = record { so_far = no_entries_yet (follow_setting c.args.self.now) c.args.self.now.unit.entries.rest.now (merging c.args.out.now); same_end = refl }

pub read_entry-requires : goal.read_entry-requires
read_entry-requires c = c.entries.invariant.same_end

pub returns-in_err-read_entry-clause-refused : goal.returns-in_err-read_entry-clause-refused
returns-in_err-read_entry-clause-refused c =
    let s = follow_setting c.args.self.now in
    let all = c.args.self.now.unit.entries.rest.now in
    let some : c.entries.input.rest.now ≡ [] → ⊥ = search rules in
    let p = err_from_is_err_and c.from_residual.result c.from_residual.ensures.1 in
    rw (p.1, p.2) (elim c.in_err-read_entry.ensures.refused [
      | inl memory ↦ inl memory
      | inr x ↦ inr (x.0, x.1, entry_unread s all (merging c.args.out.now) c.entries.input.rest.now (merging c.entries.out) c.entries.invariant.so_far some x.0 x.2)
    ])

pub entries-preserved-in-None : goal.entries-preserved-in-None
entries-preserved-in-None c =
    let s = follow_setting c.args.self.now in
    let all = c.args.self.now.unit.entries.rest.now in
    let some : c.entries.input.rest.now ≡ [] → ⊥ = search rules in
    let read = rw c.in-None.is at c.in_ok-read_entry.ensures.read in
    record {
      so_far = entry_followed s all (merging c.args.out.now) c.entries.input.rest.now (merging c.entries.out) c.entries.invariant.so_far some None c.read_entry.new.input.rest.now read
          (merging c.entries.out) refl c.in_ok-read_entry.ensures.shorter;
      same_end = c.in_ok-read_entry.ensures.end ∙ c.entries.invariant.same_end;
    }

pub returns-in_err-follow_attributes-in-Some-clause-refused : goal.returns-in_err-follow_attributes-in-Some-clause-refused
returns-in_err-follow_attributes-in-Some-clause-refused c =
    let s = follow_setting c.args.self.now in
    let all = c.args.self.now.unit.entries.rest.now in
    let some : c.entries.input.rest.now ≡ [] → ⊥ = search rules in
    let entry = entry_spelled c.read_entry.new.values.items c.in-Some.field-0.now in
    let read = rw c.in-Some.is at c.in_ok-read_entry.ensures.read in
    let same = ap (λ (vs : List AttributeValue). follow_attributes s (map attribute_spelled vs)) c.as_slice.ensures.value in
    let p = err_from_is_err_and c.from_residual-in_err-follow_attributes-in-Some.result c.from_residual-in_err-follow_attributes-in-Some.ensures.1 in
    rw (p.1, p.2) (elim c.in_err-follow_attributes-in-Some.ensures.refused [
      | inl memory ↦ inl memory
      | inr x ↦ inr (
        x.0,
        x.1,
        entry_not_followed s all (merging c.args.out.now) c.entries.input.rest.now (merging c.entries.out) c.entries.invariant.so_far some (Some entry) c.read_entry.new.input.rest.now read x.0
            (subst (λ (steps : MergeSteps). IsFaultOfMerging steps (merging c.entries.out) x.0) same x.2),
      )
    ])

pub entries-preserved : goal.entries-preserved
entries-preserved c =
    let s = follow_setting c.args.self.now in
    let all = c.args.self.now.unit.entries.rest.now in
    let some : c.entries.input.rest.now ≡ [] → ⊥ = search rules in
    let entry = entry_spelled c.read_entry.new.values.items c.in-Some.field-0.now in
    let read = rw c.in-Some.is at c.in_ok-read_entry.ensures.read in
    let same = ap (λ (vs : List AttributeValue). follow_attributes s (map attribute_spelled vs)) c.as_slice.ensures.value in
    let new = merging c.follow_attributes.new.out in
    record {
      so_far = entry_followed s all (merging c.args.out.now) c.entries.input.rest.now (merging c.entries.out) c.entries.invariant.so_far some (Some entry) c.read_entry.new.input.rest.now read new
          (subst (λ (steps : MergeSteps). AreMerged steps (merging c.entries.out) new) same c.in_ok-follow_attributes-in-Some.ensures.merged) c.in_ok-read_entry.ensures.shorter;
      same_end = c.in_ok-read_entry.ensures.end ∙ c.entries.invariant.same_end;
    }

pub returns-clause-merged : goal.returns-clause-merged
returns-clause-merged c =
    let none : c.entries.input.rest.now ≡ [] = search rules in
    followed_entries (follow_setting c.args.self.now) c.args.self.now.unit.entries.rest.now (merging c.args.out.now) c.entries.input.rest.now (merging c.entries.out) c.entries.invariant.so_far none
