use Rattle.std.proofs.Common.{◌≡◌, ℕ, ◌+◌, ◌-◌, ◌<◌, List, [], ◌∷◌, ◌++◌, length, inl, inr, refl, sym, ap, ◌∙◌, subst, rules, arith, length-append}
use Rattle.dwarf_bytes.specs.declared.patches.Patch.{Patch}
use Rattle.dwarf_bytes.specs.Changes.{SectionChange, end_from}
use Rattle.dwarf_bytes.specs.Order.{IsPatchFrom, ArePatches, no_patch}
use Rattle.dwarf_bytes.specs.Patches.{changes, changes_from}
use Rattle.std.proofs.lemmas.Grind.{common_steps}
use Rattle.dwarf_bytes.proofs.PatchLemmas.{end_is, follow_more, changes_more}
use Rattle.dwarf_bytes.proofs.patches.Patches.push.Goals as goal

pub returns-then-at-last-clause-refused : goal.returns-then-at-last-clause-refused
returns-then-at-last-clause-refused c =
    let s = c.args.self.now in
    let e = end_is no_patch s.patches.items s.bytes.items (length s.bytes.items) s.are_patches in
    let is : c.last-last.result.stop ≡ end_from 0 (changes s) = ap (λ (p : Patch). p.stop) c.last-last.ensures.last ∙ sym e in
    let low : c.args.at < end_from 0 (changes s) = omega (arith, is, c.if-at-last.true) in
    inr (inl (refl, low))

-- there is room for one patch more, so it is pushed
module _ (c : goal.After-push) where
  abbrev added : Patch
  added = record { at = c.args.at; stop = c.in-Some.stop; end = c.len-end.result; replaced = c.last-last.result.replaced + c.args.old }

  pub pushed : c.push.new.self.items ≡ c.args.self.now.patches.items ++ added ∷ []
  pushed = let ok = c.push.ensures.succeeds (search rules) in grind (arith, common_steps)

  pub bytes_are : c.extend_from_slice.new.self.items ≡ c.args.self.now.bytes.items ++ c.args.new.now
  bytes_are = search rules

  pub ends : c.len-end.result ≡ length c.extend_from_slice.new.self.items
  ends = search rules

  pub from_last : IsPatchFrom c.last-last.result.stop c.last-last.result.end c.last-last.result.replaced added
  from_last =
      let stop = c.in-Some.ensures in
      let len = length-append c.args.self.now.bytes.items c.args.new.now in
      let bytes = ap length bytes_are in
      let ended = c.last-last.ensures.ended in
      ((c.if-at-last.false, omega arith), (omega (arith, ends), omega arith))

  pub follow : ArePatches 0 0 0 c.push.new.self.items (length c.extend_from_slice.new.self.items)
  follow =
      let s = c.args.self.now in
      let is = subst (λ (p : Patch). IsPatchFrom p.stop p.end p.replaced added) c.last-last.ensures.last from_last in
      subst (λ (l : List Patch). ArePatches 0 0 0 l (length c.extend_from_slice.new.self.items)) (sym pushed)
      (follow_more no_patch s.patches.items added (length s.bytes.items) (length c.extend_from_slice.new.self.items) s.are_patches is ends)

pub invariant_of-self-2 : goal.invariant_of-self-2
invariant_of-self-2 c = record { are_patches = follow c }

pub returns-clause-pushed : goal.returns-clause-pushed
returns-clause-pushed c =
    let s = c.args.self.now in
    let ps = s.patches.items in
    let new = c.args.new.now in
    let added : Patch = record { at = c.args.at; stop = c.in-Some.stop; end = c.len-end.result; replaced = c.last-last.result.replaced + c.args.old } in
    let patches : c.push.new.self.items ≡ ps ++ added ∷ [] = search rules in
    let bytes : c.extend_from_slice.new.self.items ≡ s.bytes.items ++ new = search rules in
    let ends : c.len-end.result ≡ length c.extend_from_slice.new.self.items = search rules in
    let old : c.in-Some.stop - c.args.at ≡ c.args.old = omega (arith, c.in-Some.ensures) in
    ap (λ (l : List Patch). changes_from 0 l c.extend_from_slice.new.self.items) patches
    ∙ (ap (λ (l : List ℕ). changes_from 0 (ps ++ added ∷ []) l) bytes
    ∙ (changes_more no_patch ps added s.bytes.items new s.are_patches (ends ∙ ap length bytes)
    ∙ ap (λ (n : ℕ). changes s ++ (let one : SectionChange = record { at = c.args.at; old = n; new = new } in one) ∷ []) old))

pub returns-clause-after : goal.returns-clause-after
returns-clause-after c =
    let s = c.args.self.now in
    let e = end_is no_patch s.patches.items s.bytes.items (length s.bytes.items) s.are_patches in
    let is : c.last-last.result.stop ≡ end_from 0 (changes s) = ap (λ (p : Patch). p.stop) c.last-last.ensures.last ∙ sym e in
    omega (arith, is, c.if-at-last.false)
