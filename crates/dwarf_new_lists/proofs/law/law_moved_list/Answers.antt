use Rattle.std.proofs.Common.{◌≡◌, ℕ, ◌+◌, ◌-◌, ◌<◌, ◌≤◌, List, [], ◌∷◌, ◌++◌, length, drop, sym, ap, ◌∙◌, subst, append_assoc, arith}
use Rattle.dwarf_bytes.specs.Changes.{SectionChange, AreChangesInOrder, patched, patched_from, moved_offset}
use Rattle.dwarf_new_lists.specs.NewLists.{IsList}
use Rattle.dwarf_new_lists.proofs.Found.{new_part}
use Rattle.dwarf_new_lists.proofs.law.law_moved_list.Goals as goal

pub returns : goal.returns
returns c = λ lists e bs t base section offset end before after back uses new_uses m order.
    let one : SectionChange = record { at = offset; old = end - offset; new = m.text } in
    let all : after ++ back ≡ before ++ one ∷ back = ap (λ (cs : List SectionChange). cs ++ back) m.changed ∙ append_assoc before (one ∷ []) back in
    let some : 0 < end - offset = omega (arith, m.some) in
    let within : offset ≤ length section = omega (arith, m.some, m.within) in
    let here = new_part before one back section some within (subst (AreChangesInOrder 0) all order) in
    let rest = patched_from (offset + (end - offset)) back section in
    let is : drop (moved_offset (after ++ back) offset) (patched (after ++ back) section) ≡ m.text ++ rest = ap (λ (cs : List SectionChange). drop (moved_offset cs offset) (patched cs section)) all ∙ here in
    (rest, subst (λ (l : List ℕ). IsList lists e.address_size l m.news rest) (sym is) (m.is_text rest))
