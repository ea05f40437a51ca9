-- Where a list is in what is written.
use Rattle.std.proofs.Common.{◌≡◌, ℕ, ◌+◌, ◌-◌, ◌<◌, ◌≤◌, ◌⊎◌, inl, inr, List, [], ◌∷◌, ◌++◌, length, take, drop, refl, ap, ◌∙◌, arith}
use Rattle.std.specs.List.{AllByRecursion}
use Rattle.std.proofs.lemmas.Bool.{le-leb, lt-leb}
use Rattle.dwarf_bytes.specs.declared.size.Size.{Size}
use Rattle.dwarf_bytes.specs.Changes.{SectionChange, AreChangesInOrder, patched_from, moved_offset_from, changes_after as after}
use Rattle.dwarf_bytes.proofs.ChangeLaws.{follows}
use Rattle.dwarf_new_lists.specs.declared.kind.Lists.{Lists}
use Rattle.dwarf_new_lists.specs.Entries.{AnEntry}
use Rattle.dwarf_new_lists.specs.NewLists.{IsList}
use Rattle.dwarf_new_lists.proofs.Entries.{entry_shorter}
use Rattle.dwarf_new_lists.proofs.Ends.{front_of, no_longer}

abbrev IsOutside : ℕ → SectionChange → Type 0
IsOutside o c = (c.at + c.old ≤ o) ⊎ (o ≤ c.at)

reached : (from : ℕ) (front : List SectionChange) (c : SectionChange) (back : List SectionChange) → AreChangesInOrder from (front ++ c ∷ back) → from ≤ c.at
reached from [] c back order = order.0
reached from (d ∷ front) c back order = let later = reached (d.at + d.old) front c back order.1 in omega (arith, order.0)

all_after : (from o : ℕ) (back : List SectionChange) → o ≤ from → AreChangesInOrder from back → AllByRecursion (IsOutside o) back
all_after from o [] low order = tt
all_after from o (d ∷ back) low order = (inr (omega (arith, order.0)), all_after (d.at + d.old) o back (omega (arith, order.0)) order.1)

all_outside : (from : ℕ) (front : List SectionChange) (c : SectionChange) (back : List SectionChange) → AreChangesInOrder from (front ++ c ∷ back) → AllByRecursion (IsOutside c.at) (front ++ c ∷ back)
all_outside from [] c back order = (inr (omega arith), all_after (c.at + c.old) c.at back (omega arith) order.1)
all_outside from (d ∷ front) c back order = (inl (reached (d.at + d.old) front c back order.1), all_outside (d.at + d.old) front c back order.1)

after_front : (from : ℕ) (front : List SectionChange) (c : SectionChange) (back : List SectionChange) → 0 < c.old → AreChangesInOrder from (front ++ c ∷ back) → after (front ++ c ∷ back) c.at ≡ c ∷ back
after_front from [] c back some order = rw (lt-leb (c.at + c.old) c.at (omega arith)) refl
after_front from (d ∷ front) c back some order =
    rw (le-leb (d.at + d.old) c.at (reached (d.at + d.old) front c back order.1)) (after_front (d.at + d.old) front c back some order.1)

-- what replaces a part is where the offset of the part goes
pub new_part : (front : List SectionChange) (c : SectionChange) (back : List SectionChange) (section : List ℕ) → 0 < c.old → c.at ≤ length section → AreChangesInOrder 0 (front ++ c ∷ back)
    → drop (moved_offset_from 0 (front ++ c ∷ back) c.at) (patched_from 0 (front ++ c ∷ back) section) ≡ c.new ++ patched_from (c.at + c.old) back section
new_part front c back section some within order =
    let here = follows 0 (front ++ c ∷ back) section c.at order (omega arith) within (all_outside 0 front c back order) in
    let none : c.at - c.at ≡ 0 = omega arith in
    here
    ∙ (ap (λ (cs : List SectionChange). patched_from c.at cs section) (after_front 0 front c back some order)
    ∙ ap (λ (n : ℕ). take n (drop c.at section) ++ (c.new ++ patched_from (c.at + c.old) back section)) none)

-- a list has a byte
pub list_shorter : (lists : Lists) (size : Size) (bytes : List ℕ) (es : List AnEntry) (rest : List ℕ) → IsList lists size bytes es rest → length rest < length bytes
list_shorter lists size bytes [] rest h = absurd h.1
list_shorter lists size bytes (e ∷ es) rest h =
    let b = h.0 in
    let less = entry_shorter lists size bytes e b.0 b.1 in
    let f = front_of lists size b.0 es rest b.2 in
    let after = no_longer b.0 f.0 rest f.1 in
    omega (arith, less, after)
