-- Parts of a section that are replaced. Everything else is copied.
use Rattle.std.specs.Prelude.{◌≡◌, ℕ, ◌+◌, ◌-◌, ◌<◌, ◌≤◌, ◌⊎◌, List, [], ◌∷◌, ◌++◌, length, drop, slice_get, slice_range, nat_le, ◌==◌, Bool, false, not, if◌then◌else◌, ⊤}
use Rattle.std.specs.List.{AllByRecursion, list_any}

-- a part of a section: its place, how many bytes it has, and the bytes that replace it
pub record SectionChange : Type 0 where
  pub at : ℕ
  pub old : ℕ
  pub new : List ℕ

-- in order, from this place on
abbrev pub AreChangesInOrder : (from : ℕ) → List SectionChange → Type 0
AreChangesInOrder from [] = ⊤
AreChangesInOrder from (c ∷ cs) = (from ≤ c.at) × AreChangesInOrder (c.at + c.old) cs

-- the end of the last part, or this place if there is none
abbrev pub end_from : (from : ℕ) → List SectionChange → ℕ
end_from from [] = from
end_from from (c ∷ cs) = end_from (c.at + c.old) cs

-- what becomes of the section from this place on
abbrev pub patched_from : (from : ℕ) → List SectionChange → (section : List ℕ) → List ℕ
patched_from from [] section = drop from section
patched_from from (c ∷ cs) section = slice_range section from c.at ++ (c.new ++ patched_from (c.at + c.old) cs section)

abbrev pub patched : List SectionChange → (section : List ℕ) → List ℕ
patched = patched_from 0

-- Where an offset into the section goes: how many bytes are in front of it then. Parts that end at it are in front of it.
abbrev pub moved_offset_from : (from : ℕ) → List SectionChange → (offset : ℕ) → ℕ
moved_offset_from from [] o = o - from
moved_offset_from from (c ∷ cs) o =
    if nat_le (c.at + c.old) o then (c.at - from) + (length c.new + moved_offset_from (c.at + c.old) cs o) else o - from

abbrev pub moved_offset : List SectionChange → (offset : ℕ) → ℕ
moved_offset = moved_offset_from 0

-- the parts that aren't in front of an offset
abbrev pub changes_after : List SectionChange → (offset : ℕ) → List SectionChange
changes_after [] o = []
changes_after (c ∷ cs) o = if nat_le (c.at + c.old) o then changes_after cs o else c ∷ cs

-- Whether a part is replaced by more or by fewer bytes than it has.
abbrev pub is_resized : SectionChange → Bool
is_resized c = not (length c.new == c.old)

abbrev pub are_resized : List SectionChange → Bool
are_resized cs = list_any is_resized cs

-- ---- laws

-- What follows an offset that isn't inside a part that is replaced, follows where the offset goes.
abbrev pub FollowsMoved : Type 0
FollowsMoved = (cs : List SectionChange) (section : List ℕ) (o : ℕ) → AreChangesInOrder 0 cs → o ≤ length section
    → AllByRecursion (λ c. (c.at + c.old ≤ o) ⊎ (o ≤ c.at)) cs
    → drop (moved_offset cs o) (patched cs section) ≡ patched_from o (changes_after cs o) section

-- A byte that isn't replaced is where its offset goes.
abbrev pub KeepsOthers : Type 0
KeepsOthers = (cs : List SectionChange) (section : List ℕ) (o : ℕ) → AreChangesInOrder 0 cs → o < length section
    → AllByRecursion (λ c. (c.at + c.old ≤ o) ⊎ (o < c.at)) cs
    → slice_get (patched cs section) (moved_offset cs o) ≡ slice_get section o

-- Where no part is resized, each offset stays.
abbrev pub KeepsOffsets : Type 0
KeepsOffsets = (cs : List SectionChange) (o : ℕ) → AreChangesInOrder 0 cs → are_resized cs ≡ false → moved_offset cs o ≡ o
