-- What is true of the patches of a section.
use Rattle.std.specs.Prelude.{◌≡◌, ℕ, ◌+◌, ◌-◌, ◌<◌, ◌≤◌, List, [], ◌∷◌, length, slice_index_or}
use Rattle.std.specs.Coded.{×_prop, le_prop}
use Rattle.std.proofs.Math.Nat.{ℕ_set}
use Rattle.dwarf_bytes.specs.declared.patches.Patch.{Patch}

-- The patch begins at this place of the section or after it, and what it adds begins at this place of the bytes; so many bytes are
-- replaced before it.
abbrev pub IsPatchFrom : (from start replaced : ℕ) → Patch → Type 0
IsPatchFrom from start replaced p = ((from ≤ p.at) × (p.at ≤ p.stop)) × ((start ≤ p.end) × (p.replaced ≡ replaced + (p.stop - p.at)))

-- Patches from these places on. All that the bytes have is added by a patch.
abbrev pub ArePatches : (from start replaced : ℕ) → List Patch → (len : ℕ) → Type 0
ArePatches from start replaced [] len = start ≡ len
ArePatches from start replaced (p ∷ ps) len = IsPatchFrom from start replaced p × ArePatches p.stop p.end p.replaced ps len

pub ArePatches-prop : (from start replaced : ℕ) (ps : List Patch) (len : ℕ) → IsProp (ArePatches from start replaced ps len)
ArePatches-prop from start replaced [] len = ℕ_set start len
ArePatches-prop from start replaced (p ∷ ps) len =
    ×_prop (×_prop (×_prop le_prop le_prop) (×_prop le_prop (ℕ_set _ _))) (ArePatches-prop p.stop p.end p.replaced ps len)

-- nothing is in front of the first patch
abbrev pub no_patch : Patch
no_patch = record { at = 0; stop = 0; end = 0; replaced = 0 }

-- the last patch, or this one if there is none after it
abbrev pub last_of : Patch → List Patch → Patch
last_of p [] = p
last_of p (q ∷ ps) = last_of q ps

-- the first patches, of this number, end at this offset or before it, and no others do
pub record IsCut (ps : List Patch) (offset count : ℕ) : Type 0 where
  pub before : (i : ℕ) (d : Patch) → i < count → (slice_index_or ps i d).stop ≤ offset
  pub after : (i : ℕ) (d : Patch) → count ≤ i → i < length ps → offset < (slice_index_or ps i d).stop
  pub within : count ≤ length ps
