-- Steps over the parts of a module, in order: over a vector, a recursive group, the bodies and the sections (WebAssembly core
-- specification 3.0, binary format, conventions, types and modules). A step leads from a state, and the bytes that are left, to the next.
use Rattle.std.specs.Prelude.{◌≡◌, ◌+◌, ◌-◌, ℕ, List, [], ◌++◌, length, Ok}
use Rattle.wasm_sections.specs.declared.sections.SectionKind.{SectionKind}
use Rattle.wasm_sections.specs.Format.{members_part}
use Rattle.wasm_sections.specs.Parts.{number, bytes_part}
use Rattle.wasm_sections.specs.Sections.{preamble, section_id, next_section}
use Rattle.module_removal.specs.SeveralSteps.{SoManySteps}

abbrev pub PartStep : Type 0 → Type 1
PartStep S = (end : ℕ) → (old new : S × List ℕ) → Type 0

-- a vector: how many, and each one
abbrev pub ThroughVector : {S : Type 0} → PartStep S → (end : ℕ) → (text : List ℕ) → (old new : S) → Type 0
ThroughVector Step end text old new =
    (count : ℕ) × (rest : List ℕ) × (following : List ℕ) × (number end text ≡ Ok (count, rest))
    × SoManySteps (Step end) count (old, rest) (new, following)

-- a recursive group: the number of its types, and each one; a type alone is a group of one
abbrev pub ThroughGroup : {S : Type 0} → PartStep S → PartStep S
ThroughGroup Step end old new =
    (members : ℕ) × (rest : List ℕ) × (members_part end old.1 ≡ Ok (members, rest)) × SoManySteps (Step end) members (old.0, rest) new

-- ---- bodies: from the index of a function to the next one

abbrev pub BodyStep : Type 0 → Type 1
BodyStep S = (func end : ℕ) → (body : List ℕ) → (old new : S) → Type 0

-- a body, after its size
abbrev pub OverBody : {S : Type 0} → BodyStep S → (end : ℕ) → (old new : S × (ℕ × List ℕ)) → Type 0
OverBody Body end old new =
    (body : List ℕ) × (bytes_part end old.1.1 ≡ Ok (body, new.1.1)) × (new.1.0 ≡ old.1.0 + 1)
    × Body old.1.0 (end - length new.1.1) body old.0 new.0

-- the bodies of a code section, of which the first is that of this function
abbrev pub ThroughBodies : {S : Type 0} → BodyStep S → (first end : ℕ) → (text : List ℕ) → (old new : S) → Type 0
ThroughBodies Body first end text old new =
    (count : ℕ) × (rest : List ℕ) × (following : List ℕ) × (number end text ≡ Ok (count, rest))
    × SoManySteps (OverBody Body end) count (old, (first, rest)) (new, (first + count, following))

-- ---- sections: from the rank of the last one that isn't custom to the next

abbrev pub ContentsStep : Type 0 → Type 1
ContentsStep S = SectionKind → (end : ℕ) → (contents : List ℕ) → (old new : S) → Type 0

abbrev pub OverSection : {S : Type 0} → ContentsStep S → (end : ℕ) → (old new : S × (ℕ × List ℕ)) → Type 0
OverSection Contents end old new =
    (k : SectionKind) × (contents : List ℕ)
    × (next_section old.1.0 end old.1.1 ≡ Ok (((section_id k, contents), new.1.0), new.1.1))
    × Contents k (end - length new.1.1) contents old.0 new.0

-- all sections of a module with these bytes
abbrev pub ThroughSections : {S : Type 0} → ContentsStep S → (bytes : List ℕ) → (old new : S) → Type 0
ThroughSections Contents bytes old new =
    (text : List ℕ) × (count : ℕ) × (rank : ℕ) × (bytes ≡ preamble ++ text)
    × SoManySteps (OverSection Contents (length bytes)) count (old, (0, text)) (new, (rank, []))
