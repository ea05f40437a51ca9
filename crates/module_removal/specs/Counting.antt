-- How many items a module has in each index space: those that it imports, and those that its sections define (WebAssembly core specification
-- 3.0, binary format, modules).
use Rattle.std.specs.Prelude.{◌≡◌, ℕ, List, Option, Some, None, Ok}
use Rattle.wasm_operators.specs.declared.types.Space.{Space}
use Rattle.wasm_sections.specs.declared.sections.SectionKind.TheVariants as kind
use Rattle.wasm_sections.specs.Parts.{number}
use Rattle.wasm_sections.specs.TypeParts.{type_count}
use Rattle.module_removal.specs.declared.item.ItemCounts.{ItemCounts}
use Rattle.module_removal.specs.ItemNumbers.{with_more_items, no_items_counted}
use Rattle.module_removal.specs.LeftSpaces.{own_index}
use Rattle.module_removal.specs.CopiedParts.{Copied}
use Rattle.module_removal.specs.CopiedItems.{copied_import}
use Rattle.module_removal.specs.ModuleSteps.{PartStep, ThroughVector, ContentsStep, ThroughSections}
use Rattle.module_removal.specs.Written.{section_space}

-- an import is one more item of its space
abbrev pub CountsImport : PartStep ItemCounts
CountsImport end old new =
    (space : Space) × (copied : Copied) × (copied_import own_index end old.1 ≡ Ok ((space, copied), new.1)) × (new.0 ≡ with_more_items space 1 old.0)

-- the items of this space that a section defines: their number comes first
abbrev pub CountsDefined : Option Space → (end : ℕ) → (text : List ℕ) → (old new : ItemCounts) → Type 0
CountsDefined (Some space) end text old new =
    (count : ℕ) × (following : List ℕ) × (number end text ≡ Ok (count, following)) × (new ≡ with_more_items space count old)
CountsDefined None end text old new = new ≡ old

-- the types of all recursive groups
abbrev pub CountsTypesOf : (end : ℕ) → (text : List ℕ) → (old new : ItemCounts) → Type 0
CountsTypesOf end text old new = (count : ℕ) × (type_count end text ≡ Ok count) × (new ≡ record old { types = count })

-- the items of a section of this kind
abbrev pub CountsContents : ContentsStep ItemCounts
CountsContents kind.Type end text old new = CountsTypesOf end text old new
CountsContents kind.Import end text old new = ThroughVector CountsImport end text old new
CountsContents k end text old new = CountsDefined (section_space k) end text old new

-- These are the counts of a module with these bytes.
abbrev pub AreCountsOf : (bytes : List ℕ) → ItemCounts → Type 0
AreCountsOf bytes counts = ThroughSections CountsContents bytes no_items_counted counts
