-- Custom sections that are left out of a module that is written, by their names (WebAssembly core specification 3.0, custom
-- sections; WebAssembly tool conventions: debugging, and linking).
use Rattle.std.specs.Prelude.{◌≡◌, ◌++◌, ℕ, Bool, false, ◌||◌, ◌&&◌, not, List, [], ◌∷◌, codes, bytes_eq, eqb}
use Rattle.std.specs.Borrow.{Bor}
use Rattle.std.specs.List.{starts_with}
use Rattle.wasm_sections.specs.declared.omissions.OmittedSections.{OmittedSections}

-- ---- what names say

-- The section contains the place of a source map.
abbrev pub names_source_map : (name : List ℕ) → Bool
names_source_map name = bytes_eq name (codes "sourceMappingURL")

-- The section contains debug information, or the place of it.
abbrev pub names_debug : (name : List ℕ) → Bool
names_debug name = names_source_map name || (bytes_eq name (codes "external_debug_info") || starts_with eqb name (codes ".debug_"))

-- The section contains symbols or relocations: only an object file, which isn't linked yet, has it.
abbrev pub names_object : (name : List ℕ) → Bool
names_object name = bytes_eq name (codes "linking") || starts_with eqb name (codes "reloc.")

-- whether a name is one of these
abbrev pub has_name : (names : List (List ℕ)) → (name : List ℕ) → Bool
has_name [] name = false
has_name (n ∷ ns) name = bytes_eq n name || has_name ns name

-- ---- what is left out

-- the texts of these
abbrev pub texts_of : List (Bor (List ℕ)) → List (List ℕ)
texts_of [] = []
texts_of (n ∷ ns) = n.now ∷ texts_of ns

-- Whether sections with this name are chosen: all are, or those with this name, or those with debug information or with the place
-- of a source map, if its name says that it contains this.
abbrev pub is_chosen : OmittedSections → (name : List ℕ) → Bool
is_chosen o name =
    o.is_all || (has_name (texts_of o.named.items) name
    || ((o.is_debug && names_debug name) || (o.is_source_map_url && names_source_map name)))

-- Whether a section with this name is left out: it is chosen, and not kept by its name.
abbrev pub omits_name : OmittedSections → (name : List ℕ) → Bool
omits_name o name = not (has_name (texts_of o.kept.items) name) && is_chosen o name

-- No section is left out.
abbrev pub OmitsNothing : OmittedSections → Type 0
OmitsNothing o = (name : List ℕ) → omits_name o name ≡ false

-- The sections with this name are left out too.
pub record OmitsAlso (old new : OmittedSections) (name : List ℕ) : Type 0 where
  pub names : texts_of new.named.items ≡ texts_of old.named.items ++ name ∷ []
  pub rest : new ≡ record old { named = new.named }

-- The sections with this name are kept.
pub record KeepsAlso (old new : OmittedSections) (name : List ℕ) : Type 0 where
  pub names : texts_of new.kept.items ≡ texts_of old.kept.items ++ name ∷ []
  pub rest : new ≡ record old { kept = new.kept }

-- The same sections are left out.
abbrev pub OmitsSame : (old new : OmittedSections) → Type 0
OmitsSame old new = (name : List ℕ) → omits_name new name ≡ omits_name old name
