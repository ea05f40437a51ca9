-- What calls make of a module.
use Rattle.std.specs.Prelude.{◌≡◌, ◌==◌, ℕ, List, [], ◌++◌, if◌then◌else◌, Bool, true, cond, ◌||◌, ◌&&◌}
use Rattle.std.specs.List.{list_any}
use Rattle.std.specs.HashSet.{HashSet, contains}
use Rattle.wasm_sections.specs.declared.changes.Changes.{Changes}
use Rattle.wasm_sections.specs.declared.omissions.OmittedSections.{OmittedSections}
use Rattle.wasm_sections.specs.Omissions.{omits_name, names_debug}
use Rattle.wasm_module.specs.declared.parsed.ParsedModule.{ParsedModule}
use Rattle.wasm_module.specs.ReadFrom.{IsModuleOf}
use Rattle.wasm_module.specs.RewrittenCode.{IsChangedWith, keeps_locals}
use Rattle.wasm_module.specs.MapText.{map_lines}
use Rattle.wasm_module.specs.ToldBodies.{ToldBody}
use Rattle.wasm_module.specs.ToldModules.{module_told}
use Rattle.wasm_module.specs.WrittenModules.{BodyWriting, IsWrittenModule}
use Rattle.module_tools.specs.declared.snipping.Snipping.{Snipping}
use Rattle.module_tools.specs.FunctionChanges.{Snips}
use Rattle.wrewrite_c.specs.declared.options.Options.{Options}

-- ---- custom sections that are left out

-- debug information too, if it is to be left out
abbrev pub without_debug : (is_left_out : Bool) → OmittedSections → OmittedSections
without_debug is_left_out o = record o { is_debug = is_left_out || o.is_debug }

-- all of them, if they are to be left out
abbrev pub without_all : (are_left_out : Bool) → OmittedSections → OmittedSections
without_all are_left_out o = record o { is_all = are_left_out || o.is_all }

-- A section with this name isn't wanted.
abbrev pub is_unwanted : Options → (name : List ℕ) → Bool
is_unwanted wanted name = wanted.strips_all || (wanted.strips_debug && names_debug name)

-- What isn't wanted is left out, and nothing else.
pub record LeavesOut (wanted : Options) (o : OmittedSections) : Type 0 where
  pub debug : wanted.strips_debug ≡ true → o.is_debug ≡ true
  pub all : wanted.strips_all ≡ true → o.is_all ≡ true
  pub no_others : (name : List ℕ) → omits_name o name ≡ true → is_unwanted wanted name ≡ true

-- ---- modules

-- the lines of the location map of these bodies, if it is wanted
abbrev pub lines_if : (has_map : Bool) → List ToldBody → List ℕ
lines_if has_map bodies = if has_map then map_lines bodies else []

-- These bytes are the module that is written for this one: with bodies that are written in this way, with no section that is
-- given, and without the custom sections that aren't wanted. And these are the lines of its location map, or none.
pub record IsMadeFrom (writes : BodyWriting) (parsed : ParsedModule) (wanted : Options) (new lines : List ℕ) : Type 0 where
  pub changes : Changes
  pub none_given : changes.given.items ≡ []
  pub omitted : OmittedSections
  pub leaves_out : LeavesOut wanted omitted
  pub is_written : IsWrittenModule writes parsed changes omitted new
  pub lines_are : lines ≡ lines_if wanted.has_map (module_told writes parsed changes omitted new is_written)

-- The same for the module that these bytes spell.
pub record IsMadeOf (writes : BodyWriting) (source : List ℕ) (wanted : Options) (new lines : List ℕ) : Type 0 where
  pub parsed : ParsedModule
  pub reads : IsModuleOf source parsed
  pub is_made : IsMadeFrom writes parsed wanted new lines

-- These bytes are made, with lines that are appended to others.
abbrev pub IsMadeAfter : (IsMade : (new lines : List ℕ) → Type 0) → (new old_lines new_lines : List ℕ) → Type 0
IsMadeAfter IsMade new old_lines new_lines = (lines : List ℕ) × (new_lines ≡ old_lines ++ lines) × IsMade new lines

-- ---- functions that are named by their indices

-- whether an index is in a list
abbrev pub is_among : List ℕ → ℕ → Bool
is_among indices index = list_any (λ i. i == index) indices

-- A set has the functions with these indices, and no others.
abbrev pub HasFunctions : {S : Type 0} → List ℕ → HashSet ℕ S → Type 0
HasFunctions indices functions = (index : ℕ) → contains (λ x y. x == y) functions index ≡ is_among indices index

-- One function is added.
abbrev pub AddsIndex : {S : Type 0} → (index : ℕ) → (old new : HashSet ℕ S) → Type 0
AddsIndex index old new = (other : ℕ) → contains (λ x y. x == y) new other ≡ cond (index == other) true (contains (λ x y. x == y) old other)

-- The same, with the bodies of the functions with these indices taken away.
pub record IsSnippedFrom (indices : List ℕ) (parsed : ParsedModule) (wanted : Options) (new lines : List ℕ) : Type 0 where
  pub snipping : Snipping
  pub has_functions : HasFunctions indices snipping.0
  pub is_made : IsMadeFrom (IsChangedWith (keeps_locals (Snips snipping.0))) parsed wanted new lines

-- The same for the module that these bytes spell.
abbrev pub IsSnippedOf : (indices source : List ℕ) (wanted : Options) (new lines : List ℕ) → Type 0
IsSnippedOf indices source wanted new lines = (parsed : ParsedModule) × IsModuleOf source parsed × IsSnippedFrom indices parsed wanted new lines
