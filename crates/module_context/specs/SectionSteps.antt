-- The sections of a module, one after the other (WebAssembly core specification 3.0, section 5.5, modules).
use Rattle.std.specs.Prelude.{ℕ, zero, suc, ◌-◌, List, [], ◌∷◌, length, Result, Ok}
use Rattle.wasm_numbers.specs.Results.{◌>>=◌, with_fault}
use Rattle.wasm_sections.specs.declared.fault.ModuleError.{ModuleError}
use Rattle.wasm_sections.specs.Components.{preamble_part}
use Rattle.wasm_sections.specs.Parts.{fault_here}
use Rattle.wasm_sections.specs.Sections.{section_part, rank_with}

-- what the contents of a section with this id make of a value
abbrev pub SectionStep : Type 0 → Type 0
SectionStep S = (id : ℕ) → S → (end : ℕ) → (text : List ℕ) → Result S ModuleError

-- the same of all sections that are left, at most so many, after one of this rank
unfoldable pub through_sections : {S : Type 0} → SectionStep S → (most rank : ℕ) → S → (end : ℕ) → (text : List ℕ) → Result S ModuleError
through_sections step most r s end [] = Ok s
through_sections step zero r s end (b ∷ bytes) = Ok s
through_sections step (suc most) r s end (b ∷ bytes) =
    section_part end (b ∷ bytes) >>= λ x.
    with_fault (fault_here end (b ∷ bytes)) (rank_with r x.0.0) >>= λ next.
    step x.0.0 s (end - length x.1) x.0.1 >>= λ t. through_sections step most next t end x.1

-- the same of a whole module
abbrev pub through_module : {S : Type 0} → SectionStep S → S → (bytes : List ℕ) → Result S ModuleError
through_module step s bytes =
    preamble_part (length bytes) bytes >>= λ x. through_sections step (length x.1) 0 s (length bytes) x.1
