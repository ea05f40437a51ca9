-- An export, by its name.
use Rattle.std.proofs.Common.{◌≡◌, ℕ, List, ◌∷◌, Bool, true, false, not, Result, Ok, Err, ap, ◌∙◌}
use Rattle.wasm_numbers.specs.Results.{◌>>=◌, with_fault}
use Rattle.wasm_numbers.proofs.ResultLemmas.{ok_same}
use Rattle.wasm_operators.specs.declared.types.Space.{Space}
use Rattle.wasm_sections.specs.declared.fault.ModuleError.{ModuleError}
use Rattle.wasm_sections.specs.declared.fault.ModuleFault.{ModuleFault}
use Rattle.wasm_sections.specs.declared.fault.ModuleFault.TheVariants as fault
use Rattle.wasm_sections.specs.Format.{export_part}
use Rattle.wasm_sections.specs.Parts.{fault_here, just, ◌>=>◌}
use Rattle.module_validator.specs.ConstantRules.{only_if}
use Rattle.module_validator.specs.ModuleRules.{is_name_among, export_rule}

abbrev Exported : Type 0
Exported = List ℕ × Space × ℕ

abbrev Names : Type 0
Names = Result (List (List ℕ) × List ℕ) ModuleError

-- the name of an export that was read
abbrev name_of : Exported × List ℕ → Result (List ℕ × List ℕ) ModuleError
name_of x = Ok (x.0.0, x.1)

-- what follows an export that was read
abbrev after_export : List (List ℕ) → (ModuleFault → ModuleError) → Exported × List ℕ → Names
after_export all here x =
    with_fault here (only_if (not (is_name_among all x.0.0)) fault.ExportTaken >>= λ u. Ok (x.0.0 ∷ all)) >>= λ v. Ok (v, x.1)

-- the names with this one, if it is a new one
abbrev given : List (List ℕ) → (ModuleFault → ModuleError) → (name rest : List ℕ) → (new : Bool) → Names
given all here name rest new = with_fault here (only_if new fault.ExportTaken >>= λ u. Ok (name ∷ all)) >>= λ v. Ok (v, rest)

by_name : (r : Result (Exported × List ℕ) ModuleError) (all : List (List ℕ)) (here : ModuleFault → ModuleError) (name rest : List ℕ) → (r >>= name_of) ≡ Ok (name, rest) →
    (new : Bool) → not (is_name_among all name) ≡ new →
    (r >>= after_export all here) ≡ given all here name rest new
by_name (Ok x) all here name rest e new n =
    let both : (x.0.0, x.1) ≡ (name, rest) = ok_same (x.0.0, x.1) (name, rest) e in
    let names : x.0.0 ≡ name = ap (λ (p : List ℕ × List ℕ). p.0) both in
    let rests : x.1 ≡ rest = ap (λ (p : List ℕ × List ℕ). p.1) both in
    ap (λ (l : List ℕ). given all here l x.1 (not (is_name_among all l))) names ∙ ap (λ (l : List ℕ). given all here name l (not (is_name_among all name))) rests
    ∙ ap (given all here name rest) n
by_name (Err f) all here name rest e new n = absurd cc

pub named_new : (all : List (List ℕ)) (end : ℕ) (text name rest : List ℕ) → (export_part >=> λ x. just x.0) end text ≡ Ok (name, rest) → not (is_name_among all name) ≡ true →
    export_rule all end text ≡ Ok (name ∷ all, rest)
named_new all end text name rest e n = by_name (export_part end text) all (fault_here end text) name rest e true n

pub named_taken : (all : List (List ℕ)) (end : ℕ) (text name rest : List ℕ) → (export_part >=> λ x. just x.0) end text ≡ Ok (name, rest) → not (is_name_among all name) ≡ false →
    export_rule all end text ≡ Err (fault_here end text fault.ExportTaken)
named_taken all end text name rest e n = by_name (export_part end text) all (fault_here end text) name rest e false n

failed : (r : Result (Exported × List ℕ) ModuleError) (all : List (List ℕ)) (here : ModuleFault → ModuleError) (f : ModuleError) → (r >>= name_of) ≡ Err f → (r >>= after_export all here) ≡ Err f
failed (Ok x) all here f e = absurd cc
failed (Err g) all here f e = let same : g ≡ f = cc in ap (λ (h : ModuleError). Err h) same

pub named_fails : (all : List (List ℕ)) (end : ℕ) (text : List ℕ) (f : ModuleError) → (export_part >=> λ x. just x.0) end text ≡ Err f → export_rule all end text ≡ Err f
named_fails all end text f e = failed (export_part end text) all (fault_here end text) f e
