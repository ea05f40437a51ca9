-- What an import is, after its names.
use Rattle.std.proofs.Common.{◌≡◌, ℕ, ◌-◌, List, length, take, Result, Ok, Err, sym, ap, ◌∙◌}
use Rattle.wasm_numbers.specs.Results.{◌>>=◌}
use Rattle.wasm_numbers.proofs.ResultLemmas.{bind_ok, ok_same}
use Rattle.wasm_sections.specs.declared.fault.ModuleError.{ModuleError}
use Rattle.wasm_sections.specs.declared.imports.Imported.{Imported}
use Rattle.wasm_sections.specs.Format.{name_part, at_place, imported_part, placed_import_part}
use Rattle.wasm_sections.specs.Parts.{Part, ◌>=>◌, extent}
use Rattle.module_items.specs.Renaming.{description_part}

module _ (end : ℕ) (text first second : List ℕ) (from name : List ℕ) (e : name_part end text ≡ Ok (from, first)) (h : name_part end first ≡ Ok (name, second)) where
  -- a part that follows the names
  after_names : {A : Type 0} (part : Part A) → (name_part >=> λ from. name_part >=> λ name. part) end text ≡ part end second
  after_names part =
      ap (λ (r : Result (List ℕ × List ℕ) ModuleError). r >>= λ x. (name_part >=> λ name. part) end x.1) e
      ∙ ap (λ (r : Result (List ℕ × List ℕ) ModuleError). r >>= λ x. part end x.1) h

  with_bytes : Result (Imported × List ℕ) ModuleError → Result (List ℕ × List ℕ) ModuleError
  with_bytes r = r >>= λ x. Ok (take (length second - length x.1) second, x.1)

  pub description_read : (rest : List ℕ) (it : Imported × ℕ) → placed_import_part end text ≡ Ok (it, rest)
      → description_part end text ≡ Ok (take (length second - length rest) second, rest)
  unfolding with_bytes
  description_read rest it is =
      let here = sym (after_names (at_place imported_part)) ∙ is in
      let x = bind_ok (imported_part end second) (λ x. Ok ((x.0, end - length second), x.1)) (it, rest) here in
      let same = ok_same ((x.0.0, end - length second), x.0.1) (it, rest) x.2 in
      after_names (extent imported_part) ∙ ap with_bytes x.1
      ∙ ap (λ (y : (Imported × ℕ) × List ℕ). Ok (take (length second - length y.1) second, y.1)) same

  with_place : Result (Imported × List ℕ) ModuleError → Result ((Imported × ℕ) × List ℕ) ModuleError
  with_place r = r >>= λ x. Ok ((x.0, end - length second), x.1)

  fails : (r : Result (Imported × List ℕ) ModuleError) (fault : ModuleError) → with_place r ≡ Err fault → with_bytes r ≡ Err fault
  unfolding with_bytes with_place
  fails (Ok x) fault is = absurd cc
  fails (Err d) fault is = let same : d ≡ fault = cc in ap (λ (y : ModuleError). Err y) same

  pub description_fails : (fault : ModuleError) → placed_import_part end text ≡ Err fault → description_part end text ≡ Err fault
  unfolding with_bytes with_place
  description_fails fault is =
      after_names (extent imported_part) ∙ fails (imported_part end second) fault (sym (after_names (at_place imported_part)) ∙ is)
