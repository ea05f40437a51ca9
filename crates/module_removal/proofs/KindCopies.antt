-- What is copied of the byte of a kind, of parts that are chosen by a space or by what a vector consists of.
use Rattle.std.proofs.Common.{◌≡◌, ℕ, List, [], ◌∷◌, Result, Ok, Err, refl, sym, ap, subst, ◌∙◌, inl, inr}
use Rattle.wasm_numbers.specs.Results.{◌>>=◌, with_fault}
use Rattle.wasm_operators.specs.declared.types.Space.{Space}
use Rattle.wasm_operators.specs.declared.types.Space.TheVariants as spaces
use Rattle.wasm_sections.specs.declared.fault.ModuleError.{ModuleError}
use Rattle.wasm_sections.specs.declared.fault.ModuleFault.{ModuleFault}
use Rattle.wasm_sections.specs.Parts.{checked, one_byte, fault_here}
use Rattle.module_removal.specs.declared.copier.Copier.{Copier}
use Rattle.module_removal.specs.CopiedParts.{Copied, writes, copied_byte, NewIndices, copied_index, Copies}
use Rattle.module_removal.specs.CopiedItems.{copied_imported, copied_tag, copied_defined}
use Rattle.module_removal.proofs.CopyLemmas.{Fails}

-- the same reading
ok_read : (x y : (ℕ × Copied) × List ℕ) → (let r : Result ((ℕ × Copied) × List ℕ) ModuleError = Ok x in r) ≡ Ok y → x ≡ y
ok_read x y e = cc

module _ {B : Type 0} (check : ℕ → Result (B × Copied) ModuleFault) (end : ℕ) where
  pub kind_copies :
      (text : List ℕ) (old new : Copier) (rest : List ℕ) (b : ℕ) (x : B) → Copies old new rest (Ok b) (copied_byte end text) →
      check b ≡ Ok (x, writes (b ∷ [])) → Copies old new rest (Ok x) (checked one_byte check end text)
  kind_copies [] old new rest b x a e = absurd (none a.1)
    where
      none : {c : (ℕ × Copied) × List ℕ} → copied_byte end [] ≡ Ok c → ⊥
      none h = cc
  kind_copies (first ∷ others) old new rest b x a e =
      let same = ok_read ((first, writes (first ∷ [])), others) ((b, a.0), rest) a.1 in
      let byte : first ≡ b = ap (λ (z : (ℕ × Copied) × List ℕ). z.0.0) same in
      let bytes : writes (first ∷ []) ≡ a.0 = ap (λ (z : (ℕ × Copied) × List ℕ). z.0.1) same in
      let following : others ≡ rest = ap (λ (z : (ℕ × Copied) × List ℕ). z.1) same in
      let given : check first ≡ Ok (x, writes (first ∷ [])) = subst (λ (n : ℕ). check n ≡ Ok (x, writes (n ∷ []))) (sym byte) e in (
        a.0,
        ap (λ (r : Result (B × Copied) ModuleFault). with_fault (fault_here end (first ∷ others)) r >>= λ v. Ok (v, others)) given
            ∙ ap (λ (c : Copied). (let r : Result ((B × Copied) × List ℕ) ModuleError = Ok ((x, c), others) in r)) bytes
            ∙ ap (λ (l : List ℕ). (let r : Result ((B × Copied) × List ℕ) ModuleError = Ok ((x, a.0), l) in r)) following,
        a.2,
      )

  pub kind_refused :
      (text : List ℕ) (old new : Copier) (rest : List ℕ) (b : ℕ) (f : ModuleFault) → Copies old new rest (Ok b) (copied_byte end text) →
      check b ≡ Err f → Fails (fault_here end text f) (checked one_byte check end text)
  kind_refused [] old new rest b f a e = absurd (none a.1)
    where
      none : {c : (ℕ × Copied) × List ℕ} → copied_byte end [] ≡ Ok c → ⊥
      none h = cc
  kind_refused (first ∷ others) old new rest b f a e =
      let byte : first ≡ b = ap (λ (z : (ℕ × Copied) × List ℕ). z.0.0) (ok_read ((first, writes (first ∷ [])), others) ((b, a.0), rest) a.1) in
      let given : check first ≡ Err f = subst (λ (n : ℕ). check n ≡ Err f) (sym byte) e in
      inr (ap (λ (r : Result (B × Copied) ModuleFault). with_fault (fault_here end (first ∷ others)) r >>= λ v. Ok (v, others)) given)

  pub no_kind : (text : List ℕ) (e : ModuleError) → Fails e (copied_byte end text) → Fails e (checked one_byte check end text)
  no_kind [] e (inl m) = inl m
  no_kind [] e (inr h) = inr cc
  no_kind (first ∷ others) e (inl m) = inl m
  no_kind (first ∷ others) e (inr h) = absurd cc

-- what is imported, in another space
pub imported_tag :
    (w : NewIndices) (s : Space) (end : ℕ) (text : List ℕ) → (s ≡ spaces.Funcs → ⊥) → (s ≡ spaces.Tables → ⊥) → (s ≡ spaces.Memories → ⊥) →
    (s ≡ spaces.Globals → ⊥) → copied_imported w s end text ≡ copied_tag w end text
imported_tag w spaces.Funcs end text f t m g = absurd (f refl)
imported_tag w spaces.Tables end text f t m g = absurd (t refl)
imported_tag w spaces.Memories end text f t m g = absurd (m refl)
imported_tag w spaces.Globals end text f t m g = absurd (g refl)
imported_tag w _ end text f t m g = refl

-- an item that a section defines, in another space
pub defined_index :
    (w : NewIndices) (s : Space) (end : ℕ) (text : List ℕ) → (s ≡ spaces.Tables → ⊥) → (s ≡ spaces.Memories → ⊥) → (s ≡ spaces.Tags → ⊥) →
    (s ≡ spaces.Globals → ⊥) → (s ≡ spaces.Elements → ⊥) → (s ≡ spaces.Data → ⊥) → copied_defined w s end text ≡ copied_index w spaces.Types end text
defined_index w spaces.Tables end text t m g l e d = absurd (t refl)
defined_index w spaces.Memories end text t m g l e d = absurd (m refl)
defined_index w spaces.Tags end text t m g l e d = absurd (g refl)
defined_index w spaces.Globals end text t m g l e d = absurd (l refl)
defined_index w spaces.Elements end text t m g l e d = absurd (e refl)
defined_index w spaces.Data end text t m g l e d = absurd (d refl)
defined_index w _ end text t m g l e d = refl
