-- Results with the section of their fault.
use Rattle.std.proofs.Common.{◌≡◌, ◌++◌, ◌∷◌, [], ℕ, List, Result, Ok, Err, inl, inr, refl, sym, ap, ◌∙◌, subst, append_assoc}
use Rattle.std.specs.Prelude.{IfOk, IfErr}
use Rattle.wasm_numbers.specs.Results.{◌>>=◌, with_fault, each}
use Rattle.dwarf_bytes.specs.declared.fault.DebugFault.{DebugFault}
use Rattle.dwarf_info.proofs.Taking.{IsMemoryOr}
use Rattle.dwarf.specs.declared.failure.DebugFailure.{DebugFailure}
use Rattle.dwarf.specs.declared.sections.SectionName.{SectionName}
use Rattle.dwarf.specs.Sections.{NamedContents, contents_named}
use Rattle.dwarf.specs.MovedDebug.{IsFailureOf, section_followed}

-- ---- a result that is known

pub ok_of : {V E : Type 0} (r : Result V E) (x : V) (P : V → Type 0) → r ≡ Ok x → IfOk r P → P x
ok_of r x P e h = subst (λ (q : Result _ _). IfOk q P) e h

pub err_of : {V E : Type 0} (r : Result V E) (x : E) (P : E → Type 0) → r ≡ Err x → IfErr r P → P x
err_of r x P e h = subst (λ (q : Result _ _). IfErr q P) e h

-- ---- failures

pub failure_more : (F G : SectionName → DebugFault → Type 0) (f : DebugFailure) → ((section : SectionName) (fault : DebugFault) → F section fault → G section fault) → IsFailureOf F f → IsFailureOf G f
failure_more F G f more (inl memory) = inl memory
failure_more F G f more (inr x) = inr (x.0, x.1, more f.section x.0 x.2)

-- a fault of this section
pub failure_within : (name : SectionName) (F : DebugFault → Type 0) (G : SectionName → DebugFault → Type 0) (f : DebugFailure) → f.section ≡ name → IsMemoryOr F f.error
    → ((fault : DebugFault) → F fault → G name fault) → IsFailureOf G f
failure_within name F G f is (inl memory) more = inl memory
failure_within name F G f is (inr x) more = inr (x.0, x.1, subst (λ (s : SectionName). G s x.0) (sym is) (more x.0 x.2))

-- ---- sections that follow by themselves

module _ (ss : List NamedContents) (name : SectionName) (follow : List ℕ → Result (List ℕ) DebugFault) where
  pub follows : (section new : List ℕ) → section ≡ contents_named ss name → follow section ≡ Ok new → section_followed ss (name, follow) ≡ Ok (name, new)
  follows section new is e =
      ap (λ (r : Result (List ℕ) DebugFault). with_fault (λ fault. (name, fault)) r >>= λ n. Ok (name, n)) (ap follow (sym is) ∙ e)

  pub not_follows : (section : List ℕ) (fault : DebugFault) → section ≡ contents_named ss name → follow section ≡ Err fault → section_followed ss (name, follow) ≡ Err (name, fault)
  not_follows section fault is e =
      ap (λ (r : Result (List ℕ) DebugFault). with_fault (λ fault. (name, fault)) r >>= λ n. Ok (name, n)) (ap follow (sym is) ∙ e)

module _ {A B E : Type 0} (f : A → Result B E) where
  pub each_none : each f [] ≡ Ok []
  each_none = refl

  pub each_more : (x : A) (xs : List A) (y : B) (ys : List B) → f x ≡ Ok y → each f xs ≡ Ok ys → each f (x ∷ xs) ≡ Ok (y ∷ ys)
  each_more x xs y ys e d = rw (e, d) refl

  pub each_fails : (x : A) (xs : List A) (fault : E) → f x ≡ Err fault → each f (x ∷ xs) ≡ Err fault
  each_fails x xs fault e = rw e refl

  pub each_later_fails : (x : A) (xs : List A) (y : B) (fault : E) → f x ≡ Ok y → each f xs ≡ Err fault → each f (x ∷ xs) ≡ Err fault
  each_later_fails x xs y fault e d = rw (e, d) refl

-- ---- more at the end

pub added_two : {X : Type 0} (start middle end first second : List X) → middle ≡ start ++ first → end ≡ middle ++ second → end ≡ start ++ (first ++ second)
added_two start middle end first second e d = d ∙ (ap (λ (l : List _). l ++ second) e ∙ append_assoc start first second)

pub failure_mapped : {A : Type 0} (r : Result A DebugFailure) (F G : SectionName → DebugFault → Type 0) → ((section : SectionName) (fault : DebugFault) → F section fault → G section fault) → IfErr r (IsFailureOf F) → IfErr r (IsFailureOf G)
failure_mapped (Ok x) F G more h = h
failure_mapped (Err f) F G more h = failure_more F G f more h
