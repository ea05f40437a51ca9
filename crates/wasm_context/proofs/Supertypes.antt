-- A type and its declared supertypes, one step after the other.
use Rattle.std.proofs.Common.{◌≡◌, ℕ, zero, suc, Bool, true, false, refl, ap, ◌∙◌, ◌≢◌, eq-eqb}
use Rattle.std.proofs.lemmas.Bool.{ne_eqb}
use Rattle.std.specs.Prelude.{◌||◌, ◌==◌, Option, Some, None}
use Rattle.std.specs.List.{list_any}
use Rattle.wasm_typing.specs.Contexts.{OperandContext}
use Rattle.wasm_typing.specs.Matching.{first_of, supertype_of, supertypes}

-- whether a type, or one above it within some steps, is the type with this first index
abbrev pub reaches : OperandContext → (first steps : ℕ) → Option ℕ → Bool
reaches c first steps o = list_any (λ id. first_of c id == first) (supertypes c steps o)

pub reaches_none : (c : OperandContext) (first steps : ℕ) → reaches c first steps None ≡ false
reaches_none c first zero = refl
reaches_none c first (suc steps) = refl

pub reaches_here : (c : OperandContext) (first steps id : ℕ) → first_of c id ≡ first → reaches c first (suc steps) (Some id) ≡ true
reaches_here c first steps id h = ap (λ b. b || reaches c first steps (supertype_of c id)) (eq-eqb (first_of c id) first h)

pub reaches_above : (c : OperandContext) (first steps id : ℕ) (o : Option ℕ) → first_of c id ≢ first → supertype_of c id ≡ o
    → reaches c first (suc steps) (Some id) ≡ reaches c first steps o
reaches_above c first steps id o h e =
    ap (λ b. b || reaches c first steps (supertype_of c id)) (ne_eqb (first_of c id) first h) ∙ ap (reaches c first steps) e
