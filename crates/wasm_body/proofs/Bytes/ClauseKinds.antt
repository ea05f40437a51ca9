-- The immediates of an operator that begins a handler by a tag, or delegates: each of these roles has one opcode.
use Rattle.std.specs.Prelude.{◌≡◌, ℕ, List, [], ◌∷◌, Bool, true, false, ◌==◌, Some}
use Rattle.std.proofs.lemmas.Bool.{eqb-true}
use Rattle.std.proofs.Common.{refl, ap, sym, ◌∙◌}
use Rattle.wasm_operators.specs.declared.types.Opcode.{Opcode}
use Rattle.wasm_operators.specs.declared.types.Opcode.TheVariants.{Byte, Prefixed}
use Rattle.wasm_operators.specs.declared.types.Space.TheVariants.{Tags}
use Rattle.wasm_operators.specs.Immediates.{Kind, an_index, an_outer}
use Rattle.wasm_operators.specs.Opcodes.{kinds_of_byte, kinds_of}
use Rattle.wasm_body.specs.Control.{Role, a_catch, a_delegate, a_plain, byte_roles, aggregate_roles, role_of}
use Rattle.wasm_body.proofs.Bytes.Openers.{roles_pass, none_marked, prefixed_marked}

-- ---- roles that one opcode has

module _ (marks : Role → Bool) (plain : marks a_plain ≡ false) (byte : ℕ) (alone : roles_pass marks plain (λ n. n == byte) byte_roles ≡ true) (unprefixed : roles_pass marks plain (λ n. false) aggregate_roles ≡ true) where
  both_ways : {A : Type 0} → (b : Bool) → b ≡ true → b ≡ false → A
  both_ways b t f = let q : true ≡ false = sym t ∙ f in absurd (cc q)

  by_test : (b : ℕ) (same : Bool) → (b == byte) ≡ same → marks (role_of (Byte b)) ≡ true → Byte b ≡ Byte byte
  by_test b true e h = ap (λ n. Byte n) (eqb-true b byte e)
  by_test b false e h = both_ways (marks (role_of (Byte b))) h (none_marked marks plain (λ n. n == byte) byte_roles alone b e)

  the_opcode : (o : Opcode) → marks (role_of o) ≡ true → o ≡ Byte byte
  the_opcode (Byte b) h = by_test b (b == byte) refl h
  the_opcode (Prefixed prefix n) h = both_ways (marks (role_of (Prefixed prefix n))) h (prefixed_marked marks plain unprefixed prefix n)

abbrev is_catch : Role → Bool
is_catch a_catch = true
is_catch _ = false

abbrev is_delegate : Role → Bool
is_delegate a_delegate = true
is_delegate _ = false

-- ---- their immediates

abbrev pub Needs : Role → List Kind → Type 0
Needs a_catch ks = ks ≡ an_index Tags ∷ []
Needs a_delegate ks = ks ≡ an_outer ∷ []
Needs _ ks = Unit {0}

catch_needs : (o : Opcode) (ks : List Kind) → kinds_of o ≡ Some ks → role_of o ≡ a_catch → ks ≡ an_index Tags ∷ []
unfolding kinds_of_byte
catch_needs o ks e h =
    let found : Some (an_index Tags ∷ []) ≡ Some ks = ap kinds_of (sym (the_opcode is_catch refl 0x07 refl refl o (ap is_catch h))) ∙ e in
    let same : an_index Tags ∷ [] ≡ ks = cc found in sym same

pub delegate_needs : (o : Opcode) (ks : List Kind) → kinds_of o ≡ Some ks → role_of o ≡ a_delegate → ks ≡ an_outer ∷ []
unfolding kinds_of_byte
delegate_needs o ks e h =
    let found : Some (an_outer ∷ []) ≡ Some ks = ap kinds_of (sym (the_opcode is_delegate refl 0x18 refl refl o (ap is_delegate h))) ∙ e in
    let same : an_outer ∷ [] ≡ ks = cc found in sym same

pub needs : (o : Opcode) (ks : List Kind) → kinds_of o ≡ Some ks → (r : Role) → role_of o ≡ r → Needs r ks
needs o ks e a_catch h = catch_needs o ks e h
needs o ks e a_delegate h = delegate_needs o ks e h
needs o ks e _ h = tt
