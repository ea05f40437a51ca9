-- An operator that has its name in a place is allowed in that place.
use Rattle.std.proofs.Common.{◌≡◌, ℕ, List, [], ◌∷◌, true, Some, Ok, refl, sym, ap, subst, ◌∙◌}
use Rattle.wasm_operators.specs.Operations.{Immediate, Operation, RawOperation}
use Rattle.wasm_body.specs.declared.error.ParseError.{ParseError}
use Rattle.wasm_numbers.specs.Results.{◌>>=◌}
use Rattle.wasm_body.specs.Control.{Role, a_plain, control_by, control_of, role_of}
use Rattle.wasm_body.specs.Frames.{SequenceFrame, is_allowed, moves}
use Rattle.wasm_body.specs.Translation.{Translation, translate, translate_immediates}
use Rattle.wasm_body.specs.Naming.{Environment, NamedOperation, Occurrence, named_in, naming, has_types, allowed, position_fault}
use Rattle.wasm_body.proofs.Structure.ReadFrames.{may_move}
use Rattle.wasm_numbers.proofs.ResultLemmas.{bind_ok, unless_ok, ok_same}

-- whether an operator is allowed somewhere depends only on its opcode
pub same_allowed : {A B C : Type 0} (fs : List (SequenceFrame A)) (r : Role) (is : List (Immediate ℕ B)) (js : List (Immediate ℕ C)) → is_allowed fs (control_by r is) ≡ is_allowed fs (control_by r js)
same_allowed [] r is js = refl
same_allowed (f ∷ fs) a_plain is js = refl
same_allowed (f ∷ fs) _ is js = refl

pub same_opcode : {L B M C E : Type 0} (t : Translation L B M C E) (o : Operation L B) (p : Operation M C) → translate t o ≡ Ok p → p.opcode ≡ o.opcode
same_opcode {M = M} {C = C} {E = E} t o p e =
    let b = bind_ok (translate_immediates t o.immediates) (λ is. Ok (record { opcode = o.opcode; immediates = is })) p e in
    sym (ap (λ (z : Operation M C). z.opcode) (ok_same {E = E} (record { opcode = o.opcode; immediates = b.0 }) p b.2))

-- the parts of a name
pub record Named (env : Environment) (fs : List (SequenceFrame Occurrence)) (o : RawOperation) (n : NamedOperation) : Type 0 where
  pub allowed : is_allowed fs (control_of o) ≡ true
  pub translated : translate (naming env fs) o ≡ Ok n
  pub typed : has_types env fs (control_of n) n ≡ Ok tt

pub named_parts : (env : Environment) (fs : List (SequenceFrame Occurrence)) (o : RawOperation) (n : NamedOperation) → named_in env fs o ≡ Ok n → Named env fs o n
named_parts env fs o n e =
    let a = bind_ok (allowed fs (control_of o)) (λ _. translate (naming env fs) o >>= λ named. has_types env fs (control_of named) named >>= λ _. Ok named) n e in
    let b = bind_ok (translate (naming env fs) o) (λ named. has_types env fs (control_of named) named >>= λ _. Ok named) n a.2 in
    let c = bind_ok (has_types env fs (control_of b.0) b.0) (λ _. Ok b.0) n b.2 in
    let same : b.0 ≡ n = ok_same {E = ParseError} b.0 n c.2 in
    record {
      allowed = unless_ok (is_allowed fs (control_of o)) (position_fault (control_of o)) a.0 a.1;
      translated = b.1 ∙ ap (λ (z : NamedOperation). Ok z) same;
      typed = subst (λ (z : NamedOperation). has_types env fs (control_of z) z ≡ Ok tt) same c.1;
    }

-- if the operator is allowed, its name is too
pub named_is_allowed : (env : Environment) (fs : List (SequenceFrame Occurrence)) (o : RawOperation) (n : NamedOperation) → named_in env fs o ≡ Ok n → is_allowed fs (control_of n) ≡ true
named_is_allowed env fs o n e =
    let p = named_parts env fs o n e in
    let same : n.opcode ≡ o.opcode = same_opcode (naming env fs) o n p.translated in
    ap (λ c. is_allowed fs (control_by (role_of c) n.immediates)) same ∙ (same_allowed fs (role_of o.opcode) n.immediates o.immediates ∙ p.allowed)

pub named_moves : (env : Environment) (fs : List (SequenceFrame Occurrence)) (o : RawOperation) (n : NamedOperation) (x : Occurrence) → named_in env fs o ≡ Ok n → (gs : List (SequenceFrame Occurrence)) × (moves (control_of n) x fs ≡ Some gs)
named_moves env fs o n x e = may_move (control_of n) x fs (named_is_allowed env fs o n e)
