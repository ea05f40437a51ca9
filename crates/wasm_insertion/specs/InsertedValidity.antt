-- What was valid stays valid where operators are inserted that, together, take no operands and leave none.
use Rattle.std.specs.Prelude.{◌≡◌, ℕ, List, [], ◌∷◌, ◌++◌, Option, Some, option_and_then}
use Rattle.std.specs.List.{AllByRecursion}
use Rattle.wasm_types.specs.declared.val_type.ValType.{ValType}
use Rattle.wasm_body.specs.Control.{Plain, Does, control_of}
use Rattle.wasm_body.specs.NormalForm.{Typing}
use Rattle.wasm_body.specs.Validity.{Point, Change, OperandRules, set_locals, IsValid}
use Rattle.wasm_body.specs.SourceTree.{Body}
use Rattle.wasm_body.specs.TextLaws.{IsNamedBody}
use Rattle.wasm_body.specs.Flat.{Named}
use Rattle.wasm_insertion.specs.Insertion.{Origin, InsertedBody, IsInsertedText}

-- the point after an operator that makes this
abbrev pub after_change : {T : Type 0} → Change T → Point T → Point T
after_change k p = record p { operands = k.operands; initialised = set_locals k.initialises p.initialised }

-- the point after plain operators, if none of them is refused
abbrev pub after_plain : {T : Type 0} → OperandRules T → List Named → Point T → Option (Point T)
after_plain r [] p = Some p
after_plain r (x ∷ xs) p = option_and_then (λ k. after_plain r xs (after_change k p)) (r.plain x.op p)

-- Plain operators that are accepted at every point, and leave it as it is: their type is [] -> [], and they initialise no local that may be uninitialised.
pub record IsProbe {T : Type 0} (r : OperandRules T) (ps : List Named) : Type 0 where
  pub plain : AllByRecursion (λ x. control_of x.op ≡ Does Plain) ps
  pub neutral : (p : Point T) → after_plain r ps p ≡ Some p

-- The second list is the first, with probes before some of its operators.
pub data Probed {T : Type 0} (r : OperandRules T) : List Named → List Named → Type 0 where
  done : Probed r [] []
  same : {x : Named} {xs ys : List Named} → Probed r xs ys → Probed r (x ∷ xs) (x ∷ ys)
  probe : {ps : List Named} {x : Named} {xs ys : List Named} → IsProbe r ps → Probed r (x ∷ xs) ys → Probed r (x ∷ xs) (ps ++ ys)

-- Where a body is valid it is valid with probes, under the same rules and in the same function.
abbrev pub ProbedStaysValid : Type 0 → Type 0
ProbedStaysValid T =
    (m : Typing) (r : OperandRules T) (results : List (ValType ℕ)) (initialised : List ℕ) (xs ys : List Named) → Probed r xs ys →
    IsValid m r results initialised xs → IsValid m r results initialised ys

-- The operators with probes form a body with inserted operators: those of the probes.
pub record IsProbedBody (ys : List Named) (b : Body Named) : Type 0 where
  pub body : Body (Origin Named Named)
  pub inserted : InsertedBody b body
  pub is_text : IsInsertedText ys body

-- So what holds of bodies with inserted operators holds of lists with probes.
abbrev pub ProbedIsInserted : Type 0 → Type 0
ProbedIsInserted T = (r : OperandRules T) (xs ys : List Named) (b : Body Named) → IsNamedBody xs b → Probed r xs ys → IsProbedBody ys b
