-- Reading and naming the remaining operators one by one.
use Rattle.std.proofs.Common.{◌≡◌, ◌<◌, inl, inr, List, [], ◌∷◌, ◌++◌, length, map, Result, Ok, Err, refl, sym, ap, subst, ◌∙◌, arith}
use Rattle.std.proofs.lemmas.List.{append_cancel_left, append_assoc, append-nil, length-append}
use Rattle.std.specs.Prelude.{IfOk, IfErr, OnOk}
use Rattle.wasm_operators.specs.Operations.{RawOperation}
use Rattle.wasm_operators.specs.OperatorList.{Lists}
use Rattle.wasm_ops.specs.Position.{Position, Moves}
use Rattle.wasm_operators.proofs.ListLaws.{spelt_length}
use Rattle.wasm_body.specs.declared.error.ParseError.{ParseError}
use Rattle.wasm_body.specs.declared.error.ParseError.TheVariants.{Memory}
use Rattle.wasm_body.specs.Translation.{translate}
use Rattle.wasm_body.specs.Naming.{Environment, NamedOperation, Occurrence}
use Rattle.wasm_body.specs.Parsing.Accepted.{placed}
use Rattle.walrus_from_operators.specs.Placed.{GivesOrMemory}
use Rattle.walrus_machine.specs.declared.named_op.NamedOp.{NamedOp}
use Rattle.walrus_machine.specs.NamedOperators.{named_operation}
use Rattle.walrus_run.specs.NamedBodies.{BodyNames}
use Rattle.walrus_run.specs.Namers.{anywhere, HasName, AreLeft, with_next}

module _ (env : Environment) where
  -- if bytes remain, so does an operator
  pub some_left : (at : Position) (xs : List Occurrence) → AreLeft env at xs → 0 < length at.rest → (x : Occurrence) × (ys : List Occurrence) × AreLeft env at (x ∷ ys) × (xs ≡ x ∷ ys)
  some_left at [] left some = absurd (omega (arith, ap length left.spelt))
  some_left at (x ∷ xs) left some = (x, xs, left, refl)

  pub none_left : (at : Position) (xs : List Occurrence) → AreLeft env at xs → length at.rest ≡ 0 → xs ≡ []
  none_left at [] left none = refl
  none_left at (x ∷ xs) left none =
      absurd (omega (arith, spelt_length x.spelt left.spelt.1 left.spelt.4, length-append left.spelt.1 left.spelt.2, ap length left.spelt.3))

  -- after the first operator, the others remain
  pub others_left : (at next : Position) (x : Occurrence) (xs : List Occurrence) → (left : AreLeft env at (x ∷ xs)) → Moves at left.spelt.1 next → AreLeft env next xs
  others_left at next x xs left moves =
      let text = left.spelt.1 in
      let following : left.spelt.2 ≡ next.rest = append_cancel_left text left.spelt.2 next.rest (sym left.spelt.3 ∙ moves.parts) in
      record {
        spelt = subst (λ bytes. Lists (map placed xs) next.place bytes []) following (subst (λ place. Lists (map placed xs) place left.spelt.2 []) (sym moves.place) left.spelt.5);
        named = left.named.1;
      }

  -- the result is the name, unless memory runs out
  pub name_returned : (x : Occurrence) (o : RawOperation) (r : Result NamedOp ParseError) → HasName env x → o ≡ x.spelt → GivesOrMemory named_operation r (translate (anywhere env) o)
      → IfErr r (λ e. e ≡ Memory) × IfOk r (λ n. named_operation n ≡ x.named)
  name_returned x o (Ok n) has is given = (tt, same (sym (sym given ∙ ap (translate (anywhere env)) is ∙ has)))
    where
      same : {A : Type 0} {p q : A} → (let r : Result A ParseError = Ok p in r) ≡ Ok q → q ≡ p
      same e = cc
  name_returned x o (Err e) has is (inl memory) = (memory, tt)
  name_returned x o (Err e) has is (inr refused) =
      absurd (let both : (let r : Result NamedOperation ParseError = Err e in r) ≡ Ok x.named = sym refused ∙ ap (translate (anywhere env)) is ∙ has in cc)

-- ---- the operators taken come before the remaining ones

abbrev pub before : BodyNames → List Occurrence → BodyNames
before b xs = record { operators = b.operators ++ map (λ x. x.named) xs; places = b.places ++ map (λ x. x.place) xs }

before_next : (b : BodyNames) (x : Occurrence) (xs : List Occurrence) → before (with_next b x.named x.place) xs ≡ before b (x ∷ xs)
before_next b x xs = λ i. record {
  operators = append_assoc b.operators (x.named ∷ []) (map (λ y. y.named) xs) i;
  places = append_assoc b.places (x.place ∷ []) (map (λ y. y.place) xs) i;
}

-- after the next operator too, those taken so far and the remaining ones are all operators
pub after_next : (b new : BodyNames) (x : Occurrence) (xs left : List Occurrence) (whole : BodyNames) → new ≡ with_next b x.named x.place → left ≡ x ∷ xs → before b left ≡ whole → before new xs ≡ whole
after_next b new x xs left whole taken first kept = ap (λ n. before n xs) taken ∙ before_next b x xs ∙ ap (before b) (sym first) ∙ kept

pub before_none : (b : BodyNames) → before b [] ≡ b
before_none b = λ i. record { operators = append-nil b.operators i; places = append-nil b.places i }

-- a consequence of what holds on success
pub on_ok : {A E P Q : Type 0} (r : Result A E) → OnOk r P → (P → Q) → OnOk r Q
on_ok (Ok x) p f = f p
on_ok (Err e) p f = tt
