-- Reading a body: a result is that of an accepted body, and a refusal is for the first fault.
use Rattle.std.proofs.Common.{◌≡◌, ◌⊎◌, inl, inr, ℕ, List, Result, Ok, Err, refl, sym, subst}
use Rattle.std.specs.Prelude.{IfOk, IfErr, IsErr}
use Rattle.wasm_operators.specs.Laws.{AreBytes}
use Rattle.wasm_operators.proofs.ReadingBytes.{reading_agrees}
use Rattle.wasm_body.specs.declared.error.ParseError.TheVariants.{Memory}
use Rattle.wasm_body.specs.declared.error.ParseFailure.{ParseFailure}
use Rattle.wasm_body.specs.SourceTree.{Body}
use Rattle.wasm_body.specs.Naming.{Occurrence}
use Rattle.wasm_body.specs.Parsing.Accepted.{Setting, Accepted, FirstFault}
use Rattle.wasm_body.proofs.Parsing.ParseResults.{accepted_has_no_fault, one_first_fault, accepted_or_fault}
use Rattle.walrus_parser.specs.Settings.{operators_of}
use Rattle.walrus_run.specs.NamedBodies.{BodyNames, names_of}
use Rattle.walrus_run.specs.Namers.{AreLeft}
use Rattle.walrus_run.proofs.NamesAnywhere.{lawful_names, operators_are}

-- bytes without a first fault are accepted
pub accepted_without_fault : (given : Setting (Unit {0})) (ops : List ℕ) → AreBytes ops → ((f : ParseFailure) → FirstFault given ops f → ⊥) → (b : Body Occurrence) × Accepted given ops b
accepted_without_fault given ops bytes none = elim (accepted_or_fault reading_agrees (Unit {0}) given ops bytes) [
  | inl accepted ↦ accepted
  | inr fault ↦ absurd (none fault.0 fault.1)
]

-- the operators of an accepted body are those that remain at its start
pub left_of : (given : Setting (Unit {0})) (ops : List ℕ) (b : Body Occurrence) → Accepted given ops b → AreLeft given.environment (record { rest = ops; place = given.start }) (operators_of b)
left_of given ops b a =
    subst (AreLeft given.environment (record { rest = ops; place = given.start })) (sym (operators_are given.environment a.operators b a.lawful))
    (record { spelt = a.all.spelt; named = lawful_names given.environment a.operators b a.lawful })

module _ (given : (ℕ → ℕ) → Setting (Unit {0})) (ops : List ℕ) where
  abbrev pub IsNamed : BodyNames → Type 0
  IsNamed made = (locate : ℕ → ℕ) → (b : Body Occurrence) × Accepted (given locate) ops b × (made ≡ names_of (operators_of b))

  abbrev pub IsRefused : ParseFailure → Type 0
  IsRefused f = (f.error ≡ Memory) ⊎ ((locate : ℕ → ℕ) → FirstFault (given locate) ops f)

  abbrev pub NamesEachBody : Result BodyNames ParseFailure → Type 0
  NamesEachBody r = (locate : ℕ → ℕ) (b : Body Occurrence) → Accepted (given locate) ops b → IfErr r (λ f. f.error ≡ Memory) × IfOk r (λ made. made ≡ names_of (operators_of b))

  abbrev pub RefusesEachFault : Result BodyNames ParseFailure → Type 0
  RefusesEachFault r = (locate : ℕ → ℕ) (f : ParseFailure) → FirstFault (given locate) ops f → IsErr r × IfErr r (λ e. (e.error ≡ Memory) ⊎ (e ≡ f))

  -- ---- if the body is accepted and its operators are named

  module _ (accepts : (locate : ℕ → ℕ) → (b : Body Occurrence) × Accepted (given locate) ops b) where
    pub is_named : (r : Result BodyNames ParseFailure) → NamesEachBody r → IfOk r IsNamed
    is_named (Ok made) named = λ locate. let b = accepts locate in (b.0, b.1, (named locate b.0 b.1).1)
    is_named (Err f) named = tt

    pub is_refused : (r : Result BodyNames ParseFailure) → NamesEachBody r → IfErr r IsRefused
    is_refused (Ok made) named = tt
    is_refused (Err f) named = let b = accepts (λ n. n) in inl (named (λ n. n) b.0 b.1).0

    pub has_no_fault : (r : Result BodyNames ParseFailure) → RefusesEachFault r
    has_no_fault r locate f fault = let b = accepts locate in absurd (accepted_has_no_fault reading_agrees (Unit {0}) (given locate) ops b.0 f b.1 fault)

  -- ---- if it is refused

  pub refused_body : (f : ParseFailure) → IsRefused f → NamesEachBody (Err f)
  refused_body f (inl memory) locate b accepted = (memory, tt)
  refused_body f (inr fault) locate b accepted = absurd (accepted_has_no_fault reading_agrees (Unit {0}) (given locate) ops b f accepted (fault locate))

  pub refused_fault : (e : ParseFailure) → IsRefused e → RefusesEachFault (Err e)
  refused_fault e (inl memory) locate f fault = (refl, inl memory)
  refused_fault e (inr first) locate f fault = (refl, inr (one_first_fault reading_agrees (Unit {0}) (given locate) ops e f (first locate) fault))
