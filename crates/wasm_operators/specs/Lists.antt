-- Lists as they are in the input: a number of values, read one after the other.
use Rattle.std.specs.Prelude.{◌≡◌, ℕ, List, [], length, Result, Ok, Err, Bool, Option, nat_eq, ◌&&◌}
use Rattle.std.specs.Bool.{beq}
use Rattle.std.specs.Option.{option_eq}
use Rattle.std.specs.Ordering.{on}
use Rattle.std.specs.Cmp.{IsEquivalence, IsPartialEquivalence, and_equiv, on_equiv, nat_eq_equiv, bool_eq_equiv, partial_equiv_from_equiv}
use Rattle.std.specs.Cmp.Lexicographic.{pointwise, lists_equiv, options_equiv}
use Rattle.wasm_numbers.specs.declared.fault.ReadFault.{ReadFault}
use Rattle.wasm_numbers.specs.Reading.{Reader, many}
use Rattle.wasm_numbers.specs.Numbers.{u32}
use Rattle.wasm_operators.specs.Operations.{CatchClause}
use Rattle.wasm_operators.specs.Immediates.{clause}

abbrev pub values : {A : Type 0} → Result (List A × List ℕ) ReadFault → List A
values (Ok x) = x.0
values (Err e) = []

-- the values at the front
abbrev pub items_of : {A : Type 0} → Reader A → ℕ → List ℕ → List A
items_of one n bytes = values (many one n bytes)

-- there are this many values at the front
pub record AreItems {A : Type 0} (one : Reader A) (n : ℕ) (bytes : List ℕ) : Type 0 where
  pub all : length (items_of one n bytes) ≡ n

abbrev pub labels_of : ℕ → List ℕ → List ℕ
labels_of = items_of u32

abbrev pub AreLabels : ℕ → List ℕ → Type 0
AreLabels = AreItems u32

abbrev pub clauses_of : ℕ → List ℕ → List (CatchClause ℕ)
clauses_of = items_of clause

abbrev pub HoldClauses : ℕ → List ℕ → Type 0
HoldClauses = AreItems clause

-- whether two clauses are the same
abbrev pub clause_eq : CatchClause ℕ → CatchClause ℕ → Bool
clause_eq a b = on (λ c. c.by_reference) beq a b && (on (λ c. c.tag) (option_eq nat_eq) a b && on (λ c. c.label) nat_eq a b)

pub clauses_equiv : IsEquivalence (pointwise clause_eq)
clauses_equiv = lists_equiv (and_equiv (on_equiv (λ c. c.by_reference) bool_eq_equiv) (and_equiv (on_equiv (λ c. c.tag) (options_equiv nat_eq_equiv)) (on_equiv (λ c. c.label) nat_eq_equiv)))

pub clauses_per : IsPartialEquivalence (pointwise clause_eq)
clauses_per = partial_equiv_from_equiv clauses_equiv

-- a clause with these parts
abbrev pub clause_of : Bool × Option ℕ × ℕ → CatchClause ℕ
clause_of parts = record { by_reference = parts.0; tag = parts.1; label = parts.2 }
