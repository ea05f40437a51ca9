-- Operators that name other locals (WebAssembly core specification 3.0, section 3.4, variable instructions; a local is a number that the
-- function alone knows).
use Rattle.std.specs.Prelude.{◌≡◌, ℕ, Bool, true, List, map, slice_get}
use Rattle.std.specs.List.{AllByRecursion}
use Rattle.wasm_types.specs.declared.val_type.ValType.{ValType}
use Rattle.wasm_operators.specs.Operations.{Immediate, local}
use Rattle.walrus_ir.specs.Types.{Signature}
use Rattle.wasm_body.specs.Translation.{Located}
use Rattle.wasm_body.specs.Naming.{NamedOperation}
use Rattle.wasm_body.specs.NormalForm.{Typing}
use Rattle.wasm_body.specs.LocalNumbers.{locals_among}
use Rattle.wasm_body.specs.Validity.{IsValid}
use Rattle.wasm_typing.specs.Contexts.{OperandContext, contains}
use Rattle.wasm_typing.specs.StandardRules.{standard_rules}

abbrev pub renamed_immediate : (ℕ → ℕ) → Immediate ℕ Signature → Immediate ℕ Signature
renamed_immediate f (local n) = local (f n)
renamed_immediate f i = i

-- the same operator, with this local for each
abbrev pub renamed : (ℕ → ℕ) → NamedOperation → NamedOperation
renamed f o = record o { immediates = map (renamed_immediate f) o.immediates }

abbrev pub renamed_at : (ℕ → ℕ) → Located NamedOperation → Located NamedOperation
renamed_at f x = record x { op = renamed f x.op }

-- All locals that the operator names are among these.
abbrev pub Names : (ℕ → Type 0) → NamedOperation → Type 0
Names Used o = AllByRecursion Used (locals_among o.immediates)

-- the same module, in a function with these locals
abbrev pub context_with_locals : OperandContext → List (ValType ℕ) → OperandContext
context_with_locals c locals = record c { locals = locals }

-- Of the locals that are used, each has a number of its own in the other function, the same type there, and is initialised there if it is
-- here.
pub record Renames (used : ℕ → Bool) (f : ℕ → ℕ) (locals new_locals : List (ValType ℕ)) (initialised new_initialised : List ℕ) : Type 0 where
  pub apart : (n k : ℕ) → used n ≡ true → used k ≡ true → f n ≡ f k → n ≡ k
  pub types : (n : ℕ) → used n ≡ true → slice_get new_locals (f n) ≡ slice_get locals n
  pub same : (n : ℕ) → used n ≡ true → contains n initialised ≡ contains (f n) new_initialised

-- Where a body that names used locals alone is valid by the rules of the standard, so is the same body with other locals.
abbrev pub RenamedStayValid : Type 0
RenamedStayValid =
    (m : Typing) (c : OperandContext) (used : ℕ → Bool) (f : ℕ → ℕ) (locals : List (ValType ℕ)) (old new : List ℕ) → Renames used f c.locals locals old new →
    (results : List (ValType ℕ)) (xs : List (Located NamedOperation)) → AllByRecursion (λ x. Names (λ n. used n ≡ true) x.op) xs →
    IsValid m (standard_rules c) results old xs → IsValid m (standard_rules (context_with_locals c locals)) results new (map (renamed_at f) xs)
