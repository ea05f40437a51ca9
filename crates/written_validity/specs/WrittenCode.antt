-- What is written of a valid body is valid, as bytes, by the definition that `validate_code` decides (WebAssembly core specification 3.0,
-- sections 3.4, expressions, 5.5.13, code section, and the appendix, validation algorithm).
use Rattle.std.specs.Prelude.{◌≡◌, ◌<◌, ◌≤◌, ℕ, List, ◌++◌, length, map, take, slice_get, IsOk, Ok}
use Rattle.std.specs.Result.{result_unwrap_or}
use Rattle.wasm_types.specs.declared.val_type.ValType.{ValType}
use Rattle.wasm_operators.specs.declared.types.Space.{Space}
use Rattle.wasm_body.specs.LocalNumbers.{spread}
use Rattle.wasm_body.specs.LocationLaws.{BalanceAlike}
use Rattle.wasm_body.specs.Naming.{Environment, Occurrence}
use Rattle.wasm_body.specs.NormalForm.{typing_of, body_tree}
use Rattle.wasm_body.specs.Pairs.{Pair}
use Rattle.wasm_body.specs.Parsing.Accepted.{Setting, Accepted}
use Rattle.wasm_body.specs.SourceTree.{Body}
use Rattle.wasm_validation.specs.BodyValidation.{BodySetting, IsValidCode}
use Rattle.renamed_locals.specs.RenamedLocals.{context_with_locals}
use Rattle.renamed_locals.specs.DeclaredLocals.{parameter_indices}
use Rattle.walrus_rewrite.specs.RawBodies.{EmitInput, IsRawBody}
use Rattle.written_validity.specs.SharedModules.{SharesModule, HasIndices}

-- What a body with these declarations is validated against: the same module, parameters and results. Its locals are the parameters, and then
-- those that are declared.
abbrev pub setting_with_declared : BodySetting → (declarations : List (ℕ × ValType ℕ)) → BodySetting
setting_with_declared g ds =
    let locals = take g.parameters g.context.operands.locals ++ spread ds in
    record g { context = record g.context { operands = context_with_locals g.context.operands locals } }

-- the id of a local, by its index
abbrev pub id_of_local : Environment → ℕ → ℕ
id_of_local env n = result_unwrap_or (env.local_of n) 0

-- A body that is validated so is read, and written, in the same module and for the same function: each number leads back to its id, and the
-- same types are balanced; each local has an id of its own, with its type, and the arguments are the ids of the parameters.
pub record IsWrittenWhereValid (env : Environment) (g : BodySetting) (by : EmitInput) : Type 0 where
  pub is_module : SharesModule env g.context
  pub numbers : (space : Space) (id n : ℕ) → by.to.number_of space id ≡ Ok n → env.id_of space n ≡ Ok id
  pub balanced : BalanceAlike (typing_of env) by.to
  pub index_of : ℕ → ℕ
  pub indices : HasIndices env index_of
  pub types : (n id : ℕ) → env.local_of n ≡ Ok id → slice_get by.types id ≡ slice_get g.context.operands.locals n
  pub parameters : g.parameters ≤ length g.context.operands.locals
  pub have_ids : (n : ℕ) → n < g.parameters → IsOk (env.local_of n)
  pub args : by.args ≡ map (id_of_local env) (parameter_indices g.parameters)

-- If the bytes of an accepted body are valid code, the operators that are written for it are valid code with the locals that are declared for
-- it, from any places on.
abbrev pub WrittenIsValid : Type 0 → Type 0
WrittenIsValid V =
    (given : Setting V) (source : List ℕ) (b : Body Occurrence) → Accepted given source b →
    (g : BodySetting) (by : EmitInput) → IsWrittenWhereValid given.environment g by → (place : ℕ) → IsValidCode g place source →
    (raw : List ℕ) (pairs : List Pair) (w : IsRawBody by (body_tree given.environment b) raw pairs) (start : ℕ) →
    IsValidCode (setting_with_declared g w.declarations) start w.operators
