-- An environment and a context of the same module, whatever ids the locals have (WebAssembly core specification 3.0, section 3.1, contexts).
use Rattle.std.specs.Prelude.{◌≡◌, ℕ, Some, slice_get, Ok}
use Rattle.std.specs.Result.{result_ok}
use Rattle.walrus_ir.specs.Types.{Signature, signature_of}
use Rattle.wasm_operators.specs.declared.types.Space.{Space}
use Rattle.wasm_operators.specs.declared.types.Space.TheVariants.{Types, Tags}
use Rattle.wasm_body.specs.Naming.{Environment}
use Rattle.wasm_typing.specs.Contexts.{DefinedType, function_type_in}
use Rattle.wasm_context.specs.Validation.{BodyContext, tag_signature}

-- The environment is that of the module of the context: its ids are the indices. Each index of a type has the same function type in both, and
-- so has the type of each tag. The environment may have more types, which no index names.
pub record SharesModule (env : Environment) (c : BodyContext) : Type 0 where
  pub index : (space : Space) (n m : ℕ) → env.id_of space n ≡ Ok m → m ≡ n
  pub type : (n m : ℕ) → env.id_of Types n ≡ Ok m → (t : DefinedType) × (slice_get c.operands.types n ≡ Some t)
  pub function : (n m : ℕ) → env.id_of Types n ≡ Ok m → signature_of env.types n ≡ result_ok (function_type_in c.operands n)
  pub tags : env.tags ≡ c.tags
  pub tag_type : (tag n : ℕ) → slice_get c.tags tag ≡ Some n → signature_of env.types n ≡ result_ok (function_type_in c.operands n)
  pub tag : (n m : ℕ) → env.id_of Tags n ≡ Ok m → (s : Signature) × (tag_signature c n ≡ Ok s)

-- Each id of a local is that of one index, which is this.
abbrev pub HasIndices : Environment → (index_of : ℕ → ℕ) → Type 0
HasIndices env index_of = (n id : ℕ) → env.local_of n ≡ Ok id → index_of id ≡ n
