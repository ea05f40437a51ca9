-- Operators with their ids, and with the slots of the sequences that their labels name.
use Rattle.std.specs.Prelude.{◌≡◌, ◌⊎◌, ℕ, Result, Ok, Err}
use Rattle.wasm_operators.specs.declared.types.RawCast.{RawCast}
use Rattle.wasm_operators.specs.Operations.{Cast, RawOperation}
use Rattle.wasm_operators.specs.ReferenceOperations.{cast_of}
use Rattle.wasm_body.specs.declared.error.ParseError.{ParseError}
use Rattle.wasm_body.specs.declared.error.ParseError.TheVariants.{Memory}
use Rattle.wasm_body.specs.Translation.{translate, translate_cast}
use Rattle.wasm_body.specs.InstructionTable.{PlacedOperation}
use Rattle.walrus_context.specs.OpenTrees.{OpenTrees, env_of}
use Rattle.walrus_context.specs.Placing.{placing}

-- an operator with its ids, and with the slots of the sequences that its labels name
abbrev pub placed_by : OpenTrees → RawOperation → Result PlacedOperation ParseError
placed_by c o = translate (placing (env_of c) c.frames) o

-- the immediates of a branch on a cast, in the same way
abbrev pub cast_by : OpenTrees → RawCast → Result (Cast ℕ) ParseError
cast_by c i = translate_cast (placing (env_of c) c.frames) (cast_of i)

-- The result, seen by `view`, is this one; or memory ran out.
abbrev pub GivesOrMemory : {A B : Type 0} → (A → B) → Result A ParseError → Result B ParseError → Type 0
GivesOrMemory view (Ok x) given = given ≡ Ok (view x)
GivesOrMemory view (Err e) given = (e ≡ Memory) ⊎ (given ≡ Err e)
