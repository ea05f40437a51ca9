-- What a body is parsed from, as contracts see it.
use Rattle.std.specs.Prelude.{ℕ, ◌+◌, ◌≤◌, ◌<◌, ◌^◌, length, Result}
use Rattle.std.specs.Borrow.{Bor}
use Rattle.wasm_operators.specs.OperatorList.{Placed}
use Rattle.wasm_body.specs.Naming.{Environment}
use Rattle.walrus_maps.specs.Environments.{environment_of}
use Rattle.walrus_validators.specs.Locating.{MayCall}
use Rattle.walrus_parser.specs.declared.body_source.BodySource.{BodySource}
use Rattle.walrus_parser.specs.Bodies.{ParseInput, input_of}

-- the environment that names the parts of the body
abbrev pub source_environment : {F : Type 0} → BodySource F → Environment
source_environment s = environment_of s.«module».now s.indices.now s.function s.ty

-- the input of parsing it with this validator
abbrev pub source_input : {S F : Type 0} → BodySource F → (S → Placed → Result S ℕ) → S → ParseInput S F
source_input s check first = input_of s.«module».now s.indices.now s.function s.ty s.start s.ops.now s.on_instr_pos check first

-- Its places are not before the code section and are less than 2^64, and the location function, if there is one, may be called at
-- each of them.
pub record IsReadable {F : Type 0} (pre : F → Bor ℕ → Type 0) (s : BodySource F) : Type 0 where
  pub offset : s.«module».now.code_section_offset ≤ s.start
  pub fits : s.start + length s.ops.now < 2 ^ 64
  pub may_call : MayCall pre s.on_instr_pos s.start (s.start + length s.ops.now)
