-- The instructions of operators as they are read: an old index becomes an id, a label the slot of its sequence, and an exponent
-- a number of bytes.
use Rattle.std.specs.Prelude.{ℕ, ◌^◌, List, drop, length, nat_lt, Bool, true, false, slice_get, Result, Ok}
use Rattle.walrus_ir.specs.declared.control.BlockKind.{BlockKind}
use Rattle.walrus_ir.specs.declared.control.BlockKind.TheVariants as kind
use Rattle.wasm_operators.specs.declared.types.BlockType.{BlockType}
use Rattle.wasm_operators.specs.declared.types.Space.{Space}
use Rattle.walrus_maps.specs.declared.indices_to_ids.IndicesToIds.{IndicesToIds}
use Rattle.walrus_maps.specs.IndexMaps.{id_of}
use Rattle.wasm_body.specs.declared.error.ParseError.{ParseError}
use Rattle.wasm_body.specs.declared.error.ParseError.TheVariants.{NoSuchLabel, RethrowOutsideHandler, Index}
use Rattle.wasm_numbers.specs.Results.{◌>>=◌, some_or, unless, with_fault}
use Rattle.wasm_body.specs.Translation.{Translation, keeping_numbers}
use Rattle.wasm_body.specs.Naming.{Environment, id_at, name_block}
use Rattle.walrus_context.specs.OpenFrames.{OpenFrame}
use Rattle.walrus_context.specs.Keeping.{slots}

-- the id of an old index
abbrev pub ids_at : IndicesToIds → Space → ℕ → Result ℕ ParseError
ids_at indices space n = with_fault Index (id_of indices space n)

-- the slot of the sequence that a label names
abbrev pub place_at : List OpenFrame → ℕ → Result ℕ ParseError
place_at fs n = some_or (slice_get (slots fs) n) NoSuchLabel

-- whether the sequence is a handler of a legacy `try`
abbrev pub is_handler_kind : BlockKind → Bool
is_handler_kind kind.Catch = true
is_handler_kind kind.CatchAll = true
is_handler_kind _ = false

-- the kind of the sequence that a depth names
abbrev pub kind_at : List OpenFrame → ℕ → Result BlockKind ParseError
kind_at fs n = some_or (slice_get fs n) NoSuchLabel >>= λ f. Ok f.kind

-- the depth of a `rethrow`, which must name a handler
abbrev pub handler_in : List OpenFrame → ℕ → Result ℕ ParseError
handler_in fs n = kind_at fs n >>= λ k. unless (is_handler_kind k) RethrowOutsideHandler >>= λ u. Ok n

-- the depth of a `delegate`, which counts from outside the innermost construct
abbrev pub depth_around : List OpenFrame → ℕ → Result ℕ ParseError
depth_around fs n = unless (nat_lt n (length (drop 1 fs))) NoSuchLabel >>= λ u. Ok n

-- success if the types in a block type exist, and the type that it names, if any, is a function type
abbrev pub block_found : Environment → BlockType → Result (Unit {0}) ParseError
block_found env b = name_block env b >>= λ s. Ok tt

-- the translation while these frames are open, innermost first
abbrev pub placing : Environment → List OpenFrame → Translation ℕ BlockType ℕ (Unit {0}) ParseError
placing env fs = record (keeping_numbers (place_at fs) (block_found env) (λ e. 2 ^ e)) {
  index = id_at env;
  local = λ n. with_fault Index (env.local_of n);
  handler = handler_in fs;
  outer = depth_around fs;
}
