-- Bytes and location pairs that are written aside, as contracts see them.
use Rattle.std.specs.Prelude.{ℕ, ◌+◌, Bool, List, [], ◌++◌, length}
use Rattle.wasm_operators.specs.Operations.{RawOperation}
use Rattle.wasm_body.specs.Translation.{Located}
use Rattle.walrus_emit_state.specs.Emission.{Output, output_after, pairs_after}

-- The output, the number of bytes before it, and whether pairs are kept.
pub record Drafted : Type 0 where
  pub base : ℕ
  pub has_map : Bool
  pub output : Output

-- with an operator after it
abbrev pub with_written : Drafted → Located RawOperation → Drafted
with_written d x = record d { output = output_after d.has_map d.base d.output x }

-- with the bytes of an operator after it, at a location
abbrev pub with_bytes : Drafted → List ℕ → ℕ → Drafted
with_bytes d bytes location = record d {
  output = record { bytes = d.output.bytes ++ bytes; pairs = pairs_after d.has_map d.base d.output location };
}

-- with this output in the place of its own
abbrev pub with_output : Drafted → Output → Drafted
with_output d output = record d { output = output }

-- nothing after what this one contains
abbrev pub moved_on : Drafted → Drafted
moved_on d = record { base = d.base + length d.output.bytes; has_map = d.has_map; output = record { bytes = []; pairs = [] } }
