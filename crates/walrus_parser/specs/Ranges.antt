-- The places of a body.
use Rattle.std.specs.Prelude.{ℕ, ◌-◌, ◌+◌, length}
use Rattle.std.specs.declared.ops.Range.{Range}
use Rattle.walrus_parser.specs.declared.body.FunctionBody.{FunctionBody}

-- the places of a body's bytes, less an offset
abbrev pub range_of : FunctionBody → (offset : ℕ) → Range ℕ
range_of body offset = record { start = body.start - offset; end = body.start + length body.bytes.now - offset }
