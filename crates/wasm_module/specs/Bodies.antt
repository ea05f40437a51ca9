-- Bodies of functions in a module.
use Rattle.std.specs.Prelude.{◌≤◌, ◌<◌, ◌+◌, ◌^◌, length}
use Rattle.walrus_parser.specs.declared.body.FunctionBody.{FunctionBody}

-- The operators begin within the body's bytes, whose places fit 64 bits.
pub record IsWithinBytes (body : FunctionBody) : Type 0 where
  pub ops : body.ops ≤ length body.bytes.now
  pub fits : body.start + length body.bytes.now < 2 ^ 64
