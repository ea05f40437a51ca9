-- Operations as the code has them.
use Rattle.std.specs.Prelude.{ℕ, List, Option, Some, None}
use Rattle.dwarf_expressions.specs.declared.reading.Simple.{Simple}
use Rattle.dwarf_expressions.specs.Expressions.{Simple as AnOperation, local, other}

abbrev pub expression_named : (code : ℕ) (bytes : List ℕ) → Option ℕ → AnOperation
expression_named code bytes None = other code bytes
expression_named code bytes (Some index) = local index

abbrev pub simple_of : Simple → AnOperation
simple_of s = expression_named s.code s.bytes.now s.local
