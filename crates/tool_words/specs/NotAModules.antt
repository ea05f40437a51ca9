-- What a file is that isn't a module.
use Rattle.std.specs.Prelude.{◌==◌, ℕ, Bool, List, [], ◌∷◌}

-- the bytes with which a component begins: `\0asm`, the version 13, and the layer 1
abbrev pub component_front : List ℕ
component_front = 0 ∷ 97 ∷ 115 ∷ 109 ∷ 13 ∷ 0 ∷ 1 ∷ 0 ∷ []

-- two bytes are the same
abbrev pub same_byte : ℕ → ℕ → Bool
same_byte a b = a == b
