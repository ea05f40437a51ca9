-- The position of a reader.
use Rattle.std.specs.Prelude.{◌≡◌, ℕ, ◌+◌, ◌<◌, List, ◌++◌, length}

-- The remaining bytes, and the place of the first of them.
pub record Position : Type 0 where
  pub rest : List ℕ
  pub place : ℕ

-- The reader moves past the text.
pub record Moves (old : Position) (text : List ℕ) (new : Position) : Type 0 where
  pub parts : old.rest ≡ text ++ new.rest
  pub place : new.place ≡ old.place + length text

-- The reader has moved past at least one byte, and its place is that of the next one.
abbrev pub IsAfter : Position → Position → Type 0
IsAfter old new = (new.place + length new.rest ≡ old.place + length old.rest) × (length new.rest < length old.rest)
