-- How programs end.
use Rattle.std.specs.Prelude.{◌≡◌, ℕ, List}
use Rattle.tool_words.specs.declared.ending.Attempt.{Attempt}
use Rattle.tool_words.specs.declared.ending.ProgramFailure.{ProgramFailure}
use Rattle.tool_words.specs.declared.ending.ProgramFailure.TheVariants.{UsageError, Refused, File, Memory}

-- the status of a program that ends so: 2 for wrong use, 1 for all else
abbrev pub status_of : ProgramFailure → ℕ
status_of (UsageError _) = 2
status_of (Refused _) = 1
status_of (File _ _ _) = 1
status_of Memory = 1

-- Memory ran out, or this can't be done with the file at this path.
abbrev pub IsMemoryOr : Attempt → (path : List ℕ) → ProgramFailure → Type 0
IsMemoryOr tried path (UsageError _) = ⊥
IsMemoryOr tried path (Refused _) = ⊥
IsMemoryOr tried path (File p t _) = (p.now ≡ path) × (t ≡ tried)
IsMemoryOr tried path Memory = Unit {0}
