-- Which paths lead to one file, and why the files of a task are refused.
use Rattle.std.specs.Prelude.{◌≡◌, ◌⊎◌, ℕ, List, Option, Some, None}
use Rattle.std.specs.Option.{option_copied}
use Rattle.tool_words.specs.declared.ending.Attempt.TheVariants.{Write}
use Rattle.tool_words.specs.declared.ending.ProgramFailure.{ProgramFailure}
use Rattle.tool_words.specs.declared.ending.ProgramFailure.TheVariants as failure
use Rattle.tool_files.specs.declared.places.Place.{Place}
use Rattle.tool_words.specs.declared.task.Task.{Task}
use Rattle.tool_words.specs.declared.usage_error.UsageError.{UsageError}
use Rattle.tool_words.specs.declared.usage_error.UsageError.TheVariants.{SameFile}

-- Both lead to what has these numbers: a file that is there, or a name in a folder, where nothing is yet. The name of a file
-- that is there is empty.
abbrev pub IsSamePlace : Option Place → (name : List ℕ) → Option Place → (other_name : List ℕ) → Type 0
IsSamePlace None name b other_name = ⊥
IsSamePlace (Some a) name None other_name = ⊥
IsSamePlace (Some a) name (Some b) other_name = (a.device ≡ b.device) × (a.node ≡ b.node) × (name ≡ other_name)

-- a path of the task but the map's: that of the module that is written, or of the one that is read
abbrev pub IsOtherPath : Task → (path : List ℕ) → Type 0
IsOtherPath task path = (option_copied task.output ≡ Some path) ⊎ (path ≡ task.input.now)

-- the location map's path, and another of the task
abbrev pub ArePathsOf : Task → UsageError → Type 0
ArePathsOf task (SameFile map other) = (option_copied task.map ≡ Some map.now) × IsOtherPath task other.now
ArePathsOf task _ = ⊥

-- The map would go where another file of the task is, or it can't be written, or memory ran out.
abbrev pub IsRefusedTask : Task → ProgramFailure → Type 0
IsRefusedTask task (failure.UsageError wrong) = ArePathsOf task wrong
IsRefusedTask task (failure.Refused _) = ⊥
IsRefusedTask task (failure.File _ tried _) = tried ≡ Write
IsRefusedTask task failure.Memory = Unit {0}
