-- What words ask of a program.
use Rattle.std.specs.Prelude.{◌≡◌, length, [], true, false, nat_lt, None}
use Rattle.tool_words.specs.declared.ending.ProgramFailure.{ProgramFailure}
use Rattle.tool_words.specs.declared.ending.ProgramFailure.TheVariants as failure
use Rattle.tool_words.specs.declared.arguments.Options.{Options}
use Rattle.tool_words.specs.declared.program.Program.{Program}
use Rattle.tool_words.specs.declared.task.Request.{Request}
use Rattle.tool_words.specs.declared.task.Request.TheVariants as request
use Rattle.tool_words.specs.declared.task.Task.{Task}

-- No file is written, but where the module goes.
pub record WritesNoFile (task : Task) : Type 0 where
  pub map : task.map ≡ None
  pub source_map : task.source_map ≡ None
  pub source_map_url : task.source_map_url ≡ None
  pub export : task.export ≡ None
  pub is_forced : task.is_forced ≡ false

-- Nothing is written but what is printed, and nothing is asked for that is for a module that is written.
pub record WritesNothing (task : Task) : Type 0 where
  pub files : WritesNoFile task
  pub sections : task.sections.items ≡ []

-- Functions are asked for of a program that takes them, and of no other, nor where they are listed; where they are listed no module is
-- written; and where no module is written, nothing is. Functions are kept only where what nothing reaches is left out, as a program
-- does that always does.
pub record IsTaskOf (program : Program) (task : Task) : Type 0 where
  pub functions : task.lists ≡ false → nat_lt 0 (length task.functions.items) ≡ program.takes_functions
  pub listed : task.lists ≡ true → task.functions.items ≡ []
  pub alone : task.lists ≡ true → task.output ≡ None
  pub output : task.output ≡ None → WritesNothing task
  pub collects : program.collects ≡ true → task.collects ≡ true
  pub kept : task.collects ≡ false → task.kept.items ≡ []

abbrev pub IsRequestOf : Program → Request → Type 0
IsRequestOf program request.Help = Unit {0}
IsRequestOf program request.Version = Unit {0}
IsRequestOf program (request.Task task) = IsTaskOf program task

-- The words are refused: they are wrong, or memory ran out.
abbrev pub IsRefusedRequest : ProgramFailure → Type 0
IsRefusedRequest (failure.UsageError _) = Unit {0}
IsRefusedRequest (failure.Refused _) = ⊥
IsRefusedRequest (failure.File _ _ _) = ⊥
IsRefusedRequest failure.Memory = Unit {0}

-- ---- as the code holds them

-- options of a task that writes nothing
pub record ChecksAlone (options : Options) : Type 0 where
  pub map : options.map ≡ None
  pub source_map : options.source_map ≡ None
  pub source_map_url : options.source_map_url ≡ None
  pub export : options.export ≡ None
  pub is_forced : options.is_forced ≡ false
