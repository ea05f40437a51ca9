-- The form in contracts of instructions with lists: sequences with clauses, and branch tables.
use Rattle.std.specs.Prelude.{ℕ, List}

-- a sequence with clauses that catch the exceptions thrown in it
pub record Guarded (Clause : Type 0) : Type 0 where
  pub seq : ℕ
  pub catches : List Clause

-- the targets of a branch by index, and the target for all other indices
pub record Targets : Type 0 where
  pub blocks : List ℕ
  pub default : ℕ
