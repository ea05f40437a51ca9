-- The runs of a body while its operators are pushed, in the order in which they are written.
use Rattle.std.specs.Prelude.{◌≡◌, ℕ, suc, ◌+◌, ◌-◌, ◌<◌, ◌≤◌, List, length, slice_get, None, Some, unwrap_or, nat_lt, nat_le, ◌&&◌, ◌||◌}
use Rattle.code_moves.specs.declared.body.Body.{Body}
use Rattle.code_moves.specs.declared.body.LocalMove.{LocalMove}
use Rattle.code_moves.specs.declared.run.Run.{Run}
use Rattle.code_moves.specs.declared.runs.Runs.{Runs}
use Rattle.code_moves.specs.Moves.{new_place, ends_written, IsWrittenAt}

-- where that begins at the earliest which is added in front of the next operator of the source
abbrev pub limit : Runs → ℕ
limit built = unwrap_or built.added (suc built.last)

-- The operator of the source at the first address is written at the second.
abbrev pub IsWrittenSoFar : Runs → (old own : ℕ) → Type 0
IsWrittenSoFar built old own = IsWrittenAt built.runs.items (limit built) old own

-- where an address of the source goes, so far
abbrev pub place_so_far : Runs → (address : ℕ) → ℕ
place_so_far built a = new_place built.runs.items (limit built) a

-- the same body
abbrev pub IsOfSameBody : (before after : Runs) → Type 0
IsOfSameBody before after = (after.begin ≡ before.begin) × (after.new_begin ≡ before.new_begin)

-- Each operator that was pushed stays where it is written, and an address up to it goes where it went.
pub record KeepsOfCode (before after : Runs) : Type 0 where
  pub written : (old own : ℕ) → IsWrittenSoFar before old own → IsWrittenSoFar after old own
  pub places : (old own a : ℕ) → IsWrittenSoFar before old own → a ≤ old → place_so_far after a ≡ place_so_far before a

-- An operator that isn't of the source is pushed, written at this address.
pub record IsAddedNext (before after : Runs) (own : ℕ) : Type 0 where
  pub runs : after.runs.items ≡ before.runs.items
  pub added : after.added ≡ Some (unwrap_or before.added own)
  pub last : after.last ≡ own
  pub source : after.source ≡ before.source

-- The operator of the source from `old` to `end` is pushed, written at `own`. An address after those that were pushed before, up to
-- this one, goes to where what is added in front of it begins; and an operator that ends inside of it or at its end is written.
pub record IsWrittenNext (before after : Runs) (old end own : ℕ) : Type 0 where
  pub written : IsWrittenSoFar after old own
  pub front : (a : ℕ) → before.source < a → a ≤ old → place_so_far after a ≡ unwrap_or before.added own
  pub ends : (a : ℕ) → ends_written after.runs.items a ≡ (ends_written before.runs.items a || (nat_lt old a && nat_le a end))
  pub none_added : after.added ≡ None
  pub last : after.last ≡ own
  pub source : suc after.source ≡ end

-- nothing was pushed
pub record IsTheSame (before after : Runs) : Type 0 where
  pub runs : after.runs.items ≡ before.runs.items
  pub added : after.added ≡ before.added
  pub last : after.last ≡ before.last
  pub source : after.source ≡ before.source

-- The last run ends where the operator of the source from `old` to `end` begins, which is written at `own`, where the run would have
-- it next. With it, the run is this one.
pub record FollowsOfCode (built : Runs) (old end own : ℕ) (run : Run) : Type 0 where
  pub none_added : built.added ≡ None
  pub last : Run
  pub is_last : slice_get built.runs.items (length built.runs.items - 1) ≡ Some last
  pub ends : last.end ≡ old
  pub next : own ≡ last.own + (old - last.old)
  pub longer : run ≡ record last { end = end }

-- the body whose operators were pushed, with these ends, parameters and locals
pub record IsBodyOf (built : Runs) (end new_end parameters : ℕ) (locals : List LocalMove) (b : Body) : Type 0 where
  pub begins : (b.begin ≡ built.begin) × (b.new_begin ≡ built.new_begin)
  pub ends : (b.end ≡ end) × (b.new_end ≡ new_end)
  pub runs : b.runs.items ≡ built.runs.items
  pub kept : (b.parameters ≡ parameters) × (b.locals.items ≡ locals)

-- Each operator that was pushed is where it is written, and an address up to it goes where it went.
pub record KeepsInBody (built : Runs) (b : Body) : Type 0 where
  pub written : (old own : ℕ) → IsWrittenSoFar built old own → IsWrittenAt b.runs.items b.new_end old own
  pub places : (old own a : ℕ) → IsWrittenSoFar built old own → a ≤ old → new_place b.runs.items b.new_end a ≡ place_so_far built a
