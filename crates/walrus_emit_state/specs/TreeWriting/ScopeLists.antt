-- The sequences that are to come and those that are open, as contracts see them.
use Rattle.std.specs.Prelude.{◌≡◌, ℕ, List, ◌∷◌, ◌++◌, Some}
use Rattle.walrus_emit_state.specs.declared.closing.Closer.{Closer}
use Rattle.walrus_emit_state.specs.declared.closing.SequenceScope.{SequenceScope}

-- the sequence in this slot, which this closes at a location
abbrev pub ending : ℕ → Closer → ℕ → SequenceScope
ending place closer location = record { place = place; closer = Some (closer, location) }

-- The sequences of a builder with `count` of them: those that are to come, the next one first, and those that are open, the
-- innermost first.
pub record ScopeLists : Type 0 where
  pub count : ℕ
  pub coming : List SequenceScope
  pub open_scopes : List SequenceScope

-- these are to come before the others
abbrev pub with_more : ScopeLists → List SequenceScope → ScopeLists
with_more s more = record s { coming = more ++ s.coming }

-- the next sequence is opened
pub record BeginsScope (old new : ScopeLists) : Type 0 where
  pub scope : SequenceScope
  pub rest : List SequenceScope
  pub was_next : old.coming ≡ scope ∷ rest
  pub is_open : new
      ≡ record { count = old.count; coming = rest; open_scopes = scope ∷ old.open_scopes }
