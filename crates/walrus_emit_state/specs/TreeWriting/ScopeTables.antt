-- The sequences that are to come and those that are open while a tree is written, with a table of the levels of the open ones.
use Rattle.std.specs.Prelude.{◌≡◌, ◌<◌, ℕ, List, [], ◌∷◌, ◌++◌, length, map, reverse, Option, None, Some, ◌==◌, if◌then◌else◌, slice_index_or, Result}
use Rattle.wasm_body.specs.declared.error.EmitError.{EmitError}
use Rattle.wasm_numbers.specs.Results.{◌>>=◌}
use Rattle.wasm_body.specs.Bytes.{in_32_bits}
use Rattle.wasm_body.specs.FlatText.{depth_of}
use Rattle.wasm_body.specs.TreeOfFunction.{target_in}
use Rattle.walrus_emit_state.specs.declared.closing.SequenceScope.{SequenceScope}
use Rattle.walrus_emit_state.specs.declared.open_scopes.EnteredScope.{EnteredScope}
use Rattle.walrus_emit_state.specs.TreeWriting.Closers.{places_of}

-- The level of a slot: how many sequences are around the innermost one in it. The sequences in these slots are open, innermost
-- first.
abbrev pub level_in : List ℕ → ℕ → Option ℕ
level_in [] place = None
level_in (p ∷ ps) place = if place == p then Some (length ps) else level_in ps place

-- the open sequences, innermost last, each with the level of its slot among those around it
abbrev pub entered_at : List SequenceScope → List EnteredScope
entered_at [] = []
entered_at (s ∷ ss) =
    entered_at ss ++ record { scope = s; before = level_in (places_of ss) s.place } ∷ []

-- the sequences that were entered, innermost first
abbrev pub opened_in : List EnteredScope → List SequenceScope
opened_in es = reverse (map (λ (e : EnteredScope). e.scope) es)

-- each is in a builder with `count` sequences
abbrev pub AreKnown : ℕ → List SequenceScope → Type 0
AreKnown count [] = Unit {0}
AreKnown count (s ∷ ss) = (s.place < count) × AreKnown count ss

-- The table has the level of each slot, and each sequence that is to come exists.
pub record IsScopeTable (levels : List (Option ℕ)) (coming : List SequenceScope) (entered : List EnteredScope)
    : Type 0 where
  pub levels_are : (place : ℕ)
      → slice_index_or levels place None ≡ level_in (places_of (opened_in entered)) place
  pub entered_are : entered ≡ entered_at (opened_in entered)
  pub are_known : AreKnown (length levels) (reverse coming)

-- the depth of a slot, as it is written
abbrev pub depth_in : List ℕ → ℕ → Result ℕ EmitError
depth_in around place = depth_of (target_in around place) >>= in_32_bits
