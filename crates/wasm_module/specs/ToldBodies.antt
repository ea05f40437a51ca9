-- What a listener is told while the bodies of a code section are written (WebAssembly core specification 3.0, binary format, code
-- section).
use Rattle.std.specs.Prelude.{◌≡◌, ◌+◌, ℕ, List, [], ◌∷◌, ◌++◌, length, Bool, if◌then◌else◌}
use Rattle.wasm_operators.specs.Shortest.{short_number}
use Rattle.wasm_body.specs.Pairs.{Pair}
use Rattle.wasm_sections.specs.CodeSections.{BodyAt, entry}
use Rattle.wasm_module.specs.declared.map_sink.WrittenBody.{WrittenBody}

-- A body that is written: the place of its first byte in the source, and in the module that is written; and the location pairs of
-- its operators, whose places are counted from the second.
pub record ToldBody : Type 0 where
  pub old_start : ℕ
  pub start : ℕ
  pub pairs : List Pair

-- what one call tells
abbrev pub told_by : WrittenBody → ToldBody
told_by w = record { old_start = w.old_start; start = w.start; pairs = w.pairs.now }

-- the pairs, if they are needed
abbrev pub if_needed : (needs : Bool) → List Pair → List Pair
if_needed needs pairs = if needs then pairs else []

-- of a body of the source, for which these bytes with these pairs are written, after their size, which is at this place
abbrev pub told_of : BodyAt → (place : ℕ) → (raw : List ℕ) → List Pair → ToldBody
told_of b place raw pairs = record { old_start = b.start; start = place + length (short_number (length raw)); pairs = pairs }

-- of all bodies of a code section, the first of which has its size at this place
abbrev pub told_entries : (place : ℕ) → List BodyAt → (raws : List (List ℕ)) → List (List Pair) → List ToldBody
told_entries place (b ∷ bs) (raw ∷ raws) (ps ∷ pss) = told_of b place raw ps ∷ told_entries (place + length (entry raw)) bs raws pss
told_entries place _ _ _ = []

-- These are the states of a listener, from one to the other of which it is told of a body, and whether it needs pairs.
module _ {L : Type 0} (records : L → L → ToldBody → Type 0) (needs : L → Bool) where
  -- It is told of a body that is written, with its pairs if it needs them.
  abbrev pub TellsOf : (before : L) → ToldBody → (after : L) → Type 0
  TellsOf before b after = records before after (record b { pairs = if_needed (needs before) b.pairs })

  -- It is told of these bodies, one after the other.
  abbrev pub IsTold : (before : L) → List ToldBody → (after : L) → Type 0
  IsTold before [] after = after ≡ before
  IsTold before (b ∷ bs) after = (next : L) × TellsOf before b next × IsTold next bs after

-- If it was told of a body with some of its pairs, from this state to that one it is told of more of them.
abbrev pub TellsMore : {L : Type 0} → (records : L → L → ToldBody → Type 0) → (before after : L) → (old_start start : ℕ) → (more : List Pair) → Type 0
TellsMore {L} records before after old_start start more =
    (first : L) (pairs : List Pair) → records first before (record { old_start = old_start; start = start; pairs = pairs }) →
    records first after (record { old_start = old_start; start = start; pairs = pairs ++ more })
