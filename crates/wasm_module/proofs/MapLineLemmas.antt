-- The lines of a location map, which are gathered in a buffer before they are written; and the map of all bodies.
use Rattle.std.proofs.Common.{◌≡◌, ℕ, ◌+◌, ◌<◌, true, List, [], ◌∷◌, ◌++◌, length, take, get_or, Option, refl, sym, ap, subst, ◌∙◌, append_assoc}
use Rattle.std.proofs.lemmas.List.{append-nil, take_more}
use Rattle.std.specs.Io.KnownBytes.{Appends}
use Rattle.wasm_body.specs.Pairs.{Pair}
use Rattle.wasm_module.specs.MapText.{pair_line, pair_lines, body_lines, map_lines}
use Rattle.wasm_module.specs.ToldBodies.{ToldBody, IsTold}
use Rattle.wasm_module.specs.Pieces.{appends_then, appends_nothing, lines_more}

-- The lines of the first pairs are written, but for those that are still in the buffer.
pub record LinesSoFar (start : ℕ) (pairs : List Pair) (count : ℕ) (buffer : List ℕ) (end : ℕ) (old now : Option (List ℕ)) : Type 0 where
  pub written : List ℕ
  pub appends : Appends old now written
  pub lines : written ++ take end buffer ≡ pair_lines start (take count pairs)

pub no_lines : (start : ℕ) (pairs : List Pair) (buffer : List ℕ) (known : Option (List ℕ)) → LinesSoFar start pairs 0 buffer 0 known known
no_lines start pairs buffer known = record { written = []; appends = appends_nothing known; lines = refl }

pub one_more_pair :
    (start : ℕ) (pairs : List Pair) (count : ℕ) (before after : List ℕ) (at end : ℕ) (old now : Option (List ℕ)) (pair : Pair) → LinesSoFar start pairs count before at old now →
    count < length pairs → pair ≡ get_or pairs count pair → take end after ≡ take at before ++ pair_line start pair → LinesSoFar start pairs (count + 1) after end old now
one_more_pair start pairs count before after at end old now pair h some is line =
    let more : take (count + 1) pairs ≡ take count pairs ++ pair ∷ [] =
    take_more pairs count pair some ∙ ap (λ (p : Pair). take count pairs ++ p ∷ []) (sym is) in
    record {
      written = h.written;
      appends = h.appends;
      lines =
          ap (λ (l : List ℕ). h.written ++ l) line ∙ sym (append_assoc h.written (take at before) (pair_line start pair))
          ∙ ap (λ (l : List ℕ). l ++ pair_line start pair) h.lines
          ∙ ap (λ (l : List ℕ). pair_lines start (take count pairs) ++ l) (sym (append-nil (pair_line start pair)))
          ∙ sym (lines_more start (take count pairs) (pair ∷ [])) ∙ ap (pair_lines start) (sym more);
    }

-- what is in the buffer is written
pub lines_out :
    (start : ℕ) (pairs : List Pair) (count : ℕ) (buffer : List ℕ) (end : ℕ) (old now later : Option (List ℕ)) → LinesSoFar start pairs count buffer end old now →
    Appends now later (take end buffer) → LinesSoFar start pairs count buffer 0 old later
lines_out start pairs count buffer end old now later h a = record {
  written = h.written ++ take end buffer;
  appends = appends_then old now later h.written (take end buffer) h.appends a;
  lines = append-nil (h.written ++ take end buffer) ∙ h.lines;
}

-- The map of all bodies of which the writer of a map was told. These are what its own writer contains, and which one that is.
pub lines_told :
    {L N : Type 0} (known : L → Option (List ℕ)) (name : L → N) (before : L) (bs : List ToldBody) (after : L) →
    IsTold (λ a b body. (name b ≡ name a) × Appends (known a) (known b) (body_lines body)) (λ s. true) before bs after →
    (name after ≡ name before) × Appends (known before) (known after) (map_lines bs)
lines_told {L} known name before [] after h =
    (ap name h, subst (λ (s : L). Appends (known before) (known s) []) (sym h) (appends_nothing (known before)))
lines_told {L} known name before (b ∷ bs) after h =
    let others = lines_told known name h.0 bs after h.2 in
    (others.0 ∙ h.1.0, appends_then (known before) (known h.0) (known after) (body_lines b) (map_lines bs) h.1.1 others.1)
