-- A rule that holds at each operator of a list holds, in another form, at each operator of a list whose operators have the same
-- names and do the same to the control flow.
use Rattle.std.proofs.Common.{◌≡◌, List, [], ◌∷◌, Option, Some, None, sym, ap, ◌∙◌}
use Rattle.wasm_body.specs.Control.{Marked}
use Rattle.wasm_body.specs.Frames.{SequenceFrame, FrameRule, moves}
use Rattle.wasm_body.proofs.Structure.ReadFrames.{Goes}
use Rattle.wasm_body.proofs.ReadBack.FrameNames.{map_frames, after_frames, moves_frames}

-- P is another condition on the two
pub record AreRelated {A B C : Type 0} (g : A → C) (h : B → C) (P : Marked A → Marked B → Type 0) (x : Marked A) (y : Marked B) : Type 0 where
  pub control : y.control ≡ x.control
  pub name : h y.shown ≡ g x.shown
  pub also : P x y

abbrev pub AllRelated : {A B C : Type 0} → (A → C) → (B → C) → (Marked A → Marked B → Type 0) → List (Marked A) → List (Marked B) → Type 0
AllRelated g h P [] [] = Unit {0}
AllRelated g h P [] (y ∷ ys) = ⊥
AllRelated g h P (x ∷ xs) [] = ⊥
AllRelated g h P (x ∷ xs) (y ∷ ys) = AreRelated g h P x y × AllRelated g h P xs ys

module _ {A B C : Type 0} (g : A → C) (h : B → C) (P : Marked A → Marked B → Type 0) (R : FrameRule A) (Q : FrameRule B)
    (given : (fs : List (SequenceFrame A)) (gs : List (SequenceFrame B)) (x : Marked A) (y : Marked B) → map_frames g fs ≡ map_frames h gs → R fs x → P x y → Q gs y) where
  -- the frames after the two have the same names
  frames_related : (fs : List (SequenceFrame A)) (gs : List (SequenceFrame B)) (x : Marked A) (y : Marked B) → map_frames g fs ≡ map_frames h gs → AreRelated g h P x y
      → after_frames g (moves x.control x.shown fs) ≡ after_frames h (moves y.control y.shown gs)
  frames_related fs gs x y e r =
      moves_frames g x.control x.shown fs
      ∙ (ap (moves x.control (g x.shown)) e
      ∙ (ap (λ c. moves x.control c (map_frames h gs)) (sym r.name)
      ∙ (ap (λ c. moves c (h y.shown) (map_frames h gs)) (sym r.control)
      ∙ sym (moves_frames h y.control y.shown gs))))

  pub goes_related : (fs : Option (List (SequenceFrame A))) (gs : Option (List (SequenceFrame B))) → after_frames g fs ≡ after_frames h gs
      → (xs : List (Marked A)) (ys : List (Marked B)) → AllRelated g h P xs ys → Goes R fs xs → Goes Q gs ys
  goes_related None gs e xs ys r o = absurd o
  goes_related (Some fs) None e xs ys r o = absurd cc
  goes_related (Some fs) (Some gs) e [] [] r o = tt
  goes_related (Some fs) (Some gs) e [] (y ∷ ys) r o = absurd r
  goes_related (Some fs) (Some gs) e (x ∷ xs) [] r o = absurd r
  goes_related (Some fs) (Some gs) e (x ∷ xs) (y ∷ ys) r o =
      let same : map_frames g fs ≡ map_frames h gs = cc in (
        given fs gs x y same o.0 r.0.also,
        goes_related (moves x.control x.shown fs) (moves y.control y.shown gs) (frames_related fs gs x y same r.0) xs ys r.1 o.1,
      )
