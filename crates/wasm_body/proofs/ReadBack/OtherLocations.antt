-- A body that is accepted is accepted with every location function, as a body of the same tree.
use Rattle.std.specs.Prelude.{◌≡◌, ℕ, List, [], ◌∷◌, map, true, Some, IsOk}
use Rattle.std.specs.List.{AllByRecursion}
use Rattle.std.proofs.Common.{refl, sym, ap, ◌∙◌, subst}
use Rattle.wasm_operators.specs.OperatorList.{Placed, Lists}
use Rattle.wasm_body.specs.Control.{Does, Opens, If, Try, Else, Catch, CatchAll, End, Delegate, Marked, with_control}
use Rattle.wasm_body.specs.SourceTree.{Sequence, Empty, Single, Wrapped, IfThen, IfElse, TryCatch, TryDelegate, Clauses, Ended, Catches, CatchesAll, construct_of, Body, body_text, map_sequence, map_clauses, map_body}
use Rattle.wasm_body.specs.Frames.{SequenceFrame, OfFunction, OfWrapper, Consequent, Alternative, TryBody, Handler, HandlerOfAll, FrameRule, Follows, FollowsIn, function_frames}
use Rattle.wasm_body.specs.Naming.{Environment, Occurrence}
use Rattle.wasm_body.specs.NormalForm.{typing_of, name_at, named_body}
use Rattle.wasm_body.specs.Parsing.Accepted.{placed, mark, IsNamed, has_location, location_at, validated}
use Rattle.wasm_body.specs.Parsing.Laws.{AnyLocations}
use Rattle.wasm_body.proofs.Structure.Mapped.{map_mark, text_mapped}
use Rattle.wasm_body.proofs.NormalForm.ByNames.{op_of, same_by_names}
use Rattle.wasm_body.proofs.ReadBack.FrameNames.{map_frame, map_frames, named_of, shapes, named_same}

-- ---- a rule along a tree with something else shown

module _ {A B : Type 0} (g : A → B) (R : FrameRule A) (S : FrameRule B) (keeps : (fs : List (SequenceFrame A)) (x : Marked A) → R fs x → S (map_frames g fs) (map_mark g x)) where
  mutual
    follows_mapped : (fs : List (SequenceFrame A)) (s : Sequence A) → Follows R fs s → Follows S (map_frames g fs) (map_sequence g s)
    follows_mapped fs Empty h = tt
    follows_mapped fs (Single a action r) h = (keeps fs (with_control a (Does action)) h.0, follows_mapped fs r h.1)
    follows_mapped fs (Wrapped a w b e r) h = (
      keeps fs (with_control a (Opens (construct_of w))) h.0,
      follows_mapped (OfWrapper a ∷ fs) b h.1,
      keeps (OfWrapper a ∷ fs) (with_control e End) h.2,
      follows_mapped fs r h.3,
    )
    follows_mapped fs (IfThen a b e r) h = (
      keeps fs (with_control a (Opens If)) h.0,
      follows_mapped (Consequent a ∷ fs) b h.1,
      keeps (Consequent a ∷ fs) (with_control e End) h.2,
      follows_mapped fs r h.3,
    )
    follows_mapped fs (IfElse a b l c e r) h = (
      keeps fs (with_control a (Opens If)) h.0,
      follows_mapped (Consequent a ∷ fs) b h.1,
      keeps (Consequent a ∷ fs) (with_control l Else) h.2,
      follows_mapped (Alternative a ∷ fs) c h.3,
      keeps (Alternative a ∷ fs) (with_control e End) h.4,
      follows_mapped fs r h.5,
    )
    follows_mapped fs (TryCatch a b cs r) h = (
      keeps fs (with_control a (Opens Try)) h.0,
      follows_mapped (TryBody a ∷ fs) b h.1,
      follows_in_mapped fs a (TryBody a) cs h.2,
      follows_mapped fs r h.3,
    )
    follows_mapped fs (TryDelegate a b e n r) h = (
      keeps fs (with_control a (Opens Try)) h.0,
      follows_mapped (TryBody a ∷ fs) b h.1,
      keeps (TryBody a ∷ fs) (with_control e (Delegate n)) h.2,
      follows_mapped fs r h.3,
    )

    follows_in_mapped : (fs : List (SequenceFrame A)) (a : A) (f : SequenceFrame A) (cs : Clauses A) → FollowsIn R fs a f cs → FollowsIn S (map_frames g fs) (g a) (map_frame g f) (map_clauses g cs)
    follows_in_mapped fs a f (Ended e) h = keeps (f ∷ fs) (with_control e End) h
    follows_in_mapped fs a f (Catches i t b cs) h = (
      keeps (f ∷ fs) (with_control i (Catch t)) h.0,
      follows_mapped (Handler a ∷ fs) b h.1,
      follows_in_mapped fs a (Handler a) cs h.2,
    )
    follows_in_mapped fs a f (CatchesAll i b e) h = (
      keeps (f ∷ fs) (with_control i CatchAll) h.0,
      follows_mapped (HandlerOfAll a ∷ fs) b h.1,
      keeps (HandlerOfAll a ∷ fs) (with_control e End) h.2,
    )

-- ---- the same operators at other locations

module _ (locate : ℕ → ℕ) where
  abbrev relocated : Occurrence → Occurrence
  relocated x = record x { location = locate x.place }

  same_places : (xs : List Occurrence) → map placed (map relocated xs) ≡ map placed xs
  same_places [] = refl
  same_places (x ∷ xs) = ap (λ l. placed x ∷ l) (same_places xs)

  have_locations : (xs : List Occurrence) → AllByRecursion (λ (x : Occurrence). has_location (Some locate) x.place ≡ true) (map relocated xs)
  have_locations [] = tt
  have_locations (x ∷ xs) = (refl, have_locations xs)

  are_located : (xs : List Occurrence) → AllByRecursion (λ (x : Occurrence). x.location ≡ location_at (Some locate) x.place) (map relocated xs)
  are_located [] = tt
  are_located (x ∷ xs) = (refl, are_located xs)

  same_marks : (xs : List Occurrence) → map mark (map relocated xs) ≡ map (map_mark relocated) (map mark xs)
  same_marks [] = refl
  same_marks (x ∷ xs) = ap (λ l. mark (relocated x) ∷ l) (same_marks xs)

  same_names : (xs : List (Marked Occurrence)) → map (map_mark op_of) (map (map_mark name_at) (map (map_mark relocated) xs)) ≡ map (map_mark op_of) (map (map_mark name_at) xs)
  same_names [] = refl
  same_names (x ∷ xs) = ap (λ l. map_mark op_of (map_mark name_at x) ∷ l) (same_names xs)

  same_frame : (f : SequenceFrame Occurrence) → map_frame named_of (map_frame relocated f) ≡ map_frame named_of f
  same_frame OfFunction = refl
  same_frame (OfWrapper a) = refl
  same_frame (Consequent a) = refl
  same_frame (Alternative a) = refl
  same_frame (TryBody a) = refl
  same_frame (Handler a) = refl
  same_frame (HandlerOfAll a) = refl

  same_shapes : (fs : List (SequenceFrame Occurrence)) → shapes (map_frames relocated fs) ≡ shapes fs
  same_shapes [] = refl
  same_shapes (f ∷ fs) =
      ap (λ x. x ∷ shapes (map_frames relocated fs)) (same_frame f) ∙ ap (λ l. map_frame named_of f ∷ l) (same_shapes fs)

  -- an operator has its name there too
  named_there : (env : Environment) (fs : List (SequenceFrame Occurrence)) (x : Marked Occurrence) → IsNamed env fs x → IsNamed env (map_frames relocated fs) (map_mark relocated x)
  named_there env fs x h = named_same env (map_frames relocated fs) fs x.shown.spelt (same_shapes fs) ∙ h

  relocated_text : (b : Body Occurrence) → body_text (map_body relocated b) ≡ map (map_mark relocated) (body_text b)
  relocated_text b = text_mapped relocated b.sequence (with_control b.close End ∷ [])

  same_tree : (b : Body Occurrence) → map (map_mark op_of) (body_text (named_body (map_body relocated b))) ≡ map (map_mark op_of) (body_text (named_body b))
  same_tree b =
      let names : (d : Body Occurrence) → body_text (named_body d) ≡ map (map_mark name_at) (body_text d) =
      λ d. text_mapped name_at d.sequence (with_control d.close End ∷ []) in
      ap (map (map_mark op_of)) (names (map_body relocated b) ∙ ap (map (map_mark name_at)) (relocated_text b))
      ∙ (same_names (body_text b) ∙ sym (ap (map (map_mark op_of)) (names b)))

pub any_locations : (V : Type 0) → AnyLocations V
any_locations V given bytes b a locate =
    let g = relocated locate in
    let xs = a.operators in
    let same = sym (same_places locate xs) in (
      map_body g b,
      record {
        operators = map g xs;
        all = record {
          spelt = subst (λ (ps : List Placed). Lists ps given.start bytes []) same a.all.spelt;
          have_locations = have_locations locate xs;
          located = are_located locate xs;
          passes = subst (λ (ps : List Placed). IsOk (validated given.check given.first ps)) same a.all.passes;
        };
        lawful = record {
          entry = a.lawful.entry;
          is_body = same_marks locate xs ∙ (ap (map (map_mark g)) a.lawful.is_body ∙ sym (relocated_text locate b));
          named = (
            follows_mapped g (IsNamed given.environment) (IsNamed given.environment) (named_there locate given.environment) function_frames b.sequence a.lawful.named.0,
            named_there locate given.environment function_frames (with_control b.close End) a.lawful.named.1,
          );
        };
      },
      same_by_names (typing_of given.environment) (named_body (map_body g b)) (named_body b) (same_tree locate b),
    )
