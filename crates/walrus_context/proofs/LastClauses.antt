-- Adding a clause to the legacy `try` at the end of the frame around the innermost.
use Rattle.std.specs.Prelude.{◌≡◌, ◌≢◌, ◌≤◌, ◌+◌, ℕ, zero, suc, List, [], ◌∷◌, ◌++◌, length, take, drop, Bool, true, false, cond, Option, Some, None, option_map, slice_get, slice_set, Result, Ok, Err, OnOk, OnErr}
use Rattle.std.proofs.lemmas.List.{length-take, length-set, drop-set-lt, drop-append-le, take-append-le, set-get_or}
use Rattle.std.proofs.lemmas.Grind.{take-set_at}
use Rattle.std.proofs.lemmas.Option.{slice_get_within, get_or_from_slice_get}
use Rattle.std.proofs.Math.ListN.{drop_of_length-le}
use Rattle.std.proofs.Common.{append_assoc, refl, ap, sym, subst, ◌∙◌, arith}
use Rattle.walrus_ir.specs.declared.control.LegacyCatch.{LegacyCatch}
use Rattle.walrus_ir.specs.declared.control.Try.{Try}
use Rattle.walrus_ir.specs.declared.instr.Instr.{Instr}
use Rattle.walrus_ir.specs.declared.instr.Instr.TheVariants as instr
use Rattle.walrus_ir.specs.declared.seq.InstrSeq.{InstrSeq}
use Rattle.wasm_numbers.specs.Results.{◌>>=◌, some_or}
use Rattle.walrus_ir.specs.Unfolding.{LocatedInstr}
use Rattle.wasm_body.specs.declared.error.ParseError.{ParseError}
use Rattle.wasm_body.specs.declared.error.ParseError.TheVariants.{NoSuchLabel, NoTry}
use Rattle.walrus_context.specs.declared.frame.ControlFrame.{ControlFrame}
use Rattle.walrus_context.specs.OpenFrames.{OpenFrame, frame_with, changed_at, with_clause_in, with_last_clause, with_clause, with_clause_around}
use Rattle.walrus_context.specs.OpenTrees.{AreInArena}
use Rattle.walrus_context.specs.FrameStacks.{frames_in, StartFrom}
use Rattle.walrus_context.proofs.FrameStacks.{get, closed, starts_split, unchanged_at}

pub some_same : {A : Type 0} (x y : A) → Some x ≡ Some y → x ≡ y
some_same x y e = cc

set_same : {A : Type 0} (xs : List A) (i : ℕ) (x : A) → slice_get xs i ≡ Some x → slice_set xs i x ≡ xs
set_same xs i x at = ap (slice_set xs i) (sym (get_or_from_slice_get xs i x x at)) ∙ set-get_or xs i x

last_two : {A : Type 0} (xs : List A) (i : ℕ) (x y : A) → i + 2 ≡ length xs → slice_get xs i ≡ Some x → slice_get xs (suc i) ≡ Some y → xs ≡ take i xs ++ x ∷ y ∷ []
last_two [] i x y is at following = absurd cc
last_two (z ∷ xs) (suc i) x y is at following = ap (λ ys. z ∷ ys) (last_two xs i x y (omega arith) at following)
last_two (z ∷ []) zero x y is at following = absurd cc
last_two (z ∷ w ∷ []) zero x y is at following =
    let first : z ≡ x = cc in
    let second : w ≡ y = cc in
    ap (λ v. v ∷ w ∷ []) first ∙ ap (λ v. x ∷ v ∷ []) second
last_two (z ∷ w ∷ v ∷ xs) zero x y is at following = absurd (omega arith)

-- ---- the last instruction

map_twice : {A B C : Type 0} → (f : B → C) (g : A → B) (o : Option A) → option_map f (option_map g o) ≡ option_map (λ x. f (g x)) o
map_twice f g (Some x) = refl
map_twice f g None = refl

pub last_clause : (c : LegacyCatch) (front : List LocatedInstr) (x : LocatedInstr) → with_last_clause c (front ++ x ∷ []) ≡ option_map (λ y. front ++ y ∷ []) (with_clause_in c x)
last_clause c [] x = refl
last_clause c (z ∷ []) x = map_twice (λ ys. z ∷ ys) (λ y. y ∷ []) (with_clause_in c x)
last_clause c (z ∷ w ∷ front) x = ap (option_map (λ ys. z ∷ ys)) (last_clause c (w ∷ front) x) ∙ map_twice (λ ys. z ∷ ys) (λ y. w ∷ front ++ y ∷ []) (with_clause_in c x)

pub no_try : (c : LegacyCatch) (i : Instr) (location : ℕ) → ((t : Try) → i ≢ instr.Try t) → with_clause_in c (i, location) ≡ None
no_try c (instr.Try t) location other = absurd (other t refl)
no_try c _ location other = refl

-- ---- the frame around the innermost

module _ (c : LegacyCatch) where
  pub around : (fs : List OpenFrame) (f h : OpenFrame) → slice_get fs 1 ≡ Some f → with_clause c f ≡ Some h → with_clause_around c fs ≡ Ok (changed_at 1 (λ g. h) fs)
  around [] f h at is = absurd cc
  around (g ∷ []) f h at is = absurd cc
  around (g ∷ e ∷ fs) f h at is = let same : e ≡ f = cc in ap (λ o. some_or o NoTry >>= λ k. let r : Result (List OpenFrame) ParseError = Ok (g ∷ k ∷ fs) in r) (ap (with_clause c) same ∙ is)

  pub none_around : (fs : List OpenFrame) (f : OpenFrame) → slice_get fs 1 ≡ Some f → with_clause c f ≡ None → with_clause_around c fs ≡ Err NoTry
  none_around [] f at is = absurd cc
  none_around (g ∷ []) f at is = absurd cc
  none_around (g ∷ e ∷ fs) f at is = let same : e ≡ f = cc in ap (λ o. some_or o NoTry >>= λ k. let r : Result (List OpenFrame) ParseError = Ok (g ∷ k ∷ fs) in r) (ap (with_clause c) same ∙ is)

  pub few : (fs : List OpenFrame) → length fs ≤ 1 → with_clause_around c fs ≡ Err NoSuchLabel
  few [] l = refl
  few (f ∷ []) l = refl
  few (f ∷ g ∷ fs) l = absurd (omega arith)

  in_frame : (f : ControlFrame) (xs : List LocatedInstr) → f.unreachable ≡ false → with_clause c (frame_with f xs) ≡ option_map (λ ys. frame_with f ys) (with_last_clause c xs)
  in_frame f xs alive = ap (λ d. cond d (Some (frame_with f xs)) (option_map (λ ys. record (frame_with f xs) { instrs = ys }) (with_last_clause c xs))) alive

  in_unreachable : (f : ControlFrame) (xs : List LocatedInstr) → f.unreachable ≡ true → with_clause c (frame_with f xs) ≡ Some (frame_with f xs)
  in_unreachable f xs unreachable = ap (λ d. cond d (Some (frame_with f xs)) (option_map (λ ys. record (frame_with f xs) { instrs = ys }) (with_last_clause c xs))) unreachable

  -- an unreachable frame is unchanged
  pub passes : (all : List LocatedInstr) (cs : List ControlFrame) (i : ℕ) (f : ControlFrame) → 1 + i + 1 ≡ length cs → slice_get cs i ≡ Some f → f.unreachable ≡ true →
      with_clause_around c (frames_in all [] cs) ≡ Ok (frames_in all [] cs)
  passes all cs i f is at unreachable =
      let found = get all [] cs i 1 f is at in
      let frame = frame_with f found.0 in
      around (frames_in all [] cs) frame frame found.1 (in_unreachable f found.0 unreachable) ∙ ap Ok (unchanged_at (λ g. frame) (frames_in all [] cs) 1 frame found.1 refl)

  -- the two innermost frames, the innermost after the other
  module _ (all : List LocatedInstr) (cs : List ControlFrame) (i : ℕ) (f h : ControlFrame) (rise : StartFrom 0 cs (length all)) (is : i + 2 ≡ length cs) (at : slice_get cs i ≡ Some f) (following : slice_get cs (i + 1) ≡ Some h) where
    abbrev pub ds : List ControlFrame
    ds = take i cs

    ending : cs ≡ (ds ++ f ∷ []) ++ h ∷ []
    ending = last_two cs i f h is at (ap (slice_get cs) (let e : suc i ≡ i + 1 = omega arith in e) ∙ following) ∙ sym (append_assoc ds (f ∷ []) (h ∷ []))

    pub inside : StartFrom 0 (ds ++ f ∷ []) h.start × (h.start ≤ length all)
    inside = starts_split 0 (ds ++ f ∷ []) h (length all) (subst (λ k. StartFrom 0 k (length all)) ending rise)

    outside : StartFrom 0 ds f.start × (f.start ≤ h.start)
    outside = starts_split 0 ds f h.start inside.0

    pub two_inside : (xs : List LocatedInstr) → length xs ≡ length all →
        frames_in xs [] cs ≡ frame_with h (drop h.start xs) ∷ frame_with f (drop f.start (take h.start xs)) ∷ frames_in (take f.start (take h.start xs)) [] ds
    two_inside xs same =
        let high = inside.1 in
        let less = outside.1 in
        let l = length-take h.start xs in
        ap (frames_in xs []) ending
        ∙ closed xs [] (ds ++ f ∷ []) h 0 inside.0 (omega arith)
        ∙ ap (λ fs. frame_with h (drop h.start xs) ∷ fs) (closed (take h.start xs) [] ds f 0 outside.0 (omega arith))

    -- if the other has no instructions
    pub lacks : f.unreachable ≡ false → h.start ≤ f.start → with_clause_around c (frames_in all [] cs) ≡ Err NoTry
    lacks alive less =
        let l = length-take h.start all in
        let none : drop f.start (take h.start all) ≡ [] = drop_of_length-le (take h.start all) (omega arith) in
        let shown = two_inside all refl ∙ ap (λ xs. frame_with h (drop h.start all) ∷ frame_with f xs ∷ frames_in (take f.start (take h.start all)) [] ds) none in
        none_around (frames_in all [] cs) (frame_with f []) (ap (λ fs. slice_get fs 1) shown) (in_frame f [] alive)

    -- if it has some, and this is the last
    module _ (e : ℕ) (x : LocatedInstr) (ends : e + 1 ≡ h.start) (less : f.start ≤ e) (last : slice_get all e ≡ Some x) where
      abbrev with_last : LocatedInstr → List OpenFrame
      with_last y = frame_with h (drop h.start all) ∷ frame_with f (drop f.start (take e all) ++ y ∷ []) ∷ frames_in (take f.start (take e all)) [] ds

      shown : (y : LocatedInstr) → frames_in (slice_set all e y) [] cs ≡ with_last y
      shown y =
          let within = slice_get_within all e x last in
          let l = length-take e all in
          let low : f.start ≤ length (take e all) = omega arith in
          let front : take h.start (slice_set all e y) ≡ take e all ++ y ∷ [] = take-set_at all e h.start y (sym ends) within in
          let back : drop h.start (slice_set all e y) ≡ drop h.start all = drop-set-lt h.start all e y (omega arith) in
          two_inside (slice_set all e y) (length-set all e y)
          ∙ ap (λ xs. frame_with h xs ∷ frame_with f (drop f.start (take h.start (slice_set all e y))) ∷ frames_in (take f.start (take h.start (slice_set all e y))) [] ds) back
          ∙ ap (λ xs. frame_with h (drop h.start all) ∷ frame_with f (drop f.start xs) ∷ frames_in (take f.start xs) [] ds) front
          ∙ ap (λ xs. frame_with h (drop h.start all) ∷ frame_with f xs ∷ frames_in (take f.start (take e all ++ y ∷ [])) [] ds) (drop-append-le f.start (take e all) (y ∷ []) low)
          ∙ ap (λ xs. frame_with h (drop h.start all) ∷ frame_with f (drop f.start (take e all) ++ y ∷ []) ∷ frames_in xs [] ds) (take-append-le f.start (take e all) (y ∷ []) low)

      shown_before : frames_in all [] cs ≡ with_last x
      shown_before = ap (λ xs. frames_in xs [] cs) (sym (set_same all e x last)) ∙ shown x

      clause_there : f.unreachable ≡ false → with_clause c (frame_with f (drop f.start (take e all) ++ x ∷ [])) ≡ option_map (λ y. frame_with f (drop f.start (take e all) ++ y ∷ [])) (with_clause_in c x)
      clause_there alive =
          in_frame f (drop f.start (take e all) ++ x ∷ []) alive
          ∙ ap (option_map (λ ys. frame_with f ys)) (last_clause c (drop f.start (take e all)) x)
          ∙ map_twice (λ ys. frame_with f ys) (λ y. drop f.start (take e all) ++ y ∷ []) (with_clause_in c x)

      pub adds : (y : LocatedInstr) → f.unreachable ≡ false → with_clause_in c x ≡ Some y → with_clause_around c (frames_in all [] cs) ≡ Ok (frames_in (slice_set all e y) [] cs)
      adds y alive added =
          let given = clause_there alive ∙ ap (option_map (λ z. frame_with f (drop f.start (take e all) ++ z ∷ []))) added in
          ap (with_clause_around c) shown_before
          ∙ around (with_last x) (frame_with f (drop f.start (take e all) ++ x ∷ [])) (frame_with f (drop f.start (take e all) ++ y ∷ [])) refl given
          ∙ ap Ok (sym (shown y))

      pub has_none : f.unreachable ≡ false → with_clause_in c x ≡ None → with_clause_around c (frames_in all [] cs) ≡ Err NoTry
      has_none alive none =
          ap (with_clause_around c) shown_before
          ∙ none_around (with_last x) (frame_with f (drop f.start (take e all) ++ x ∷ [])) refl (clause_there alive ∙ ap (option_map (λ z. frame_with f (drop f.start (take e all) ++ z ∷ []))) none)

      pub stays : (y : LocatedInstr) → y ≡ x → frames_in (slice_set all e y) [] cs ≡ frames_in all [] cs
      stays y as_before = shown y ∙ ap with_last as_before ∙ sym shown_before

-- ---- frames that are in an arena

pub clause_kept : (c : LegacyCatch) (f h : OpenFrame) → with_clause c f ≡ Some h → h.sequence ≡ f.sequence
clause_kept c f h is = by_unreachable f.unreachable (with_last_clause c f.instrs) is
  where
    by_unreachable : (d : Bool) (o : Option (List LocatedInstr)) → cond d (Some f) (option_map (λ xs. record f { instrs = xs }) o) ≡ Some h → h.sequence ≡ f.sequence
    by_unreachable true o e = let same : f ≡ h = cc in ap (λ (g : OpenFrame). g.sequence) (sym same)
    by_unreachable false (Some xs) e = let same : record f { instrs = xs } ≡ h = cc in ap (λ (g : OpenFrame). g.sequence) (sym same)
    by_unreachable false None e = absurd cc

pub in_arena_with_clause : {E : Type 0} (arena : List InstrSeq) (c : LegacyCatch) (old new : List OpenFrame) (r : Result (Unit {0}) E) → OnOk r (with_clause_around c old ≡ Ok new) → OnErr r (new ≡ old) → AreInArena arena old → AreInArena arena new
in_arena_with_clause arena c old new (Err e) ok err h = subst (AreInArena arena) (sym err) h
in_arena_with_clause arena c [] new (Ok u) ok err h = absurd cc
in_arena_with_clause arena c (f ∷ []) new (Ok u) ok err h = absurd cc
in_arena_with_clause arena c (g ∷ f ∷ fs) new (Ok u) ok err h = by_clause (with_clause c f) refl ok
  where
    by_clause : (o : Option OpenFrame) → with_clause c f ≡ o → (some_or o NoTry >>= λ k. let r : Result (List OpenFrame) ParseError = Ok (g ∷ k ∷ fs) in r) ≡ Ok new → AreInArena arena new
    by_clause (Some k) e is =
        let same : g ∷ k ∷ fs ≡ new = cc in
        let kept = clause_kept c f k e in
        let low = h.1.0 in
        subst (AreInArena arena) same (h.0, (omega arith, h.1.1))
    by_clause None e is = absurd cc
