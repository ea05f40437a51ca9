-- Frames whose instructions are in one list, one frame after the other.
use Rattle.std.specs.Prelude.{◌≡◌, ℕ, zero, suc, ◌+◌, ◌-◌, ◌<◌, ◌≤◌, List, [], ◌∷◌, ◌++◌, length, take, drop, Some, slice_get, slice_set, Bool, true, false, cond}
use Rattle.std.specs.List.{AllByRecursion}
use Rattle.std.proofs.lemmas.List.{append-nil, reverse-append, take-append-drop, take-append-le, drop-append-le, take_all, length-take, length-drop, length-append}
use Rattle.std.proofs.Common.{append_assoc, reverse, refl, ap, sym, subst, ◌∙◌, arith}
use Rattle.walrus_ir.specs.Unfolding.{LocatedInstr}
use Rattle.walrus_context.specs.declared.frame.ControlFrame.{ControlFrame}
use Rattle.walrus_context.specs.OpenFrames.{OpenFrame, AreShown, ChangesAt, frame_with, changed_at, with_instr, InnerAreEmpty}
use Rattle.walrus_context.specs.FrameStacks.{part, begin_of, frames_in, StartFrom, moved_frame, moved_from}

-- ---- parts of lists

module _ {A : Type 0} (xs : List A) where
  part_none : (from to : ℕ) → to ≤ from → part xs from to ≡ []
  part_none from to less = ap (λ n. take n (drop from xs)) (let e : to - from ≡ 0 = omega arith in e)

  part_rest : (from : ℕ) → part xs from (length xs) ≡ drop from xs
  part_rest from = take_all (length xs - from) (drop from xs) (let l = length-drop from xs in omega arith)

part_front : {A : Type 0} (xs ys : List A) (from to : ℕ) → from ≤ to → to ≤ length xs → part (xs ++ ys) from to ≡ part xs from to
part_front xs ys from to less within =
    let l = length-drop from xs in
    ap (take (to - from)) (drop-append-le from xs ys (omega arith)) ∙ take-append-le (to - from) (drop from xs) ys (omega arith)

part_taken : {A : Type 0} (xs : List A) (s from to : ℕ) → from ≤ to → to ≤ s → s ≤ length xs → part (take s xs) from to ≡ part xs from to
part_taken xs s from to less within long =
    let l = length-take s xs in
    sym (part_front (take s xs) (drop s xs) from to less (omega arith)) ∙ ap (λ ys. part ys from to) (take-append-drop s xs)

-- ---- starts that don't decrease

starts_to : (low : ℕ) (cs : List ControlFrame) (end : ℕ) → StartFrom low cs end → low ≤ begin_of cs end
starts_to low [] end h = h
starts_to low (f ∷ fs) end h = h.0

end_within : (low : ℕ) (cs : List ControlFrame) (end : ℕ) → StartFrom low cs end → begin_of cs end ≤ end
end_within low [] end h = omega arith
end_within low (f ∷ fs) end h = let a = starts_to f.start fs end h.1 in let b = end_within f.start fs end h.1 in omega arith

-- one frame fewer, or one more
pub starts_split : (low : ℕ) (cs : List ControlFrame) (f : ControlFrame) (end : ℕ) → StartFrom low (cs ++ f ∷ []) end → StartFrom low cs f.start × (f.start ≤ end)
starts_split low [] f end h = (h.0, h.1)
starts_split low (g ∷ cs) f end h = let r = starts_split g.start cs f end h.1 in ((h.0, r.0), r.1)

pub starts_append : (low : ℕ) (cs : List ControlFrame) (f : ControlFrame) (end : ℕ) → StartFrom low cs end → f.start ≡ end → StartFrom low (cs ++ f ∷ []) end
starts_append low [] f end h e = (omega arith, omega arith)
starts_append low (g ∷ cs) f end h e = (h.0, starts_append g.start cs f end h.1 e)

begin_append : (cs : List ControlFrame) (f : ControlFrame) (end : ℕ) → begin_of (cs ++ f ∷ []) end ≡ begin_of cs f.start
begin_append [] f end = refl
begin_append (g ∷ cs) f end = refl

-- the first of some frames, when the others come after it
abbrev first_in : List LocatedInstr → List ControlFrame → ControlFrame → OpenFrame
first_in all fs f = frame_with f (part all f.start (begin_of fs (length all)))

-- ---- one more frame, or one fewer

pub opened : (all : List LocatedInstr) (outer : List OpenFrame) (cs : List ControlFrame) (f : ControlFrame) → f.start ≡ length all → frames_in all outer (cs ++ f ∷ []) ≡ frame_with f [] ∷ frames_in all outer cs
opened all outer [] f e = ap (λ xs. frame_with f xs ∷ outer) (part_none all f.start (length all) (omega arith))
opened all outer (g ∷ cs) f e =
    let same : begin_of (cs ++ f ∷ []) (length all) ≡ begin_of cs (length all) = begin_append cs f (length all) ∙ ap (begin_of cs) e in
    ap (λ n. frames_in all (frame_with g (part all g.start n) ∷ outer) (cs ++ f ∷ [])) same
    ∙ opened all (first_in all cs g ∷ outer) cs f e

pub closed : (all : List LocatedInstr) (outer : List OpenFrame) (cs : List ControlFrame) (f : ControlFrame) (low : ℕ) → StartFrom low cs f.start → f.start ≤ length all →
    frames_in all outer (cs ++ f ∷ []) ≡ frame_with f (drop f.start all) ∷ frames_in (take f.start all) outer cs
closed all outer [] f low h within = ap (λ xs. frame_with f xs ∷ outer) (part_rest all f.start)
closed all outer (g ∷ cs) f low h within =
    let s = f.start in
    let long : length (take s all) ≡ s = (let l = length-take s all in omega arith) in
    let a = starts_to g.start cs s h.1 in
    let b = end_within g.start cs s h.1 in
    let same : part all g.start (begin_of (cs ++ f ∷ []) (length all)) ≡ part (take s all) g.start (begin_of cs (length (take s all))) =
    ap (part all g.start) (begin_append cs f (length all)) ∙ sym (part_taken all s g.start (begin_of cs s) a b within) ∙ ap (λ n. part (take s all) g.start (begin_of cs n)) (sym long) in
    ap (λ xs. frames_in all (frame_with g xs ∷ outer) (cs ++ f ∷ [])) same
    ∙ closed all (first_in (take s all) cs g ∷ outer) cs f g.start h.1 within

-- ---- the n-th frame

begin_set : (cs : List ControlFrame) (i : ℕ) (f h : ControlFrame) (end : ℕ) → slice_get cs i ≡ Some f → h.start ≡ f.start → begin_of (slice_set cs i h) end ≡ begin_of cs end
begin_set [] i f h end at e = refl
begin_set (g ∷ cs) zero f h end at e = let same : g ≡ f = cc in e ∙ ap (λ x. x.start) (sym same)
begin_set (g ∷ cs) (suc i) f h end at e = refl

-- a frame with the same start as before
pub starts_set : (low : ℕ) (cs : List ControlFrame) (i : ℕ) (f h : ControlFrame) (end : ℕ) → slice_get cs i ≡ Some f → h.start ≡ f.start → StartFrom low cs end → StartFrom low (slice_set cs i h) end
starts_set low [] i f h end at e s = s
starts_set low (g ∷ cs) zero f h end at e s =
    let same : g ≡ f = cc in
    let is : h.start ≡ g.start = e ∙ ap (λ x. x.start) (sym same) in
    (let l = s.0 in omega arith, subst (λ k. StartFrom k cs end) (sym is) s.1)
starts_set low (g ∷ cs) (suc i) f h end at e s = (s.0, starts_set g.start cs i f h end at e s.1)

module _ (all : List LocatedInstr) where
  pub count : (outer : List OpenFrame) (cs : List ControlFrame) → length (frames_in all outer cs) ≡ length cs + length outer
  count outer [] = omega arith
  count outer (g ∷ cs) = let h = count (first_in all cs g ∷ outer) cs in omega arith

  get_outer : (outer : List OpenFrame) (cs : List ControlFrame) (k n : ℕ) → n ≡ length cs + k → slice_get (frames_in all outer cs) n ≡ slice_get outer k
  get_outer outer [] k n is = ap (slice_get outer) (let h : n ≡ k = omega arith in h)
  get_outer outer (g ∷ cs) k n is = get_outer (first_in all cs g ∷ outer) cs (suc k) n (omega arith)

  change_outer : (change : OpenFrame → OpenFrame) (outer : List OpenFrame) (cs : List ControlFrame) (k n : ℕ) → n ≡ length cs + k →
      changed_at n change (frames_in all outer cs) ≡ frames_in all (changed_at k change outer) cs
  change_outer change outer [] k n is = ap (λ i. changed_at i change outer) (let h : n ≡ k = omega arith in h)
  change_outer change outer (g ∷ cs) k n is = change_outer change (first_in all cs g ∷ outer) cs (suc k) n (omega arith)

  pub get : (outer : List OpenFrame) (cs : List ControlFrame) (i n : ℕ) (f : ControlFrame) → n + i + 1 ≡ length cs → slice_get cs i ≡ Some f →
      (xs : List LocatedInstr) × (slice_get (frames_in all outer cs) n ≡ Some (frame_with f xs))
  get outer [] i n f is at = absurd cc
  get outer (g ∷ cs) zero n f is at =
      let same : g ≡ f = cc in
      let xs = part all g.start (begin_of cs (length all)) in
      (xs, get_outer (frame_with g xs ∷ outer) cs 0 n (omega arith) ∙ ap (λ h. Some (frame_with h xs)) same)
  get outer (g ∷ cs) (suc i) n f is at = get (first_in all cs g ∷ outer) cs i n f (omega arith) at

  pub set_control : (change : OpenFrame → OpenFrame) (outer : List OpenFrame) (cs : List ControlFrame) (i n : ℕ) (f h : ControlFrame) → n + i + 1 ≡ length cs → slice_get cs i ≡ Some f → h.start ≡ f.start →
      ((xs : List LocatedInstr) → frame_with h xs ≡ change (frame_with f xs)) → frames_in all outer (slice_set cs i h) ≡ changed_at n change (frames_in all outer cs)
  set_control change outer [] i n f h is at e does = absurd cc
  set_control change outer (g ∷ cs) zero n f h is at e does =
      let same : g ≡ f = cc in
      let xs = part all g.start (begin_of cs (length all)) in
      ap (λ s. frames_in all (frame_with h (part all s (begin_of cs (length all))) ∷ outer) cs) (e ∙ ap (λ x. x.start) (sym same))
      ∙ ap (λ x. frames_in all (x ∷ outer) cs) (does xs ∙ ap (λ x. change (frame_with x xs)) (sym same))
      ∙ sym (change_outer change (frame_with g xs ∷ outer) cs 0 n (omega arith))
  set_control change outer (g ∷ cs) (suc i) n f h is at e does =
      ap (λ k. frames_in all (frame_with g (part all g.start k) ∷ outer) (slice_set cs i h)) (begin_set cs i f h (length all) at e)
      ∙ set_control change (first_in all cs g ∷ outer) cs i n f h (omega arith) at e does

  -- these open frames show the frames of the code, the innermost first
  shown_onto : (acc : List ControlFrame) (outer : List OpenFrame) (cs : List ControlFrame) → AreShown acc outer → AreShown (reverse cs ++ acc) (frames_in all outer cs)
  shown_onto acc outer [] h = h
  shown_onto acc outer (g ∷ cs) h =
      subst (λ xs. AreShown xs (frames_in all (first_in all cs g ∷ outer) cs))
      (sym (append_assoc (reverse cs) (g ∷ []) acc) ∙ ap (λ xs. xs ++ acc) (sym (reverse-append (g ∷ []) cs)))
      (shown_onto (g ∷ acc) (first_in all cs g ∷ outer) cs (record { is = refl }, h))

  pub all_shown : (cs : List ControlFrame) → AreShown (reverse cs) (frames_in all [] cs)
  all_shown cs = subst (λ xs. AreShown xs (frames_in all [] cs)) (append-nil (reverse cs)) (shown_onto [] [] cs tt)

-- the frames are unchanged by a change that does nothing to the n-th frame
pub unchanged_at : (change : OpenFrame → OpenFrame) (fs : List OpenFrame) (n : ℕ) (f : OpenFrame) → slice_get fs n ≡ Some f → change f ≡ f → changed_at n change fs ≡ fs
unchanged_at change [] n f at same = refl
unchanged_at change (g ∷ fs) zero f at same = let is : g ≡ f = cc in ap (λ x. x ∷ fs) (ap change is ∙ same ∙ sym is)
unchanged_at change (g ∷ fs) (suc n) f at same = ap (λ xs. g ∷ xs) (unchanged_at change fs n f at same)

-- ---- an instruction after all others, and the starts of the frames after it moved

-- frames that begin at the end of the list
abbrev pub AllAtEnd : ℕ → List ControlFrame → Type 0
AllAtEnd end cs = AllByRecursion (λ f. f.start ≡ end) cs

-- frames after the i-th that begin at the end of the list
abbrev pub LaterAtEnd : ℕ → ℕ → List ControlFrame → Type 0
LaterAtEnd end i [] = Unit {0}
LaterAtEnd end zero (f ∷ fs) = AllAtEnd end fs
LaterAtEnd end (suc i) (f ∷ fs) = LaterAtEnd end i fs

begin_at_end : (end : ℕ) (cs : List ControlFrame) → AllAtEnd end cs → begin_of cs end ≡ end
begin_at_end end [] h = refl
begin_at_end end (f ∷ fs) h = h.0

begin_moved : (end : ℕ) (cs : List ControlFrame) → AllAtEnd end cs → begin_of (moved_from 0 cs) (end + 1) ≡ end + 1
begin_moved end [] h = refl
begin_moved end (f ∷ fs) h = ap (λ n. n + 1) h.0

begin_stays : (end later : ℕ) (cs : List ControlFrame) (i : ℕ) → i < length cs → begin_of (moved_from (suc i) cs) later ≡ begin_of cs end
begin_stays end later [] i less = absurd (omega arith)
begin_stays end later (f ∷ fs) i less = refl

-- frames whose parts are empty
abbrev AllEmpty : List LocatedInstr → List ControlFrame → Type 0
AllEmpty all [] = Unit {0}
AllEmpty all (f ∷ fs) = (part all f.start (begin_of fs (length all)) ≡ []) × AllEmpty all fs

module _ (all : List LocatedInstr) where
  empty_at_end : (low : ℕ) (cs : List ControlFrame) → StartFrom low cs (length all) → AllEmpty all cs → AllAtEnd (length all) cs
  empty_at_end low [] h e = tt
  empty_at_end low (f ∷ fs) h e =
      let rest = empty_at_end f.start fs h.1 e.1 in
      let at = begin_at_end (length all) fs rest in
      let a = starts_to f.start fs (length all) h.1 in
      let none : drop f.start all ≡ [] = sym (part_rest all f.start) ∙ ap (part all f.start) (sym at) ∙ e.0 in
      let l = sym (length-drop f.start all) ∙ ap length none in
      ((let s : f.start ≡ length all = omega arith in s), rest)

  inner_empty : (outer : List OpenFrame) (cs : List ControlFrame) (j m : ℕ) → m ≡ length cs + j → InnerAreEmpty m (frames_in all outer cs) → InnerAreEmpty j outer × AllEmpty all cs
  inner_empty outer [] j m e h = (subst (λ k. InnerAreEmpty k outer) (let s : m ≡ j = omega arith in s) h, tt)
  inner_empty outer (f ∷ fs) j m e h =
      let r = inner_empty (first_in all fs f ∷ outer) fs (suc j) m (omega arith) h in
      (r.0.1, (r.0.0, r.1))

  pub later_at_end : (outer : List OpenFrame) (low : ℕ) (cs : List ControlFrame) (i n : ℕ) → n + i + 1 ≡ length cs → StartFrom low cs (length all) → InnerAreEmpty n (frames_in all outer cs) → LaterAtEnd (length all) i cs
  later_at_end outer low [] i n is h e = tt
  later_at_end outer low (g ∷ cs) zero n is h e = empty_at_end g.start cs h.1 (inner_empty (first_in all cs g ∷ outer) cs 0 n (omega arith) e).1
  later_at_end outer low (g ∷ cs) (suc i) n is h e = later_at_end (first_in all cs g ∷ outer) g.start cs i n (omega arith) h.1 e

  module _ (x : LocatedInstr) where
    longer : length (all ++ x ∷ []) ≡ length all + 1
    longer = length-append all (x ∷ [])

    -- the start of the frames after the frame that gets the instruction
    begin_later : (cs : List ControlFrame) → AllAtEnd (length all) cs → begin_of (moved_from 0 cs) (length (all ++ x ∷ [])) ≡ length all + 1
    begin_later cs h = ap (begin_of (moved_from 0 cs)) longer ∙ begin_moved (length all) cs h

    moved_inner : (outer : List OpenFrame) (cs : List ControlFrame) → AllAtEnd (length all) cs → frames_in (all ++ x ∷ []) outer (moved_from 0 cs) ≡ frames_in all outer cs
    moved_inner outer [] h = refl
    moved_inner outer (g ∷ cs) h =
        let at = h.0 in
        let here = begin_later cs h.1 in
        let there = begin_at_end (length all) cs h.1 in
        let none = part_none (all ++ x ∷ []) (g.start + 1) (begin_of (moved_from 0 cs) (length (all ++ x ∷ []))) (omega arith) in
        ap (λ xs. frames_in (all ++ x ∷ []) (frame_with g xs ∷ outer) (moved_from 0 cs)) (none ∙ sym (part_none all g.start (begin_of cs (length all)) (omega arith)))
        ∙ moved_inner (first_in all cs g ∷ outer) cs h.1

    -- the instruction is added to the frame after which all frames begin at the end of the list
    pub appended : (outer : List OpenFrame) (low : ℕ) (cs : List ControlFrame) (i n : ℕ) (g : ControlFrame) → n + i + 1 ≡ length cs → slice_get cs i ≡ Some g → g.unreachable ≡ false →
        StartFrom low cs (length all) → LaterAtEnd (length all) i cs → frames_in (all ++ x ∷ []) outer (moved_from (suc i) cs) ≡ changed_at n (with_instr x) (frames_in all outer cs)
    appended outer low [] i n g is at alive h e = absurd cc
    appended outer low (f ∷ cs) zero n g is at alive h e =
        let same : f ≡ g = cc in
        let live : f.unreachable ≡ false = ap (λ k. k.unreachable) same ∙ alive in
        let begins = starts_to f.start cs (length all) h.1 in
        let there = begin_at_end (length all) cs e in
        let within : f.start ≤ length all = omega arith in
        let old = part all f.start (begin_of cs (length all)) in
        let old_is : old ≡ drop f.start all = ap (part all f.start) there ∙ part_rest all f.start in
        let new_is : part (all ++ x ∷ []) f.start (begin_of (moved_from 0 cs) (length (all ++ x ∷ []))) ≡ old ++ x ∷ [] =
        ap (part (all ++ x ∷ []) f.start) (begin_later cs e ∙ sym longer) ∙ part_rest (all ++ x ∷ []) f.start ∙ drop-append-le f.start all (x ∷ []) within ∙ ap (λ xs. xs ++ x ∷ []) (sym old_is) in
        ap (λ xs. frames_in (all ++ x ∷ []) (frame_with f xs ∷ outer) (moved_from 0 cs)) new_is
        ∙ moved_inner (frame_with f (old ++ x ∷ []) ∷ outer) cs e
        ∙ ap (λ d. frames_in all (record (frame_with f old) { instrs = cond d old (old ++ x ∷ []) } ∷ outer) cs) (sym live)
        ∙ sym (change_outer all (with_instr x) (frame_with f old ∷ outer) cs 0 n (omega arith))
    appended outer low (f ∷ cs) (suc i) n g is at alive h e =
        let a = starts_to f.start cs (length all) h.1 in
        let b = end_within f.start cs (length all) h.1 in
        ap (λ k. frames_in (all ++ x ∷ []) (frame_with f (part (all ++ x ∷ []) f.start k) ∷ outer) (moved_from (suc i) cs)) (begin_stays (length all) (length (all ++ x ∷ [])) cs i (omega arith))
        ∙ ap (λ xs. frames_in (all ++ x ∷ []) (frame_with f xs ∷ outer) (moved_from (suc i) cs)) (part_front all (x ∷ []) f.start (begin_of cs (length all)) a b)
        ∙ appended (first_in all cs f ∷ outer) f.start cs i n g (omega arith) at alive h.1 e

all_moved : (low end : ℕ) (cs : List ControlFrame) → low ≤ end + 1 → AllAtEnd end cs → StartFrom low (moved_from 0 cs) (end + 1)
all_moved low end [] l e = l
all_moved low end (f ∷ fs) l e = let s = e.0 in (omega arith, all_moved (f.start + 1) end fs (omega arith) e.1)

pub starts_moved : (low end : ℕ) (cs : List ControlFrame) (i : ℕ) → StartFrom low cs end → LaterAtEnd end i cs → StartFrom low (moved_from (suc i) cs) (end + 1)
starts_moved low end [] i h e = omega arith
starts_moved low end (f ∷ fs) zero h e = let a = starts_to f.start fs end h.1 in let b = end_within f.start fs end h.1 in (h.0, all_moved f.start end fs (omega arith) e)
starts_moved low end (f ∷ fs) (suc i) h e = (h.0, starts_moved f.start end fs i h.1 e)

-- ---- moving, frame by frame

pub moved_none : (cs : List ControlFrame) (i : ℕ) → i ≡ length cs → moved_from i cs ≡ cs
moved_none [] i e = refl
moved_none (f ∷ fs) zero e = absurd (omega arith)
moved_none (f ∷ fs) (suc i) e = ap (λ l. f ∷ l) (moved_none fs i (omega arith))

moved_here : (cs : List ControlFrame) (i : ℕ) (f : ControlFrame) → slice_get (moved_from (suc i) cs) i ≡ Some f → slice_set (moved_from (suc i) cs) i (moved_frame f) ≡ moved_from i cs
moved_here [] i f e = refl
moved_here (g ∷ cs) zero f e = let same : g ≡ f = cc in ap (λ h. moved_frame h ∷ moved_from 0 cs) (sym same)
moved_here (g ∷ cs) (suc i) f e = ap (λ l. g ∷ l) (moved_here cs i f e)

moved_bound : (cs : List ControlFrame) (i low end : ℕ) (f : ControlFrame) → StartFrom low cs end → slice_get (moved_from (suc i) cs) i ≡ Some f → f.start ≤ end
moved_bound [] i low end f h e = absurd cc
moved_bound (g ∷ cs) zero low end f h e =
    let same : g ≡ f = cc in
    let a = starts_to g.start cs end h.1 in let b = end_within g.start cs end h.1 in
    let s = ap (λ k. k.start) same in omega arith
moved_bound (g ∷ cs) (suc i) low end f h e = moved_bound cs i g.start end f h.1 e

moved_length : (cs : List ControlFrame) (i : ℕ) → length (moved_from i cs) ≡ length cs
moved_length [] i = refl
moved_length (f ∷ fs) zero = ap suc (moved_length fs 0)
moved_length (f ∷ fs) (suc i) = ap suc (moved_length fs i)

-- one more frame is moved, before those that have been moved
module _ (xs cs : List ControlFrame) (k i : ℕ) (moving : cs ≡ moved_from k xs) (next : k ≡ suc i) where
  moving_on : cs ≡ moved_from (suc i) xs
  moving_on = moving ∙ ap (λ n. moved_from n xs) next

  pub same_count : length cs ≡ length xs
  same_count = ap length moving ∙ moved_length xs k

  module _ (f : ControlFrame) (at : slice_get cs i ≡ Some f) where
    there : slice_get (moved_from (suc i) xs) i ≡ Some f
    there = ap (λ l. slice_get l i) (sym moving_on) ∙ at

    pub one_moved : slice_set cs i (moved_frame f) ≡ moved_from i xs
    one_moved = ap (λ l. slice_set l i (moved_frame f)) moving_on ∙ moved_here xs i f there

    pub fits_moved : (end : ℕ) → StartFrom 0 xs end → f.start ≤ end
    fits_moved end h = moved_bound xs i 0 end f h there

-- ---- an instruction for one frame

-- It is dropped if the frame is unreachable.
pub dropped_at : (all : List LocatedInstr) (cs : List ControlFrame) (i n : ℕ) (f : ControlFrame) (x : LocatedInstr) → n + i + 1 ≡ length cs → slice_get cs i ≡ Some f → f.unreachable ≡ true →
    ChangesAt n (with_instr x) (frames_in all [] cs) (frames_in all [] cs)
dropped_at all cs i n f x is at unreachable =
    let long = count all [] cs in
    let found = get all [] cs i n f is at in
    let frame = frame_with f found.0 in
    (omega arith, sym (unchanged_at (with_instr x) (frames_in all [] cs) n frame found.1 (ap (λ d. record frame { instrs = cond d found.0 (found.0 ++ x ∷ []) }) unreachable)))

none_inside : (fs : List OpenFrame) → InnerAreEmpty 0 fs
none_inside [] = tt
none_inside (f ∷ fs) = tt

-- In the innermost frame it is the last of all, and no start moves.
pub appended_last : (all : List LocatedInstr) (cs : List ControlFrame) (i : ℕ) (f : ControlFrame) (x : LocatedInstr) → i + 1 ≡ length cs → slice_get cs i ≡ Some f → f.unreachable ≡ false → StartFrom 0 cs (length all) →
    ChangesAt 0 (with_instr x) (frames_in all [] cs) (frames_in (all ++ x ∷ []) [] cs)
appended_last all cs i f x is at alive starts =
    let long = count all [] cs in
    let following = later_at_end all [] 0 cs i 0 (omega arith) starts (none_inside (frames_in all [] cs)) in
    let same = moved_none cs (suc i) (omega arith) in
    (omega arith, ap (frames_in (all ++ x ∷ []) []) (sym same) ∙ appended all x [] 0 cs i 0 f (omega arith) at alive starts following)

-- The list may end later.
pub starts_before : (low end later : ℕ) (cs : List ControlFrame) → end ≤ later → StartFrom low cs end → StartFrom low cs later
starts_before low end later [] l h = omega arith
starts_before low end later (f ∷ fs) l h = (h.0, starts_before f.start end later fs l h.1)

-- a fact that holds however a test ends
pub either_way : {R : Type 0} (b : Bool) → (b ≡ true → R) → (b ≡ false → R) → R
either_way true t f = t refl
either_way false t f = f refl
