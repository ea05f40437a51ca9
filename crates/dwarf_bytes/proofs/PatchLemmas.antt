-- The patches of a section, as parts that are replaced.
use Rattle.std.proofs.Common.{◌≡◌, ℕ, zero, suc, ◌+◌, ◌-◌, ◌<◌, ◌≤◌, Bool, true, false, leb, eqb, Some, None, List, [], ◌∷◌, ◌++◌, length, take, drop, get_or, slice_range, refl, sym, ap, ◌∙◌, subst, append_assoc, length-append, arith}
use Rattle.std.specs.Prelude.{slice_get}
use Rattle.std.proofs.lemmas.Bool.{le-leb, lt-leb, leb-true, leb-false, eq-eqb, ne_eqb}
use Rattle.std.specs.List.Sorted.{IsNonDecreasingBy, IsPartitionPoint}
use Rattle.std.proofs.lemmas.List.{take-append-le, drop-append-le, drop_at, take_all, length-drop, length-take, length-take-le, get_or-take, drop_more, drop_all}
use Rattle.dwarf_bytes.specs.Changes.{SectionChange, AreChangesInOrder, end_from, patched_from, moved_offset_from, are_resized}
use Rattle.dwarf_bytes.specs.declared.patches.Patch.{Patch}
use Rattle.dwarf_bytes.specs.Order.{IsCut, IsPatchFrom, ArePatches, no_patch, last_of}
use Rattle.dwarf_bytes.specs.Patches.{changes_from, part_of}

-- the patches follow this one
abbrev pub Follow : Patch → List Patch → ℕ → Type 0
Follow p ps len = ArePatches p.stop p.end p.replaced ps len

pub last_is : (p : Patch) (ps : List Patch) (d : Patch) → 0 < length ps → last_of p ps ≡ get_or ps (length ps - 1) d
last_is p [] d some = absurd (omega arith)
last_is p (q ∷ []) d some = refl
last_is p (q ∷ r ∷ ps) d some =
    let k : suc (suc (length ps)) - 1 ≡ suc (suc (length ps) - 1) = omega arith in
    rw k (last_is q (r ∷ ps) d (omega arith))

stop_is : (p q : Patch) → IsPatchFrom p.stop p.end p.replaced q → q.at + (q.stop - q.at) ≡ q.stop
stop_is p q h = omega (arith, h)

pub end_is : (p : Patch) (ps : List Patch) (bytes : List ℕ) (len : ℕ) → Follow p ps len → end_from p.stop (changes_from p.end ps bytes) ≡ (last_of p ps).stop
end_is p [] bytes len h = refl
end_is p (q ∷ ps) bytes len h = ap (λ (n : ℕ). end_from n (changes_from q.end ps bytes)) (stop_is p q h.0) ∙ end_is q ps bytes len h.1

pub in_order : (p : Patch) (ps : List Patch) (bytes : List ℕ) (len : ℕ) → Follow p ps len → AreChangesInOrder p.stop (changes_from p.end ps bytes)
in_order p [] bytes len h = tt
in_order p (q ∷ ps) bytes len h =
    (h.0.0.0, subst (λ (n : ℕ). AreChangesInOrder n (changes_from q.end ps bytes)) (sym (stop_is p q h.0)) (in_order q ps bytes len h.1))

-- all that the bytes have is added by the patches
pub start_within : (p : Patch) (ps : List Patch) (len : ℕ) → Follow p ps len → p.end ≤ len
start_within p [] len h = omega (arith, h)
start_within p (q ∷ ps) len h = let later = start_within q ps len h.1 in omega (arith, h.0, later)

pub last_end : (p : Patch) (ps : List Patch) (len : ℕ) → Follow p ps len → (last_of p ps).end ≡ len
last_end p [] len h = h
last_end p (q ∷ ps) len h = last_end q ps len h.1

pub last_replaced : (p : Patch) (ps : List Patch) (len : ℕ) → Follow p ps len → p.replaced ≤ p.stop → (last_of p ps).replaced ≤ (last_of p ps).stop
last_replaced p [] len h less = less
last_replaced p (q ∷ ps) len h less = last_replaced q ps len h.1 (omega (arith, h.0))

pub stops_ascend : (p : Patch) (ps : List Patch) (len : ℕ) → Follow p ps len → p.stop ≤ (last_of p ps).stop
stops_ascend p [] len h = omega arith
stops_ascend p (q ∷ ps) len h = let later = stops_ascend q ps len h.1 in omega (arith, h.0, later)

-- ---- one patch more

pub follow_more : (p : Patch) (ps : List Patch) (q : Patch) (len more : ℕ) → Follow p ps len
    → IsPatchFrom (last_of p ps).stop (last_of p ps).end (last_of p ps).replaced q → q.end ≡ more → Follow p (ps ++ q ∷ []) more
follow_more p [] q len more h is e = (is, e)
follow_more p (r ∷ ps) q len more h is e = (h.0, follow_more r ps q len more h.1 is e)

range_before : (bytes new : List ℕ) (from to : ℕ) → from ≤ to → to ≤ length bytes → slice_range (bytes ++ new) from to ≡ slice_range bytes from to
range_before bytes new from to up within =
    let k : from ≤ length bytes = omega arith in
    let few : to - from ≤ length (drop from bytes) = omega (arith, length-drop from bytes) in
    rw (drop-append-le from bytes new k) (take-append-le (to - from) (drop from bytes) new few)

range_after : (bytes new : List ℕ) → slice_range (bytes ++ new) (length bytes) (length (bytes ++ new)) ≡ new
range_after bytes new =
    let few : length new ≤ length (bytes ++ new) - length bytes = omega (arith, length-append bytes new) in
    rw (drop_at bytes new (length bytes) refl) (take_all (length (bytes ++ new) - length bytes) new few)

abbrev change_of : Patch → List ℕ → SectionChange
change_of q new = record { at = q.at; old = q.stop - q.at; new = new }

pub changes_more : (p : Patch) (ps : List Patch) (q : Patch) (bytes new : List ℕ) → Follow p ps (length bytes) → q.end ≡ length (bytes ++ new)
    → changes_from p.end (ps ++ q ∷ []) (bytes ++ new) ≡ changes_from p.end ps bytes ++ change_of q new ∷ []
changes_more p [] q bytes new h e =
    ap (λ (l : List ℕ). change_of q l ∷ []) (ap (λ (n : ℕ). slice_range (bytes ++ new) n q.end) h ∙ (ap (λ (n : ℕ). slice_range (bytes ++ new) (length bytes) n) e ∙ range_after bytes new))
changes_more p (r ∷ ps) q bytes new h e =
    let same = range_before bytes new p.end r.end (omega (arith, h.0)) (start_within r ps (length bytes) h.1) in
    rw (same, changes_more r ps q bytes new h.1 e) refl

-- ---- where an offset goes

abbrev stop_of : Patch → ℕ
stop_of p = p.stop

-- no patch ends before those in front of it
pub stops_sorted : (p : Patch) (ps : List Patch) (len : ℕ) → Follow p ps len → (i j : ℕ) (d : Patch) → i ≤ j → j < length ps → (p.stop ≤ stop_of (get_or ps j d)) × (stop_of (get_or ps i d) ≤ stop_of (get_or ps j d))
stops_sorted p [] len h i j d up below = absurd (omega arith)
stops_sorted p (q ∷ ps) len h zero zero d up below = (omega (arith, h.0), omega arith)
stops_sorted p (q ∷ ps) len h zero (suc j) d up below =
    let later = stops_sorted q ps len h.1 j j d (omega arith) (omega arith) in
    (omega (arith, h.0, later.0), later.0)
stops_sorted p (q ∷ ps) len h (suc i) zero d up below = absurd (omega arith)
stops_sorted p (q ∷ ps) len h (suc i) (suc j) d up below =
    let later = stops_sorted q ps len h.1 i j d (omega arith) (omega arith) in
    (omega (arith, h.0, later.0), later.1)

cut_rest : (q : Patch) (ps : List Patch) (offset count : ℕ) → IsCut (q ∷ ps) offset (suc count) → IsCut ps offset count
cut_rest q ps offset count c = record {
  before = λ i d low. c.before (suc i) d (omega arith);
  after = λ i d high low. c.after (suc i) d (omega arith) (omega arith);
  within = omega (arith, c.within);
}

length-range : (bytes : List ℕ) (from to : ℕ) → from ≤ to → to ≤ length bytes → length (slice_range bytes from to) ≡ to - from
length-range bytes from to up within = omega (arith, length-take (to - from) (drop from bytes), length-drop from bytes)

-- how many bytes are added up to an offset, and how many replaced, is known of the last patch before it
pub moved_is : (p : Patch) (ps : List Patch) (bytes : List ℕ) (offset count : ℕ) → Follow p ps (length bytes) → p.replaced ≤ p.stop → p.stop ≤ offset → IsCut ps offset count
    → let last = last_of p (take count ps) in (offset - last.replaced) + last.end ≡ moved_offset_from p.stop (changes_from p.end ps bytes) offset + ((p.stop - p.replaced) + p.end)
moved_is p [] bytes offset zero h less reached cut = omega arith
moved_is p [] bytes offset (suc count) h less reached cut = absurd (omega (arith, cut.within))
moved_is p (q ∷ ps) bytes offset zero h less reached cut =
    let past : offset < q.stop = cut.after 0 q (omega arith) (omega arith) in
    let k = stop_is p q h.0 in
    let no : leb (q.at + (q.stop - q.at)) offset ≡ false = lt-leb _ _ (omega arith) in
    rw no (omega arith)
moved_is p (q ∷ ps) bytes offset (suc count) h less reached cut =
    let here : q.stop ≤ offset = cut.before 0 q (omega arith) in
    let k = stop_is p q h.0 in
    let yes : leb (q.at + (q.stop - q.at)) offset ≡ true = le-leb _ _ (omega arith) in
    let later = moved_is q ps bytes offset count h.1 (omega (arith, h.0)) here (cut_rest q ps offset count cut) in
    let len = length-range bytes p.end q.end (omega (arith, h.0)) (start_within q ps (length bytes) h.1) in
    let same = ap (λ (n : ℕ). moved_offset_from n (changes_from q.end ps bytes) offset) k in
    rw yes (omega (arith, h.0, later, len, same))

-- ---- what becomes of a section

pub ends_within : (p : Patch) (ps : List Patch) (len : ℕ) → Follow p ps len → p.stop ≤ (last_of p ps).stop
ends_within p [] len h = omega arith
ends_within p (q ∷ ps) len h = let later = ends_within q ps len h.1 in omega (arith, h.0, later)

pub no_changes : (start : ℕ) (ps : List Patch) (bytes : List ℕ) → changes_from start ps bytes ≡ [] → ps ≡ []
no_changes start [] bytes e = refl
no_changes start (p ∷ ps) bytes e = absurd cc

-- Patches are applied one after the other: what is written, and what becomes of the section after it, is the whole.
pub record Applied (left : List Patch) (whole bytes section out : List ℕ) (from start : ℕ) : Type 0 where
  pub last : Patch
  pub from_is : last.stop ≡ from
  pub start_is : last.end ≡ start
  pub follow : Follow last left (length bytes)
  pub fits : (last_of last left).stop ≤ length section
  pub is : out ++ patched_from from (changes_from start left bytes) section ≡ whole

pub applied_none : (ps : List Patch) (bytes section : List ℕ) → Follow no_patch ps (length bytes) → end_from 0 (changes_from 0 ps bytes) ≤ length section
    → Applied ps (patched_from 0 (changes_from 0 ps bytes) section) bytes section [] 0 0
applied_none ps bytes section h fits = record {
  last = no_patch;
  from_is = refl;
  start_is = refl;
  follow = h;
  fits = omega (arith, fits, end_is no_patch ps bytes (length bytes) h);
  is = refl;
}

-- the next patch is within what is left of the section and of the bytes
pub next_within : (p : Patch) (left : List Patch) (whole bytes section out : List ℕ) (from start : ℕ) → Applied (p ∷ left) whole bytes section out from start
    → ((from ≤ p.at) × (p.at ≤ length section)) × ((start ≤ p.end) × (p.end ≤ length bytes))
next_within p left whole bytes section out from start a =
    let here = a.follow.0 in
    let bytes_end = start_within p left (length bytes) a.follow.1 in
    let stop = stops_ascend p left (length bytes) a.follow.1 in
    ((omega (arith, here, a.from_is), omega (arith, here, stop, a.fits)), (omega (arith, here, a.start_is), bytes_end))

pub applied_more : (p : Patch) (left : List Patch) (whole bytes section out : List ℕ) (from start : ℕ) → Applied (p ∷ left) whole bytes section out from start
    → Applied left whole bytes section ((out ++ slice_range section from p.at) ++ slice_range bytes start p.end) p.stop p.end
applied_more p left whole bytes section out from start a = record {
  last = p;
  from_is = refl;
  start_is = refl;
  follow = a.follow.1;
  fits = a.fits;
  is =
      let stop = ap (λ (n : ℕ). patched_from n (changes_from p.end left bytes) section) (stop_is a.last p a.follow.0) in
      append_assoc (out ++ slice_range section from p.at) (slice_range bytes start p.end) _ ∙ (append_assoc out (slice_range section from p.at) _
      ∙ (ap (λ (l : List ℕ). out ++ (slice_range section from p.at ++ (slice_range bytes start p.end ++ l))) (sym stop) ∙ a.is));
}

-- the patch at the index of a loop, whose list is that of the patches
pub next_is : (ps list : List Patch) (index : ℕ) → list ≡ ps → index < length list → drop index ps ≡ get_or list index no_patch ∷ drop (index + 1) ps
next_is ps list index same more =
    ap (drop index) (sym same) ∙ (drop_more list index no_patch more ∙ ap (λ (l : List Patch). get_or list index no_patch ∷ drop (index + 1) l) same)

module _ (ps list : List Patch) (index : ℕ) (same : list ≡ ps) (more : index < length list) (whole bytes section out : List ℕ) (from start : ℕ)
    (so_far : Applied (drop index ps) whole bytes section out from start) where
  abbrev next : Patch
  next = get_or list index no_patch

  begins : Applied (next ∷ drop (index + 1) ps) whole bytes section out from start
  begins = subst (λ (l : List Patch). Applied l whole bytes section out from start) (next_is ps list index same more) so_far

  pub turn_within : ((from ≤ next.at) × (next.at ≤ length section)) × ((start ≤ next.end) × (next.end ≤ length bytes))
  turn_within = next_within next (drop (index + 1) ps) whole bytes section out from start begins

  pub turn : Applied (drop (index + 1) ps) whole bytes section ((out ++ slice_range section from next.at) ++ slice_range bytes start next.end) next.stop next.end
  turn = applied_more next (drop (index + 1) ps) whole bytes section out from start begins

pub applied_all : (ps : List Patch) (index : ℕ) (whole bytes section out : List ℕ) (from start : ℕ) → length ps ≤ index → Applied (drop index ps) whole bytes section out from start
    → (from ≤ length section) × (out ++ drop from section ≡ whole)
applied_all ps index whole bytes section out from start all a =
    let none : drop index ps ≡ [] = drop_all index ps all in
    let b = subst (λ (l : List Patch). Applied l whole bytes section out from start) none a in
    (omega (arith, b.fits, b.from_is), b.is)

-- what a bisection by the ends of the patches finds
pub sorted : (ps : List Patch) (len : ℕ) → Follow no_patch ps len → IsNonDecreasingBy stop_of ps
sorted ps len h i j d up below = (stops_sorted no_patch ps len h i j d up below).1

pub cut_from : (ps : List Patch) (offset count : ℕ) → IsPartitionPoint (λ p. leb (stop_of p) offset ≡ true) (λ p. leb (stop_of p) offset ≡ false) ps count → count ≤ length ps → IsCut ps offset count
cut_from ps offset count point few = record {
  before = λ i d low. leb-true (stop_of (get_or ps i d)) offset (point.0 i d (omega arith) low);
  after = λ i d high low. leb-false (stop_of (get_or ps i d)) offset (point.1 i d high low);
  within = few;
}

-- the last of the first patches, of this number
pub last_taken : (ps : List Patch) (count : ℕ) → count ≤ length ps → (count ≡ 0 → ⊥) → (d : Patch) → last_of no_patch (take count ps) ≡ get_or ps (count - 1) d
last_taken ps count few some d =
    let len = length-take-le count ps few in
    let k : length (take count ps) - 1 ≡ count - 1 = omega (arith, len) in
    last_is no_patch (take count ps) d (omega (arith, len)) ∙ (ap (λ (n : ℕ). get_or (take count ps) n d) k ∙ get_or-take count ps (count - 1) d (omega arith))

pub last_before : (ps : List Patch) (offset count : ℕ) → IsCut ps offset count → (count ≡ 0 → ⊥) → (d : Patch) → last_of no_patch (take count ps) ≡ get_or ps (count - 1) d
last_before ps offset count cut = last_taken ps count cut.within

-- the patches up to there end at the offset or before it, and follow
follow_take : (p : Patch) (ps : List Patch) (count len : ℕ) → Follow p ps len → Follow p (take count ps) (last_of p (take count ps)).end
follow_take p [] zero len h = refl
follow_take p [] (suc count) len h = refl
follow_take p (q ∷ ps) zero len h = refl
follow_take p (q ∷ ps) (suc count) len h = (h.0, follow_take q ps count len h.1)

last_stop : (p : Patch) (ps : List Patch) (offset count : ℕ) → p.stop ≤ offset → IsCut ps offset count → (last_of p (take count ps)).stop ≤ offset
last_stop p [] offset zero low cut = low
last_stop p [] offset (suc count) low cut = low
last_stop p (q ∷ ps) offset zero low cut = low
last_stop p (q ∷ ps) offset (suc count) low cut = last_stop q ps offset count (cut.before 0 q (omega arith)) (cut_rest q ps offset count cut)

pub less_before : (ps : List Patch) (len offset count : ℕ) → Follow no_patch ps len → IsCut ps offset count → (last_of no_patch (take count ps)).replaced ≤ offset
less_before ps len offset count h cut =
    let less = last_replaced no_patch (take count ps) _ (follow_take no_patch ps count len h) (omega arith) in
    let stop = last_stop no_patch ps offset count (omega arith) cut in
    omega (arith, less, stop)

pub moved_before : (ps : List Patch) (bytes : List ℕ) (offset count : ℕ) → Follow no_patch ps (length bytes) → IsCut ps offset count
    → let last = last_of no_patch (take count ps) in moved_offset_from 0 (changes_from 0 ps bytes) offset ≡ (offset - last.replaced) + last.end
moved_before ps bytes offset count h cut = let is = moved_is no_patch ps bytes offset count h (omega arith) (omega arith) cut in omega (arith, is)

-- ---- the part at a place of the list

pub part_at : (p : Patch) (ps : List Patch) (bytes : List ℕ) (i : ℕ) (q : Patch) → slice_get ps i ≡ Some q
    → slice_get (changes_from p.end ps bytes) i ≡ Some (part_of q.at (q.stop - q.at) (slice_range bytes (last_of p (take i ps)).end q.end))
part_at p [] bytes i q is = absurd (cc (is))
part_at p (r ∷ ps) bytes zero q is = let same : r ≡ q = cc (is) in ap (λ (t : Patch). Some (part_of t.at (t.stop - t.at) (slice_range bytes p.end t.end))) same
part_at p (r ∷ ps) bytes (suc i) q is = part_at r ps bytes i q is

pub no_part_at : (start : ℕ) (ps : List Patch) (bytes : List ℕ) (i : ℕ) → length ps ≤ i → slice_get (changes_from start ps bytes) i ≡ None
no_part_at start [] bytes i few = refl
no_part_at start (p ∷ ps) bytes zero few = absurd (omega arith)
no_part_at start (p ∷ ps) bytes (suc i) few = no_part_at p.end ps bytes i (omega arith)

-- the bytes that replace it are among all, and it ends where it says
pub part_within : (p : Patch) (ps : List Patch) (len i : ℕ) (q : Patch) → Follow p ps len → slice_get ps i ≡ Some q
    → (q.at ≤ q.stop) × ((last_of p (take i ps)).end ≤ q.end) × (q.end ≤ len)
part_within p [] len i q h is = absurd (cc (is))
part_within p (r ∷ ps) len zero q h is =
    let same : r ≡ q = cc (is) in
    let later = start_within r ps len h.1 in
    subst (λ (t : Patch). (t.at ≤ t.stop) × (p.end ≤ t.end) × (t.end ≤ len)) same (omega (arith, h.0), omega (arith, h.0), later)
part_within p (r ∷ ps) len (suc i) q h is = part_within r ps len i q h.1 is

-- ---- parts of other sizes

-- the patches from here on follow one that ends at this place of the bytes, and those before them keep their sizes
pub record ResizedLeft (left : List Patch) (bytes : List ℕ) (whole : Bool) (start : ℕ) : Type 0 where
  pub last : Patch
  pub start_is : last.end ≡ start
  pub follow : Follow last left (length bytes)
  pub is : are_resized (changes_from start left bytes) ≡ whole

pub resized_none : (ps : List Patch) (bytes : List ℕ) → Follow no_patch ps (length bytes) → ResizedLeft ps bytes (are_resized (changes_from 0 ps bytes)) 0
resized_none ps bytes h = record { last = no_patch; start_is = refl; follow = h; is = refl }

module _ (p : Patch) (left : List Patch) (bytes : List ℕ) (whole : Bool) (start : ℕ) (h : ResizedLeft (p ∷ left) bytes whole start) where
  pub sizes_within : (start ≤ p.end) × (p.at ≤ p.stop)
  sizes_within = let here = h.follow.0 in (omega (arith, here, h.start_is), omega (arith, here))

  part_size : length (slice_range bytes start p.end) ≡ p.end - start
  part_size = length-range bytes start p.end sizes_within.0 (start_within p left (length bytes) h.follow.1)

  pub is_other_size : (p.end - start ≡ p.stop - p.at → ⊥) → true ≡ whole
  is_other_size other =
      let no : eqb (length (slice_range bytes start p.end)) (p.stop - p.at) ≡ false = ne_eqb _ _ (λ e. other (sym part_size ∙ e)) in
      sym (rw no refl) ∙ h.is

  pub resized_more : p.end - start ≡ p.stop - p.at → ResizedLeft left bytes whole p.end
  resized_more same = record {
    last = p;
    start_is = refl;
    follow = h.follow.1;
    is = let yes : eqb (length (slice_range bytes start p.end)) (p.stop - p.at) ≡ true = eq-eqb _ _ (part_size ∙ same) in sym (rw yes refl) ∙ h.is;
  }

pub resized_all : (ps : List Patch) (index : ℕ) (bytes : List ℕ) (whole : Bool) (start : ℕ) → length ps ≤ index → ResizedLeft (drop index ps) bytes whole start → false ≡ whole
resized_all ps index bytes whole start all h = (subst (λ (l : List Patch). ResizedLeft l bytes whole start) (drop_all index ps all) h).is
