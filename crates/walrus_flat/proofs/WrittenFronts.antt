-- An accepted body that is read again, to be written: its operators so far, at the locations that the caller's function returned,
-- and those that are left.
use Rattle.std.proofs.Common.{◌≡◌, ℕ, ◌+◌, ◌-◌, ◌<◌, List, [], ◌∷◌, ◌++◌, length, map, Option, Some, None, Ok, refl, sym, ap, subst, ◌∙◌, arith, length-append}
use Rattle.std.proofs.lemmas.List.{append-nil, map-append}
use Rattle.std.specs.Borrow.{Bor}
use Rattle.std.specs.Fn.{Shared}
use Rattle.wasm_operators.specs.Spelling.{read_operation}
use Rattle.wasm_operators.proofs.ListLaws.{spelt_length}
use Rattle.wasm_operators.proofs.ReadingBytes.{reading_agrees}
use Rattle.wasm_body.specs.Control.{Marked, with_control, control_of}
use Rattle.wasm_body.specs.SourceTree.{Sequence, Body}
use Rattle.wasm_body.specs.Frames.{SequenceFrame, moves, moved}
use Rattle.wasm_body.specs.Naming.{NamedOperation, Occurrence, named_in}
use Rattle.wasm_body.specs.NormalForm.{name_at}
use Rattle.wasm_body.specs.Parsing.Accepted.{mark, Setting}
use Rattle.wasm_body.specs.Parsing.Progress.{Layer, Progress, Within, Whole, NoBody, nothing_read, frames_of, further, progress_after}
use Rattle.wasm_body.proofs.Structure.ReadFrames.{progress_frames, further_frames}
use Rattle.wasm_body.proofs.Structure.ReadTexts.{IsRead, read_text, was_front, text_read}
use Rattle.wasm_body.proofs.Structure.Mapped.{map_mark}
use Rattle.wasm_body.proofs.Parsing.Parses.{Over, one_over}
use Rattle.wasm_body.proofs.Parsing.Stops.{passed}
use Rattle.wasm_body.proofs.ReadBack.FrameNames.{after_frames, moves_frames, named_of, shapes, named_same}
use Rattle.walrus_parser.specs.Bodies.{ParseInput, setting_with}
use Rattle.walrus_validators.specs.Locating.{Locates}
use Rattle.wasm_body.specs.Parsing.Accepted.{has_location}
use Rattle.walrus_parser.proofs.ParsedSoFar.{Reads, occurrence, goes_over, progress-append}
use Rattle.walrus_validators.proofs.Taking.{is_admitted, located_fits}
use Rattle.wasm_body.specs.Flat.{Named}
use Rattle.walrus_flat.specs.WrittenBody.{unlocated}

-- ---- the frames of what was read, by the names of their openers

abbrev pub progress_shapes : Progress Occurrence → Option (List (SequenceFrame NamedOperation))
progress_shapes p = after_frames named_of (progress_frames p)

abbrev moved_shapes : Option (List (SequenceFrame NamedOperation)) → NamedOperation → Option (List (SequenceFrame NamedOperation))
moved_shapes (Some gs) n = moves (control_of n) n gs
moved_shapes None n = None

shapes_moved : (o : Option (List (SequenceFrame Occurrence))) (x : Occurrence) → after_frames named_of (moved o (mark x)) ≡ moved_shapes (after_frames named_of o) x.named
shapes_moved (Some fs) x = moves_frames named_of (control_of x.named) x fs
shapes_moved None x = refl

-- an operator of the same name moves them alike
further_shapes : (p q : Progress Occurrence) (x y : Occurrence) → x.named ≡ y.named → progress_shapes p ≡ progress_shapes q → progress_shapes (further p (mark x)) ≡ progress_shapes (further q (mark y))
further_shapes p q x y n e =
    let alike : moved_shapes (progress_shapes p) x.named ≡ moved_shapes (progress_shapes q) y.named = λ i. moved_shapes (e i) (n i) in
    ap (after_frames named_of) (further_frames p (mark x))
    ∙ (shapes_moved (progress_frames p) x
    ∙ (alike
    ∙ (sym (shapes_moved (progress_frames q) y) ∙ sym (ap (after_frames named_of) (further_frames q (mark y))))))

not_whole : (ls : List (Layer Occurrence)) (s : Sequence Occurrence) (b : Body Occurrence) → progress_shapes (Whole b) ≡ progress_shapes (Within ls s) → ⊥
not_whole [] s b e = cc
not_whole (k ∷ ls) s b e = cc

not_within : (ls : List (Layer Occurrence)) (s : Sequence Occurrence) (b : Body Occurrence) → progress_shapes (Within ls s) ≡ progress_shapes (Whole b) → ⊥
not_within [] s b e = cc
not_within (k ∷ ls) s b e = cc

-- ---- what was read

-- the operators that were read, by their names
abbrev pub read_marks : Progress Occurrence → List (Marked Named)
read_marks p = map (map_mark name_at) (read_text p [])

pub text_of : (xs : List Occurrence) (p : Progress Occurrence) → progress_after nothing_read (map mark xs) ≡ p → IsRead p → read_text p [] ≡ map mark xs
text_of xs p e h =
    ap (λ q. read_text q []) (sym e) ∙ (text_read (map mark xs) nothing_read [] (subst IsRead (sym e) h) ∙ append-nil (map mark xs))

-- one more
one_more : (xs : List Occurrence) (p : Progress Occurrence) (x : Occurrence) → progress_after nothing_read (map mark xs) ≡ p → IsRead p → IsRead (further p (mark x)) →
    read_text (further p (mark x)) [] ≡ read_text p [] ++ mark x ∷ []
one_more xs p x e h k =
    let both : map mark (xs ++ x ∷ []) ≡ map mark xs ++ mark x ∷ [] = map-append mark xs (x ∷ []) in
    let more : progress_after nothing_read (map mark (xs ++ x ∷ [])) ≡ further p (mark x) =
    ap (progress_after nothing_read) both ∙ (progress-append (map mark xs) (mark x ∷ []) nothing_read ∙ ap (λ q. further q (mark x)) e) in
    text_of (xs ++ x ∷ []) (further p (mark x)) more k ∙ (both ∙ ap (λ l. l ++ mark x ∷ []) (sym (text_of xs p e h)))

-- frames with shapes are those of a front
pub is_read : (p q : Progress Occurrence) → IsRead q → progress_shapes p ≡ progress_shapes q → IsRead p
is_read (Within ls s) q h e = tt
is_read (Whole b) q h e = tt
is_read NoBody (Within ks t) h e = cc
is_read NoBody (Whole c) h e = cc
is_read NoBody NoBody h e = h

module _ {S F : Type 0} (g : Shared F (Bor ℕ × Unit {0}) ℕ) (i : ParseInput S F) (locations : Option (ℕ → ℕ)) where
  -- the setting in which the body was accepted
  abbrev pub base : Setting S
  base = setting_with i locations

  abbrev pub ReadsAgain : Progress Occurrence → S → ℕ → List ℕ → List (ℕ × ℕ) → Type 0
  ReadsAgain p v place rest mapping = Reads g i.on_instr_pos i.environment i.start i.offset i.check i.first i.bytes p v place rest mapping

  -- The operators that were read are this part of a body. Those that are left are the others of the body that was accepted, within
  -- sequences that were opened by operators of the same names.
  pub record LeftOf (b : Body Occurrence) (p its : Progress Occurrence) (v : S) (place : ℕ) (rest : List ℕ) (mapping : List (ℕ × ℕ)) (left : List Occurrence) : Type 0 where
    pub reads : ReadsAgain p v place rest mapping
    pub last : S
    pub end : ℕ
    pub over : Over base its v place rest left (Whole b) last end []
    pub same : progress_shapes p ≡ progress_shapes its
    pub front : List Occurrence
    pub front_read : progress_after nothing_read (map mark front) ≡ its
    pub names : map (map_mark named_of) (read_text p []) ≡ map (map_mark named_of) (map mark front)
    pub alike : map (map_mark unlocated) (read_text p []) ≡ map (map_mark unlocated) (map mark front)

  pub its_read : (b : Body Occurrence) (its : Progress Occurrence) (v last : S) (place end : ℕ) (rest : List ℕ) (left : List Occurrence) → Over base its v place rest left (Whole b) last end [] → IsRead its
  its_read b its v last place end rest left over = was_front (map mark left) its (subst IsRead (sym over.ends) tt)

  -- the next operator that is left
  pub record NextOf (b : Body Occurrence) (p its : Progress Occurrence) (v : S) (place : ℕ) (rest : List ℕ) (left : List Occurrence) (last : S) (end : ℕ) : Type 0 where
    pub layers : List (Layer Occurrence)
    pub sequence : Sequence Occurrence
    pub within : p ≡ Within layers sequence
    pub first : Occurrence
    pub others : List Occurrence
    pub left_is : left ≡ first ∷ others
    pub place_is : first.place ≡ place
    pub state : S
    pub following : List ℕ
    pub read : read_operation rest ≡ Ok (first.spelt, following)
    pub checked : i.check v (record { spelt = first.spelt; place = place }) ≡ Ok state
    pub is_named : named_in i.environment (frames_of layers) first.spelt ≡ Ok first.named
    pub over : Over base (further its (mark first)) state (place + (length rest - length following)) following others (Whole b) last end []

  next_within : (b : Body Occurrence) (ls ks : List (Layer Occurrence)) (s t : Sequence Occurrence) (v : S) (place : ℕ) (rest : List ℕ) (x : Occurrence) (xs : List Occurrence) (last : S) (end : ℕ) →
      Over base (Within ks t) v place rest (x ∷ xs) (Whole b) last end [] → shapes (frames_of ls) ≡ shapes (frames_of ks) → NextOf b (Within ls s) (Within ks t) v place rest (x ∷ xs) last end
  next_within b ls ks s t v place rest x xs last end over same =
      let o = one_over base reading_agrees 0 ks t v place rest x xs (Whole b) last end [] over in
      let h = passed base v (frames_of ks) place rest (record { operator = x; rest = o.following; state = o.state }) o.handles in
      record {
        layers = ls;
        sequence = s;
        within = refl;
        first = x;
        others = xs;
        left_is = refl;
        place_is = h.place_is;
        state = o.state;
        following = o.following;
        read = h.read;
        checked = ap (λ at. i.check v (record { spelt = x.spelt; place = at })) (sym h.place_is) ∙ h.checked;
        is_named = named_same i.environment (frames_of ls) (frames_of ks) x.spelt same ∙ h.named;
        over = o.over;
      }

  -- if bytes remain, an operator is left
  pub next_of : (b : Body Occurrence) (p its : Progress Occurrence) (v : S) (place : ℕ) (rest : List ℕ) (left : List Occurrence) (last : S) (end : ℕ) →
      Over base its v place rest left (Whole b) last end [] → progress_shapes p ≡ progress_shapes its → 0 < length rest → NextOf b p its v place rest left last end
  next_of b p its v place rest [] last end over same some = absurd (let none : rest ≡ [] = over.spelt in omega (arith, some, ap length none))
  next_of b p NoBody v place rest (x ∷ xs) last end over same some = absurd over.goes
  next_of b p (Whole c) v place rest (x ∷ xs) last end over same some = absurd over.goes.1
  next_of b (Within ls s) (Within ks t) v place rest (x ∷ xs) last end over same some = next_within b ls ks s t v place rest x xs last end over (let h : shapes (frames_of ls) ≡ shapes (frames_of ks) = cc in h)
  next_of b (Whole c) (Within ks t) v place rest (x ∷ xs) last end over same some = absurd (not_whole ks t c same)
  next_of b NoBody (Within ks t) v place rest (x ∷ xs) last end over same some = absurd cc

  -- it was read, and its location asked
  pub continues : (b : Body Occurrence) (p its : Progress Occurrence) (v : S) (place next location : ℕ) (rest : List ℕ) (mapping : List (ℕ × ℕ)) (left : List Occurrence) →
      (so : LeftOf b p its v place rest mapping left) (n : NextOf b p its v place rest left so.last so.end) → Locates g i.on_instr_pos place location →
      next + length n.following ≡ place + length rest → length n.following < length rest →
      LeftOf b (further p (mark (occurrence n.first.spelt place location n.first.named))) (further its (mark n.first)) n.state next n.following
      (mapping ++ (place - i.offset, location) ∷ []) n.others
  continues b p its v place next location rest mapping left so n located moves shorter =
      let x = occurrence n.first.spelt place location n.first.named in
      let taken = is_admitted (has_location i.on_instr_pos) i.check v place rest n.following n.first.spelt n.state n.read (located_fits g i.on_instr_pos place location located) n.checked in
      let within : ReadsAgain (Within n.layers n.sequence) v place rest mapping = subst (λ q. ReadsAgain q v place rest mapping) n.within so.reads in
      let over : ReadsAgain (further (Within n.layers n.sequence) (mark x)) n.state next n.following (mapping ++ (place - i.offset, location) ∷ []) =
      goes_over g i.on_instr_pos i.environment i.start i.offset i.check i.first i.bytes n.layers n.sequence v n.state place next rest n.following mapping n.first.spelt location n.first.named within taken located n.is_named moves shorter in
      let here : place + (length rest - length n.following) ≡ next = omega (arith, moves, shorter) in
      let was : IsRead p = is_read p its (its_read b its v so.last place so.end rest left so.over) so.same in
      let alike : progress_shapes (further p (mark x)) ≡ progress_shapes (further its (mark n.first)) = further_shapes p its x n.first refl so.same in
      let now : IsRead (further p (mark x)) =
      is_read (further p (mark x)) (further its (mark n.first))
      (its_read b (further its (mark n.first)) n.state so.last (place + (length rest - length n.following)) so.end n.following n.others n.over) alike in
      let named : List (Marked NamedOperation) = with_control n.first.named (control_of n.first.named) ∷ [] in
      let both : map mark (so.front ++ n.first ∷ []) ≡ map mark so.front ++ mark n.first ∷ [] = map-append mark so.front (n.first ∷ []) in
      record {
        reads = subst (λ q. ReadsAgain (further q (mark x)) n.state next n.following (mapping ++ (place - i.offset, location) ∷ [])) (sym n.within) over;
        last = so.last;
        end = so.end;
        over = subst (λ at. Over base (further its (mark n.first)) n.state at n.following n.others (Whole b) so.last so.end []) here n.over;
        same = alike;
        front = so.front ++ n.first ∷ [];
        front_read = ap (progress_after nothing_read) both ∙ (progress-append (map mark so.front) (mark n.first ∷ []) nothing_read ∙ ap (λ q. further q (mark n.first)) so.front_read);
        names =
            ap (map (map_mark named_of)) (one_more so.reads.operators p x so.reads.are_read was now)
            ∙ (map-append (map_mark named_of) (read_text p []) (mark x ∷ [])
            ∙ (ap (λ l. l ++ named) so.names
            ∙ (sym (map-append (map_mark named_of) (map mark so.front) (mark n.first ∷ [])) ∙ ap (map (map_mark named_of)) (sym both))));
        alike =
            ap (map (map_mark unlocated)) (one_more so.reads.operators p x so.reads.are_read was now)
            ∙ (map-append (map_mark unlocated) (read_text p []) (mark x ∷ [])
            ∙ ((λ k. so.alike k ++ with_control (occurrence n.first.spelt (sym n.place_is k) 0 n.first.named) (control_of n.first.named) ∷ [])
            ∙ (sym (map-append (map_mark unlocated) (map mark so.front) (mark n.first ∷ [])) ∙ ap (map (map_mark unlocated)) (sym both))));
      }

  -- what was read is one operator more
  pub marks_more : (b : Body Occurrence) (p its : Progress Occurrence) (v : S) (place : ℕ) (rest : List ℕ) (mapping : List (ℕ × ℕ)) (left : List Occurrence) → LeftOf b p its v place rest mapping left →
      (x : Occurrence) → IsRead p → IsRead (further p (mark x)) → read_marks (further p (mark x)) ≡ read_marks p ++ map_mark name_at (mark x) ∷ []
  marks_more b p its v place rest mapping left so x h k =
      ap (map (map_mark name_at)) (one_more so.reads.operators p x so.reads.are_read h k) ∙ map-append (map_mark name_at) (read_text p []) (mark x ∷ [])

  -- no bytes remain: the body is complete
  pub ends : (b : Body Occurrence) (p its : Progress Occurrence) (v : S) (place : ℕ) (rest : List ℕ) (mapping : List (ℕ × ℕ)) (left : List Occurrence) → LeftOf b p its v place rest mapping left →
      length rest ≡ 0 → (c : Body Occurrence) × (p ≡ Whole c)
  ends b p its v place rest mapping [] so none = by_progress p (so.same ∙ ap progress_shapes so.over.ends)
    where
      by_progress : (q : Progress Occurrence) → progress_shapes q ≡ progress_shapes (Whole b) → (c : Body Occurrence) × (q ≡ Whole c)
      by_progress (Whole c) e = (c, refl)
      by_progress (Within ls s) e = absurd (not_within ls s b e)
      by_progress NoBody e = absurd cc
  ends b p its v place rest mapping (x ∷ xs) so none =
      absurd (omega (arith, none, spelt_length x.spelt so.over.spelt.1 so.over.spelt.4, length-append so.over.spelt.1 so.over.spelt.2, ap length so.over.spelt.3))
