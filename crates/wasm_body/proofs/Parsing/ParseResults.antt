-- Accepted bodies and first faults are the results of parsing on lists: so there is one of the two, and only one.
use Rattle.std.proofs.Common.{◌≡◌, ℕ, zero, suc, ◌+◌, ◌≤◌, ◌⊎◌, inl, inr, List, [], ◌∷◌, ◌++◌, length, map, replicate, Some, Result, Ok, Err, refl, sym, ap, subst, ◌∙◌, arith}
use Rattle.std.proofs.lemmas.List.{append-nil}
use Rattle.std.specs.Prelude.{IsOk}
use Rattle.wasm_body.specs.declared.error.ParseError.{ParseError}
use Rattle.wasm_body.specs.declared.error.ParseFailure.{ParseFailure}
use Rattle.wasm_body.specs.Control.{Marked}
use Rattle.wasm_body.specs.SourceTree.{Sequence, Body, body_text}
use Rattle.wasm_body.specs.Frames.{SequenceFrame, function_frames, frames_after}
use Rattle.wasm_body.specs.Naming.{Environment, Occurrence, entry_type_id}
use Rattle.wasm_body.specs.Parsing.Accepted.{placed, mark, IsNamed, Lawful, validated, Setting, IsFront, Accepted, added_end, IsCompletedBy, FaultAfter, FirstFault, of_entry, of_operators}
use Rattle.wasm_body.specs.Parsing.Progress.{Layer, Progress, Within, Whole, NoBody, nothing_read, frames_of, closed, append, further, progress_after}
use Rattle.wasm_body.specs.Parsing.Lists.{failure, parsed_from, parsed_after_entry, parsed}
use Rattle.wasm_body.specs.Parsing.Laws.{OneBodyAccepted, AcceptedHasNoFault, OneFirstFault, AcceptedOrFault}
use Rattle.wasm_body.proofs.Structure.ReadingTrees.{body_read}
use Rattle.wasm_body.proofs.Structure.ReadTexts.{read_text, text_read, IsRead}
use Rattle.wasm_body.proofs.Structure.ReadFrames.{progress_frames, after_frames, frames_length, Goes, body_goes, goes_body, goes_front, continues}
use Rattle.wasm_numbers.proofs.ResultLemmas.{ok_same}
use Rattle.wasm_body.proofs.Parsing.Parses.{Over, over}
use Rattle.wasm_operators.specs.Laws.{AreBytes, ReadingAgrees}
use Rattle.wasm_body.proofs.Parsing.Stops.{StopsAt, Stopped, stopped}

map-append : {A B : Type 0} (f : A → B) (xs ys : List A) → map f (xs ++ ys) ≡ map f xs ++ map f ys
map-append f [] ys = refl
map-append f (x ∷ xs) ys = ap (λ zs. f x ∷ zs) (map-append f xs ys)

pub is_ok : {A E : Type 0} (r : Result A E) → IsOk r → (x : A) × (r ≡ Ok x)
is_ok (Ok x) h = (x, refl)
is_ok (Err e) h = absurd cc

ok_is : {A E : Type 0} (r : Result A E) (x : A) → r ≡ Ok x → IsOk r
ok_is (Ok y) x e = refl
ok_is (Err d) x e = absurd (cc)

following-append : {A : Type 0} (xs ys : List (Marked A)) (p : Progress A) → progress_after p (xs ++ ys) ≡ progress_after (progress_after p xs) ys
following-append [] ys p = refl
following-append (x ∷ xs) ys p = following-append xs ys (further p x)

-- ---- a body's operators are gone over

lawful_goes : (env : Environment) (xs : List Occurrence) (b : Body Occurrence) → Lawful env xs b → Goes (IsNamed env) (Some function_frames) (map mark xs)
lawful_goes env xs b h = subst (Goes (IsNamed env) (Some function_frames)) (sym h.is_body) (body_goes (IsNamed env) b h.named)

lawful_read : (env : Environment) (xs : List Occurrence) (b : Body Occurrence) → Lawful env xs b → progress_after nothing_read (map mark xs) ≡ Whole b
lawful_read env xs b h = ap (progress_after nothing_read) h.is_body ∙ body_read b

goes_lawful : (env : Environment) (xs : List Occurrence) (b : Body Occurrence) → IsOk (entry_type_id env) → Goes (IsNamed env) (Some function_frames) (map mark xs) → progress_after nothing_read (map mark xs) ≡ Whole b → Lawful env xs b
goes_lawful env xs b entry g e =
    let read : read_text (Whole b) [] ≡ map mark xs ++ [] = ap (λ p. read_text p []) (sym e) ∙ text_read (map mark xs) nothing_read [] (subst IsRead (sym e) tt) in
    let is : map mark xs ≡ body_text b = sym (append-nil (map mark xs)) ∙ sym read in
    record { entry = entry; is_body = is; named = goes_body (IsNamed env) b (subst (Goes (IsNamed env) (Some function_frames)) is g) }

-- ---- added ends

-- if n sequences are open, n `end`s complete the body
abbrev ends_of : ℕ → List Occurrence
ends_of n = replicate n added_end

ends_close : (ls : List (Layer Occurrence)) (s : Sequence Occurrence) → (b : Body Occurrence) × (progress_after (Within ls s) (map mark (ends_of (suc (length ls)))) ≡ Whole b)
ends_close [] s = (record { sequence = s; close = added_end }, refl)
ends_close (l ∷ ls) s = ends_close ls (append l.before (closed l.construct s added_end))

-- an `end` breaks no rule
ends_go : (env : Environment) (ls : List (Layer Occurrence)) → Goes (IsNamed env) (Some (frames_of ls)) (map mark (ends_of (suc (length ls))))
ends_go env [] = (refl, tt)
ends_go env (l ∷ ls) = (refl, ends_go env ls)

-- a front can be completed to a lawful body, with an `end` for each open sequence
within_completed : (env : Environment) (xs : List Occurrence) (ls : List (Layer Occurrence)) (s : Sequence Occurrence) → IsOk (entry_type_id env)
    → Goes (IsNamed env) (Some function_frames) (map mark xs) → progress_after nothing_read (map mark xs) ≡ Within ls s → IsCompletedBy env xs (length (frames_of ls))
within_completed env xs ls s entry g e =
    let n = length (frames_of ls) in
    let count : suc (length ls) ≡ n = sym (frames_length ls) in
    let frames : frames_after (Some function_frames) (map mark xs) ≡ Some (frames_of ls) = sym (after_frames (map mark xs) nothing_read) ∙ ap progress_frames e in
    let both : map mark (xs ++ ends_of n) ≡ map mark xs ++ map mark (ends_of n) = map-append mark xs (ends_of n) in
    let c = ends_close ls s in
    let go : Goes (IsNamed env) (frames_after (Some function_frames) (map mark xs)) (map mark (ends_of n)) =
    subst (λ f. Goes (IsNamed env) f (map mark (ends_of n))) (sym frames) (subst (λ (k : ℕ). Goes (IsNamed env) (Some (frames_of ls)) (map mark (ends_of k))) count (ends_go env ls)) in
    record {
      body = c.0;
      lawful = goes_lawful env (xs ++ ends_of n) c.0 entry
          (subst (Goes (IsNamed env) (Some function_frames)) (sym both) (continues (IsNamed env) (map mark xs) (map mark (ends_of n)) (Some function_frames) g go))
          (ap (progress_after nothing_read) both ∙ (following-append (map mark xs) (map mark (ends_of n)) nothing_read
          ∙ (ap (λ p. progress_after p (map mark (ends_of n))) e ∙ (ap (λ (k : ℕ). progress_after (Within ls s) (map mark (ends_of k))) (sym count) ∙ c.1))));
    }

whole_completed : (env : Environment) (xs : List Occurrence) (b : Body Occurrence) → IsOk (entry_type_id env)
    → Goes (IsNamed env) (Some function_frames) (map mark xs) → progress_after nothing_read (map mark xs) ≡ Whole b → IsCompletedBy env xs 0
whole_completed env xs b entry g e = record { body = b; lawful = subst (λ (ys : List Occurrence). Lawful env ys b) (sym (append-nil xs)) (goes_lawful env xs b entry g e) }

pub completed_goes : (env : Environment) (xs : List Occurrence) (n : ℕ) → IsCompletedBy env xs n → Goes (IsNamed env) (Some function_frames) (map mark xs)
completed_goes env xs n h =
    (goes_front (IsNamed env) (map mark xs) (map mark (ends_of n)) (Some function_frames)
    (subst (Goes (IsNamed env) (Some function_frames)) (map-append mark xs (ends_of n)) (lawful_goes env (xs ++ ends_of n) h.body h.lawful))).0

-- ---- an accepted body is the result

module _ {V : Type 0} (given : Setting V) (agrees : ReadingAgrees) where
  pub front_over : (xs : List Occurrence) (bytes rest : List ℕ) (w : V) (at : ℕ) → IsFront given xs bytes rest → validated given.check given.first (map placed xs) ≡ Ok w
      → Goes (IsNamed given.environment) (Some function_frames) (map mark xs) → at + length rest ≡ given.start + length bytes
      → Over given nothing_read given.first given.start bytes xs (progress_after nothing_read (map mark xs)) w at rest
  front_over xs bytes rest w at f p g e = record { spelt = f.spelt; have_locations = f.have_locations; located = f.located; passes = p; goes = g; ends = refl; place_is = e }

  entered : (bytes : List ℕ) → IsOk (entry_type_id given.environment) → parsed given bytes ≡ parsed_from given (length bytes) nothing_read given.first given.start bytes
  entered bytes h = let i = is_ok (entry_type_id given.environment) h in ap (λ r. parsed_after_entry given r bytes) i.1

  pub accepted_parsed : (bytes : List ℕ) (b : Body Occurrence) → Accepted given bytes b → parsed given bytes ≡ Ok b
  accepted_parsed bytes b a =
      let p = is_ok (validated given.check given.first (map placed a.operators)) a.all.passes in
      let env = given.environment in
      let o = front_over a.operators bytes [] p.0 (given.start + length bytes) a.all p.1 (lawful_goes env a.operators b a.lawful) (omega arith) in
      let g = over given agrees a.operators (length bytes) nothing_read given.first given.start bytes (progress_after nothing_read (map mark a.operators)) p.0 (given.start + length bytes) [] (omega arith) o in
      entered bytes a.lawful.entry ∙ g.same ∙ ap (λ q. parsed_from given g.left q p.0 (given.start + length bytes) []) (lawful_read env a.operators b a.lawful)

  within_stops : (ls : List (Layer Occurrence)) (s : Sequence Occurrence) (w : V) (at : ℕ) (rest : List ℕ) (left : ℕ) (error : ParseError) → length rest ≤ left
      → FaultAfter given w (frames_of ls) at rest error → parsed_from given left (Within ls s) w at rest ≡ Err (failure error at)
  within_stops [] s w at [] left error enough f = ap (λ (z : ParseError). Err (failure z at)) (sym f)
  within_stops (l ∷ ls) s w at [] left error enough f = ap (λ (z : ParseError). Err (failure z at)) (sym f)
  within_stops ls s w at (x ∷ rest) zero error enough f = absurd (omega arith)
  within_stops [] s w at (x ∷ rest) (suc left) error enough f = rw f refl
  within_stops (l ∷ ls) s w at (x ∷ rest) (suc left) error enough f = rw f refl

  -- after a front that was parsed, the fault is the point where parsing stops
  fault_stops : (q : Progress Occurrence) (frames : List (SequenceFrame Occurrence)) (w : V) (at : ℕ) (rest : List ℕ) (left : ℕ) (error : ParseError) → progress_frames q ≡ Some frames → length rest ≤ left
      → FaultAfter given w frames at rest error → parsed_from given left q w at rest ≡ Err (failure error at)
  fault_stops NoBody frames w at rest left error e enough f = absurd (cc)
  fault_stops (Whole b) [] w at [] left error e enough f = absurd f
  fault_stops (Whole b) [] w at (x ∷ rest) left error e enough f = ap (λ (z : ParseError). Err (failure z at)) (sym f)
  fault_stops (Whole b) (g ∷ frames) w at rest left error e enough f = absurd (cc)
  fault_stops (Within ls s) frames w at rest left error e enough f = within_stops ls s w at rest left error enough (subst (λ gs. FaultAfter given w gs at rest error) (let h : frames_of ls ≡ frames = cc in sym h) f)

  pub fault_parsed : (bytes : List ℕ) (f : ParseFailure) → FirstFault given bytes f → parsed given bytes ≡ Err f
  fault_parsed bytes f (of_entry e at) = ap (λ r. parsed_after_entry given r bytes) e ∙ ap (λ (k : ℕ). Err (failure f.error k)) (sym at)
  fault_parsed bytes f (of_operators h) =
      let env = given.environment in
      let o = front_over h.front bytes h.rest h.state f.at h.is_front h.state_is (completed_goes env h.front (length h.frames) h.completes) h.place in
      let g = over given agrees h.front (length bytes) nothing_read given.first given.start bytes (progress_after nothing_read (map mark h.front)) h.state f.at h.rest (omega arith) o in
      let frames : progress_frames (progress_after nothing_read (map mark h.front)) ≡ Some h.frames = after_frames (map mark h.front) nothing_read ∙ h.frames_are in
      entered bytes h.completes.lawful.entry ∙ (g.same ∙ fault_stops (progress_after nothing_read (map mark h.front)) h.frames h.state f.at h.rest g.left f.error frames g.enough h.fault)

  -- ---- the result is an accepted body, or the first fault

  stop_of : (bytes : List ℕ) → AreBytes bytes → Stopped given nothing_read given.first given.start bytes (parsed_from given (length bytes) nothing_read given.first given.start bytes)
  stop_of bytes fits = stopped given agrees (length bytes) nothing_read given.first given.start bytes tt fits (omega arith)

  front_of : (bytes : List ℕ) (xs : List Occurrence) (q : Progress Occurrence) (w : V) (at : ℕ) (rest : List ℕ) → Over given nothing_read given.first given.start bytes xs q w at rest → IsFront given xs bytes rest
  front_of bytes xs q w at rest o =
      record { spelt = o.spelt; have_locations = o.have_locations; located = o.located; passes = ok_is (validated given.check given.first (map placed xs)) w o.passes }

  faulty : (bytes : List ℕ) (xs : List Occurrence) (q : Progress Occurrence) (w : V) (at : ℕ) (rest : List ℕ) (frames : List (SequenceFrame Occurrence)) (error : ParseError)
      → Over given nothing_read given.first given.start bytes xs q w at rest → IsCompletedBy given.environment xs (length frames) → progress_frames q ≡ Some frames → FaultAfter given w frames at rest error
      → FirstFault given bytes (failure error at)
  faulty bytes xs q w at rest frames error o s e f = of_operators (record {
    front = xs;
    rest = rest;
    frames = frames;
    state = w;
    is_front = front_of bytes xs q w at rest o;
    completes = s;
    frames_are = sym (after_frames (map mark xs) nothing_read) ∙ (ap progress_frames o.ends ∙ e);
    state_is = o.passes;
    place = o.place_is;
    fault = f;
  })

  -- either is the result
  abbrev pub ParseResults : List ℕ → Result (Body Occurrence) ParseFailure → Type 0
  ParseResults bytes (Ok b) = Accepted given bytes b
  ParseResults bytes (Err f) = FirstFault given bytes f

  result_cases : (bytes : List ℕ) (r : Result (Body Occurrence) ParseFailure) (xs : List Occurrence) (q : Progress Occurrence) (w : V) (at : ℕ) (rest : List ℕ) → IsOk (entry_type_id given.environment)
      → Over given nothing_read given.first given.start bytes xs q w at rest → StopsAt given q w at rest r → ParseResults bytes r
  result_cases bytes r xs NoBody w at rest entry o s = absurd s
  result_cases bytes r xs (Whole b) w at [] entry o s =
      subst (ParseResults bytes) (sym s) (record { operators = xs; all = front_of bytes xs (Whole b) w at [] o; lawful = goes_lawful given.environment xs b entry o.goes o.ends })
  result_cases bytes r xs (Whole b) w at (x ∷ rest) entry o s =
      subst (ParseResults bytes) (sym s) (faulty bytes xs (Whole b) w at (x ∷ rest) [] _ o (whole_completed given.environment xs b entry o.goes o.ends) refl refl)
  result_cases bytes r xs (Within [] t) w at [] entry o s =
      subst (ParseResults bytes) (sym s) (faulty bytes xs (Within [] t) w at [] (frames_of []) _ o (within_completed given.environment xs [] t entry o.goes o.ends) refl refl)
  result_cases bytes r xs (Within (l ∷ ls) t) w at [] entry o s =
      subst (ParseResults bytes) (sym s) (faulty bytes xs (Within (l ∷ ls) t) w at [] (frames_of (l ∷ ls)) _ o (within_completed given.environment xs (l ∷ ls) t entry o.goes o.ends) refl refl)
  result_cases bytes r xs (Within [] t) w at (x ∷ rest) entry o s =
      subst (ParseResults bytes) (sym s.2) (faulty bytes xs (Within [] t) w at (x ∷ rest) (frames_of []) s.0 o (within_completed given.environment xs [] t entry o.goes o.ends) refl s.1)
  result_cases bytes r xs (Within (l ∷ ls) t) w at (x ∷ rest) entry o s =
      subst (ParseResults bytes) (sym s.2) (faulty bytes xs (Within (l ∷ ls) t) w at (x ∷ rest) (frames_of (l ∷ ls)) s.0 o (within_completed given.environment xs (l ∷ ls) t entry o.goes o.ends) refl s.1)

  entry_case : (bytes : List ℕ) → AreBytes bytes → (o : Result ℕ ParseError) → entry_type_id given.environment ≡ o → ParseResults bytes (parsed_after_entry given o bytes)
  entry_case bytes fits (Err e) q = of_entry q refl
  entry_case bytes fits (Ok id) q =
      let s = stop_of bytes fits in
      result_cases bytes (parsed_from given (length bytes) nothing_read given.first given.start bytes) s.operators s.reached s.state s.at s.rest (ok_is (entry_type_id given.environment) id q) s.over s.stops

  pub parse_results : (bytes : List ℕ) → AreBytes bytes → ParseResults bytes (parsed given bytes)
  parse_results bytes fits = entry_case bytes fits (entry_type_id given.environment) refl

-- ---- the laws

module _ (agrees : ReadingAgrees) where
  pub one_body_accepted : (V : Type 0) → OneBodyAccepted V
  one_body_accepted V given bytes b c p q = ok_same {E = ParseFailure} b c (sym (accepted_parsed given agrees bytes b p) ∙ accepted_parsed given agrees bytes c q)

  pub accepted_has_no_fault : (V : Type 0) → AcceptedHasNoFault V
  accepted_has_no_fault V given bytes b f p q = not_both b f (sym (accepted_parsed given agrees bytes b p) ∙ fault_parsed given agrees bytes f q)
    where
      not_both : {B F : Type 0} (b : B) (f : F) → (let r : Result B F = Ok b in r) ≡ Err f → ⊥
      not_both b f e = cc

  pub one_first_fault : (V : Type 0) → OneFirstFault V
  one_first_fault V given bytes f g p q = err_same f g (sym (fault_parsed given agrees bytes f p) ∙ fault_parsed given agrees bytes g q)
    where
      err_same : {B F : Type 0} (f g : F) → (let r : Result B F = Err f in r) ≡ Err g → f ≡ g
      err_same f g e = cc

  pub accepted_or_fault : (V : Type 0) → AcceptedOrFault V
  accepted_or_fault V given bytes fits = either (parsed given bytes) (parse_results given agrees bytes fits)
    where
      either : (r : Result (Body Occurrence) ParseFailure) → ParseResults given agrees bytes r → ((b : Body Occurrence) × Accepted given bytes b) ⊎ ((f : ParseFailure) × FirstFault given bytes f)
      either (Ok b) h = inl (b, h)
      either (Err f) h = inr (f, h)
