-- The loop over the operators of a body that is written while it is read again: what was written is what is written of the
-- operators so far.
use Rattle.std.proofs.Common.{◌≡◌, ◌⊎◌, inl, inr, ℕ, zero, suc, ◌+◌, ◌-◌, ◌<◌, ◌≤◌, List, [], ◌∷◌, ◌++◌, length, map, Bool, true, false, Option, Some, None, Result, Ok, Err, refl, sym, ap, subst, ◌∙◌, arith}
use Rattle.std.specs.Borrow.{Bor}
use Rattle.std.specs.Fn.{Shared}
use Rattle.std.proofs.lemmas.List.{map-append}
use Rattle.wasm_numbers.specs.Results.{gather}
use Rattle.wasm_numbers.specs.declared.fault.ReadFault.{ReadFault}
use Rattle.wasm_operators.specs.Operations.{RawOperation}
use Rattle.wasm_operators.specs.Spelling.{Spells, read_operation}
use Rattle.wasm_operators.proofs.ReadingBytes.{reading_agrees}
use Rattle.wasm_ops.specs.Position.{Position}
use Rattle.wasm_body.specs.declared.error.EmitError.{EmitError}
use Rattle.wasm_body.specs.declared.error.EmitError.TheVariants.{Memory}
use Rattle.wasm_body.specs.Bytes.{Numbers}
use Rattle.wasm_body.specs.Control.{Marked, Control}
use Rattle.wasm_body.specs.Frames.{SequenceFrame, function_frames}
use Rattle.wasm_body.specs.Naming.{NamedOperation, Occurrence, named_in}
use Rattle.wasm_body.specs.NormalForm.{Typing, typing_of, construct_type, name_at}
use Rattle.wasm_body.specs.TextLaws.{mark_named}
use Rattle.wasm_body.specs.Translation.{Located, at_location}
use Rattle.wasm_body.specs.Parsing.Accepted.{mark, placed, has_location, validated, IsNamed}
use Rattle.wasm_body.specs.Parsing.Progress.{Layer, Progress, Whole, nothing_read, frames_of, further, progress_after}
use Rattle.wasm_body.proofs.Structure.Mapped.{map_mark}
use Rattle.wasm_body.proofs.Structure.ReadFrames.{Goes, body_goes}
use Rattle.wasm_body.proofs.Structure.ReadTexts.{IsRead, read_text}
use Rattle.wasm_body.proofs.Structure.ReadingTrees.{body_read}
use Rattle.wasm_body.proofs.Parsing.ParseResults.{is_ok, front_over}
use Rattle.wasm_body.proofs.Parsing.Parses.{Over}
use Rattle.wasm_body.proofs.ReadBack.FrameNames.{named_of}
use Rattle.walrus_maps.specs.Environments.{environment_of}
use Rattle.walrus_numbering.specs.NumberMaps.{numbers_by}
use Rattle.walrus_flat.specs.UsedLocals.{entries_of}
use Rattle.walrus_parser.specs.Bodies.{ParseInput, setting_with}
use Rattle.walrus_validators.specs.Locating.{MayCall, Locates, HasNoLocation}
use Rattle.walrus_parser.specs.Settings.{operators_of}
use Rattle.walrus_parser.proofs.Bodies.{is_whole, whole_mapping}
use Rattle.walrus_parser.proofs.Mappings.{rise-wider}
use Rattle.walrus_parser.proofs.ParsedSoFar.{begins, occurrence, progress-append}
use Rattle.wasm_body.specs.Flat.{Named, first_state, written_at, after, flat, numbered_at_location, IsWrittenSo}
use Rattle.wasm_body.specs.FlatLaws.{without_location}
use Rattle.wasm_body.proofs.Flat.Fronts as fronts
use Rattle.wasm_body.proofs.Flat.OtherLocations.{faults_anywhere}
use Rattle.walrus_emit_state.specs.Emission.{Output}
use Rattle.walrus_emit_state.specs.TreeWriting.Drafts.{Drafted}
use Rattle.walrus_flat.specs.declared.writer.Writer.{Writer}
use Rattle.walrus_flat.specs.Checked.{marks}
use Rattle.walrus_flat.specs.Laws.{written_of}
use Rattle.walrus_flat.specs.Written.{drafted, flat_state_of}
use Rattle.walrus_flat.specs.Writers.{numbers_of_writer, env_at, IsSameWriter, Takes, IsTaken, StepsWriter}
use Rattle.walrus_flat.specs.WrittenBody.{unlocated, some_locations, IsAcceptedBody, WritesBody, WritesFirst, RefusesWriting, WritesNumber, StopsWriting}
use Rattle.walrus_flat.specs.Sinks.{no_output, joined_outputs, IsLeft, OfWhole}
use Rattle.walrus_flat.proofs.Drafts.{drafted-append}
use Rattle.walrus_flat.proofs.SinkLemmas.{left_as_is, left_then, left_more}
use Rattle.walrus_flat.proofs.CheckedWhole.{read_operators}
use Rattle.walrus_flat.proofs.WrittenFronts.{is_read, text_of, read_marks, ReadsAgain, LeftOf, NextOf, its_read, next_of, continues, marks_more, ends}

-- ---- what was read

abbrev Read : Type 0
Read = Result (RawOperation × List ℕ) ReadFault

same_first : (a b : RawOperation) (c d : List ℕ) → (let r : Read = Ok (a, c) in r) ≡ Ok (b, d) → a ≡ b
same_first a b c d e = let both : (let p : RawOperation × List ℕ = (a, c) in p) ≡ (b, d) = cc in ap (λ (p : RawOperation × List ℕ). p.0) both

same_second : (a b : RawOperation) (c d : List ℕ) → (let r : Read = Ok (a, c) in r) ≡ Ok (b, d) → c ≡ d
same_second a b c d e = let both : (let p : RawOperation × List ℕ = (a, c) in p) ≡ (b, d) = cc in ap (λ (p : RawOperation × List ℕ). p.1) both

-- ---- operators by their names

-- the marks of operators that were read
marks_are : (xs : List Occurrence) → map (map_mark name_at) (map mark xs) ≡ marks xs
marks_are [] = refl
marks_are (x ∷ xs) = ap (λ l. mark_named (name_at x) ∷ l) (marks_are xs)

marks-append : (xs ys : List Occurrence) → marks (xs ++ ys) ≡ marks xs ++ marks ys
marks-append xs ys = ap (map mark_named) (map-append name_at xs ys) ∙ map-append mark_named (map name_at xs) (map name_at ys)

-- without locations
abbrev by_name : Marked NamedOperation → NamedOperation × Control
by_name x = (x.shown, x.control)

bare_names : (xs : List (Marked Occurrence)) → map without_location (map (map_mark name_at) xs) ≡ map by_name (map (map_mark named_of) xs)
bare_names [] = refl
bare_names (x ∷ xs) = ap (λ l. (x.shown.named, x.control) ∷ l) (bare_names xs)

some_frame : (ls : List (Layer Occurrence)) → (g : SequenceFrame Occurrence) × (gs : List (SequenceFrame Occurrence)) × (frames_of ls ≡ g ∷ gs)
some_frame [] = (_, _, refl)
some_frame (l ∷ ls) = (_, _, refl)

-- `Takes` with numbers that are given
record Took (m : Typing) (w new : Writer) (x : Marked Named) (k : Numbers) : Type 0 where
  same : IsSameWriter w new
  operators : List (Located RawOperation)
  are_numbered : gather (map (numbered_at_location k m) (written_at (flat_state_of w.«open») x)) ≡ Ok operators
  draft : new.draft ≡ drafted w.draft operators
  state_is : flat_state_of new.«open» ≡ after (λ q. k.balanced (construct_type m q)) (flat_state_of w.«open») x

took : (m : Typing) (w new : Writer) (x : Marked Named) → Takes m w new x → Took m w new x (numbers_of_writer w)
took m w new x h = record { same = h.same; operators = h.operators; are_numbered = h.are_numbered; draft = h.draft; state_is = h.state_is }

-- operators without their locations
unlocated_marks : (xs : List Occurrence) → map (λ m. m.shown) (map (map_mark unlocated) (map mark xs)) ≡ map unlocated xs
unlocated_marks [] = refl
unlocated_marks (x ∷ xs) = ap (λ ys. unlocated x ∷ ys) (unlocated_marks xs)

-- ---- the writer of the same body

same_env : (first w : Writer) → IsSameWriter first w → env_at w w.ty ≡ env_at first first.ty
same_env first w s = λ k. environment_of (s.«module» k).now (s.indices k).now (s.function k) (s.ty k)

same_numbers : (first w : Writer) → IsSameWriter first w → numbers_of_writer w ≡ numbers_of_writer first
same_numbers first w s = λ k. numbers_by (s.«module» k).now.types (s.out k).now (entries_of (s.locals k).now)

-- ---- the bytes of some operators

pub number_moves : {F : Type 0} (g : Shared F (Bor ℕ × Unit {0}) ℕ) (o : Option (Bor F)) (n : ℕ) (from to : Position) (old new : Writer) → WritesNumber g o n from to old new →
    (to.place + length to.rest ≡ from.place + length from.rest) × (length to.rest ≤ length from.rest)
number_moves g o zero from to old new h =
    let place : to.place ≡ from.place = ap (λ (p : Position). p.place) h.0 in
    let rest : length to.rest ≡ length from.rest = ap (λ (p : Position). length p.rest) h.0 in
    (omega (arith, place, rest), omega (arith, rest))
number_moves g o (suc n) from to old new h =
    let before = number_moves g o n from h.0 old h.1 h.2 in
    let next = h.3.moves in
    (next.0 ∙ before.0, omega (arith, next.1, before.1))

pub some_moves : {F : Type 0} (g : Shared F (Bor ℕ × Unit {0}) ℕ) (o : Option (Bor F)) (n : ℕ) (from to : Position) (old new : Writer) → WritesNumber g o (suc n) from to old new → length to.rest < length from.rest
some_moves g o n from to old new h =
    let before = number_moves g o n from h.0 old h.1 h.2 in
    omega (arith, h.3.moves.1, before.1)

pub some_number : {F : Type 0} (g : Shared F (Bor ℕ × Unit {0}) ℕ) (o : Option (Bor F)) (n : ℕ) (from to : Position) (old new : Writer) → WritesNumber g o n from to old new → length to.rest < length from.rest →
    (m : ℕ) × WritesNumber g o (suc m) from to old new
some_number g o zero from to old new h less =
    let rest : length to.rest ≡ length from.rest = ap (λ (p : Position). length p.rest) h.0 in
    absurd (omega (arith, rest, less))
some_number g o (suc n) from to old new h less = (n, h)

may_call_within : {F : Type 0} (pre : F → Bor ℕ → Type 0) (o : Option (Bor F)) (from to first last : ℕ) → from ≤ first → last ≤ to → MayCall pre o from to → MayCall pre o first last
may_call_within pre None from to first last low high may = tt
may_call_within pre (Some f) from to first last low high may = λ p least most. may p (omega arith) (omega arith)

-- before the first operator
pub none_written : {F : Type 0} (g : Shared F (Bor ℕ × Unit {0}) ℕ) (i : ParseInput (Unit {0}) F) (to : Numbers) → IsAcceptedBody i → (d : Drafted) → WritesFirst g i to d d
none_written g i to a d = (
  a,
  record {
    front = [];
    others = map unlocated (operators_of a.body);
    are_first = refl;
    mapping = [];
    is_mapping = record { pairs = refl; rise = omega arith; are_located = tt };
    operators = [];
    are_written = refl;
    draft = refl;
  },
)

module _ {F S : Type 0} (g : Shared F (Bor ℕ × Unit {0}) ℕ) (i : ParseInput (Unit {0}) F) (first : Writer) (takes : S → S → Output → Type 0) (start : S) where
  abbrev to : Numbers
  to = numbers_of_writer first

  abbrev typing : Typing
  typing = typing_of i.environment

  abbrev balanced : NamedOperation → Bool
  balanced o = to.balanced (construct_type typing o)

  abbrev locations : Option (ℕ → ℕ)
  locations = some_locations i.on_instr_pos

  -- The operators that were read, and what was written of them, of which the sink took the front.
  pub record WritesSoFar (w : Writer) (sink : S) (place : ℕ) (rest : List ℕ) : Type 0 where
    pub same : IsSameWriter first w
    pub accepted : IsAcceptedBody i
    pub read : Progress Occurrence
    pub its : Progress Occurrence
    pub mapping : List (ℕ × ℕ)
    pub left : List Occurrence
    pub left_of : LeftOf g i locations accepted.body read its tt place rest mapping left
    pub written : List (Located RawOperation)
    pub is_written : IsWrittenSo to typing balanced (read_marks read) (flat_state_of w.«open») written
    pub draft : IsLeft takes start sink (drafted first.draft written) w.draft

  -- nothing changed
  pub still : (w new : Writer) (sink : S) (place : ℕ) (rest : List ℕ) → new ≡ w → WritesSoFar w sink place rest → WritesSoFar new sink place rest
  still w new sink place rest same = subst (λ k. WritesSoFar k sink place rest) (sym same)

  -- the sink took what was there
  pub passed : (w : Writer) (sink next : S) (place : ℕ) (rest : List ℕ) (left : Drafted) → ((a b c : S) (first second : Output) → takes a b first → takes b c second → takes a c (joined_outputs first second)) → IsLeft takes sink next w.draft left →
      WritesSoFar w sink place rest → WritesSoFar (record w { draft = left }) next place rest
  passed w sink next place rest left both h so = record {
    same = record { «module» = so.same.«module»; indices = so.same.indices; function = so.same.function; ty = so.same.ty; out = so.same.out; locals = so.same.locals };
    accepted = so.accepted;
    read = so.read;
    its = so.its;
    mapping = so.mapping;
    left = so.left;
    left_of = so.left_of;
    written = so.written;
    is_written = so.is_written;
    draft = left_then takes start sink next (drafted first.draft so.written) w.draft left (both start sink next) so.draft h;
  }

  -- ---- before the first operator

  pub begins_writing : i.check ≡ (λ v x. Ok tt) → i.first ≡ tt → IsAcceptedBody i → flat_state_of first.«open» ≡ first_state → takes start start no_output → WritesSoFar first start i.start i.bytes
  begins_writing accepts starts a none nothing =
      let given = setting_with i locations in
      let ok = is_ok (validated given.check given.first (map placed a.accepted.operators)) a.accepted.all.passes in
      let goes : Goes (IsNamed i.environment) (Some function_frames) (map mark a.accepted.operators) =
      subst (Goes (IsNamed i.environment) (Some function_frames)) (sym a.accepted.lawful.is_body) (body_goes (IsNamed i.environment) a.body a.accepted.lawful.named) in
      let whole : progress_after nothing_read (map mark a.accepted.operators) ≡ Whole a.body = ap (progress_after nothing_read) a.accepted.lawful.is_body ∙ body_read a.body in
      let over = front_over given reading_agrees a.accepted.operators i.bytes [] ok.0 (i.start + length i.bytes) a.accepted.all ok.1 goes (omega arith) in
      record {
        same = record { «module» = refl; indices = refl; function = refl; ty = refl; out = refl; locals = refl };
        accepted = a;
        read = nothing_read;
        its = nothing_read;
        mapping = [];
        left = a.accepted.operators;
        left_of = record {
          reads = begins g i.on_instr_pos i.environment i.start i.offset i.check i.first i.bytes;
          last = ok.0;
          end = i.start + length i.bytes;
          over = subst (λ q. Over given nothing_read i.first i.start i.bytes a.accepted.operators q ok.0 (i.start + length i.bytes) []) whole over;
          same = refl;
          front = [];
          front_read = refl;
          names = refl;
          alike = refl;
        };
        written = [];
        is_written = record { state_is = none; written_are = refl };
        draft = left_as_is takes start first.draft nothing;
      }

  -- ---- the next operator

  module _ (w : Writer) (sink : S) (place : ℕ) (rest : List ℕ) (so : WritesSoFar w sink place rest) where
    pub may_call_from_here : (pre : F → Bor ℕ → Type 0) → MayCall pre i.on_instr_pos i.start (i.start + length i.bytes) → MayCall pre i.on_instr_pos place (place + length rest)
    may_call_from_here pre may =
        let r = so.left_of.reads in
        let at = r.place_is in
        may_call_within pre i.on_instr_pos i.start (i.start + length i.bytes) place (place + length rest) r.started (omega arith) may

    module _ (some : 0 < length rest) where
      abbrev next_one : NextOf g i locations so.accepted.body so.read so.its tt place rest so.left so.left_of.last so.left_of.end
      next_one = next_of g i locations so.accepted.body so.read so.its tt place rest so.left so.left_of.last so.left_of.end so.left_of.over so.left_of.same some

      -- it can be read
      pub unreadable : (fault : ReadFault) → read_operation rest ≡ Err fault → ⊥
      unreadable fault e = let both = sym e ∙ next_one.read in cc

      -- and has a location
      pub is_located : HasNoLocation i.on_instr_pos place → ⊥
      is_located h = by_left so.left next_one.left_is so.left_of.over
        where
          fits : (o : Option (Bor F)) (at : ℕ) → at ≡ place → has_location (some_locations o) at ≡ true → HasNoLocation o place → ⊥
          fits None at e has not = let both : true ≡ false = sym has ∙ (ap (has_location {F = Bor F} None) e ∙ not) in cc
          fits (Some f) at e has not = let both : true ≡ false = not in cc

          by_left : (xs : List Occurrence) → xs ≡ next_one.first ∷ next_one.others → Over (setting_with i locations) so.its tt place rest xs (Whole so.accepted.body) so.left_of.last so.left_of.end [] → ⊥
          by_left [] e over = cc
          by_left (x ∷ xs) e over = fits i.on_instr_pos x.place over.spelt.0 over.have_locations.0 h

      module _ (o : RawOperation) (following text : List ℕ) (read : read_operation rest ≡ Ok (o, following)) (spells : Spells o text) (location : ℕ) where
        spelt_is : next_one.first.spelt ≡ o
        spelt_is = same_first next_one.first.spelt o next_one.following following (sym next_one.read ∙ read)

        following_is : next_one.following ≡ following
        following_is = same_second next_one.first.spelt o next_one.following following (sym next_one.read ∙ read)

        abbrev this : Occurrence
        this = occurrence next_one.first.spelt place location next_one.first.named

        abbrev this_marked : Marked Named
        this_marked = mark_named (at_location next_one.first.named location)

        -- what the step of the writer shows of it
        taken_in : (ls : List (Layer Occurrence)) → named_in i.environment (frames_of ls) next_one.first.spelt ≡ Ok next_one.first.named → (new : Writer) (r : Result (Unit {0}) EmitError) → env_at w w.ty ≡ i.environment → StepsWriter w new o location r →
            IsTaken typing w new this_marked r
        taken_in ls named new r env step =
            let f = some_frame ls in
            let there : named_in (env_at w w.ty) (f.0 ∷ f.1) o ≡ Ok next_one.first.named =
            ap (λ e. named_in e (f.0 ∷ f.1) o) env ∙ (ap (λ fs. named_in i.environment fs o) (sym f.2) ∙ (ap (named_in i.environment (frames_of ls)) (sym spelt_is) ∙ named)) in
            subst (λ e. IsTaken (typing_of e) w new this_marked r) env (step w.ty f.0 f.1 text next_one.first.named spells there)

        module _ (new : Writer) (env : env_at w w.ty ≡ i.environment) (numbers : numbers_of_writer w ≡ to) where
          -- it was written
          pub goes_on : StepsWriter w new o location (Ok tt) → Locates g i.on_instr_pos place location → (next : ℕ) → next + length following ≡ place + length rest → length following < length rest → WritesSoFar new sink next following
          goes_on step located next moves shorter =
              let n = next_one in
              let l = so.left_of in
              let t = subst (Took typing w new this_marked) numbers (took typing w new this_marked (taken_in n.layers n.is_named new (Ok tt) env step)) in
              let left = continues g i locations so.accepted.body so.read so.its tt place next location rest so.mapping so.left l n located (ap (λ (q : List ℕ). next + length q) following_is ∙ moves) (subst (λ (q : List ℕ). length q < length rest) (sym following_is) shorter) in
              let was : IsRead so.read = is_read so.read so.its (its_read g i locations so.accepted.body so.its tt l.last place l.end rest so.left l.over) l.same in
              let now : IsRead (further so.read (mark this)) = is_read (further so.read (mark this)) (further so.its (mark n.first)) (its_read g i locations so.accepted.body (further so.its (mark n.first)) n.state left.last next left.end n.following n.others left.over) left.same in
              let more = marks_more g i locations so.accepted.body so.read so.its tt place rest so.mapping so.left l this was now in
              record {
                same = record { «module» = t.same.«module» ∙ so.same.«module»; indices = t.same.indices ∙ so.same.indices; function = t.same.function ∙ so.same.function; ty = t.same.ty ∙ so.same.ty; out = t.same.out ∙ so.same.out; locals = t.same.locals ∙ so.same.locals };
                accepted = so.accepted;
                read = further so.read (mark this);
                its = further so.its (mark n.first);
                mapping = so.mapping ++ (place - i.offset, location) ∷ [];
                left = n.others;
                left_of = subst (λ q. LeftOf g i locations so.accepted.body (further so.read (mark this)) (further so.its (mark n.first)) tt next q (so.mapping ++ (place - i.offset, location) ∷ []) n.others) following_is left;
                written = so.written ++ t.operators;
                is_written =
                    subst (λ s. IsWrittenSo to typing balanced (read_marks (further so.read (mark this))) s (so.written ++ t.operators)) (sym t.state_is)
                    (subst (λ xs. IsWrittenSo to typing balanced xs (after balanced (flat_state_of w.«open») this_marked) (so.written ++ t.operators)) (sym more)
                    (fronts.continues balanced to typing (read_marks so.read) (flat_state_of w.«open») so.written so.is_written this_marked t.operators t.are_numbered));
                draft =
                    subst (λ (d : Drafted). IsLeft takes start sink (drafted first.draft (so.written ++ t.operators)) d) (sym t.draft)
                    (subst (λ (d : Drafted). IsLeft takes start sink d (drafted w.draft t.operators)) (sym (drafted-append first.draft so.written t.operators))
                    (left_more takes start sink (drafted first.draft so.written) w.draft t.operators so.draft));
              }

          -- it has a fault, which is that of the whole
          pub refuses : (e : EmitError) → gather (map (numbered_at_location (numbers_of_writer w) typing) (written_at (flat_state_of w.«open») this_marked)) ≡ Err e → RefusesWriting g i to e
          refuses e h =
              let n = next_one in
              let l = so.left_of in
              let fault = subst (λ (k : Numbers). gather (map (numbered_at_location k typing) (written_at (flat_state_of w.«open») this_marked)) ≡ Err e) numbers h in
              let broken = fronts.breaks balanced to typing (read_marks so.read) (flat_state_of w.«open») so.written so.is_written this_marked e fault (marks n.others) in
              let all = l.front ++ n.first ∷ n.others in
              let read_all : progress_after nothing_read (map mark all) ≡ Whole so.accepted.body =
              ap (progress_after nothing_read) (map-append mark l.front (n.first ∷ n.others))
              ∙ (progress-append (map mark l.front) (map mark (n.first ∷ n.others)) nothing_read
              ∙ (ap (λ p. progress_after p (map mark (n.first ∷ n.others))) l.front_read ∙ (ap (λ xs. progress_after so.its (map mark xs)) (sym n.left_is) ∙ l.over.ends))) in
              let same_front : map without_location (read_marks so.read) ≡ map without_location (marks l.front) =
              bare_names (read_text so.read []) ∙ (ap (map by_name) l.names ∙ (sym (bare_names (map mark l.front)) ∙ ap (map without_location) (marks_are l.front))) in
              let alike : map without_location (read_marks so.read ++ this_marked ∷ marks n.others) ≡ map without_location (marks all) =
              map-append without_location (read_marks so.read) (this_marked ∷ marks n.others)
              ∙ (ap (λ xs. xs ++ map without_location (this_marked ∷ marks n.others)) same_front
              ∙ (sym (map-append without_location (marks l.front) (marks (n.first ∷ n.others))) ∙ ap (map without_location) (sym (marks-append l.front (n.first ∷ n.others))))) in
              record {
                accepted = so.accepted;
                fault =
                    ap (λ xs. written_of i.environment to xs) (sym (read_operators all so.accepted.body read_all))
                    ∙ faults_anywhere to typing balanced (read_marks so.read ++ this_marked ∷ marks n.others) (marks all) alike e broken;
              }

          pub taken_here : (r : Result (Unit {0}) EmitError) → StepsWriter w new o location r → IsTaken typing w new this_marked r
          taken_here r step = taken_in next_one.layers next_one.is_named new r env step

    -- ---- no bytes remain

    pub completes : i.offset ≤ i.start → length rest ≡ 0 → OfWhole takes start sink (WritesBody g i to first.draft) w.draft
    completes fits none =
        let l = so.left_of in
        let e = ends g i locations so.accepted.body so.read so.its tt place rest so.mapping so.left l none in
        let reads = subst (λ q. ReadsAgain g i locations q tt place rest so.mapping) e.1 l.reads in
        let operators_are = read_operators reads.operators e.0 reads.are_read in
        let text = text_of reads.operators (Whole e.0) reads.are_read tt in
        let marked : marks (operators_of e.0) ≡ read_marks so.read =
        ap marks (sym operators_are) ∙ (sym (marks_are reads.operators) ∙ (ap (map (map_mark name_at)) (sym text) ∙ ap read_marks (sym e.1))) in
        record {
          whole = drafted first.draft so.written;
          is_left = so.draft;
          holds_of_it = record {
            mapping = so.mapping;
            body = e.0;
            is_parsed = is_whole g i fits e.0 tt place rest so.mapping reads none;
            is_mapping = whole_mapping g i fits e.0 tt place rest so.mapping reads;
            operators = so.written;
            are_written = ap (λ xs. gather (map (numbered_at_location to typing) (flat balanced first_state xs))) marked ∙ so.is_written.written_are;
            draft = refl;
          };
        }

    -- ---- what was written

    was_read : IsRead so.read
    was_read = is_read so.read so.its (its_read g i locations so.accepted.body so.its tt so.left_of.last place so.left_of.end rest so.left so.left_of.over) so.left_of.same

    abbrev its_operators : List Occurrence
    its_operators = so.left_of.reads.operators

    text_is : read_text so.read [] ≡ map mark its_operators
    text_is = text_of its_operators so.read so.left_of.reads.are_read was_read

    -- those that were read are the first of the body, locations aside
    are_first : map unlocated (operators_of so.accepted.body) ≡ map unlocated its_operators ++ map unlocated so.left
    are_first =
        let l = so.left_of in
        let all = l.front ++ so.left in
        let read_all : progress_after nothing_read (map mark all) ≡ Whole so.accepted.body =
        ap (progress_after nothing_read) (map-append mark l.front so.left)
        ∙ (progress-append (map mark l.front) (map mark so.left) nothing_read
        ∙ (ap (λ p. progress_after p (map mark so.left)) l.front_read ∙ l.over.ends)) in
        let same : map unlocated l.front ≡ map unlocated its_operators =
        sym (unlocated_marks l.front)
        ∙ (ap (map (λ m. m.shown)) (sym l.alike ∙ ap (map (map_mark unlocated)) text_is) ∙ unlocated_marks its_operators) in
        ap (map unlocated) (sym (read_operators all so.accepted.body read_all))
        ∙ (map-append unlocated l.front so.left ∙ ap (λ xs. xs ++ map unlocated so.left) same)

    pub some_written : OfWhole takes start sink (WritesFirst g i to first.draft) w.draft
    some_written =
        let r = so.left_of.reads in
        let m = r.is_mapping in
        let at = r.place_is in
        let marked : marks its_operators ≡ read_marks so.read = sym (marks_are its_operators) ∙ ap (map (map_mark name_at)) (sym text_is) in
        record {
          whole = drafted first.draft so.written;
          is_left = so.draft;
          holds_of_it = (
            so.accepted,
            record {
              front = its_operators;
              others = map unlocated so.left;
              are_first = are_first;
              mapping = so.mapping;
              is_mapping = record { pairs = m.pairs; rise = rise-wider its_operators i.start place (i.start + length i.bytes) (omega arith) m.rise; are_located = m.are_located };
              operators = so.written;
              are_written = ap (λ xs. gather (map (numbered_at_location to typing) (flat balanced first_state xs))) marked ∙ so.is_written.written_are;
              draft = refl;
            },
          );
        }

  -- ---- some operators

  module _ (env : env_at first first.ty ≡ i.environment) (sink : S) (from : Position) (w : Writer) (so : WritesSoFar w sink from.place from.rest) where
    pub goes_over : (n : ℕ) (at : Position) (middle : Writer) → WritesNumber g i.on_instr_pos n from at w middle → WritesSoFar middle sink at.place at.rest
    goes_over zero at middle h = subst (λ (p : Position). WritesSoFar middle sink p.place p.rest) (sym h.0) (still w middle sink from.place from.rest h.1 so)
    goes_over (suc n) at middle h =
        let before = h.0 in
        let old = h.1 in
        let s = h.3 in
        let now = goes_over n before old h.2 in
        let some : 0 < length before.rest = omega (arith, s.moves.1) in
        goes_on old sink before.place before.rest now some s.operator at.rest s.text s.is_read s.spells s.location middle (same_env first old now.same ∙ env) (same_numbers first old now.same) s.step s.located at.place s.moves.0 s.moves.1

    pub stops : (n : ℕ) (at : Position) (middle : Writer) (e : EmitError) → WritesNumber g i.on_instr_pos n from at w middle → StopsWriting g i.on_instr_pos at middle e → (e ≡ Memory) ⊎ RefusesWriting g i to e
    stops n at middle e h s =
        let now = goes_over n at middle h in
        elim s.why [
          | inl none ↦ absurd (is_located middle sink at.place at.rest now s.some none)
          | inr (inl fault) ↦ absurd (unreadable middle sink at.place at.rest now s.some fault.0 fault.1)
          | inr (inr x) ↦ refused now x
        ]
      where
        refused : WritesSoFar middle sink at.place at.rest → (operator : RawOperation) × (following : List ℕ) × (read_operation at.rest ≡ Ok (operator, following)) × ((text : List ℕ) × Spells operator text)
            × ((location : ℕ) × (new : Writer) × StepsWriter middle new operator location (Err e)) →
            (e ≡ Memory) ⊎ RefusesWriting g i to e
        refused now x =
            let env = same_env first middle now.same ∙ env in
            let numbers = same_numbers first middle now.same in
            elim (taken_here middle sink at.place at.rest now s.some x.0 x.1 x.3.0 x.2 x.3.1 x.4.0 x.4.1 env numbers (Err e) x.4.2) [
              | inl memory ↦ inl memory
              | inr fault ↦ inr (refuses middle sink at.place at.rest now s.some x.0 x.1 x.3.0 x.2 x.3.1 x.4.0 x.4.1 env numbers e fault)
            ]
