-- Sequences, while they are written.
use Rattle.std.proofs.Common.{◌≡◌, ℕ, ◌-◌, false, is_some, List, [], ◌∷◌, ◌++◌, map, length, take, Option, Some, None, Ok, refl, sym, ap, subst, ◌∙◌, append_assoc}
use Rattle.std.specs.Option.{option_or}
use Rattle.std.proofs.lemmas.List.{append-nil}
use Rattle.code_moves.specs.declared.body.Body.{Body}
use Rattle.code_moves.specs.Moves.{address_moved}
use Rattle.dwarf_line.specs.declared.operation.Operation.{Operation}
use Rattle.dwarf_line.specs.declared.operation.Operation.TheVariants.{EndSequence}
use Rattle.dwarf_line.specs.declared.place.Place.{Place}
use Rattle.dwarf_line.specs.Kept.{line_kept, KeepsOfLines}
use Rattle.dwarf_line.specs.LineProgram.{Parameters, LineState, LineRow, initial, initial_registers, state_after_all, all_appended}
use Rattle.dwarf_line.specs.MovedRows.{moved_row, moved_sequence}
use Rattle.dwarf_line.specs.Operations.{line_operation}
use Rattle.dwarf_line.specs.Repeated.{Begin, ReadsAs}
use Rattle.dwarf_line.specs.Written.{line_state, FollowsOfLines, line_start as start, IsEnded, first_address, IsSequence, AddsRows}
use Rattle.dwarf_line.proofs.Local.{operation_local, operation_some}
use Rattle.dwarf_line.proofs.KeptLemmas.{keeps_nothing, keeps-append, keeps_one, keeps_some}
use Rattle.dwarf_line.proofs.RepeatedLemmas.{begin-append, begin_one, begin_text, one_begin, spells_one, taken_front}
use Rattle.dwarf_line.proofs.MachineLemmas.{state_after_all-append, adds_nothing, follows-append}
use Rattle.dwarf_bytes.specs.declared.fault.DebugFault.TheVariants.{Truncated}

-- ---- the end of a sequence

last_of : List Operation → Option Operation
last_of [] = None
last_of (o ∷ os) = option_or (last_of os) (Some o)

last_of-append : (os : List Operation) (o : Operation) → last_of (os ++ o ∷ []) ≡ Some o
unfolding last_of
last_of-append [] o = refl
last_of-append (x ∷ os) o = rw (last_of-append os o) refl

some_same : {A : Type 0} (x y : A) → Some x ≡ Some y → x ≡ y
some_same x y e = cc

last_ends : (os : List Operation) (o : Operation) → IsEnded (os ++ o ∷ []) → o ≡ EndSequence
last_ends os o h = some_same o EndSequence (sym (last_of-append os o) ∙ ap last_of h.1 ∙ last_of-append h.0 EndSequence)

pub ended_after : (p : Parameters) (os : List Operation) (s : LineState) → IsEnded os → state_after_all p os s ≡ initial p
ended_after p os s h = ap (λ z. state_after_all p z s) h.1 ∙ state_after_all-append p h.0 (EndSequence ∷ []) s

-- ---- operations that are written

-- What is written for the operations of a sequence so far, which are these bytes of it.
pub record WrittenSoFar (bodies : List Body) (p : Parameters) (bytes rest : List ℕ) (place : Place) (old new : List ℕ) : Type 0 where
  pub done : List Operation
  pub reads : Begin (line_operation p) done bytes rest
  pub front : List ℕ
  pub split : bytes ≡ front ++ rest
  pub texts : List (List ℕ)
  pub source_keeps : KeepsOfLines p front texts
  pub follows : FollowsOfLines bodies p done start place old new texts
  pub ended : IsEnded done → place ≡ start

pub nothing_written : (bodies : List Body) (p : Parameters) (bytes old : List ℕ) → WrittenSoFar bodies p bytes bytes start old old
nothing_written bodies p bytes old = record {
  done = [];
  reads = refl;
  front = [];
  split = refl;
  texts = [];
  source_keeps = keeps_nothing p;
  follows = record { operations = []; adds = adds_nothing p old; carries = record { rows = λ x. refl; after = λ x. refl; address = λ x. refl } };
  ended = λ h. refl;
}

-- the bytes of one operation
record Taken (p : Parameters) (o : Operation) (rest following text : List ℕ) : Type 0 where
  split : rest ≡ text ++ following
  spells : ReadsAs (line_operation p) (o ∷ []) text

taken : (p : Parameters) (o : Operation) (rest following text : List ℕ) → line_operation p rest ≡ Ok (o, following) → text ≡ take (length rest - length following) rest → Taken p o rest following text
taken p o rest following text read text_is =
    let t = (operation_local p).takes rest o following read in
    let same : text ≡ t.text = text_is ∙ taken_front rest t.text following t.split in
    record { split = rw same t.split; spells = rw same (spells_one (line_operation p) o t.text t.again) }

pub written_more : (bodies : List Body) (p : Parameters) (bytes rest following text : List ℕ) (place to : Place) (old between new : List ℕ) (o : Operation)
    → WrittenSoFar bodies p bytes rest place old between → line_operation p rest ≡ Ok (o, following) → text ≡ take (length rest - length following) rest
    → (ReadsAs (line_operation p) (o ∷ []) text → FollowsOfLines bodies p (o ∷ []) place to between new (line_kept p o text)) → (o ≡ EndSequence → to ≡ start) → WrittenSoFar bodies p bytes following to old new
written_more bodies p bytes rest following text place to old between new o s read text_is follows ends =
    let t = taken p o rest following text read text_is in
    record {
      done = s.done ++ o ∷ [];
      reads = begin-append (line_operation p) s.done (o ∷ []) bytes rest following s.reads (begin_one (line_operation p) o rest following read);
      front = s.front ++ text;
      split = s.split ∙ ap (λ (z : List ℕ). s.front ++ z) t.split ∙ sym (append_assoc s.front text following);
      texts = s.texts ++ line_kept p o text;
      source_keeps = keeps-append p s.front text s.texts (line_kept p o text) s.source_keeps (keeps_one p o text t.spells);
      follows = follows-append bodies p s.done (o ∷ []) start place to old between new s.texts (line_kept p o text) s.follows (follows t.spells);
      ended = λ h. ends (last_ends s.done o h);
    }

-- all operations of a sequence
pub all_written : (bodies : List Body) (p : Parameters) (bytes rest : List ℕ) (place : Place) (old new : List ℕ) (os : List Operation) → WrittenSoFar bodies p bytes rest place old new → rest ≡ []
    → Begin (line_operation p) os bytes [] → IsEnded os → AddsRows p bytes old new (map (moved_row bodies) (all_appended p os (initial p)))
all_written bodies p bytes rest place old new os s none reads ended =
    let done : Begin (line_operation p) s.done bytes [] = subst (λ (z : List ℕ). Begin (line_operation p) s.done bytes z) none s.reads in
    let same : s.done ≡ os = one_begin (line_operation p) Truncated s.done os bytes (operation_some p) done reads in
    let x = initial_registers p in
    let home : place ≡ start = s.ended (subst IsEnded (sym same) ended) in
    let back : state_after_all p s.done (initial p) ≡ initial p = ended_after p s.done (initial p) (subst IsEnded (sym same) ended) in
    let whole : s.front ≡ bytes = sym (s.split ∙ ap (λ (z : List ℕ). s.front ++ z) none ∙ append-nil s.front) in
    record {
      operations = s.follows.operations;
      texts = s.texts;
      source_keeps = subst (λ (z : List ℕ). KeepsOfLines p z s.texts) whole s.source_keeps;
      adds = s.follows.adds;
      rows_are = s.follows.carries.rows x ∙ ap (λ z. map (moved_row bodies) (all_appended p z (initial p))) same;
      after = s.follows.carries.after x ∙ ap (λ (z : Place). line_state z.new (state_after_all p s.done (initial p)).registers) home ∙ ap (λ (z : LineState). line_state 0 z.registers) back;
    }

-- ---- sequences that are written

moved_dead : (bodies : List Body) (rs : List LineRow) (first : ℕ) → first_address rs ≡ Some first → is_some (address_moved bodies first) ≡ false → moved_sequence bodies rs ≡ rs
moved_dead bodies [] first e dead = absurd cc
moved_dead bodies (r ∷ rs) first e dead =
    let same : r.address ≡ first = some_same r.address first e in
    let gone : is_some (address_moved bodies r.address) ≡ false = ap (λ n. is_some (address_moved bodies n)) same ∙ dead in
    rw gone refl

-- a sequence that is copied
pub adds_dead : (bodies : List Body) (p : Parameters) (os : List Operation) (first : ℕ) (bytes old new : List ℕ) → IsSequence p os first → is_some (address_moved bodies first) ≡ false
    → Begin (line_operation p) os bytes [] → new ≡ old ++ bytes → AddsRows p bytes old new (moved_sequence bodies (all_appended p os (initial p)))
adds_dead bodies p os first bytes old new s dead reads added =
    let t = begin_text (line_operation p) os bytes [] (operation_local p) reads in
    let same : bytes ≡ t.text = t.split ∙ append-nil t.text in
    let k = keeps_some p os bytes reads in
    record {
      operations = os;
      texts = k.texts;
      source_keeps = k.keeps;
      adds = record { text = bytes; added = added; spells = subst (ReadsAs (line_operation p) os) (sym same) t.spells; keeps = k.keeps };
      rows_are = sym (moved_dead bodies (all_appended p os (initial p)) first s.first_is dead);
      after = ended_after p os (initial p) s.ended;
    }
