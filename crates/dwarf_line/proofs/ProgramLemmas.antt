-- Programs, while they are written.
use Rattle.std.proofs.Common.{◌≡◌, ℕ, ◌+◌, ◌-◌, ◌<◌, true, false, is_some, List, [], ◌∷◌, ◌++◌, map, length, Ok, Err, refl, sym, ap, subst, ◌∙◌, append_assoc, length-append, arith, inl, inr}
use Rattle.std.proofs.lemmas.Bool.{cases_Bool}
use Rattle.std.proofs.lemmas.List.{append-nil}
use Rattle.wasm_numbers.specs.Results.{◌>>=◌}
use Rattle.dwarf_bytes.specs.declared.fault.DebugFault.{DebugFault}
use Rattle.dwarf_bytes.specs.declared.fault.DebugFault.TheVariants.{Truncated}
use Rattle.code_moves.specs.declared.body.Body.{Body}
use Rattle.code_moves.specs.Moves.{address_moved}
use Rattle.dwarf_line.specs.declared.moved.Moved.{Moved}
use Rattle.dwarf_line.specs.declared.operation.Operation.{Operation}
use Rattle.dwarf_line.specs.declared.operation.Operation.TheVariants.{Advance, SetAddress, Special, AppendRow, EndSequence, Changes}
use Rattle.dwarf_line.specs.declared.sequence.Sequence.{Sequence}
use Rattle.dwarf_line.specs.Kept.{KeepsOfLines}
use Rattle.dwarf_line.specs.LineProgram.{Parameters, LineRow, initial, sequences, state_after_all, all_appended}
use Rattle.dwarf_line.specs.LineTables.{IsSequenceAt, AreSequencesAt}
use Rattle.dwarf_line.specs.MovedRows.{moved_row, moved_sequence}
use Rattle.dwarf_line.specs.Operations.{line_operation, rows}
use Rattle.dwarf_line.specs.Refusals.{line_is_end, line_ends, sound_program}
use Rattle.dwarf_line.specs.Repeated.{Begin}
use Rattle.dwarf_line.specs.Written.{AddsOfLines, IsEnded, IsClosed, IsSequence, BeginsSequence, IsSequenceFault, AddsRows, AddsProgram}
use Rattle.dwarf_bytes.proofs.Local.{shorter_by, shorter}
use Rattle.dwarf_line.proofs.Local.{operation_local, operation_some}
use Rattle.dwarf_line.proofs.RepeatedLemmas.{begin-append, begin_text, spells_all, all_is, IsShortening, all_fails}
use Rattle.dwarf_line.proofs.KeptLemmas.{keeps_nothing, keeps-append, kept_is}
use Rattle.dwarf_line.proofs.MachineLemmas.{state_after_all-append, all_appended-append, adds-append, adds_nothing}
use Rattle.dwarf_line.proofs.SequenceLemmas.{closed_first}
use Rattle.dwarf_line.proofs.MovedLemmas.{ended_after}

-- ---- moved sequences

closed_map : (bodies : List Body) (rs : List LineRow) → IsClosed rs → IsClosed (map (moved_row bodies) rs)
closed_map bodies [] h = h
closed_map bodies (r ∷ []) h = h
closed_map bodies (r ∷ s ∷ rs) h = (h.0, closed_map bodies (s ∷ rs) h.1)

closed_moved : (bodies : List Body) (rs : List LineRow) → IsClosed rs → IsClosed (moved_sequence bodies rs)
closed_moved bodies [] h = h
closed_moved bodies (r ∷ rs) h = elim (cases_Bool (is_some (address_moved bodies r.address))) [ inl t ↦ rw t (closed_map bodies (r ∷ rs) h) | inr f ↦ rw f h ]

-- what these rows are followed by decides what is written after what is written for them
abbrev pub Group : List Body → (rs written : List LineRow) → Type 0
Group bodies rs written = (more others : List LineRow) → sequences others ≡ map (moved_sequence bodies) (sequences more)
    → sequences (written ++ others) ≡ map (moved_sequence bodies) (sequences (rs ++ more))

group_one : (bodies : List Body) (rs : List LineRow) → IsClosed rs → Group bodies rs (moved_sequence bodies rs)
group_one bodies rs h = λ more others e.
    closed_first (moved_sequence bodies rs) others (closed_moved bodies rs h) ∙ ap (λ (z : List (List LineRow)). moved_sequence bodies rs ∷ z) e
    ∙ ap (map (moved_sequence bodies)) (sym (closed_first rs more h))

group-append : (bodies : List Body) (rs ss ws vs : List LineRow) → Group bodies rs ws → Group bodies ss vs → Group bodies (rs ++ ss) (ws ++ vs)
group-append bodies rs ss ws vs first second = λ more others e.
    ap sequences (append_assoc ws vs others) ∙ first (ss ++ more) (vs ++ others) (second more others e) ∙ ap (λ (z : List LineRow). map (moved_sequence bodies) (sequences z)) (sym (append_assoc rs ss more))

-- ---- the ends of sequences

ends_one : (front : List Operation) → line_ends (front ++ EndSequence ∷ []) ≡ true
ends_one [] = refl
ends_one (o ∷ []) = refl
ends_one (o ∷ q ∷ os) = ends_one (q ∷ os)

ends_ended : (os : List Operation) → IsEnded os → line_ends os ≡ true
ends_ended os h = ap line_ends h.1 ∙ ends_one h.0

-- the last operation of the second ones decides, if there are any
ends-append : (os : List Operation) (o : Operation) (qs : List Operation) → line_ends (os ++ o ∷ qs) ≡ line_ends (o ∷ qs)
ends-append [] o qs = refl
ends-append (a ∷ []) o qs = refl
ends-append (a ∷ b ∷ os) o qs = ends-append (b ∷ os) o qs

ends_both : (os qs : List Operation) → line_ends os ≡ true → line_ends qs ≡ true → line_ends (os ++ qs) ≡ true
ends_both os [] p q = ap line_ends (append-nil os) ∙ p
ends_both os (o ∷ qs) p q = ends-append os o qs ∙ q

not_end : (o : Operation) → (o ≡ EndSequence → ⊥) → line_is_end o ≡ false
not_end (Advance n) h = refl
not_end (SetAddress size a) h = refl
not_end (Special opcode) h = refl
not_end AppendRow h = refl
not_end EndSequence h = absurd (h refl)
not_end (Changes c) h = refl

pub not_ended : (o : Operation) (os : List Operation) → (IsEnded (o ∷ os) → ⊥) → line_ends (o ∷ os) ≡ false
not_ended o [] h = not_end o (λ e. h ([], ap (λ z. z ∷ []) e))
not_ended o (q ∷ os) h = not_ended q os (λ e. h (o ∷ e.0, ap (λ (z : List Operation). o ∷ z) e.1))

-- ---- places

-- a sequence after others
sequences_at-append : (bodies : List Body) (p : Parameters) (at new_at : ℕ) (ms : List Moved) (m : Moved) (program new_program text new_text : List ℕ) → AreSequencesAt bodies p at new_at ms program new_program
    → IsSequenceAt bodies p (at + length program) (new_at + length new_program) m text new_text → AreSequencesAt bodies p at new_at (ms ++ m ∷ []) (program ++ text) (new_program ++ new_text)
sequences_at-append bodies p at new_at [] m program new_program text new_text h one =
    let a : at + length program ≡ at = omega (arith, ap length h.0) in
    let b : new_at + length new_program ≡ new_at = omega (arith, ap length h.1) in
    let here : IsSequenceAt bodies p at new_at m text new_text = subst (λ x. IsSequenceAt bodies p x new_at m text new_text) a (subst (λ y. IsSequenceAt bodies p (at + length program) y m text new_text) b one) in
    (text, [], new_text, [], ap (λ (z : List ℕ). z ++ text) h.0 ∙ sym (append-nil text), ap (λ (z : List ℕ). z ++ new_text) h.1 ∙ sym (append-nil new_text), here, (refl, refl))
sequences_at-append bodies p at new_at (k ∷ ms) m program new_program text new_text h one =
    let a : at + length program ≡ at + length h.0 + length h.1 = omega (arith, ap length h.4, length-append h.0 h.1) in
    let b : new_at + length new_program ≡ new_at + length h.2 + length h.3 = omega (arith, ap length h.5, length-append h.2 h.3) in
    let here : IsSequenceAt bodies p (at + length h.0 + length h.1) (new_at + length h.2 + length h.3) m text new_text =
    subst (λ x. IsSequenceAt bodies p x (new_at + length h.2 + length h.3) m text new_text) a (subst (λ y. IsSequenceAt bodies p (at + length program) y m text new_text) b one) in (
      h.0,
      h.1 ++ text,
      h.2,
      h.3 ++ new_text,
      ap (λ (z : List ℕ). z ++ text) h.4 ∙ append_assoc h.0 h.1 text,
      ap (λ (z : List ℕ). z ++ new_text) h.5 ∙ append_assoc h.2 h.3 new_text,
      h.6,
      sequences_at-append bodies p (at + length h.0) (new_at + length h.2) ms m h.1 h.3 text new_text h.7 here,
    )

-- ---- what is written so far

pub record ProgramSoFar (bodies : List Body) (p : Parameters) (place : Moved) (program rest old new : List ℕ) (old_moves new_moves : List Moved) : Type 0 where
  pub done : List Operation
  pub reads : Begin (line_operation p) done program rest
  pub done_after : state_after_all p done (initial p) ≡ initial p
  pub done_ends : line_ends done ≡ true
  pub written : List Operation
  pub front : List ℕ
  pub split : program ≡ front ++ rest
  pub texts : List (List ℕ)
  pub source_keeps : KeepsOfLines p front texts
  pub adds : AddsOfLines p old new written texts
  pub written_after : state_after_all p written (initial p) ≡ initial p
  pub group : Group bodies (all_appended p done (initial p)) (all_appended p written (initial p))
  pub moves : List Moved
  pub told : new_moves ≡ old_moves ++ moves
  pub places : AreSequencesAt bodies p place.old place.new moves front adds.text

pub no_sequence : (bodies : List Body) (p : Parameters) (place : Moved) (program old : List ℕ) (moves : List Moved) → ProgramSoFar bodies p place program program old old moves moves
no_sequence bodies p place program old moves = record {
  done = [];
  reads = refl;
  done_after = refl;
  done_ends = refl;
  written = [];
  texts = [];
  source_keeps = keeps_nothing p;
  adds = adds_nothing p old;
  written_after = refl;
  group = λ more others e. e;
  front = [];
  split = refl;
  moves = [];
  told = sym (append-nil moves);
  places = (refl, refl);
}

-- operations after others that leave the initial state
after_both : (p : Parameters) (os ps : List Operation) → state_after_all p os (initial p) ≡ initial p → state_after_all p ps (initial p) ≡ initial p → state_after_all p (os ++ ps) (initial p) ≡ initial p
after_both p os ps first second = state_after_all-append p os ps (initial p) ∙ ap (state_after_all p ps) first ∙ second

rows_both : (p : Parameters) (os ps : List Operation) → state_after_all p os (initial p) ≡ initial p
    → all_appended p (os ++ ps) (initial p) ≡ all_appended p os (initial p) ++ all_appended p ps (initial p)
rows_both p os ps first = all_appended-append p os ps (initial p) ∙ ap (λ z. all_appended p os (initial p) ++ all_appended p ps z) first

rows_are : (p : Parameters) (text : List ℕ) (os : List Operation) → Begin (line_operation p) os text [] → rows p text ≡ Ok (sequences (all_appended p os (initial p)))
rows_are p text os reads = ap (λ r. r >>= λ os. Ok (sequences (all_appended p os (initial p)))) (all_is (line_operation p) Truncated os text (operation_local p) (operation_some p) reads)

one_sequence : (rs : List LineRow) → IsClosed rs → sequences rs ≡ rs ∷ []
one_sequence rs h = ap sequences (sym (append-nil rs)) ∙ closed_first rs [] h

-- the bytes of a sequence and those that follow it
reads_sequence : (p : Parameters) (bytes : List ℕ) (s : Sequence) (b : BeginsSequence p bytes s) → Begin (line_operation p) b.operations bytes s.rest.now
reads_sequence p bytes s b =
    let t = begin_text (line_operation p) b.operations s.bytes.now [] (operation_local p) b.reads in
    let same : t.text ≡ s.bytes.now = sym (t.split ∙ append-nil t.text) in
    subst (λ (z : List ℕ). Begin (line_operation p) b.operations z s.rest.now) (ap (λ (z : List ℕ). z ++ s.rest.now) same ∙ sym b.split) (t.spells s.rest.now)

-- ---- one more sequence

module _ (bodies : List Body) (p : Parameters) (place : Moved) (program rest : List ℕ) (s : Sequence) (old between new : List ℕ) (old_moves moves_between new_moves : List Moved) (m : Moved)
    (sofar : ProgramSoFar bodies p place program rest old between old_moves moves_between) (b : BeginsSequence p rest s)
    (a : AddsRows p s.bytes.now between new (moved_sequence bodies (all_appended p b.operations (initial p)))) where
  more_group : Group bodies (all_appended p (sofar.done ++ b.operations) (initial p)) (all_appended p (sofar.written ++ a.operations) (initial p))
  more_group =
      let one = subst (Group bodies (all_appended p b.operations (initial p))) (sym a.rows_are) (group_one bodies (all_appended p b.operations (initial p)) b.is.closed) in
      let both = group-append bodies (all_appended p sofar.done (initial p)) (all_appended p b.operations (initial p)) (all_appended p sofar.written (initial p)) (all_appended p a.operations (initial p)) sofar.group one in
      let source = rows_both p sofar.done b.operations sofar.done_after in
      let target = rows_both p sofar.written a.operations sofar.written_after in
      subst (λ z. Group bodies z (all_appended p (sofar.written ++ a.operations) (initial p))) (sym source)
      (subst (Group bodies (all_appended p sofar.done (initial p) ++ all_appended p b.operations (initial p))) (sym target) both)

  sequence_at : m.old ≡ place.old + length sofar.front → m.new ≡ place.new + length sofar.adds.text
      → IsSequenceAt bodies p (place.old + length sofar.front) (place.new + length sofar.adds.text) m s.bytes.now a.adds.text
  sequence_at e f =
      let rs = all_appended p b.operations (initial p) in
      record {
        old_is = e;
        new_is = f;
        sequence = rs;
        source = rows_are p s.bytes.now b.operations b.reads ∙ ap (λ z. Ok z) (one_sequence rs b.is.closed);
        written = rows_are p a.adds.text a.operations (spells_all (line_operation p) a.operations a.adds.text a.adds.spells) ∙ ap (λ z. Ok (sequences z)) a.rows_are
            ∙ ap (λ z. Ok z) (one_sequence (moved_sequence bodies rs) (closed_moved bodies rs b.is.closed));
      }

  pub one_more : m.old ≡ place.old + length sofar.front → m.new ≡ place.new + length sofar.adds.text → new_moves ≡ moves_between ++ m ∷ []
      → ProgramSoFar bodies p place program s.rest.now old new old_moves new_moves
  one_more e f told = record {
    done = sofar.done ++ b.operations;
    reads = begin-append (line_operation p) sofar.done b.operations program rest s.rest.now sofar.reads (reads_sequence p rest s b);
    done_after = after_both p sofar.done b.operations sofar.done_after (ended_after p b.operations (initial p) b.is.ended);
    done_ends = ends_both sofar.done b.operations sofar.done_ends (ends_ended b.operations b.is.ended);
    written = sofar.written ++ a.operations;
    texts = sofar.texts ++ a.texts;
    source_keeps = keeps-append p sofar.front s.bytes.now sofar.texts a.texts sofar.source_keeps a.source_keeps;
    adds = adds-append p old between new sofar.written a.operations sofar.texts a.texts sofar.adds a.adds;
    written_after = after_both p sofar.written a.operations sofar.written_after a.after;
    group = more_group;
    front = sofar.front ++ s.bytes.now;
    split = sofar.split ∙ ap (λ (z : List ℕ). sofar.front ++ z) b.split ∙ sym (append_assoc sofar.front s.bytes.now s.rest.now);
    moves = sofar.moves ++ m ∷ [];
    told = told ∙ ap (λ (z : List Moved). z ++ m ∷ []) sofar.told ∙ append_assoc old_moves sofar.moves (m ∷ []);
    places = sequences_at-append bodies p place.old place.new sofar.moves m sofar.front sofar.adds.text s.bytes.now a.adds.text sofar.places (sequence_at e f);
  }

-- how far the rest of the program and the end of what is written are
front_length : (bodies : List Body) (p : Parameters) (place : Moved) (program rest old new : List ℕ) (old_moves new_moves : List Moved)
    → (sofar : ProgramSoFar bodies p place program rest old new old_moves new_moves) → length program - length rest ≡ length sofar.front
front_length bodies p place program rest old new old_moves new_moves sofar = omega (arith, ap length sofar.split, length-append sofar.front rest)

text_length : (bodies : List Body) (p : Parameters) (place : Moved) (program rest old new : List ℕ) (old_moves new_moves : List Moved)
    → (sofar : ProgramSoFar bodies p place program rest old new old_moves new_moves) → length new - length old ≡ length sofar.adds.text
text_length bodies p place program rest old new old_moves new_moves sofar = omega (arith, ap length sofar.adds.added, length-append old sofar.adds.text)

pub one_more_sequence : (bodies : List Body) (p : Parameters) (place : Moved) (program rest : List ℕ) (s : Sequence) (old between new : List ℕ) (old_moves moves_between new_moves : List Moved) (m : Moved)
    → ProgramSoFar bodies p place program rest old between old_moves moves_between → BeginsSequence p rest s
    → ((os : List Operation) → Begin (line_operation p) os s.bytes.now [] → IsSequence p os s.first → AddsRows p s.bytes.now between new (moved_sequence bodies (all_appended p os (initial p))))
    → m.old ≡ place.old + (length program - length rest) → m.new ≡ place.new + (length between - length old) → new_moves ≡ moves_between ++ m ∷ []
    → ProgramSoFar bodies p place program s.rest.now old new old_moves new_moves
one_more_sequence bodies p place program rest s old between new old_moves moves_between new_moves m sofar b adds e f told =
    one_more bodies p place program rest s old between new old_moves moves_between new_moves m sofar b (adds b.operations b.reads b.is)
    (e ∙ ap (λ n. place.old + n) (front_length bodies p place program rest old between old_moves moves_between sofar))
    (f ∙ ap (λ n. place.new + n) (text_length bodies p place program rest old between old_moves moves_between sofar)) told

-- ---- how many bytes are left

no_bytes : (p : Parameters) (o : Operation) (os : List Operation) → Begin (line_operation p) (o ∷ os) [] [] → ⊥
no_bytes p o os h = absurd (let e = operation_some p in let f = h.1 in cc)

ended_some : (p : Parameters) (os : List Operation) → IsEnded os → Begin (line_operation p) os [] [] → ⊥
ended_some p [] h reads = absurd (omega (arith, ap length h.1, length-append h.0 (EndSequence ∷ [])))
ended_some p (o ∷ os) h reads = no_bytes p o os reads

-- a sequence has at least one byte
pub sequence_shorter : (p : Parameters) (bytes : List ℕ) (s : Sequence) → BeginsSequence p bytes s → length s.rest.now < length bytes
sequence_shorter p bytes s b =
    shorter_by s.bytes.now s.rest.now bytes (λ e. ended_some p b.operations b.is.ended (subst (λ (z : List ℕ). Begin (line_operation p) b.operations z []) e b.reads)) b.split

-- ---- a program that can't be read

operation_shorter : (p : Parameters) → IsShortening (line_operation p)
operation_shorter p = shorter (line_operation p) Truncated (operation_local p) (operation_some p)

is_truncated : (p : Parameters) (f : DebugFault) → line_operation p [] ≡ Err f → f ≡ Truncated
is_truncated p f e = let none = operation_some p in cc

module _ (bodies : List Body) (p : Parameters) (place : Moved) (program rest old new : List ℕ) (old_moves new_moves : List Moved) (f : DebugFault)
    (sofar : ProgramSoFar bodies p place program rest old new old_moves new_moves) where
  -- the bytes end inside a sequence
  cut_off : (o : Operation) (os : List Operation) → Begin (line_operation p) (o ∷ os) rest [] → (IsEnded (o ∷ os) → ⊥) → sound_program p program ≡ Err Truncated
  cut_off o os reads open_end =
      let whole = all_is (line_operation p) Truncated (sofar.done ++ o ∷ os) program (operation_local p) (operation_some p) (begin-append (line_operation p) sofar.done (o ∷ os) program rest [] sofar.reads reads) in
      let last : line_ends (sofar.done ++ o ∷ os) ≡ false = ends-append sofar.done o os ∙ not_ended o os open_end in
      rw (whole, last) refl

  faulty : (os : List Operation) (after : List ℕ) → Begin (line_operation p) os rest after → (IsEnded os → ⊥) → line_operation p after ≡ Err f → (rest ≡ [] → ⊥) → sound_program p program ≡ Err f
  faulty [] [] reads open_end e some = absurd (some reads)
  faulty (o ∷ os) [] reads open_end e some = cut_off o os reads open_end ∙ ap (λ z. Err z) (sym (is_truncated p f e))
  faulty os (b ∷ after) reads open_end e some =
      let fails = all_fails (line_operation p) f (sofar.done ++ os) program (b ∷ after) (operation_shorter p) (begin-append (line_operation p) sofar.done os program rest (b ∷ after) sofar.reads reads) (λ q. absurd cc) e in
      rw fails refl

  pub program_fault : (rest ≡ [] → ⊥) → IsSequenceFault p rest f → sound_program p program ≡ Err f
  program_fault some s = faulty s.operations s.rest s.reads s.not_ended s.fault some

-- ---- the whole program

sound : (p : Parameters) (text : List ℕ) (os : List Operation) → Begin (line_operation p) os text [] → line_ends os ≡ true → sound_program p text ≡ Ok tt
sound p text os reads e = rw (all_is (line_operation p) Truncated os text (operation_local p) (operation_some p) reads, e) refl

pub program_written : (bodies : List Body) (p : Parameters) (place : Moved) (program rest old new : List ℕ) (old_moves new_moves : List Moved)
    → ProgramSoFar bodies p place program rest old new old_moves new_moves → rest ≡ [] → AddsProgram bodies p place program old new old_moves new_moves
program_written bodies p place program rest old new old_moves new_moves sofar none =
    let ds = all_appended p sofar.done (initial p) in
    let ws = all_appended p sofar.written (initial p) in
    let same : sequences ws ≡ map (moved_sequence bodies) (sequences ds) =
    ap sequences (sym (append-nil ws)) ∙ sofar.group [] [] refl ∙ ap (λ (z : List LineRow). map (moved_sequence bodies) (sequences z)) (append-nil ds) in
    let whole : sofar.front ≡ program = sym (sofar.split ∙ ap (λ (z : List ℕ). sofar.front ++ z) none ∙ append-nil sofar.front) in
    record {
      text = sofar.adds.text;
      added = sofar.adds.added;
      sequences = sequences ds;
      source = rows_are p program sofar.done (subst (λ (z : List ℕ). Begin (line_operation p) sofar.done program z) none sofar.reads);
      written = rows_are p sofar.adds.text sofar.written (spells_all (line_operation p) sofar.written sofar.adds.text sofar.adds.spells) ∙ ap (λ z. Ok z) same;
      texts = sofar.texts;
      source_keeps = kept_is p program sofar.texts (subst (λ (z : List ℕ). KeepsOfLines p z sofar.texts) whole sofar.source_keeps);
      written_keeps = kept_is p sofar.adds.text sofar.texts sofar.adds.keeps;
      sound = sound p program sofar.done (subst (λ (z : List ℕ). Begin (line_operation p) sofar.done program z) none sofar.reads) sofar.done_ends;
      moves = sofar.moves;
      told = sofar.told;
      places = subst (λ (z : List ℕ). AreSequencesAt bodies p place.old place.new sofar.moves z sofar.adds.text) whole sofar.places;
    }
