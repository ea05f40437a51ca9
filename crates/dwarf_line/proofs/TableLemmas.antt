-- Tables, as they are read and written.
use Rattle.std.proofs.Common.{◌≡◌, ℕ, ◌+◌, ◌-◌, ◌^◌, ◌<◌, ◌≤◌, cond, eqb, ltb, ◌||◌, List, [], ◌∷◌, ◌++◌, length, take, Ok, Err, refl, sym, ap, subst, ◌∙◌, append_assoc, length-append, arith, inl, inr}
use Rattle.std.proofs.lemmas.Bool.{lt-ltb}
use Rattle.std.proofs.lemmas.List.{append-nil}
use Rattle.wasm_numbers.proofs.ResultLemmas.{bind_ok, ok_same}
use Rattle.wasm_numbers.specs.Reading.{many}
use Rattle.wasm_numbers.specs.Results.{◌>>=◌}
use Rattle.code_moves.specs.declared.body.Body.{Body}
use Rattle.dwarf_bytes.proofs.Fixed.{fixed_read}
use Rattle.dwarf_bytes.specs.Numbers.{fixed_number, offset, offset_size, size_in_bytes, initial_length, part_and_rest}
use Rattle.dwarf_bytes.specs.Writing.{fixed_bytes}
use Rattle.dwarf_bytes.specs.declared.fault.DebugError.{DebugError}
use Rattle.dwarf_bytes.specs.declared.fault.DebugError.TheVariants as errors
use Rattle.dwarf_bytes.specs.declared.fault.DebugFault.{DebugFault}
use Rattle.dwarf_bytes.specs.declared.fault.DebugFault.TheVariants.{Truncated, UnknownVersion, Unsupported}
use Rattle.dwarf_bytes.specs.declared.size.Format.{Format}
use Rattle.dwarf_bytes.specs.declared.size.Format.TheVariants.{Dwarf32, Dwarf64}
use Rattle.dwarf_line.specs.declared.moved.Moved.{Moved}
use Rattle.dwarf_line.specs.LineTables.{LineTable, no_segments, version, fields, header, unit, table, IsMovedTable, AreMovedTables, IsMovedSection, AreSequencesAt, program_offset, IsTableAt, AreTablesAt}
use Rattle.dwarf_line.specs.Refusals.{sound_program, sound_table, sound_section, IsRefusal, IsProgramRefusal}
use Rattle.dwarf_line.specs.Repeated.{Begin, ReadsAs}
use Rattle.dwarf_line.specs.Written.{AddsProgram, AddsLength, AddsUnit}
use Rattle.dwarf_bytes.proofs.Local.{Takes, IsLocal, then_local, just_local, fail_local, cond_local, kept_local, fixed_local, parts_local, parts_again, shorter}
use Rattle.dwarf_bytes.proofs.Shorter.{initial_local}
use Rattle.dwarf_line.proofs.RepeatedLemmas.{begin-append, begin_one, spells-append, spells_nothing, spells_one, spells_all, all_is, IsShortening, all_fails}
use Rattle.dwarf_line.proofs.RepeatedLemmas.{taken_front}

-- ---- lengths

short_length : (n : ℕ) (following : List ℕ) → n < 0xfffffff0 → initial_length (fixed_bytes 4 n ++ following) ≡ Ok ((Dwarf32, n), following)
short_length n following fits = rw (fixed_read 4 n following (omega arith), lt-ltb n 0xfffffff0 fits) refl

long_length : (n : ℕ) (following : List ℕ) → n < 2 ^ 64 → initial_length (fixed_bytes 4 0xffffffff ++ (fixed_bytes 8 n ++ following)) ≡ Ok ((Dwarf64, n), following)
long_length n following fits = rw (fixed_read 4 0xffffffff (fixed_bytes 8 n ++ following) (omega arith), fixed_read 8 n following fits) refl

pub adds_short_length : (n : ℕ) (old new : List ℕ) → n < 0xfffffff0 → new ≡ old ++ fixed_bytes 4 n → AddsLength Dwarf32 n old new
adds_short_length n old new fits added = record { text = fixed_bytes 4 n; added = added; reads = λ following. short_length n following fits }

pub adds_long_length : (n : ℕ) (old between new : List ℕ) → n < 2 ^ 64 → between ≡ old ++ fixed_bytes 4 0xffffffff → new ≡ between ++ fixed_bytes 8 n → AddsLength Dwarf64 n old new
adds_long_length n old between new fits first second = record {
  text = fixed_bytes 4 0xffffffff ++ fixed_bytes 8 n;
  added = second ∙ ap (λ (z : List ℕ). z ++ fixed_bytes 8 n) first ∙ append_assoc old (fixed_bytes 4 0xffffffff) (fixed_bytes 8 n);
  reads = λ following. rw (append_assoc (fixed_bytes 4 0xffffffff) (fixed_bytes 8 n) following) (long_length n following fits);
}

pub adds_unit : (format : Format) (n : ℕ) (front program old a b new : List ℕ) → n ≡ length front + length program → AddsLength format n old a → b ≡ a ++ front → new ≡ b ++ program
    → AddsUnit format (front ++ program) old new
adds_unit format n front program old a b new size length_added first second = record {
  text = length_added.text;
  added = second ∙ ap (λ (z : List ℕ). z ++ program) (first ∙ ap (λ (z : List ℕ). z ++ front) length_added.added)
      ∙ append_assoc (old ++ length_added.text) front program ∙ append_assoc old length_added.text (front ++ program);
  reads = λ following. length_added.reads following ∙ ap (λ m. Ok ((format, m), following)) (size ∙ sym (length-append front program));
}

-- ---- what is read is read again

version_local : IsLocal version
version_local =
    then_local (fixed_number 2) (λ v bytes. cond (ltb v 2 || ltb 5 v) (Err UnknownVersion) (cond (ltb v 5) (Ok (v, bytes)) (no_segments v bytes))) (fixed_local 2)
    (λ v. cond_local (ltb v 2 || ltb 5 v) (λ bytes. Err UnknownVersion) _ (fail_local UnknownVersion) (cond_local (ltb v 5) (λ bytes. Ok (v, bytes)) (no_segments v) (just_local v) (segments_local v)))
  where
    segments_local : (v : ℕ) → IsLocal (no_segments v)
    segments_local v =
        then_local (fixed_number 1) (λ a bytes. fixed_number 1 bytes >>= λ s. cond (eqb s.0 0) (Ok (v, s.1)) (Err Unsupported)) (fixed_local 1)
        (λ a. then_local (fixed_number 1) (λ s bytes. cond (eqb s 0) (Ok (v, bytes)) (Err Unsupported)) (fixed_local 1)
        (λ s. cond_local (eqb s 0) (λ bytes. Ok (v, bytes)) (λ bytes. Err Unsupported) (just_local v) (fail_local Unsupported)))

pub header_local : (format : Format) → IsLocal (header format)
unfolding header
header_local format =
    then_local version (λ v bytes. offset format bytes >>= λ size. part_and_rest size.0 size.1 >>= λ part. fields v part.0 >>= λ p. Ok (p, part.1)) version_local
    (λ v. then_local (offset format) (λ size bytes. part_and_rest size bytes >>= λ part. fields v part.0 >>= λ p. Ok (p, part.1)) (fixed_local (size_in_bytes (offset_size format)))
    (λ size. then_local (part_and_rest size) (λ part bytes. fields v part >>= λ p. Ok (p, bytes)) (parts_local size) (λ part. kept_local (fields v part))))

pub table_local : IsLocal table
unfolding table
table_local =
    then_local initial_length (λ n bytes. part_and_rest n.1 bytes >>= λ part. unit n.0 part.0 >>= λ t. Ok (t, part.1)) initial_local
    (λ n. then_local (part_and_rest n.1) (λ part bytes. unit n.0 part >>= λ t. Ok (t, bytes)) (parts_local n.1) (λ part. kept_local (unit n.0 part)))

-- a table has at least one byte
pub table_some : table [] ≡ Err Truncated
unfolding table many
table_some = refl

-- the front of a table is read as the same header in front of any program
FrontAgain : LineTable → Type 0
FrontAgain t = (program : List ℕ) → header t.format (t.front ++ program) ≡ Ok (t.parameters, program)

unit_front : (format : Format) (bytes : List ℕ) (t : LineTable) → unit format bytes ≡ Ok t → FrontAgain t
unfolding FrontAgain
unit_front format bytes t e =
    let h = bind_ok (header format bytes) (λ h. Ok (record { format = format; front = take (length bytes - length h.1) bytes; parameters = h.0; program = h.1 })) t e in
    let taken = (header_local format).takes bytes h.0.0 h.0.1 h.1 in
    let front : take (length bytes - length h.0.1) bytes ≡ taken.text = taken_front bytes taken.text h.0.1 taken.split in
    let made : LineTable = record { format = format; front = take (length bytes - length h.0.1) bytes; parameters = h.0.0; program = h.0.1 } in
    let same : made ≡ t = ok_same {E = DebugFault} made t h.2 in
    subst FrontAgain same (λ program. ap (λ (z : List ℕ). header format (z ++ program)) front ∙ taken.again program)

table_front : (bytes : List ℕ) (t : LineTable) (rest : List ℕ) → table bytes ≡ Ok (t, rest) → FrontAgain t
unfolding table
table_front bytes t rest e =
    let n = bind_ok (initial_length bytes) (λ n. part_and_rest n.0.1 n.1 >>= λ part. unit n.0.0 part.0 >>= λ t. Ok (t, part.1)) (t, rest) e in
    let part = bind_ok (part_and_rest n.0.0.1 n.0.1) (λ part. unit n.0.0.0 part.0 >>= λ t. Ok (t, part.1)) (t, rest) n.2 in
    let u = bind_ok (unit n.0.0.0 part.0.0) (λ t. Ok (t, part.0.1)) (t, rest) part.2 in
    let same : u.0 ≡ t = ap (λ (z : LineTable × List ℕ). z.0) {x = (u.0, part.0.1)} (ok_same {E = DebugFault} (u.0, part.0.1) (t, rest) u.2) in
    subst FrontAgain {x = u.0} same (unit_front n.0.0.0 part.0.0 u.0 u.1)

-- the same table with another program
abbrev pub with_program : LineTable → List ℕ → LineTable
with_program t program = record t { program = program }

unit_again : (t : LineTable) (program : List ℕ) → FrontAgain t → unit t.format (t.front ++ program) ≡ Ok (with_program t program)
unfolding FrontAgain
unit_again t program again =
    let front : take (length (t.front ++ program) - length program) (t.front ++ program) ≡ t.front = taken_front (t.front ++ program) t.front program refl in
    rw (again program, front) refl

-- what is written for a table is read as the table with the program that is written
pub table_spelt : (t : LineTable) (program bytes rest old new : List ℕ) → table bytes ≡ Ok (t, rest) → (adds : AddsUnit t.format (t.front ++ program) old new)
    → ReadsAs table (with_program t program ∷ []) (adds.text ++ (t.front ++ program))
unfolding table
table_spelt t program bytes rest old new e adds = spells_one table (with_program t program) (adds.text ++ (t.front ++ program)) (λ following.
    let again = unit_again t program (table_front bytes t rest e) in
    rw (append_assoc adds.text (t.front ++ program) following, adds.reads ((t.front ++ program) ++ following), parts_again (t.front ++ program) following, again) refl)

-- ---- the section, while it is written

moved-append : (bodies : List Body) (ts us : List LineTable) (t u : LineTable) → AreMovedTables bodies ts us → IsMovedTable bodies t u → AreMovedTables bodies (ts ++ t ∷ []) (us ++ u ∷ [])
moved-append bodies [] [] t u h m = (m, tt)
moved-append bodies [] (v ∷ us) t u h m = absurd h
moved-append bodies (s ∷ ts) [] t u h m = absurd h
moved-append bodies (s ∷ ts) (v ∷ us) t u h m = (h.0, moved-append bodies ts us t u h.1 m)

-- a table after others
tables_at-append : (bodies : List Body) (at new_at : ℕ) (ms sequences own : List Moved) (m : Moved) (section new_section text new_text : List ℕ) → AreTablesAt bodies at new_at ms sequences section new_section
    → IsTableAt bodies (at + length section) (new_at + length new_section) m own text new_text → AreTablesAt bodies at new_at (ms ++ m ∷ []) (sequences ++ own) (section ++ text) (new_section ++ new_text)
tables_at-append bodies at new_at [] sequences own m section new_section text new_text h one =
    let a : at + length section ≡ at = omega (arith, ap length h.1) in
    let b : new_at + length new_section ≡ new_at = omega (arith, ap length h.2) in
    let here : IsTableAt bodies at new_at m own text new_text = subst (λ x. IsTableAt bodies x new_at m own text new_text) a (subst (λ y. IsTableAt bodies (at + length section) y m own text new_text) b one) in (
      own,
      [],
      text,
      [],
      new_text,
      [],
      ap (λ (z : List Moved). z ++ own) h.0 ∙ sym (append-nil own),
      ap (λ (z : List ℕ). z ++ text) h.1 ∙ sym (append-nil text),
      ap (λ (z : List ℕ). z ++ new_text) h.2 ∙ sym (append-nil new_text),
      here,
      (refl, refl, refl),
    )
tables_at-append bodies at new_at (k ∷ ms) sequences own m section new_section text new_text h one =
    let a : at + length section ≡ at + length h.2 + length h.3 = omega (arith, ap length h.7, length-append h.2 h.3) in
    let b : new_at + length new_section ≡ new_at + length h.4 + length h.5 = omega (arith, ap length h.8, length-append h.4 h.5) in
    let here : IsTableAt bodies (at + length h.2 + length h.3) (new_at + length h.4 + length h.5) m own text new_text =
    subst (λ x. IsTableAt bodies x (new_at + length h.4 + length h.5) m own text new_text) a (subst (λ y. IsTableAt bodies (at + length section) y m own text new_text) b one) in (
      h.0,
      h.1 ++ own,
      h.2,
      h.3 ++ text,
      h.4,
      h.5 ++ new_text,
      ap (λ (z : List Moved). z ++ own) h.6 ∙ append_assoc h.0 h.1 own,
      ap (λ (z : List ℕ). z ++ text) h.7 ∙ append_assoc h.2 h.3 text,
      ap (λ (z : List ℕ). z ++ new_text) h.8 ∙ append_assoc h.4 h.5 new_text,
      h.9,
      tables_at-append bodies (at + length h.2) (new_at + length h.4) ms h.1 own m h.3 h.5 text new_text h.10 here,
    )

-- a table with its program
sound_table_is : (bytes : List ℕ) (t : LineTable) (rest : List ℕ) → table bytes ≡ Ok (t, rest) → sound_program t.parameters t.program ≡ Ok tt → sound_table bytes ≡ Ok (t, rest)
unfolding sound_table
sound_table_is bytes t rest e sound = rw (e, sound) refl

pub record SectionSoFar (bodies : List Body) (section rest new : List ℕ) (table_moves sequences : List Moved) : Type 0 where
  pub done : List LineTable
  pub reads : Begin table done section rest
  pub written : List LineTable
  pub spells : ReadsAs table written new
  pub are : AreMovedTables bodies done written
  pub sound : Begin sound_table done section rest
  pub front : List ℕ
  pub split : section ≡ front ++ rest
  pub places : AreTablesAt bodies 0 0 table_moves sequences front new

pub no_table : (bodies : List Body) (section : List ℕ) → SectionSoFar bodies section section [] [] []
no_table bodies section = record {
  done = [];
  reads = refl;
  written = [];
  spells = spells_nothing table;
  are = tt;
  sound = refl;
  front = [];
  split = refl;
  places = (refl, refl, refl);
}

-- what is written for a table after it is read
pub record AddsTable (bodies : List Body) (t : LineTable) (place : Moved) (old new : List ℕ) (old_sequences new_sequences : List Moved) : Type 0 where
  pub program : List ℕ
  pub moves : AddsProgram bodies t.parameters place t.program [] program old_sequences new_sequences
  pub unit : AddsUnit t.format (t.front ++ program) old new

module _ (bodies : List Body) (section rest following : List ℕ) (t : LineTable) (place program_place : Moved) (old new : List ℕ) (old_tables new_tables old_sequences new_sequences : List Moved)
    (sofar : SectionSoFar bodies section rest old old_tables old_sequences) (read : table rest ≡ Ok (t, following)) (adds : AddsTable bodies t program_place old new old_sequences new_sequences) where
  one_moved : IsMovedTable bodies t (with_program t adds.program)
  one_moved = record {
    same_format = refl;
    same_front = refl;
    same_parameters = refl;
    sequences = adds.moves.sequences;
    source = adds.moves.source;
    written = rw adds.moves.added adds.moves.written;
    texts = adds.moves.texts;
    source_keeps = adds.moves.source_keeps;
    written_keeps = rw adds.moves.added adds.moves.written_keeps;
  }

  -- the bytes of the table, before and after
  taken : Takes table rest t following
  taken = table_local.takes rest t following read

  new_text : List ℕ
  new_text = adds.unit.text ++ (t.front ++ adds.program)

  new_spelt : ReadsAs table (with_program t adds.program ∷ []) new_text
  unfolding new_text
  new_spelt = table_spelt t adds.program rest following old new read adds.unit

  one_table_at : place.old ≡ length sofar.front → place.new ≡ length old → program_place.old ≡ place.old + program_offset t → program_place.new ≡ place.new + program_offset t
      → IsTableAt bodies (length sofar.front) (length old) place adds.moves.moves taken.text new_text
  one_table_at e f g h = record {
    old_is = e;
    new_is = f;
    old_table = t;
    new_table = with_program t adds.program;
    source = all_is table Truncated (t ∷ []) taken.text table_local table_some (spells_all table (t ∷ []) taken.text (spells_one table t taken.text taken.again));
    written = all_is table Truncated (with_program t adds.program ∷ []) new_text table_local table_some (spells_all table (with_program t adds.program ∷ []) new_text new_spelt);
    moved = one_moved;
    sequences_are = subst (λ (z : List ℕ). AreSequencesAt bodies t.parameters (length sofar.front + program_offset t) (length old + program_offset t) adds.moves.moves t.program z) (sym adds.moves.added)
        (subst (λ n. AreSequencesAt bodies t.parameters n (length old + program_offset t) adds.moves.moves t.program adds.moves.text) (g ∙ ap (λ n. n + program_offset t) e)
        (subst (λ n. AreSequencesAt bodies t.parameters program_place.old n adds.moves.moves t.program adds.moves.text) (h ∙ ap (λ n. n + program_offset t) f) adds.moves.places));
  }

  all_places : place.old ≡ length sofar.front → place.new ≡ length old → program_place.old ≡ place.old + program_offset t → program_place.new ≡ place.new + program_offset t
      → AreTablesAt bodies 0 0 (old_tables ++ place ∷ []) (old_sequences ++ adds.moves.moves) (sofar.front ++ taken.text) (old ++ new_text)
  all_places e f g h =
      tables_at-append bodies 0 0 old_tables old_sequences adds.moves.moves place sofar.front old taken.text new_text sofar.places
      (subst (λ n. IsTableAt bodies n (0 + length old) place adds.moves.moves taken.text new_text) {x = length sofar.front} (omega arith)
      (subst (λ n. IsTableAt bodies (length sofar.front) n place adds.moves.moves taken.text new_text) {x = length old} (omega arith) (one_table_at e f g h)))

  pub one_more : place.old ≡ length sofar.front → place.new ≡ length old → program_place.old ≡ place.old + program_offset t → program_place.new ≡ place.new + program_offset t
      → new_tables ≡ old_tables ++ place ∷ [] → SectionSoFar bodies section following new new_tables new_sequences
  unfolding new_text
  one_more e f g h told = record {
    done = sofar.done ++ t ∷ [];
    reads = begin-append table sofar.done (t ∷ []) section rest following sofar.reads (begin_one table t rest following read);
    written = sofar.written ++ with_program t adds.program ∷ [];
    spells = subst (ReadsAs table (sofar.written ++ with_program t adds.program ∷ [])) (sym adds.unit.added)
        (spells-append table sofar.written (with_program t adds.program ∷ []) old new_text sofar.spells new_spelt);
    are = moved-append bodies sofar.done sofar.written t (with_program t adds.program) sofar.are one_moved;
    sound = begin-append sound_table sofar.done (t ∷ []) section rest following sofar.sound (begin_one sound_table t rest following (sound_table_is rest t following read adds.moves.sound));
    front = sofar.front ++ taken.text;
    split = sofar.split ∙ ap (λ (z : List ℕ). sofar.front ++ z) taken.split ∙ sym (append_assoc sofar.front taken.text following);
    places = subst (λ (z : List Moved). AreTablesAt bodies 0 0 z new_sequences (sofar.front ++ taken.text) new) (sym told)
        (subst (λ (z : List Moved). AreTablesAt bodies 0 0 (old_tables ++ place ∷ []) z (sofar.front ++ taken.text) new) (sym adds.moves.told)
        (subst (λ (z : List ℕ). AreTablesAt bodies 0 0 (old_tables ++ place ∷ []) (old_sequences ++ adds.moves.moves) (sofar.front ++ taken.text) z) (sym adds.unit.added) (all_places e f g h)));
  }

front_length : (section front rest : List ℕ) → section ≡ front ++ rest → length section - length rest ≡ length front
front_length section front rest split = omega (arith, ap length split, length-append front rest)

pub one_more_table : (bodies : List Body) (section rest following : List ℕ) (t : LineTable) (place program_place : Moved) (empty program old new : List ℕ) (old_tables new_tables old_sequences new_sequences : List Moved)
    → SectionSoFar bodies section rest old old_tables old_sequences → table rest ≡ Ok (t, following) → empty ≡ []
    → AddsProgram bodies t.parameters program_place t.program empty program old_sequences new_sequences → AddsUnit t.format (t.front ++ program) old new
    → place.old ≡ length section - length rest → place.new ≡ length old → program_place.old ≡ place.old + program_offset t → program_place.new ≡ place.new + program_offset t
    → new_tables ≡ old_tables ++ place ∷ [] → SectionSoFar bodies section following new new_tables new_sequences
one_more_table bodies section rest following t place program_place empty program old new old_tables new_tables old_sequences new_sequences sofar read none moves unit e f g h told =
    let adds : AddsTable bodies t program_place old new old_sequences new_sequences = record {
      program = program;
      moves = subst (λ (z : List ℕ). AddsProgram bodies t.parameters program_place t.program z program old_sequences new_sequences) none moves;
      unit = unit;
    } in
    one_more bodies section rest following t place program_place old new old_tables new_tables old_sequences new_sequences sofar read adds (e ∙ front_length section sofar.front rest sofar.split) f g h told

-- the whole section
whole_front : (section front rest : List ℕ) → section ≡ front ++ rest → rest ≡ [] → front ≡ section
whole_front section front rest split none = sym (split ∙ ap (λ (z : List ℕ). front ++ z) none ∙ append-nil front)

pub section_written : (bodies : List Body) (section rest new : List ℕ) (table_moves sequences : List Moved) → SectionSoFar bodies section rest new table_moves sequences → rest ≡ [] → IsMovedSection bodies section new
section_written bodies section rest new table_moves sequences sofar none = record {
  old_tables = sofar.done;
  new_tables = sofar.written;
  source = all_is table Truncated sofar.done section table_local table_some (subst (λ (z : List ℕ). Begin table sofar.done section z) none sofar.reads);
  written = all_is table Truncated sofar.written new table_local table_some (spells_all table sofar.written new sofar.spells);
  moved = sofar.are;
}

pub section_places : (bodies : List Body) (section rest new : List ℕ) (table_moves sequences : List Moved) → SectionSoFar bodies section rest new table_moves sequences → rest ≡ []
    → AreTablesAt bodies 0 0 table_moves sequences section new
section_places bodies section rest new table_moves sequences sofar none =
    subst (λ (z : List ℕ). AreTablesAt bodies 0 0 table_moves sequences z new) (whole_front section sofar.front rest sofar.split none) sofar.places

-- ---- a section that can't be read

pub table_shorter : IsShortening table
table_shorter = shorter table Truncated table_local table_some

sound_table_shorter : IsShortening sound_table
unfolding sound_table
sound_table_shorter bytes t rest e =
    let x = bind_ok (table bytes) (λ t. sound_program t.0.parameters t.0.program >>= λ u. Ok t) (t, rest) e in
    let u = bind_ok (sound_program x.0.0.parameters x.0.0.program) (λ u. Ok x.0) (t, rest) x.2 in
    let same : x.0.1 ≡ rest = ap (λ (z : LineTable × List ℕ). z.1) {x = x.0} (ok_same {E = DebugFault} x.0 (t, rest) u.2) in
    subst (λ (z : List ℕ). length z < length bytes) {x = x.0.1} same (table_shorter bytes x.0.0 x.0.1 x.1)

module _ (bodies : List Body) (section rest new : List ℕ) (table_moves sequences : List Moved) (sofar : SectionSoFar bodies section rest new table_moves sequences) (some : rest ≡ [] → ⊥) where
  section_fault : (f : DebugFault) → sound_table rest ≡ Err f → sound_section section ≡ Err f
  section_fault f e = all_fails sound_table f sofar.done section rest sound_table_shorter sofar.sound some e

  pub refused_table : (f : DebugFault) → table rest ≡ Err f → sound_section section ≡ Err f
  unfolding sound_table
  refused_table f e = section_fault f (rw e refl)

  program_faulty : (t : LineTable) (following : List ℕ) (f : DebugFault) → table rest ≡ Ok (t, following) → sound_program t.parameters t.program ≡ Err f → sound_section section ≡ Err f
  unfolding sound_table
  program_faulty t following f read e = section_fault f (rw (read, e) refl)

  pub refused_program : (t : LineTable) (following : List ℕ) (e : DebugError) → table rest ≡ Ok (t, following) → IsProgramRefusal t.parameters t.program e → IsRefusal section e
  refused_program t following errors.Memory read h = tt
  refused_program t following (errors.Fault f) read (inl h) = inl h
  refused_program t following (errors.Fault f) read (inr h) = inr (program_faulty t following f read h)

pub section_shorter : (bodies : List Body) (section rest new : List ℕ) (table_moves sequences : List Moved) → SectionSoFar bodies section rest new table_moves sequences → length rest ≤ length section
section_shorter bodies section rest new table_moves sequences sofar = omega (arith, ap length sofar.split, length-append sofar.front rest)
