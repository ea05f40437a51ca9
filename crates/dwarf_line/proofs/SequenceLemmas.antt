-- Sequences, while they are read.
use Rattle.std.proofs.Common.{◌≡◌, ℕ, ◌-◌, ◌≤◌, true, false, List, [], ◌∷◌, ◌++◌, length, take, Option, Some, None, Ok, Err, refl, sym, ap, subst, ◌∙◌, length-append, arith}
use Rattle.std.specs.Option.{option_or, unwrap_or}
use Rattle.dwarf_bytes.specs.declared.fault.DebugFault.{DebugFault}
use Rattle.dwarf_line.specs.declared.operation.Operation.{Operation}
use Rattle.dwarf_line.specs.declared.operation.Operation.TheVariants.{EndSequence}
use Rattle.dwarf_line.specs.declared.sequence.Sequence.{Sequence}
use Rattle.dwarf_line.specs.LineProgram.{Parameters, Registers, LineState, LineRow, initial, initial_registers, sequences, state_after, state_after_all, all_appended}
use Rattle.dwarf_line.specs.Operations.{line_operation}
use Rattle.dwarf_line.specs.Repeated.{Begin}
use Rattle.dwarf_line.specs.Written.{line_state, IsEnded, IsClosed, first_address, IsSequence, BeginsSequence, IsSequenceFault}
use Rattle.dwarf_line.proofs.Local.{operation_local}
use Rattle.dwarf_line.proofs.RepeatedLemmas.{begin-append, begin_one, BeginText, begin_text, spells_all, taken_front}
use Rattle.dwarf_line.proofs.MachineLemmas.{state_after_all-append, all_appended-append}

-- ---- rows

-- no row of these ends a sequence
abbrev pub IsOpen : List LineRow → Type 0
IsOpen [] = Unit {0}
IsOpen (r ∷ rs) = (r.end_sequence ≡ false) × IsOpen rs

pub open-append : (rs ss : List LineRow) → IsOpen rs → IsOpen ss → IsOpen (rs ++ ss)
open-append [] ss p q = q
open-append (r ∷ rs) ss p q = (p.0, open-append rs ss p.1 q)

closed-cons : (r : LineRow) (rs : List LineRow) → r.end_sequence ≡ false → IsClosed rs → IsClosed (r ∷ rs)
closed-cons r [] p q = absurd q
closed-cons r (s ∷ rs) p q = (p, q)

pub closed_by : (rs : List LineRow) (r : LineRow) → IsOpen rs → r.end_sequence ≡ true → IsClosed (rs ++ r ∷ [])
closed_by [] r p q = q
closed_by (s ∷ rs) r p q = closed-cons s (rs ++ r ∷ []) p.0 (closed_by rs r p.1 q)

pub first_address-append : (rs ss : List LineRow) → first_address (rs ++ ss) ≡ option_or (first_address rs) (first_address ss)
first_address-append [] ss = refl
first_address-append (r ∷ rs) ss = refl

pub or_none : (o : Option ℕ) → option_or o None ≡ o
or_none None = refl
or_none (Some x) = refl

or_some : (o : Option ℕ) (a : ℕ) → option_or o (Some a) ≡ Some (unwrap_or o a)
or_some None a = refl
or_some (Some x) a = refl

-- a sequence in front of other rows
pub closed_first : (rs more : List LineRow) → IsClosed rs → sequences (rs ++ more) ≡ rs ∷ sequences more
closed_first [] more h = absurd h
closed_first (r ∷ []) more h = rw h refl
closed_first (r ∷ s ∷ rs) more h = rw (h.0, closed_first (s ∷ rs) more h.1) refl

-- ---- operations that are read

-- What of a sequence is read: its operations so far, the address, and the address of the first row.
pub record ReadSoFar (p : Parameters) (bytes rest : List ℕ) (address : ℕ) (first : Option ℕ) : Type 0 where
  pub operations : List Operation
  pub reads : Begin (line_operation p) operations bytes rest
  pub registers : Registers
  pub state_is : state_after_all p operations (initial p) ≡ line_state address registers
  pub is_open : IsOpen (all_appended p operations (initial p))
  pub first_is : first_address (all_appended p operations (initial p)) ≡ first

pub nothing_read : (p : Parameters) (bytes : List ℕ) → ReadSoFar p bytes bytes 0 None
nothing_read p bytes = record { operations = []; reads = refl; registers = initial_registers p; state_is = refl; is_open = tt; first_is = refl }

module _ (p : Parameters) (bytes rest following : List ℕ) (a : ℕ) (first : Option ℕ) (o : Operation) (s : ReadSoFar p bytes rest a first) (read : line_operation p rest ≡ Ok (o, following)) where
  reads_more : Begin (line_operation p) (s.operations ++ o ∷ []) bytes following
  reads_more = begin-append (line_operation p) s.operations (o ∷ []) bytes rest following s.reads (begin_one (line_operation p) o rest following read)

  state_more : state_after_all p (s.operations ++ o ∷ []) (initial p) ≡ state_after p o (line_state a s.registers)
  state_more = state_after_all-append p s.operations (o ∷ []) (initial p) ∙ ap (state_after_all p (o ∷ [])) s.state_is

  rows_more : all_appended p (s.operations ++ o ∷ []) (initial p) ≡ all_appended p s.operations (initial p) ++ all_appended p (o ∷ []) (line_state a s.registers)
  rows_more = all_appended-append p s.operations (o ∷ []) (initial p) ∙ ap (λ z. all_appended p s.operations (initial p) ++ all_appended p (o ∷ []) z) s.state_is

  first_more : first_address (all_appended p (s.operations ++ o ∷ []) (initial p)) ≡ option_or first (first_address (all_appended p (o ∷ []) (line_state a s.registers)))
  first_more =
      ap first_address rows_more ∙ first_address-append (all_appended p s.operations (initial p)) (all_appended p (o ∷ []) (line_state a s.registers))
      ∙ ap (λ z. option_or z (first_address (all_appended p (o ∷ []) (line_state a s.registers)))) s.first_is

  pub read_more : (to : ℕ) (then : Option ℕ) → ((x : Registers) → IsOpen (all_appended p (o ∷ []) (line_state a x))) → ((x : Registers) → (state_after p o (line_state a x)).address ≡ to)
      → ((x : Registers) → option_or first (first_address (all_appended p (o ∷ []) (line_state a x))) ≡ then) → ReadSoFar p bytes following to then
  read_more to then opens goes tells = record {
    operations = s.operations ++ o ∷ [];
    reads = reads_more;
    registers = (state_after p o (line_state a s.registers)).registers;
    state_is = state_more ∙ ap (λ n. line_state n (state_after p o (line_state a s.registers)).registers) (goes s.registers);
    is_open = subst IsOpen (sym rows_more) (open-append (all_appended p s.operations (initial p)) _ s.is_open (opens s.registers));
    first_is = first_more ∙ tells s.registers;
  }

-- how many bytes are left
pub read_shorter : (p : Parameters) (bytes rest : List ℕ) (a : ℕ) (first : Option ℕ) → ReadSoFar p bytes rest a first → length rest ≤ length bytes
read_shorter p bytes rest a first s =
    let t = begin_text (line_operation p) s.operations bytes rest (operation_local p) s.reads in
    omega (arith, ap length t.split, length-append t.text rest)

module _ (p : Parameters) (bytes rest following : List ℕ) (a : ℕ) (first : Option ℕ) (s : ReadSoFar p bytes rest a first) (read : line_operation p rest ≡ Ok (EndSequence, following)) where
  ended_operations : List Operation
  ended_operations = s.operations ++ EndSequence ∷ []

  is_sequence : IsSequence p ended_operations (unwrap_or first a)
  unfolding ended_operations
  is_sequence = record {
    ended = (s.operations, refl);
    closed = subst IsClosed (sym (rows_more p bytes rest following a first EndSequence s read)) (closed_by (all_appended p s.operations (initial p)) _ s.is_open refl);
    first_is = first_more p bytes rest following a first EndSequence s read ∙ or_some first a;
  }

  ended_text : BeginText (line_operation p) ended_operations bytes following
  unfolding ended_operations
  ended_text = begin_text (line_operation p) (s.operations ++ EndSequence ∷ []) bytes following (operation_local p) (reads_more p bytes rest following a first EndSequence s read)

  pub begins_sequence : (sequence : Sequence) → sequence.bytes.now ≡ take (length bytes - length following) bytes → sequence.rest.now ≡ following → sequence.first ≡ unwrap_or first a
      → BeginsSequence p bytes sequence
  begins_sequence sequence front after address =
      let t = ended_text in
      let text : sequence.bytes.now ≡ t.text = front ∙ taken_front bytes t.text following t.split in
      record {
        operations = ended_operations;
        split = rw (text, after) t.split;
        reads = rw text (spells_all (line_operation p) ended_operations t.text t.spells);
        is = rw address is_sequence;
      }

-- ---- a sequence that can't be read

open_left : (rs ss : List LineRow) → IsOpen (rs ++ ss) → IsOpen ss
open_left [] ss h = h
open_left (r ∷ rs) ss h = open_left rs ss h.1

-- operations without the last row of a sequence don't end one
pub open_not_ended : (p : Parameters) (os : List Operation) (s : LineState) → IsOpen (all_appended p os s) → IsEnded os → ⊥
open_not_ended p os s h ended =
    let rows = ap (λ z. all_appended p z s) ended.1 ∙ all_appended-append p ended.0 (EndSequence ∷ []) s in
    let last = open_left (all_appended p ended.0 s) _ (subst IsOpen rows h) in
    let e = last.0 in absurd cc

pub sequence_fault : (p : Parameters) (bytes rest : List ℕ) (a : ℕ) (first : Option ℕ) (f : DebugFault) → ReadSoFar p bytes rest a first → line_operation p rest ≡ Err f → IsSequenceFault p bytes f
sequence_fault p bytes rest a first f s e = record {
  operations = s.operations;
  rest = rest;
  reads = s.reads;
  not_ended = open_not_ended p s.operations (initial p) s.is_open;
  fault = e;
}
