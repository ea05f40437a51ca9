-- A recorder notes each event, until it has been called a given number of times.
use Rattle.std.specs.Prelude.{◌≡◌, ◌⊎◌, ◌<◌, ◌+◌, ℕ, List, [], ◌∷◌, ◌++◌, length}
use Rattle.std.proofs.Common.{sym, ap, subst, ◌∙◌}
use Rattle.walrus_ir.specs.declared.instr.Instr.{Instr}
use Rattle.walrus_ir.specs.declared.instr.Instr.TheVariants as instr
use Rattle.walrus_ir.specs.declared.error.WalkError.{WalkError}
use Rattle.walrus_ir.specs.declared.error.WalkError.TheVariants.{TooLarge, Memory}
use Rattle.walrus_ir.specs.Events.{WalkEvent, StartSequence, EndSequence, VisitInstruction, NameFunction, NameLocal, NameData}
use Rattle.walrus_ir.specs.Events.{AreStepsAlike, AreRefusalsAlike}
use Rattle.tests_body.specs.declared.recorder.Word.{Word}
use Rattle.tests_body.specs.declared.recorder.Word.TheVariants as word
use Rattle.tests_body.specs.declared.recorder.Note.{Note}
use Rattle.tests_body.specs.declared.recorder.Recorder.{Recorder}

abbrev pub word_of : Instr → Word
word_of (instr.Const x) = word.Const
word_of instr.Drop = word.Drop
word_of (instr.Block x) = word.Block
word_of (instr.IfElse x) = word.IfElse
word_of (instr.Try x) = word.Try
word_of _ = word.Other

-- the id of a sequence at its start, and its length at its end; the location of an instruction; the number of the id that
-- is named
abbrev pub note_of : WalkEvent → Note
note_of (StartSequence seq) = record { word = word.Start; number = seq.id }
note_of (EndSequence seq) = record { word = word.End; number = length seq.instrs }
note_of (VisitInstruction i location) = record { word = word_of i; number = location }
note_of (NameFunction f) = record { word = word.Func; number = f }
note_of (NameLocal l) = record { word = word.Local; number = l }
note_of (NameData d) = record { word = word.Data; number = d }

-- one more note, and one call less remaining
pub record AddsNote (s : Recorder) (note : Note) (t : Recorder) : Type 0 where
  pub noted : t.noted.items ≡ s.noted.items ++ note ∷ []
  pub calls_left : s.calls_left ≡ t.calls_left + 1

abbrev pub Notes : Recorder → WalkEvent → Recorder → Type 0
Notes s e t = AddsNote s (note_of e) t

-- no calls remain, or memory ran out
abbrev pub IsUnable : Recorder → WalkError → Type 0
IsUnable s f = ((f ≡ TooLarge) × (s.calls_left ≡ 0)) ⊎ ((f ≡ Memory) × (0 < s.calls_left))

abbrev pub DeclinesNote : Recorder → WalkEvent → WalkError → Type 0
DeclinesNote s e f = IsUnable s f

pub record HasSameNotes (s t : Recorder) : Type 0 where
  pub noted : s.noted.items ≡ t.noted.items
  pub calls_left : s.calls_left ≡ t.calls_left

pub same_notes_back : (s t : Recorder) → HasSameNotes s t → HasSameNotes t s
same_notes_back s t h = record { noted = sym h.noted; calls_left = sym h.calls_left }

pub same_notes_through : (s t u : Recorder) → HasSameNotes s t → HasSameNotes t u → HasSameNotes s u
same_notes_through s t u h k = record { noted = h.noted ∙ k.noted; calls_left = h.calls_left ∙ k.calls_left }

pub note_alike : AreStepsAlike HasSameNotes Notes
note_alike s s' t t' e from to step = record {
  noted = sym to.noted ∙ (step.noted ∙ ap (λ (notes : List Note). notes ++ note_of e ∷ []) from.noted);
  calls_left = sym from.calls_left ∙ (step.calls_left ∙ ap (λ n. n + 1) to.calls_left);
}

pub decline_alike : AreRefusalsAlike HasSameNotes DeclinesNote
decline_alike s s' e f from h =
    let P : ℕ → Type 0 = λ n. ((f ≡ TooLarge) × (n ≡ 0)) ⊎ ((f ≡ Memory) × (0 < n)) in
    subst P from.calls_left h
