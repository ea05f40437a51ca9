-- An emitter after an instruction without sequences.
use Rattle.std.specs.Prelude.{◌≡◌, ◌++◌, ℕ, List, [], Bool, true, None, if◌then◌else◌, Result, Ok, Err, OnOk}
use Rattle.std.proofs.Common.{refl, sym, ap, ◌∙◌}
use Rattle.std.proofs.lemmas.List.{map-append}
use Rattle.walrus_ir.specs.declared.seq.InstrSeq.{InstrSeq}
use Rattle.walrus_ir.specs.declared.val_type.InstrSeqType.{InstrSeqType}
use Rattle.walrus_ir.specs.declared.val_type.InstrSeqType.TheVariants.{Simple}
use Rattle.walrus_ir.specs.declared.instr.Instr.{Instr}
use Rattle.walrus_ir.specs.declared.instr.Instr.TheVariants as instr
use Rattle.walrus_ir.specs.Unfolding.{slots_in}
use Rattle.walrus_ir.specs.Events.{VisitInstruction}
use Rattle.wasm_operators.specs.Meaning.{Listed, meaning}
use Rattle.wasm_operators.specs.Operations.{RawOperation}
use Rattle.wasm_body.specs.declared.error.EmitError.{EmitError}
use Rattle.wasm_body.specs.declared.error.EmitError.TheVariants.{BadClauses}
use Rattle.wasm_numbers.specs.Results.{◌>>=◌}
use Rattle.wasm_body.specs.Translation.{Located, at_location}
use Rattle.wasm_body.specs.InstructionTable.{clauses_of_try}
use Rattle.wasm_body.specs.TreeOfFunction.{instruction_in}
use Rattle.wasm_body.specs.FlatText.{are_lawful, then_by, opener_text}
use Rattle.wasm_body.specs.Bytes.{Numbers, numbering}
use Rattle.walrus_emit_state.specs.declared.closing.SequenceScope.{SequenceScope}
use Rattle.walrus_emit_state.specs.Emission.{Scope, Emitter, slots_of, closers_in, scopes_at, scopes_inside, first_type_at, with_operator, emitter_after}
use Rattle.walrus_emit_state.specs.TreeWriting.Closers.{scope_of, scopes_of, places_of}
use Rattle.walrus_emit_state.specs.TreeWriting.Drafts.{Drafted, with_written}
use Rattle.walrus_emit_state.specs.TreeWriting.ScopeLists.{ScopeLists, with_more}
use Rattle.walrus_to_operators.specs.TreeWriting.Operators.{numbered_operator, IsOperatorOf}
use Rattle.walrus_emitter.specs.TreeWriting.Emitters.{emitter_at}

-- ---- an instruction: its type, its operator, its sequences

abbrev with_these : Emitter → Located RawOperation → Result (List Scope) EmitError → Result Emitter EmitError
with_these s op r = r >>= λ scopes. Ok (with_operator (record s { coming = scopes ++ s.coming }) op)

abbrev with_own : Emitter → Instr → Result (Located RawOperation) EmitError → Result Emitter EmitError
with_own s i r = r >>= λ op. with_these s op (scopes_inside s.numbers.balanced s.sequences i)

abbrev own : Emitter → Instr → ℕ → InstrSeqType → Bool → Result (Located RawOperation) EmitError
own s i l type lawful =
    if lawful then (numbered_operator s.numbers (slots_of s.open_scopes) type i >>= λ x. Ok (at_location x l)) else Err BadClauses

abbrev with_type : Emitter → Instr → ℕ → Result InstrSeqType EmitError → Result Emitter EmitError
with_type s i l r = r >>= λ type. with_own s i (opener_text (then_by (numbering s.numbers)) (instruction_in (slots_of s.open_scopes) (i, l)) type)

-- an instruction whose first sequence has this type
abbrev Begins : Emitter → Instr → ℕ → Result Emitter EmitError → Type 0
Begins s i l r = emitter_after s (VisitInstruction i l) ≡ r

module _ (s : Emitter) (i : Instr) (l : ℕ) where
  lawful_begins : (type : InstrSeqType) → first_type_at s.sequences (slots_in i) ≡ Ok type → are_lawful (clauses_of_try i) ≡ true
      → Begins s i l (with_own s i (numbered_operator s.numbers (slots_of s.open_scopes) type i >>= λ x. Ok (at_location x l)))
  lawful_begins type t lawful = ap (with_type s i l) t ∙ ap (λ b. with_own s i (own s i l type b)) lawful

  operator_begins : (type : InstrSeqType) (o : RawOperation) → first_type_at s.sequences (slots_in i) ≡ Ok type
      → are_lawful (clauses_of_try i) ≡ true → numbered_operator s.numbers (slots_of s.open_scopes) type i ≡ Ok o
      → Begins s i l (with_these s (at_location o l) (scopes_inside s.numbers.balanced s.sequences i))
  operator_begins type o t lawful op =
      lawful_begins type t lawful ∙ ap (λ r. with_own s i (r >>= λ x. Ok (at_location x l))) op

  pub sequences_begin : (type : InstrSeqType) (o : RawOperation) (scopes : List Scope)
      → first_type_at s.sequences (slots_in i) ≡ Ok type → are_lawful (clauses_of_try i) ≡ true
      → numbered_operator s.numbers (slots_of s.open_scopes) type i ≡ Ok o
      → scopes_inside s.numbers.balanced s.sequences i ≡ Ok scopes
      → Begins s i l (Ok (with_operator (record s { coming = scopes ++ s.coming }) (at_location o l)))
  sequences_begin type o scopes t lawful op sc = operator_begins type o t lawful op ∙ ap (with_these s (at_location o l)) sc

-- the state of the code after that
pub kept_begins : (b : List InstrSeq) (to : Numbers) (old new : ScopeLists) (draft drafted : Drafted) (more : List SequenceScope)
    (o : RawOperation) (l : ℕ) → new ≡ with_more old more → drafted ≡ with_written draft (at_location o l)
    → with_operator (record (emitter_at b to old draft) { coming = scopes_of more ++ scopes_of old.coming }) (at_location o l)
    ≡ emitter_at b to new drafted
kept_begins b to old new draft drafted more o l h k =
    ap (λ (coming : List Scope). with_operator (record (emitter_at b to old draft) { coming = coming }) (at_location o l))
    (sym (map-append scope_of more old.coming))
    ∙ sym (λ i. emitter_at b to (h i) (k i))

-- ---- an instruction without sequences

plain_clauses : (i : Instr) → slots_in i ≡ [] → clauses_of_try i ≡ []
plain_clauses (instr.Try x) e = absurd cc
plain_clauses _ e = refl

pub plain_lawful : (i : Instr) → slots_in i ≡ [] → are_lawful (clauses_of_try i) ≡ true
plain_lawful i e = ap are_lawful (plain_clauses i e)

pub plain_type : (b : List InstrSeq) (i : Instr) → slots_in i ≡ [] → first_type_at b (slots_in i) ≡ Ok (Simple None)
plain_type b i e = ap (first_type_at b) e

pub plain_scopes : (balanced : InstrSeqType → Bool) (b : List InstrSeq) (i : Instr) → slots_in i ≡ [] → scopes_inside balanced b i ≡ Ok []
plain_scopes balanced b (instr.IfElse x) e = absurd cc
plain_scopes balanced b i e = ap (λ ps. scopes_at b ps (closers_in i)) e

-- ---- the emitter that the code makes

pub operation_visited : (b : List InstrSeq) (to : Numbers) (scopes : ScopeLists) (draft drafted : Drafted) (i : Instr) (l : ℕ) (o : RawOperation)
    → slots_in i ≡ [] → numbered_operator to (places_of scopes.open_scopes) (Simple None) i ≡ Ok o
    → drafted ≡ with_written draft (at_location o l)
    → emitter_after (emitter_at b to scopes draft) (VisitInstruction i l) ≡ Ok (emitter_at b to scopes drafted)
operation_visited b to scopes draft drafted i l o e h k =
    sequences_begin (emitter_at b to scopes draft) i l (Simple None) o [] (plain_type b i e) (plain_lawful i e) h (plain_scopes to.balanced b i e)
    ∙ ap (λ (s : Emitter). Ok s) (kept_begins b to scopes scopes draft drafted [] o l refl k)

pub plain_visited : (b : List InstrSeq) (to : Numbers) (scopes : ScopeLists) (draft drafted : Drafted) (i : Instr) (l : ℕ) (op : Listed)
    → slots_in i ≡ [] → IsOperatorOf to (places_of scopes.open_scopes) (Simple None) i (Ok op)
    → drafted ≡ with_written draft (at_location (meaning op) l)
    → emitter_after (emitter_at b to scopes draft) (VisitInstruction i l) ≡ Ok (emitter_at b to scopes drafted)
plain_visited b to scopes draft drafted i l op e h k = operation_visited b to scopes draft drafted i l (meaning op) e h.0 k

-- if it is written
pub on_ok : {P Q : Type 0} (r : Result (Unit {0}) EmitError) → (P → Q) → OnOk r P → OnOk r Q
on_ok (Ok x) f h = f h
on_ok (Err e) f h = tt
