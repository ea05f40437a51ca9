-- Rewriting a body without its tree: what is written of an accepted one. Why there is none is said as for `rewrite_body`.
use Rattle.std.specs.Prelude.{◌≡◌, ◌⊎◌, ℕ, ◌+◌, List, [], ◌++◌, length, Bool, true, false, Option, Some, None, Result, Ok, Err}
use Rattle.std.proofs.Common.{inl}
use Rattle.std.specs.Fn.{Shared}
use Rattle.std.specs.Borrow.{Bor}
use Rattle.wasm_types.specs.declared.val_type.ValType.{ValType}
use Rattle.wasm_encode.specs.Declarations as encoded
use Rattle.wasm_body.specs.declared.error.EmitError.{EmitError}
use Rattle.wasm_body.specs.declared.error.EmitError.TheVariants.{Memory}
use Rattle.wasm_body.specs.Bytes.{Numbers}
use Rattle.wasm_body.specs.SourceTree.{Body}
use Rattle.wasm_body.specs.Naming.{Occurrence}
use Rattle.wasm_body.specs.NormalForm.{body_tree}
use Rattle.wasm_body.specs.LocalNumbers.{Local, AreDeclared, declared, ids_of, uses_local, numbering_locals}
use Rattle.wasm_body.specs.Pairs.{Pair}
use Rattle.wasm_body.specs.Parsing.Accepted.{Accepted}
use Rattle.walrus_parser.specs.Bodies.{ParseInput, setting_with, mapped_by}
use Rattle.walrus_parser.specs.Settings.{operators_of, IsMapping}
use Rattle.walrus_body.specs.EmittedInstructions.{LentPairs, Left}
use Rattle.walrus_rewrite.specs.declared.error.RewriteError.{RewriteError}
use Rattle.walrus_rewrite.specs.declared.error.RewriteError.TheVariants.{Parse, Walk, Emit}
use Rattle.walrus_rewrite.specs.RawBodies.{EmitInput, input_for, IsRawBody, BeginsRawBody, IsNotBegun, AppendsPairs}
use Rattle.walrus_ir.specs.Function.{Function}
use Rattle.walrus_rewrite.specs.RewrittenBodies.{KeepsSource, Rewrites, IsAcceptedAs}
use Rattle.walrus_ir.specs.declared.module.Module.{Module}
use Rattle.walrus_emit_state.specs.Emission.{Output}
use Rattle.walrus_emit_state.specs.TreeWriting.Drafts.{Drafted}
use Rattle.walrus_flat.specs.declared.target.Target.{Target}
use Rattle.walrus_flat.specs.Sinks.{TookFront}
use Rattle.walrus_flat.specs.WrittenBody.{WritesBody, WritesFront, WritesFirst, RefusesWriting}

-- the same input with a validator of one state that accepts everything
abbrev pub read_again : {S F : Type 0} → ParseInput S F → ParseInput (Unit {0}) F
read_again i = record {
  environment = i.environment;
  start = i.start;
  offset = i.offset;
  on_instr_pos = i.on_instr_pos;
  check = λ v x. Ok tt;
  first = tt;
  bytes = i.bytes;
}

-- the input of writing a body of this module
abbrev pub target_input : Module → Target → EmitInput
target_input m t = input_for t.out.now m t.args.now

-- the declarations are written, and no operator
abbrev pub begun_draft : List ℕ → Bool → Drafted
begun_draft declared has_map = record { base = 0; has_map = has_map; output = record { bytes = declared; pairs = [] } }

abbrev pub is_none : {A : Type 0} → Option A → Bool
is_none None = true
is_none (Some x) = false

-- What is written goes where it should if the body was written; else its fault is returned.
abbrev pub FinishesTo : (goes : Output → Type 0) → Result Drafted RewriteError → Result (Unit {0}) RewriteError → Type 0
FinishesTo goes (Ok made) (Ok u) = goes made.output
FinishesTo goes (Ok made) (Err e) = e ≡ Emit Memory
FinishesTo goes (Err f) (Ok u) = ⊥
FinishesTo goes (Err f) (Err e) = e ≡ f

-- The sink that was to take the draft that was made didn't take it, or was offered nothing.
abbrev pub EndsAlike : {Sink : Type 0} → (refuses : Sink → Sink → Output → Type 0) → (old new : Sink) → Result Drafted RewriteError → Result (Unit {0}) RewriteError → Type 0
EndsAlike refuses old new made (Ok u) = Unit {0}
EndsAlike refuses old new (Ok made) (Err e) = refuses old new made.output
EndsAlike refuses old new (Err f) (Err e) = new ≡ old

-- They are appended.
abbrev pub FinishesBytes : Result Drafted RewriteError → (old new : List ℕ) → Result (Unit {0}) RewriteError → Type 0
FinishesBytes made old new r = FinishesTo (λ o. new ≡ old ++ o.bytes) made r

-- And the pairs are appended to their list.
abbrev pub FinishesBoth : Result Drafted RewriteError → (old new : List ℕ) → (old_pairs new_pairs : List Pair) → Result (Unit {0}) RewriteError → Type 0
FinishesBoth made old new old_pairs new_pairs r = FinishesTo (λ o. (new ≡ old ++ o.bytes) × (new_pairs ≡ old_pairs ++ o.pairs)) made r

module _ {S F : Type 0} (asks : Shared F (Bor ℕ × Unit {0}) ℕ) (i : ParseInput S F) (by : EmitInput) where
  -- The bytes are accepted as a body, with the locations that the caller's function returned, and the raw body of its normal form
  -- was appended: `Rewrites` without the function.
  pub record RewritesFlat {Z : Type 0} (old new : List ℕ) (entry : Option (LentPairs Z)) (exit : Left (LentPairs Z)) : Type 0 where
    pub mapping : List (ℕ × ℕ)
    pub body : Body Occurrence
    pub accepted : Accepted (setting_with i (mapped_by asks i mapping)) i.bytes body
    pub is_mapping : IsMapping asks i.on_instr_pos i.offset i.start (i.start + length i.bytes) (operators_of body) mapping
    pub raw : List ℕ
    pub pairs : List Pair
    pub is_raw_body : IsRawBody by (body_tree i.environment body) raw pairs
    pub keeps : KeepsSource i.environment accepted.operators body pairs
    pub bytes : new ≡ old ++ raw
    pub appends_pairs : AppendsPairs pairs entry exit

  -- What is written is the raw body of the accepted body; the pairs are its own, if they are kept.
  pub record Composes (has_map : Bool) (written : Drafted) : Type 0 where
    pub mapping : List (ℕ × ℕ)
    pub body : Body Occurrence
    pub accepted : Accepted (setting_with i (mapped_by asks i mapping)) i.bytes body
    pub is_mapping : IsMapping asks i.on_instr_pos i.offset i.start (i.start + length i.bytes) (operators_of body) mapping
    pub pairs : List Pair
    pub is_raw_body : IsRawBody by (body_tree i.environment body) written.output.bytes pairs
    pub keeps : KeepsSource i.environment accepted.operators body pairs
    pub kept_pairs : has_map ≡ true → written.output.pairs ≡ pairs
    pub no_pairs : has_map ≡ false → written.output.pairs ≡ []

  -- The bytes are accepted as a body. What is written are the declarations of its locals, and then what is written of its first
  -- operators.
  pub record ComposesFront (has_map : Bool) (written : Drafted) : Type 0 where
    pub body : Body Occurrence
    pub accepted : IsAcceptedAs asks i by body
    pub others : List Local
    pub are_declared : AreDeclared by.types by.args (uses_local (body_tree i.environment body)) others
    pub declarations : List (ℕ × ValType ℕ)
    pub declarations_are : declared by.to (length by.args) others ≡ Ok declarations
    pub writes : WritesFront asks (read_again i) (numbering_locals by.to by.args (ids_of others)) (operators_of body) (begun_draft (encoded.declaration_bytes declarations) has_map) written

  -- After an error: if the body isn't accepted, the sink took nothing. Else it took nothing, or a front of what is written of the
  -- body, or of its first operators.
  abbrev pub LeavesSink : {Sink : Type 0} → (takes refuses : Sink → Sink → Output → Type 0) → (old new : Sink) → (has_map : Bool) → RewriteError → Type 0
  LeavesSink takes refuses old new has_map (Parse f) = new ≡ old
  LeavesSink takes refuses old new has_map (Walk w) = ⊥
  LeavesSink takes refuses old new has_map (Emit e) =
      (new ≡ old) ⊎ TookFront takes refuses old new (λ d. Composes has_map d ⊎ ComposesFront has_map d) e

  -- A sink took the bytes that `rewrite_flat` appends to none, and its pairs, if they are wanted.
  pub record RewritesTo (has_map : Bool) (took : Output) : Type 0 where
    pub rewrites : RewritesFlat {Z = Unit {0}} [] took.bytes None (inl tt)
    pub wanted_pairs : has_map ≡ true → took.pairs ≡ rewrites.pairs
    pub no_pairs : has_map ≡ false → took.pairs ≡ []

  -- ---- after the first pass, which found that live operators name these locals

  -- The declarations are written, and after them what is written of the body.
  pub record WritesAll (has_map : Bool) (numbers_with : List (ℕ × ℕ) → Numbers) (used : ℕ → Bool) (written : Drafted) : Type 0 where
    pub entries : List (ℕ × ℕ)
    pub declared : List ℕ
    pub begins : BeginsRawBody by used declared entries
    pub writes : WritesBody asks (read_again i) (numbers_with entries) (begun_draft declared has_map) written

  -- The same of what is written of its first operators.
  pub record WritesPart (has_map : Bool) (numbers_with : List (ℕ × ℕ) → Numbers) (used : ℕ → Bool) (written : Drafted) : Type 0 where
    pub entries : List (ℕ × ℕ)
    pub declared : List ℕ
    pub begins : BeginsRawBody by used declared entries
    pub writes : WritesFirst asks (read_again i) (numbers_with entries) (begun_draft declared has_map) written

  -- The locals can't be declared, or else this is the first fault of what is written of the body; or memory ran out.
  pub data IsNotAllWritten (numbers_with : List (ℕ × ℕ) → Numbers) (used : ℕ → Bool) (e : EmitError) : Type 0 where
    out_of_memory : e ≡ Memory → IsNotAllWritten numbers_with used e
    not_begun : IsNotBegun by used e → IsNotAllWritten numbers_with used e
    not_written :
        (declared : List ℕ) (entries : List (ℕ × ℕ)) → BeginsRawBody by used declared entries →
        RefusesWriting asks (read_again i) (numbers_with entries) e → IsNotAllWritten numbers_with used e

-- ---- both ways of rewriting

-- These bytes and these pairs were appended by both: by `rewrite_body`, and without a tree.
pub record AppendAlike {Z : Type 0} (old one other : List ℕ) (entry : Option (LentPairs Z)) (exit : Left (LentPairs Z)) (flat_entry : Option (LentPairs Z)) (flat_exit : Left (LentPairs Z)) : Type 0 where
  pub raw : List ℕ
  pub pairs : List Pair
  pub is_one : one ≡ old ++ raw
  pub is_other : other ≡ old ++ raw
  pub appends_pairs : AppendsPairs pairs entry exit
  pub appends_flat_pairs : AppendsPairs pairs flat_entry flat_exit

-- Where they had the same locations, or there is no location function, they append the same.
abbrev pub BothAppendAlike : (S F Z : Type 0) → Shared F (Bor ℕ × Unit {0}) ℕ → Type 0
BothAppendAlike S F Z asks =
    (i : ParseInput S F) (by : EmitInput) (made : Function) (mapping : List (ℕ × ℕ)) (old one other : List ℕ) (entry : Option (LentPairs Z)) (exit : Left (LentPairs Z)) (flat_entry : Option (LentPairs Z)) (flat_exit : Left (LentPairs Z)) →
    Rewrites asks i by made mapping old one entry exit → (flat : RewritesFlat asks i by old other flat_entry flat_exit) → mapped_by asks i mapping ≡ mapped_by asks i flat.mapping →
    AppendAlike old one other entry exit flat_entry flat_exit
