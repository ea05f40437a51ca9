-- A clause of a legacy `try`: its name or the first rule that it breaks, and the state after the calls of the context.
use Rattle.std.proofs.Common.{◌≡◌, ◌≢◌, ◌⊎◌, inl, inr, OnOk, IfErr, IsSomeAnd, ℕ, List, [], ◌∷◌, ◌++◌, length, Bool, true, false, Option, Some, None, option_and_then, is_some, slice_get, Result, Ok, Err, refl, sym, ap, ◌∙◌, subst}
use Rattle.walrus_ir.specs.declared.control.BlockKind.{BlockKind}
use Rattle.walrus_ir.specs.declared.control.BlockKind.TheVariants as kind
use Rattle.walrus_ir.specs.declared.control.LegacyCatch.{LegacyCatch}
use Rattle.walrus_ir.specs.declared.control.LegacyCatch.TheVariants.{Catch, CatchAll}
use Rattle.walrus_ir.specs.declared.seq.InstrSeq.{InstrSeq}
use Rattle.walrus_ir.specs.declared.control.Try.{Try}
use Rattle.walrus_ir.specs.declared.instr.Instr.TheVariants as instr
use Rattle.walrus_ir.specs.declared.val_type.InstrSeqType.{InstrSeqType}
use Rattle.wasm_types.specs.declared.val_type.ValType.{ValType}
use Rattle.walrus_ir.specs.InstructionSequence.{empty_sequence}
use Rattle.wasm_numbers.specs.Results.{◌>>=◌, some_or, unless}
use Rattle.walrus_ir.specs.Types.{Signature, signature, signature_of, existing, pick}
use Rattle.walrus_ir.specs.Unfolding.{LocatedInstr}
use Rattle.wasm_operators.specs.declared.types.Space.TheVariants.{Tags}
use Rattle.wasm_operators.specs.Operations.{index, operation}
use Rattle.wasm_body.specs.declared.error.ParseError.{ParseError}
use Rattle.wasm_body.specs.declared.error.ParseError.TheVariants.{Memory, CatchOutsideTry, NotAFunctionType, NoTry, TypeMissing, UnknownId}
use Rattle.wasm_body.specs.Control.{catch_opcode, catch_all_operation, control_of}
use Rattle.wasm_body.specs.NormalForm.{parameters_or_none, typing_of}
use Rattle.wasm_body.specs.Frames.{SequenceFrame, OfFunction, OfWrapper, Consequent, Alternative, TryBody, Handler, HandlerOfAll, catch_moves, catch_all_moves}
use Rattle.wasm_body.specs.Naming.{Environment, NamedOperation, Occurrence, id_at, function_type, tag_type, has_pick, construct_results, block_signature, named_in}
use Rattle.wasm_body.specs.SourceTree.{Sequence, Empty, OfBlock, OfLoop, OfTryTable}
use Rattle.wasm_body.specs.Parsing.Progress.{OpenConstruct, InWrapper, InThen, InElse, InTry, InCatch, InCatchAll, Layer, layer, frame_of, frames_of, with_catch_open, with_catch_all_open, continue_in, further_within}
use Rattle.walrus_context.specs.declared.frame.ControlFrame.{ControlFrame}
use Rattle.walrus_context.specs.declared.frame.IfElseState.{IfElseState}
use Rattle.walrus_context.specs.OpenConstructs.{kind_in, opener_in}
use Rattle.walrus_context.specs.OpenFrames.{OpenFrame, new_frame, changed_at, with_instr, with_clause, with_clause_around}
use Rattle.walrus_context.specs.OpenTrees.{OpenTrees, Opens, Pops, EndsAt, AddsClauseAround, env_of}
use Rattle.walrus_context.specs.Keeping.{slots, IsTry, IsWithinFrames, Holds, IsAppended}
use Rattle.walrus_parser.specs.Advancing.{Keeps, KeepsProgress, occurrence, Advances, IsStep}
use Rattle.walrus_parser.specs.BodyParsers.{state_with}
use Rattle.walrus_parser.specs.Handlers.{clause_operation, caught_tag, handler_kind, handler_clause, has_clauses}
use Rattle.walrus_parser.proofs.Clauses.{GainsClause, AddsClause}
use Rattle.walrus_parser.proofs.ConstructKinds.{MayHaveClause, by_clause}
use Rattle.walrus_context.proofs.LastClauses.{last_clause, clause_kept}
use Rattle.walrus_parser.proofs.NextSequences.{seals_end, some_is, some_around}
use Rattle.walrus_parser.proofs.Rules.{named_catch, named_catch_all}
use Rattle.walrus_parser.proofs.Steps.{Seals, catch_parts, catch_all_parts}

-- ---- adding a clause to an instruction that is a `try`

some_same : {A : Type 0} (x y : A) → Some x ≡ Some y → x ≡ y
some_same x y e = cc

module _ (clause : LegacyCatch) (t : Try) (location : ℕ) where
  abbrev old : LocatedInstr
  old = (instr.Try t, location)

  abbrev new : LocatedInstr
  new = (instr.Try (record t { catches = t.catches ++ clause ∷ [] }), location)

  gained : GainsClause old new clause
  gained = record { old = t; new = record t { catches = t.catches ++ clause ∷ [] }; was = refl; is = refl; same_body = refl; clauses = refl; same_location = refl }

  in_frame : (f : OpenFrame) → with_clause clause (with_instr old f) ≡ Some (with_instr new f)
  in_frame f = by_unreachable f.unreachable refl
    where
      by_unreachable : (d : Bool) → f.unreachable ≡ d → with_clause clause (with_instr old f) ≡ Some (with_instr new f)
      by_unreachable true e = rw e refl
      by_unreachable false e = rw (e, last_clause clause f.instrs old) refl

-- The frame around the innermost ends in the `try`, so the clause is added to it.
pub record GetsClause (clause : LegacyCatch) (g : OpenFrame) (fs all : List OpenFrame) : Type 0 where
  pub around : List OpenFrame
  pub are : all ≡ g ∷ around
  pub same_slots : slots around ≡ slots fs
  pub adds : AddsClause fs around clause

pub gets_clause : (clause : LegacyCatch) (g : OpenFrame) (fs all : List OpenFrame) → with_clause_around clause (g ∷ fs) ≡ Ok all → GetsClause clause g fs all
gets_clause clause g [] all e = absurd cc
gets_clause clause g (f ∷ fs) all e = by_result (with_clause clause f) refl e
  where
    by_result : (o : Option OpenFrame) → with_clause clause f ≡ o → (some_or o NoTry >>= λ h. let r : Result (List OpenFrame) ParseError = Ok (g ∷ h ∷ fs) in r) ≡ Ok all → GetsClause clause g (f ∷ fs) all
    by_result None is e = absurd cc
    by_result (Some h) is e =
        let made : g ∷ h ∷ fs ≡ all = cc e in
        record {
          around = h ∷ fs;
          are = sym made;
          same_slots = ap (λ q. q ∷ slots fs) (clause_kept clause f h is);
          adds = adds;
        }
      where
        adds : AddsClause (f ∷ fs) (h ∷ fs) clause
        adds (instr.Try t, location) [] frames opener = absurd (let q : f ∷ fs ≡ [] = frames in cc q)
        adds (instr.Try t, location) (o ∷ os) frames opener =
            let both : f ∷ fs ≡ with_instr (old clause t location) o ∷ os = frames in
            let first : f ≡ with_instr (old clause t location) o = cc both in
            let rest : fs ≡ os = cc both in
            let there : h ≡ with_instr (new clause t location) o = some_same h (with_instr (new clause t location) o) (sym is ∙ ap (with_clause clause) first ∙ in_frame clause t location o) in
            (new clause t location, gained clause t location, λ i. there i ∷ rest i)
        adds (i, location) outside frames opener = absurd (no_other i opener.0 opener.1)
          where
            no_other : (j : _) (t : Try) → j ≡ instr.Try t → ⊥
            no_other j t e = absurd cc

-- so the clause can't be refused
pub has_try : (clause : LegacyCatch) (g : OpenFrame) (fs outside : List OpenFrame) (x : LocatedInstr) (e : ParseError) → fs ≢ [] → fs ≡ changed_at 0 (with_instr x) outside → IsTry x.0 → with_clause_around clause (g ∷ fs) ≡ Err e → ⊥
has_try clause g fs [] x e some frames opener refused = some frames
has_try clause g fs (o ∷ os) x e some frames opener refused =
    let is_try : with_instr x o ≡ with_instr (old clause opener.0 x.1) o = ap (λ i. with_instr (i, x.1) o) opener.1 in
    let added : with_clause_around clause (g ∷ fs) ≡ Ok (g ∷ with_instr (new clause opener.0 x.1) o ∷ os) =
    ap (λ gs. with_clause_around clause (g ∷ gs)) frames
    ∙ ap (λ h. with_clause_around clause (g ∷ h ∷ os)) is_try
    ∙ ap (λ r. some_or r NoTry >>= λ h. let q : Result (List OpenFrame) ParseError = Ok (g ∷ h ∷ os) in q) (in_frame clause opener.0 x.1 o) in
    let both : Ok (g ∷ with_instr (new clause opener.0 x.1) o ∷ os) ≡ Err e = sym added ∙ refused in
    absurd (cc both)

-- ---- the name of a clause

module _ (env : Environment) (f : SequenceFrame Occurrence) (fs : List (SequenceFrame Occurrence)) where
  abbrev pub clause_named : Option ℕ → Bool → Result NamedOperation ParseError
  clause_named tag allowed =
      unless allowed CatchOutsideTry >>= λ _. caught_tag env tag >>= λ h. has_pick env (signature h.1 (construct_results (f ∷ fs))) >>= λ _. Ok (clause_operation h.0)

  same_moves : is_some (catch_all_moves f) ≡ is_some (catch_moves f)
  same_moves = by_frame f
    where
      by_frame : (g : SequenceFrame Occurrence) → is_some (catch_all_moves g) ≡ is_some (catch_moves g)
      by_frame OfFunction = refl
      by_frame (OfWrapper a) = refl
      by_frame (Consequent a) = refl
      by_frame (Alternative a) = refl
      by_frame (TryBody a) = refl
      by_frame (Handler a) = refl
      by_frame (HandlerOfAll a) = refl

  pub named_clause : (tag : Option ℕ) → named_in env (f ∷ fs) (clause_operation tag) ≡ clause_named tag (is_some (catch_moves f))
  named_clause None = named_catch_all env f fs ∙ ap (λ b. unless b CatchOutsideTry >>= λ _. has_pick env (signature [] (construct_results (f ∷ fs))) >>= λ _. let r : Result NamedOperation ParseError = Ok catch_all_operation in r) same_moves
  named_clause (Some n) = named_catch env f fs n ∙ by_results (is_some (catch_moves f)) (id_at env Tags n)
    where
      with_tag : (tag : ℕ) (r : Result Signature ParseError) →
          ((r >>= λ s. has_pick env (signature s.parameters (construct_results (f ∷ fs)))) >>= λ _. let q : Result NamedOperation ParseError = Ok (operation catch_opcode (index Tags tag ∷ [])) in q)
          ≡ ((r >>= λ s. let q : Result (Option ℕ × List (ValType ℕ)) ParseError = Ok (Some tag, s.parameters) in q) >>= λ h. has_pick env (signature h.1 (construct_results (f ∷ fs))) >>= λ _. Ok (clause_operation h.0))
      with_tag tag (Ok s) = refl
      with_tag tag (Err e) = refl

      by_results : (b : Bool) (r : Result ℕ ParseError) →
          (unless b CatchOutsideTry >>= λ _. r >>= λ tag. (tag_type env tag >>= λ s. has_pick env (signature s.parameters (construct_results (f ∷ fs)))) >>= λ _. let q : Result NamedOperation ParseError = Ok (operation catch_opcode (index Tags tag ∷ [])) in q)
          ≡ (unless b CatchOutsideTry >>= λ _. (r >>= λ tag. tag_type env tag >>= λ s. let q : Result (Option ℕ × List (ValType ℕ)) ParseError = Ok (Some tag, s.parameters) in q) >>= λ h. has_pick env (signature h.1 (construct_results (f ∷ fs))) >>= λ _. Ok (clause_operation h.0))
      by_results true (Ok tag) = with_tag tag (tag_type env tag)
      by_results true (Err e) = refl
      by_results false r = refl

-- whether a clause is allowed, if the innermost frame is that of this construct
allows_clause : (p : OpenConstruct Occurrence) → is_some (catch_moves (frame_of p)) ≡ has_clauses (kind_in p)
allows_clause (InWrapper a OfBlock) = refl
allows_clause (InWrapper a OfLoop) = refl
allows_clause (InWrapper a (OfTryTable cs)) = refl
allows_clause (InThen a) = refl
allows_clause (InElse a b l) = refl
allows_clause (InTry a) = refl
allows_clause (InCatch a b gs h t) = refl
allows_clause (InCatchAll a b gs h) = refl

results_around : (p : OpenConstruct Occurrence) (fs : List (SequenceFrame Occurrence)) → construct_results (frame_of p ∷ fs) ≡ (block_signature (opener_in p).named).results
results_around (InWrapper a w) fs = refl
results_around (InThen a) fs = refl
results_around (InElse a b l) fs = refl
results_around (InTry a) fs = refl
results_around (InCatch a b gs h t) fs = refl
results_around (InCatchAll a b gs h) fs = refl

may_have_clause : (k : BlockKind) → has_clauses k ≡ true → MayHaveClause k
may_have_clause kind.Try e = tt
may_have_clause kind.Catch e = tt
may_have_clause kind.Block e = absurd cc
may_have_clause kind.Loop e = absurd cc
may_have_clause kind.If e = absurd cc
may_have_clause kind.Else e = absurd cc
may_have_clause kind.FunctionEntry e = absurd cc
may_have_clause kind.TryTable e = absurd cc
may_have_clause kind.CatchAll e = absurd cc

-- ---- the parameters of a handler

abbrev IsTagged : Environment → Option ℕ → List (ValType ℕ) → Type 0
IsTagged env (Some tag) types = (typing_of env).tag_parameters tag ≡ types
IsTagged env None types = types ≡ []

parameters_are : (env : Environment) (tag : ℕ) (s : Signature) → tag_type env tag ≡ Ok s → (typing_of env).tag_parameters tag ≡ s.parameters
parameters_are env tag s e = by_type (slice_get env.tags tag) e
  where
    by_signature : (o : Option Signature) → some_or o NotAFunctionType ≡ Ok s → parameters_or_none o ≡ s.parameters
    by_signature (Some u) q = let same : u ≡ s = cc q in ap (λ (z : Signature). z.parameters) same
    by_signature None q = absurd cc

    by_type : (o : Option ℕ) → (some_or o UnknownId >>= λ type. function_type env type) ≡ Ok s → parameters_or_none (option_and_then (signature_of env.types) o) ≡ s.parameters
    by_type (Some type) q = by_signature (signature_of env.types type) q
    by_type None q = absurd cc

is_tagged : (env : Environment) (tag : Option ℕ) (h : Option ℕ × List (ValType ℕ)) → caught_tag env tag ≡ Ok h → IsTagged env h.0 h.1
is_tagged env None h e = let same : (None, []) ≡ h = cc e in subst (λ z. IsTagged env z.0 z.1) same refl
is_tagged env (Some n) h e = by_id (id_at env Tags n) e
  where
    by_type : (u : ℕ) (r : Result Signature ParseError) → tag_type env u ≡ r → (r >>= λ s. let q : Result (Option ℕ × List (ValType ℕ)) ParseError = Ok (Some u, s.parameters) in q) ≡ Ok h → IsTagged env h.0 h.1
    by_type u (Ok s) is q = let same : (Some u, s.parameters) ≡ h = cc q in subst (λ z. IsTagged env z.0 z.1) same (parameters_are env u s is)
    by_type u (Err f) is q = absurd cc

    by_id : (r : Result ℕ ParseError) → (r >>= λ u. tag_type env u >>= λ s. let q : Result (Option ℕ × List (ValType ℕ)) ParseError = Ok (Some u, s.parameters) in q) ≡ Ok h → IsTagged env h.0 h.1
    by_id (Ok u) q = by_type u (tag_type env u) refl q
    by_id (Err f) q = absurd cc

-- the construct after a clause, and the parse
abbrev with_clause_open : Option ℕ → OpenConstruct Occurrence → Sequence Occurrence → Occurrence → Option (OpenConstruct Occurrence)
with_clause_open (Some tag) p s x = with_catch_open p s x tag
with_clause_open None p s x = with_catch_all_open p s x

further_by : (tag : Option ℕ) (x : Occurrence) (l : Layer Occurrence) (ls : List (Layer Occurrence)) (s : Sequence Occurrence) →
    further_within (control_of {B = Signature} (clause_operation tag)) x (l ∷ ls) s ≡ continue_in ls l.before (with_clause_open tag l.construct s x)
further_by (Some tag) x l ls s = refl
further_by None x l ls s = refl

-- ---- after the innermost frame is closed

module _ (old mid : OpenTrees) (ifs : List IfElseState) (s : Sequence Occurrence) (place location : ℕ) (c : ControlFrame) (block : ℕ) (popped : Pops old mid c block) (tag : Option ℕ) where
  abbrev f : OpenFrame
  f = popped.frame

  kind_is : f.kind ≡ c.kind
  kind_is = ap (λ (g : OpenFrame). g.kind) popped.shown.is

  ends : f.end_types ≡ c.end_types.items
  ends = ap (λ (g : OpenFrame). g.end_types) popped.shown.is

  abbrev Kept : List (Layer Occurrence) → Type 0
  Kept ls = Keeps (env_of old) (state_with old ifs) ls s

  abbrev Within : Layer Occurrence → List (Layer Occurrence) → OpenConstruct Occurrence → Type 0
  Within l ls p = IsWithinFrames (env_of old) old.builder.sequences (length old.builder.sequences) f mid.frames ifs p s (Holds (env_of old) old.builder.sequences ls l.before)

  within : (l : Layer Occurrence) (ls : List (Layer Occurrence)) → Kept (l ∷ ls) → Within l ls l.construct
  within l ls keeps = subst (λ gs. Holds (env_of old) old.builder.sequences (l ∷ ls) s (length old.builder.sequences) gs ifs) popped.closes.frames keeps

  -- a clause isn't allowed there
  pub no_clause : has_clauses c.kind ≡ false → (ls : List (Layer Occurrence)) → Kept ls → named_in (env_of old) (frames_of ls) (clause_operation tag) ≡ Err CatchOutsideTry
  no_clause other [] keeps = named_clause (env_of old) OfFunction [] tag
  no_clause other (l ∷ ls) keeps = named_clause (env_of old) (frame_of l.construct) (frames_of ls) tag
      ∙ ap (clause_named (env_of old) (frame_of l.construct) (frames_of ls) tag) (allows_clause l.construct ∙ ap has_clauses (sym (within l ls keeps).encloses.kind ∙ kind_is) ∙ other)

  module _ (may : has_clauses c.kind ≡ true) where
    -- lookups return the same as before
    caught_before : caught_tag (env_of old) tag ≡ caught_tag (env_of mid) tag
    caught_before = ap (λ t. caught_tag (env_of t) tag) (sym popped.closes.is)

    -- so a construct is open
    not_outermost : Kept [] → ⊥
    not_outermost keeps =
        let outermost = subst (λ gs. Holds (env_of old) old.builder.sequences [] s (length old.builder.sequences) gs ifs) popped.closes.frames keeps in
        let no : has_clauses kind.FunctionEntry ≡ true = ap has_clauses (sym outermost.kind ∙ kind_is) ∙ may in absurd (cc no)

    named_as : (l : Layer Occurrence) (ls : List (Layer Occurrence)) → Kept (l ∷ ls) →
        named_in (env_of old) (frames_of (l ∷ ls)) (clause_operation tag) ≡ (caught_tag (env_of old) tag >>= λ h. has_pick (env_of old) (signature h.1 c.end_types.items) >>= λ _. Ok (clause_operation h.0))
    named_as l ls keeps =
        let inside = within l ls keeps in
        named_clause (env_of old) (frame_of l.construct) (frames_of ls) tag
        ∙ ap (clause_named (env_of old) (frame_of l.construct) (frames_of ls) tag) (allows_clause l.construct ∙ ap has_clauses (sym inside.encloses.kind ∙ kind_is) ∙ may)
        ∙ ap (λ r. caught_tag (env_of old) tag >>= λ h. has_pick (env_of old) (signature h.1 r) >>= λ _. let q : Result NamedOperation ParseError = Ok (clause_operation h.0) in q) (results_around l.construct (frames_of ls) ∙ sym inside.encloses.gives ∙ ends)

    -- the tag isn't found
    pub not_caught : (e : ParseError) → caught_tag (env_of mid) tag ≡ Err e → (ls : List (Layer Occurrence)) → Kept ls → named_in (env_of old) (frames_of ls) (clause_operation tag) ≡ Err e
    not_caught e after [] keeps = absurd (not_outermost keeps)
    not_caught e after (l ∷ ls) keeps = let is : caught_tag (env_of old) tag ≡ Err e = caught_before ∙ after in named_as l ls keeps ∙ ap (λ r. r >>= λ h. has_pick (env_of old) (signature h.1 c.end_types.items) >>= λ _. let q : Result NamedOperation ParseError = Ok (clause_operation h.0) in q) is

    module _ (h : Option ℕ × List (ValType ℕ)) (after : caught_tag (env_of mid) tag ≡ Ok h) (end : OpenTrees) (ended : EndsAt mid end block location) (gives : List (ValType ℕ)) (gives_is : gives ≡ c.end_types.items) where
      is_caught : caught_tag (env_of old) tag ≡ Ok h
      is_caught = caught_before ∙ after

      same_module : end.module ≡ old.module
      same_module = ap (λ (t : OpenTrees). t.module) ended.is ∙ ap (λ (t : OpenTrees). t.module) popped.closes.is

      named_by : (l : Layer Occurrence) (ls : List (Layer Occurrence)) (o : Option InstrSeqType) → Kept (l ∷ ls) → existing end.module.types h.1 gives ≡ o →
          named_in (env_of old) (frames_of (l ∷ ls)) (clause_operation tag) ≡ (unless (is_some o) TypeMissing >>= λ _. Ok (clause_operation h.0))
      named_by l ls o keeps picks =
          named_as l ls keeps
          ∙ ap (λ r. r >>= λ q. has_pick (env_of old) (signature q.1 c.end_types.items) >>= λ _. let k : Result NamedOperation ParseError = Ok (clause_operation q.0) in k) is_caught
          ∙ ap (λ p. unless (is_some p) TypeMissing >>= λ _. let k : Result NamedOperation ParseError = Ok (clause_operation h.0) in k) ((λ i. existing (sym same_module i).types h.1 (sym gives_is i)) ∙ picks)

      -- the module has no picked type for the handler
      pub no_pick : existing end.module.types h.1 gives ≡ None → (ls : List (Layer Occurrence)) → Kept ls → named_in (env_of old) (frames_of ls) (clause_operation tag) ≡ Err TypeMissing
      no_pick none [] keeps = absurd (not_outermost keeps)
      no_pick none (l ∷ ls) keeps = named_by l ls None keeps none

      module _ (pushed new : OpenTrees) (t : InstrSeqType) (id : ℕ) (picks : existing end.module.types h.1 gives ≡ Some t) (opens : Opens end pushed (handler_kind h.0) t h.1 gives id) where
        frames_pushed : pushed.frames ≡ new_frame (handler_kind h.0) h.1 gives id ∷ mid.frames
        frames_pushed = ap (λ (z : OpenTrees). z.frames) opens.is ∙ ap (λ fs. new_frame (handler_kind h.0) h.1 gives id ∷ fs) (ap (λ (z : OpenTrees). z.frames) ended.is)

        -- the frame around can take the clause, since it ends in the `try`
        pub not_refused : (e : ParseError) → with_clause_around (handler_clause h.0 id) pushed.frames ≡ Err e → (ls : List (Layer Occurrence)) → Kept ls → ⊥
        not_refused e refused [] keeps = not_outermost keeps
        not_refused e refused (l ∷ ls) keeps =
            let inside = within l ls keeps in
            let around = by_clause (λ p. Within l ls p → AllowsClause) (λ a i. allowed a i.opens.0) (λ a b cs x u i. allowed a i.opens.0) l.construct (may_have_clause (kind_in l.construct) (ap has_clauses (sym inside.encloses.kind ∙ kind_is) ∙ may)) inside in
            has_try (handler_clause h.0 id) (new_frame (handler_kind h.0) h.1 gives id) mid.frames around.0.1 around.0.0 e
            (some_around (env_of old) (state_with old ifs) l ls s f mid.frames keeps popped.closes.frames) around.1 around.2
            (ap (with_clause_around (handler_clause h.0 id)) (sym frames_pushed) ∙ refused)
          where
            AllowsClause : Type 0
            AllowsClause = (x : LocatedInstr × List OpenFrame) × (mid.frames ≡ changed_at 0 (with_instr x.0) x.1) × IsTry x.0.0

            allowed : {around before : List ℕ} {slot : ℕ} {p : OpenConstruct Occurrence} {outside : List OpenFrame} → Occurrence → IsAppended around before slot p IsTry mid.frames outside → AllowsClause
            allowed {outside = outside} a i = ((i.opener, outside), i.frames, i.is_opener)

        module _ (added : AddsClauseAround (handler_clause h.0 id) pushed new) (l : Layer Occurrence) (ls : List (Layer Occurrence)) (keeps : Kept (l ∷ ls)) where
          abbrev b : List InstrSeq
          b = end.builder.sequences

          sealed_at : Seals old.builder.sequences b f (Some location)
          sealed_at = seals_end old mid end f location popped.closes (subst (λ n. EndsAt mid end n location) popped.is_block ended)

          abbrev Continues : Option (OpenConstruct Occurrence) → Type 0
          Continues o = (q : OpenConstruct Occurrence) × (o ≡ Some q) × Keeps (env_of old) (state_with new ifs) (layer l.before q ∷ ls) Empty

          gets_here : (u : Option ℕ) (parameters : List (ValType ℕ)) → h ≡ (u, parameters) → GetsClause (handler_clause u id) (new_frame (handler_kind u) parameters gives id) mid.frames new.frames
          gets_here u parameters same = gets_clause (handler_clause u id) (new_frame (handler_kind u) parameters gives id) mid.frames new.frames
              (subst (λ (z : Option ℕ × List (ValType ℕ)). with_clause_around (handler_clause z.0 id) (new_frame (handler_kind z.0) z.1 gives id ∷ mid.frames) ≡ Ok new.frames) same
              (ap (with_clause_around (handler_clause h.0 id)) (sym frames_pushed) ∙ added.0))

          may_here : MayHaveClause f.kind
          may_here = may_have_clause f.kind (ap has_clauses kind_is ∙ may)

          same_gives : gives ≡ f.end_types
          same_gives = gives_is ∙ sym ends

          picks_here : (parameters : List (ValType ℕ)) → h.1 ≡ parameters → pick old.module.types (signature parameters f.end_types) ≡ Some t
          picks_here parameters same = (λ i. existing (sym same_module i).types (sym same i) (sym same_gives i)) ∙ picks

          arena_new : new.builder.sequences ≡ b ++ empty_sequence (length b) t ∷ []
          arena_new = ap (λ (z : OpenTrees). z.builder.sequences) added.1 ∙ ap (λ (z : OpenTrees). z.builder.sequences) opens.is

          -- the construct goes on in the handler of this clause
          continues : (u : Option ℕ) (parameters : List (ValType ℕ)) → IsTagged (env_of old) u parameters → h ≡ (u, parameters) → (x : Occurrence) → x.location ≡ location → Continues (with_clause_open u l.construct s x)
          continues (Some u) parameters tagged same x at =
              let gets = gets_here (Some u) parameters same in
              catch_parts (env_of old) (state_with old ifs) l ls s f mid.frames popped.closes.frames keeps l.construct (state_with new ifs) b (empty_sequence (length b) t) (new_frame kind.Catch parameters gives id) gets.around x u parameters
              may_here (subst (λ n. Seals old.builder.sequences b f (Some n)) (sym at) sealed_at) tagged (picks_here parameters (ap (λ (z : Option ℕ × List (ValType ℕ)). z.1) same)) refl arena_new
              (λ i. new_frame kind.Catch parameters (same_gives i) (opens.is_next i)) gets.are refl gets.same_slots
              (subst (λ n. AddsClause mid.frames gets.around (Catch u n)) opens.is_next gets.adds) (within l ls keeps)
          continues None parameters tagged same x at =
              let gets = gets_here None parameters same in
              catch_all_parts (env_of old) (state_with old ifs) l ls s f mid.frames popped.closes.frames keeps l.construct (state_with new ifs) b (empty_sequence (length b) t) (new_frame kind.CatchAll parameters gives id) gets.around x
              may_here (subst (λ n. Seals old.builder.sequences b f (Some n)) (sym at) sealed_at) (picks_here [] (ap (λ (z : Option ℕ × List (ValType ℕ)). z.1) same ∙ tagged)) refl arena_new
              (λ i. new_frame kind.CatchAll (tagged i) (same_gives i) (opens.is_next i)) gets.are refl gets.same_slots
              (subst (λ n. AddsClause mid.frames gets.around (CatchAll n)) opens.is_next gets.adds) (within l ls keeps)

          pub parts_try : Advances (env_of old) (state_with new ifs) (l ∷ ls) s (clause_operation tag) place location
          parts_try =
              let named : NamedOperation = clause_operation h.0 in
              let x = occurrence (clause_operation tag) place location named in
              let made = continues h.0 h.1 (is_tagged (env_of old) tag h is_caught) refl x refl in
              record {
                named = named;
                is_named = named_by l ls (Some t) keeps picks;
                keeps = subst (KeepsProgress (env_of old) (state_with new ifs)) (sym (further_by h.0 x l ls s)) (subst (λ o. KeepsProgress (env_of old) (state_with new ifs) (continue_in ls l.before o)) (sym made.1) made.2);
              }

        pub steps_try : AddsClauseAround (handler_clause h.0 id) pushed new → (ls : List (Layer Occurrence)) → Kept ls → Advances (env_of old) (state_with new ifs) ls s (clause_operation tag) place location
        steps_try added [] keeps = absurd (not_outermost keeps)
        steps_try added (l ∷ ls) keeps = parts_try added l ls keeps

      -- the clause is added, or memory runs out
      pub clause_steps : (pushed new : OpenTrees) (id : ℕ) (k : BlockKind) (clause : LegacyCatch) → k ≡ handler_kind h.0 → clause ≡ handler_clause h.0 id → IsSomeAnd (existing end.module.types h.1 gives) (λ t. Opens end pushed k t h.1 gives id) →
          (r : Result (Unit {0}) ParseError) → OnOk r (AddsClauseAround clause pushed new) → IfErr r (λ e. (e ≡ Memory) ⊎ (with_clause_around clause pushed.frames ≡ Err e)) → (ls : List (Layer Occurrence)) → Kept ls →
          IsStep (env_of old) (state_with new ifs) ls s (clause_operation tag) place location r
      clause_steps pushed new id k clause same_kind same_clause is_pushed r ok err ls keeps =
          let made = some_is (existing end.module.types h.1 gives) is_pushed in
          let opens : Opens end pushed (handler_kind h.0) made.0 h.1 gives id = subst (λ q. Opens end pushed q made.0 h.1 gives id) same_kind made.2 in
          by_result r made.0 made.1 opens ok err
        where
          by_result : (r : Result (Unit {0}) ParseError) (t : InstrSeqType) → existing end.module.types h.1 gives ≡ Some t → Opens end pushed (handler_kind h.0) t h.1 gives id → OnOk r (AddsClauseAround clause pushed new) →
              IfErr r (λ e. (e ≡ Memory) ⊎ (with_clause_around clause pushed.frames ≡ Err e)) → IsStep (env_of old) (state_with new ifs) ls s (clause_operation tag) place location r
          by_result (Ok u) t picks opens ok err = steps_try pushed new t id picks opens (subst (λ q. AddsClauseAround q pushed new) same_clause ok) ls keeps
          by_result (Err e) t picks opens ok (inl is) = inl is
          by_result (Err e) t picks opens ok (inr is) = absurd (not_refused pushed new t id picks opens e (ap (λ q. with_clause_around q pushed.frames) (sym same_clause) ∙ is) ls keeps)
