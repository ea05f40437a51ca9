-- Opening a construct: the state after the calls of the context.
use Rattle.std.proofs.Common.{arith, reverse, ◌≡◌, ◌⊎◌, inl, inr, ◌<◌, ◌≤◌, OnOk, IfErr, ℕ, List, [], ◌∷◌, ◌++◌, length, Option, Some, None, Result, Ok, Err, IsSomeAnd, unwrap_or, refl, sym, ap, ◌∙◌, subst}
use Rattle.std.proofs.lemmas.List.{reverse-append}
use Rattle.walrus_ir.specs.declared.instr.Instr.{Instr}
use Rattle.walrus_ir.specs.declared.control.BlockKind.{BlockKind}
use Rattle.walrus_ir.specs.declared.control.BlockKind.TheVariants as kind
use Rattle.walrus_ir.specs.declared.val_type.InstrSeqType.{InstrSeqType}
use Rattle.walrus_ir.specs.declared.val_type.InstrSeqType.TheVariants.{Simple}
use Rattle.wasm_types.specs.declared.val_type.ValType.{ValType}
use Rattle.walrus_ir.specs.Tree.{no_sequences}
use Rattle.walrus_ir.specs.Types.{Signature, pick}
use Rattle.walrus_ir.specs.InstructionSequence.{empty_sequence}
use Rattle.walrus_ir.specs.Unfolding.{LocatedInstr, slots_in}
use Rattle.wasm_operators.specs.declared.types.BlockType.{BlockType}
use Rattle.wasm_operators.specs.declared.types.Opcode.{Opcode}
use Rattle.wasm_operators.specs.declared.types.Opcode.TheVariants.{Byte}
use Rattle.wasm_operators.specs.Operations.{block, operation}
use Rattle.wasm_body.specs.declared.error.ParseError.{ParseError}
use Rattle.wasm_body.specs.declared.error.ParseError.TheVariants.{Memory, NoSuchLabel}
use Rattle.wasm_operators.specs.Operations.{RawOperation}
use Rattle.wasm_body.specs.Control.{Clause, Construct, Block, Loop, If, Try, TryTable, Opens as OpensConstruct, control_of}
use Rattle.wasm_body.specs.SourceTree.{Sequence}
use Rattle.wasm_numbers.specs.Results.{◌>>=◌}
use Rattle.wasm_body.specs.Naming.{Occurrence, Environment, NamedOperation, block_signature, name_block, has_pick, named_in}
use Rattle.wasm_body.specs.NormalForm.{typing_of, construct_type, kept_operation, instruction, name_at}
use Rattle.wasm_body.specs.InstructionTable.{operation_of, clauses_of_try}
use Rattle.wasm_body.specs.TreeOfFunction.{with_targets}
use Rattle.wasm_body.specs.Frames.{OfFunction}
use Rattle.wasm_body.specs.Parsing.Progress.{Layer, opened, frame_of, frames_of}
use Rattle.walrus_context.specs.declared.frame.IfElseState.{IfElseState}
use Rattle.walrus_context.specs.OpenConstructs.{kind_in, type_in, opener_in, clauses_in, closed_in, map_open_construct}
use Rattle.walrus_context.specs.OpenFrames.{OpenFrame, new_frame, changed_at, with_instr}
use Rattle.walrus_context.specs.OpenTrees.{OpenTrees, Opens, OpensAs, env_of, opened_type}
use Rattle.walrus_context.specs.Keeping.{slots, TakesParameters, IsAny, IsTry, IsAppended, OpensWith}
use Rattle.walrus_parser.specs.Advancing.{Keeps, occurrence, Advances, IsStep}
use Rattle.walrus_parser.proofs.Labels.{some_frame, holds_length}
use Rattle.walrus_parser.specs.BodyParsers.{state_with}
use Rattle.walrus_parser.proofs.Rules.{named_opener}
use Rattle.walrus_parser.proofs.Steps.{steps_opened, steps_if}

-- the name of an opener, with any frames around it
opener_is : (env : Environment) (ls : List (Layer Occurrence)) (opcode : Opcode) (construct : Construct) (b : BlockType) (s : Signature) (t : InstrSeqType) → control_of (operation opcode (block b ∷ [])) ≡ OpensConstruct construct →
    ((z : Signature) → control_of (operation opcode (block z ∷ [])) ≡ OpensConstruct construct) → name_block env b ≡ Ok s → pick env.types s ≡ Some t → named_in env (frames_of ls) (operation opcode (block b ∷ [])) ≡ Ok (operation opcode (block s ∷ []))
opener_is env [] opcode construct b s t raw named is picked = named_opener env OfFunction [] opcode construct b raw named ∙ rw (is, picked) refl
opener_is env (l ∷ ls) opcode construct b s t raw named is picked = named_opener env (frame_of l.construct) (frames_of ls) opcode construct b raw named ∙ rw (is, picked) refl

-- the first rule that an opener breaks, which is one about its block type
pub opener_faults : (env : Environment) (ls : List (Layer Occurrence)) (opcode : Opcode) (construct : Construct) (b : BlockType) (f : ParseError) → control_of (operation opcode (block b ∷ [])) ≡ OpensConstruct construct →
    ((z : Signature) → control_of (operation opcode (block z ∷ [])) ≡ OpensConstruct construct) → opened_type env b ≡ Err f → named_in env (frames_of ls) (operation opcode (block b ∷ [])) ≡ Err f
opener_faults env ls opcode construct b f raw named e = by_frames ls
  where
    refused : (r : Result Signature ParseError) → (r >>= λ s. has_pick env s >>= λ _. Ok s) ≡ Err f → (r >>= λ s. has_pick env s >>= λ _. let q : Result NamedOperation ParseError = Ok (operation opcode (block s ∷ [])) in q) ≡ Err f
    refused (Ok s) h = by_pick (has_pick env s) h
      where
        by_pick : (q : Result (Unit {0}) ParseError) → (q >>= λ _. let k : Result Signature ParseError = Ok s in k) ≡ Err f → (q >>= λ _. let k : Result NamedOperation ParseError = Ok (operation opcode (block s ∷ [])) in k) ≡ Err f
        by_pick (Ok u) h = absurd cc
        by_pick (Err g) h = let same : g ≡ f = cc in ap Err same
    refused (Err g) h = let same : g ≡ f = cc in ap Err same

    by_frames : (ls : List (Layer Occurrence)) → named_in env (frames_of ls) (operation opcode (block b ∷ [])) ≡ Err f
    by_frames [] = named_opener env OfFunction [] opcode construct b raw named ∙ refused (name_block env b) e
    by_frames (l ∷ ls) = named_opener env (frame_of l.construct) (frames_of ls) opcode construct b raw named ∙ refused (name_block env b) e

-- the new frame, from the named block type
pub record Named (c m : OpenTrees) (k : BlockKind) (b : BlockType) (id : ℕ) : Type 0 where
  pub signature : Signature
  pub is_named : name_block (env_of c) b ≡ Ok signature
  pub type : InstrSeqType
  pub picked : pick c.module.types signature ≡ Some type
  pub opens : Opens c m k type signature.parameters signature.results id

pub named_as : (c m : OpenTrees) (k : BlockKind) (b : BlockType) (id : ℕ) (r : Result Signature ParseError) → name_block (env_of c) b ≡ r → OpensAs c m k id r → Named c m k b id
named_as c m k b id (Ok s) e h = by_pick (pick c.module.types s) refl h
  where
    by_pick : (o : Option InstrSeqType) → pick c.module.types s ≡ o → IsSomeAnd o (λ type. Opens c m k type s.parameters s.results id) → Named c m k b id
    by_pick (Some t) p q = record { signature = s; is_named = e; type = t; picked = p; opens = q }
    by_pick None p q = absurd q
named_as c m k b id (Err f) e h = absurd h

-- Constructs whose instruction is appended to the frame around when they are opened.
pub record IsOpenedAtOnce (env : Environment) (construct : Construct) (k : BlockKind) (IsOpener : Instr → Type 0) : Type 0 where
  pub kind : (a : Occurrence) → k ≡ kind_in (opened a construct)
  pub takes : (a : Occurrence) (types : List (ValType ℕ)) → TakesParameters env (opened a construct) types
  pub type : (a : Occurrence) → type_in (typing_of env) (map_open_construct name_at (opened a construct)) ≡ construct_type (typing_of env) a.named
  pub opener : (a : Occurrence) → opener_in (opened a construct) ≡ a
  pub clauses : (a : Occurrence) → clauses_in (opened a construct) ≡ []
  pub closed : (a : Occurrence) → closed_in (typing_of env) (map_open_construct name_at (opened a construct)) ≡ no_sequences
  pub opens : (a : Occurrence) (around : List ℕ) (slot : ℕ) (fs outside : List OpenFrame) (ifs : List IfElseState) → IsAppended around [] slot (opened a construct) IsOpener fs outside → OpensWith around [] slot (opened a construct) fs outside ifs ifs

pub block_at_once : (env : Environment) → IsOpenedAtOnce env Block kind.Block IsAny
block_at_once env = record { kind = λ a. refl; takes = λ a ts. tt; type = λ a. refl; opener = λ a. refl; clauses = λ a. refl; closed = λ a. refl; opens = λ a around slot fs outside ifs h. (h, refl) }

pub loop_at_once : (env : Environment) → IsOpenedAtOnce env Loop kind.Loop IsAny
loop_at_once env = record { kind = λ a. refl; takes = λ a ts. tt; type = λ a. refl; opener = λ a. refl; clauses = λ a. refl; closed = λ a. refl; opens = λ a around slot fs outside ifs h. (h, refl) }

pub try_at_once : (env : Environment) → IsOpenedAtOnce env Try kind.Try IsTry
try_at_once env = record { kind = λ a. refl; takes = λ a ts. tt; type = λ a. refl; opener = λ a. refl; clauses = λ a. refl; closed = λ a. refl; opens = λ a around slot fs outside ifs h. (h, refl) }

pub try_table_at_once : (env : Environment) (cs : List Clause) → IsOpenedAtOnce env (TryTable cs) kind.TryTable IsAny
try_table_at_once env cs = record { kind = λ a. refl; takes = λ a ts. tt; type = λ a. refl; opener = λ a. refl; clauses = λ a. refl; closed = λ a. refl; opens = λ a around slot fs outside ifs h. (h, refl) }

module _ (c m n : OpenTrees) (ifs : List IfElseState) (ls : List (Layer Occurrence)) (s : Sequence Occurrence) (place location : ℕ) (b : BlockType) (id : ℕ) (keeps : Keeps (env_of c) (state_with c ifs) ls s) where
  -- an instruction is appended to the frame around
  abbrev Appended : Instr → Type 0
  Appended i = n ≡ record m { frames = changed_at 1 (with_instr (i, location)) m.frames }

  state_is : (k : BlockKind) (h : Named c m k b id) (x : LocatedInstr) → n ≡ record m { frames = changed_at 1 (with_instr x) m.frames } →
      state_with n ifs ≡ record { arena = c.builder.sequences ++ empty_sequence (length c.builder.sequences) h.type ∷ []; frames = new_frame k h.signature.parameters h.signature.results id ∷ changed_at 0 (with_instr x) c.frames; ifs = ifs }
  state_is k h x e = ap (λ z. state_with z ifs) (e ∙ ap (λ (z : OpenTrees). record z { frames = changed_at 1 (with_instr x) z.frames }) h.opens.is)

  -- Its name is an opener of the construct, with the parameters and results of the named block type.
  pub opens_as : (k : BlockKind) (h : Named c m k b id) (construct : Construct) (IsOpener : Instr → Type 0) (i : Instr) (o : RawOperation) (named : NamedOperation) → IsOpenedAtOnce (env_of c) construct k IsOpener →
      named_in (env_of c) (frames_of ls) o ≡ Ok named → control_of named ≡ OpensConstruct construct → block_signature named ≡ h.signature → slots_in i ≡ id ∷ [] → clauses_of_try i ≡ [] → with_targets (slots c.frames) (operation_of i) ≡ kept_operation named →
      IsOpener i → Appended i → Advances (env_of c) (state_with n ifs) ls s o place location
  opens_as k h construct IsOpener i o named at_once is_named control same_signature places no_clauses retargeted is_opener e =
      let x : LocatedInstr = (i, location) in
      let a = occurrence o place location named in
      let seq = empty_sequence (length c.builder.sequences) h.type in
      let picked : unwrap_or (pick c.module.types (block_signature named)) (Simple None) ≡ h.type = ap (λ z. unwrap_or (pick c.module.types z) (Simple None)) same_signature ∙ ap (λ t. unwrap_or t (Simple None)) h.picked in
      steps_opened (env_of c) (state_with c ifs) ls s o place location keeps
      (state_with n ifs) named construct IsOpener (new_frame k h.signature.parameters h.signature.results id) seq x is_named control
      (record {
        here = h.opens.is_next;
        is_empty = refl;
        is_alive = refl;
        kind = at_once.kind a;
        takes = at_once.takes a h.signature.parameters;
        gives = ap (λ (z : Signature). z.results) (sym same_signature) ∙ ap (λ (z : Occurrence). (block_signature z.named).results) (sym (at_once.opener a));
        has_type = sym picked ∙ sym (at_once.type a);
        has_no_end = refl;
      })
      (at_once.closed a) (λ around appended. at_once.opens a (slots around) id around c.frames ifs appended) places
      ((λ j. record { op = retargeted j; clauses = no_clauses j; location = location }) ∙ (λ j. instruction (name_at (sym (at_once.opener a) j)) (sym (at_once.clauses a) j)))
      is_opener (state_is k h x e)

  -- an opener with a block type alone
  pub opens_block_type : (opcode : Opcode) (construct : Construct) (k : BlockKind) (IsOpener : Instr → Type 0) (i : Instr) → IsOpenedAtOnce (env_of c) construct k IsOpener →
      control_of (operation opcode (block b ∷ [])) ≡ OpensConstruct construct → ((z : Signature) → control_of (operation opcode (block z ∷ [])) ≡ OpensConstruct construct) →
      slots_in i ≡ id ∷ [] → clauses_of_try i ≡ [] → with_targets (slots c.frames) (operation_of i) ≡ operation opcode (block tt ∷ []) → IsOpener i →
      OpensAs c m k id (name_block (env_of c) b) → Appended i → Advances (env_of c) (state_with n ifs) ls s (operation opcode (block b ∷ [])) place location
  opens_block_type opcode construct k IsOpener i at_once raw control places no_clauses retargeted is_opener o e =
      let h = named_as c m k b id (name_block (env_of c) b) refl o in
      opens_as k h construct IsOpener i (operation opcode (block b ∷ [])) (operation opcode (block h.signature ∷ [])) at_once
      (opener_is (env_of c) ls opcode construct b h.signature h.type raw control h.is_named h.picked) (control h.signature) refl places no_clauses retargeted is_opener e

  -- `if`, whose instruction is appended later
  pub opens_if : OpensAs c m kind.If id (name_block (env_of c) b) → Advances (env_of c) (state_with m (record { start = location; consequent = id; alternative = None } ∷ ifs)) ls s (operation (Byte 0x04) (block b ∷ [])) place location
  opens_if o =
      let h = named_as c m kind.If b id (name_block (env_of c) b) refl o in
      let named : NamedOperation = operation (Byte 0x04) (block h.signature ∷ []) in
      let g = new_frame kind.If h.signature.parameters h.signature.results id in
      let seq = empty_sequence (length c.builder.sequences) h.type in
      let made : IfElseState = record { start = location; consequent = id; alternative = None } in
      steps_if (env_of c) (state_with c ifs) ls s (operation (Byte 0x04) (block b ∷ [])) place location keeps
      (state_with m (made ∷ ifs)) named g seq
      (opener_is (env_of c) ls (Byte 0x04) If b h.signature h.type refl (λ z. refl) h.is_named h.picked)
      refl
      (record { here = h.opens.is_next; is_empty = refl; is_alive = refl; kind = refl; takes = (refl, h.type, h.picked); gives = refl; has_type = ap (λ t. unwrap_or t (Simple None)) (sym h.picked); has_no_end = refl })
      refl
      (ap (λ z. state_with z (made ∷ ifs)) h.opens.is)

  -- appending is refused only if memory runs out, since there is a frame around
  pub appended_steps : (k : BlockKind) (h : OpensAs c m k id (name_block (env_of c) b)) (i : Instr) (o : RawOperation) (r : Result (Unit {0}) ParseError) → OnOk r ((1 < length m.frames) × Appended i) →
      IfErr r (λ e. (e ≡ Memory) ⊎ ((e ≡ NoSuchLabel) × (length m.frames ≤ 1))) → (Appended i → Advances (env_of c) (state_with n ifs) ls s o place location) → IsStep (env_of c) (state_with n ifs) ls s o place location r
  appended_steps k h i o (Ok u) ok err adv = adv ok.1
  appended_steps k h i o (Err e) ok (inl is) adv = inl is
  appended_steps k h i o (Err e) ok (inr is) adv =
      let named = named_as c m k b id (name_block (env_of c) b) refl h in
      let frames : m.frames ≡ new_frame k named.signature.parameters named.signature.results id ∷ c.frames = ap (λ (z : OpenTrees). z.frames) named.opens.is in
      let around : 0 < length c.frames = rw (holds_length (env_of c) c.builder.sequences ls s (length c.builder.sequences) c.frames ifs keeps) (some_frame ls) in
      absurd (let many : length m.frames ≡ length (new_frame k named.signature.parameters named.signature.results id ∷ c.frames) = ap length frames in let few = is.1 in omega arith)

-- the last item of a list is the first of the reversed list
pub reverse_last : {A : Type 0} (xs : List A) (x : A) → reverse (xs ++ x ∷ []) ≡ x ∷ reverse xs
reverse_last xs x = reverse-append xs (x ∷ [])

-- an `if` is pushed on the list of them, or memory runs out
pub pushed_steps : (env : Environment) (c : OpenTrees) (old new : List IfElseState) (ls : List (Layer Occurrence)) (s : Sequence Occurrence) (place location : ℕ) (o : RawOperation) (x : IfElseState) (r : Result (Unit {0}) ParseError) → OnOk r (new ≡ old ++ x ∷ []) → IfErr r (λ e. e ≡ Memory) →
    Advances env (state_with c (x ∷ reverse old)) ls s o place location → IsStep env (state_with c (reverse new)) ls s o place location r
pushed_steps env c old new ls s place location o x (Ok u) ok err adv = subst (λ ifs. Advances env (state_with c ifs) ls s o place location) (sym (reverse_last old x) ∙ ap reverse (sym ok)) adv
pushed_steps env c old new ls s place location o x (Err e) ok err adv = inl err
