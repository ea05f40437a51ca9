-- `try_table`: its name or the first rule that it breaks, and the state after the calls of the context.
use Rattle.std.proofs.Common.{◌≡◌, ℕ, List, [], ◌∷◌, length, map, is_some, Result, Ok, Err, refl, sym, ap, ◌∙◌}
use Rattle.walrus_ir.specs.declared.instr.Instr.{Instr}
use Rattle.walrus_ir.specs.declared.instr.Instr.TheVariants as instr
use Rattle.walrus_ir.specs.declared.control.BlockKind.TheVariants as kind
use Rattle.walrus_ir.specs.declared.control.TryTableCatch.{TryTableCatch}
use Rattle.wasm_numbers.specs.Results.{◌>>=◌, each, unless}
use Rattle.walrus_ir.specs.Types.{Signature}
use Rattle.wasm_operators.specs.declared.types.BlockType.{BlockType}
use Rattle.wasm_operators.specs.declared.types.Opcode.TheVariants.{Byte}
use Rattle.wasm_operators.specs.Operations.{CatchClause, block, clauses, operation, RawOperation}
use Rattle.wasm_body.specs.declared.error.ParseError.{ParseError}
use Rattle.wasm_body.specs.declared.error.ParseError.TheVariants.{TypeMissing}
use Rattle.wasm_body.specs.Control.{TryTable, Opens as OpensConstruct, catching, control_of}
use Rattle.wasm_body.specs.Frames.{SequenceFrame}
use Rattle.wasm_body.specs.SourceTree.{Sequence}
use Rattle.wasm_body.specs.Translation.{translate, translate_clause}
use Rattle.wasm_body.specs.Naming.{Environment, NamedOperation, Occurrence, name_block, naming, block_signature, has_pick, has_types, named_in}
use Rattle.wasm_body.specs.InstructionTable.{operation_of, table_clause}
use Rattle.wasm_body.specs.Parsing.Progress.{Layer, frames_of}
use Rattle.walrus_context.specs.declared.frame.IfElseState.{IfElseState}
use Rattle.walrus_context.specs.OpenFrames.{changed_at, with_instr}
use Rattle.walrus_context.specs.OpenTrees.{OpenTrees, OpensAs, env_of, opened_type}
use Rattle.walrus_context.specs.Keeping.{IsAny}
use Rattle.walrus_context.specs.Placing.{block_found, placing}
use Rattle.walrus_parser.specs.Advancing.{Keeps, Advances}
use Rattle.walrus_parser.specs.BodyParsers.{state_with}
use Rattle.walrus_parser.proofs.Labels.{AreSeenAs, holds_seen}
use Rattle.walrus_parser.proofs.Openings.{named_as, try_table_at_once, opens_as}
use Rattle.walrus_parser.proofs.Placements.{IsNamedAs, placed_named, placed_refused}

module _ (b : BlockType) (cs : List (CatchClause ℕ)) where
  abbrev pub table_operation : RawOperation
  table_operation = operation (Byte 0x1f) (block b ∷ clauses cs ∷ [])

  module _ (env : Environment) where
    -- it is allowed anywhere
    named_table : (ls : List (Layer Occurrence)) →
        named_in env (frames_of ls) table_operation ≡ (translate (naming env (frames_of ls)) table_operation >>= λ named. has_types env (frames_of ls) (control_of named) named >>= λ _. Ok named)
    named_table [] = refl
    named_table (l ∷ ls) = refl

    -- its name, from the signature of its block type
    table_named : (fs : List (SequenceFrame Occurrence)) (s : Signature) (named : NamedOperation) → name_block env b ≡ Ok s → translate (naming env fs) table_operation ≡ Ok named →
        (ds : List (CatchClause ℕ)) × (named ≡ operation (Byte 0x1f) (block s ∷ clauses ds ∷ []))
    table_named fs s named is e = by_clauses (each (translate_clause (naming env fs)) cs) refl
      where
        by_clauses : (q : Result (List (CatchClause ℕ)) ParseError) → each (translate_clause (naming env fs)) cs ≡ q → (ds : List (CatchClause ℕ)) × (named ≡ operation (Byte 0x1f) (block s ∷ clauses ds ∷ []))
        by_clauses (Ok ds) d =
            let made : translate (naming env fs) table_operation ≡ Ok (operation (Byte 0x1f) (block s ∷ clauses ds ∷ [])) = rw (is, d) refl in
            let both : Ok named ≡ Ok (operation (Byte 0x1f) (block s ∷ clauses ds ∷ [])) = sym e ∙ made in
            let same : named ≡ operation (Byte 0x1f) (block s ∷ clauses ds ∷ []) = cc both in (ds, same)
        by_clauses (Err f) d =
            let made : translate (naming env fs) table_operation ≡ Err f = rw (is, d) refl in
            absurd (let both : Ok named ≡ Err f = sym e ∙ made in cc both)

    -- the first rule that it breaks is one that its immediates break
    refused_first : (ls : List (Layer Occurrence)) (e : ParseError) → translate (naming env (frames_of ls)) table_operation ≡ Err e → named_in env (frames_of ls) table_operation ≡ Err e
    refused_first ls e is = named_table ls ∙ ap (λ r. r >>= λ named. has_types env (frames_of ls) (control_of named) named >>= λ _. let q : Result NamedOperation ParseError = Ok named in q) is

    -- after these, the module must have the picked type
    pick_last : (ls : List (Layer Occurrence)) (s : Signature) (named : NamedOperation) → name_block env b ≡ Ok s → translate (naming env (frames_of ls)) table_operation ≡ Ok named → named_in env (frames_of ls) table_operation ≡ (has_pick env s >>= λ _. Ok named)
    pick_last ls s named is e =
        let shape = table_named (frames_of ls) s named is e in
        named_table ls
        ∙ ap (λ r. r >>= λ named. has_types env (frames_of ls) (control_of named) named >>= λ _. let q : Result NamedOperation ParseError = Ok named in q) e
        ∙ ap (λ m. has_types env (frames_of ls) (control_of m) m >>= λ _. let q : Result NamedOperation ParseError = Ok named in q) shape.1

    -- ---- lookups

    block_named : (r : Result Signature ParseError) → name_block env b ≡ r → block_found env b ≡ Ok tt → (s : Signature) × (name_block env b ≡ Ok s)
    block_named (Ok s) is found = (s, is)
    block_named (Err f) is found = absurd (let both : Err f ≡ Ok tt = ap (λ r. r >>= λ s. let q : Result (Unit {0}) ParseError = Ok tt in q) (sym is) ∙ found in cc both)

    block_lacks : (r : Result Signature ParseError) (e : ParseError) → name_block env b ≡ r → block_found env b ≡ Err e → name_block env b ≡ Err e
    block_lacks (Ok s) e is lacks = absurd (let both : Ok tt ≡ Err e = ap (λ r. r >>= λ s. let q : Result (Unit {0}) ParseError = Ok tt in q) (sym is) ∙ lacks in cc both)
    block_lacks (Err f) e is lacks = let both : Err f ≡ Err e = ap (λ r. r >>= λ s. let q : Result (Unit {0}) ParseError = Ok tt in q) (sym is) ∙ lacks in let same : f ≡ e = cc both in is ∙ ap Err same

    -- the block type names a type that doesn't exist
    pub no_block : (ls : List (Layer Occurrence)) (e : ParseError) → block_found env b ≡ Err e → named_in env (frames_of ls) table_operation ≡ Err e
    no_block ls e lacks = let is = block_lacks (name_block env b) e refl lacks in refused_first ls e (rw is refl)

module _ (c : OpenTrees) (ifs : List IfElseState) (ls : List (Layer Occurrence)) (s : Sequence Occurrence) (b : BlockType) (cs : List (CatchClause ℕ)) (keeps : Keeps (env_of c) (state_with c ifs) ls s) (found : block_found (env_of c) b ≡ Ok tt) where
  seen : AreSeenAs (frames_of ls) c.frames
  seen = holds_seen (env_of c) c.builder.sequences ls s (length c.builder.sequences) c.frames ifs keeps

  abbrev o : RawOperation
  o = table_operation b cs

  -- the tag or the label of a clause isn't found
  pub no_clause : (e : ParseError) → each (translate_clause (placing (env_of c) c.frames)) cs ≡ Err e → named_in (env_of c) (frames_of ls) o ≡ Err e
  no_clause e is = refused_first b cs (env_of c) ls e (placed_refused (env_of c) (frames_of ls) c.frames seen o e (rw (found, is) refl))

  module _ (made : List TryTableCatch) (placed : each (translate_clause (placing (env_of c) c.frames)) cs ≡ Ok (map table_clause made)) where
    abbrev pub table : ℕ → Instr
    table id = instr.TryTable (record { seq = id; catches = made })

    named_so : (id : ℕ) → IsNamedAs (env_of c) (frames_of ls) c.frames seen o (operation_of (table id))
    named_so id = placed_named (env_of c) (frames_of ls) c.frames seen o (operation_of (table id)) (rw (found, placed) refl)

    -- the module has no picked type for the block type
    pub no_pick : (e : ParseError) → opened_type (env_of c) b ≡ Err e → named_in (env_of c) (frames_of ls) o ≡ Err e
    no_pick e lacks =
        let named = named_so 0 in
        let block = block_named b cs (env_of c) (name_block (env_of c) b) refl found in
        pick_last b cs (env_of c) ls block.0 named.named block.1 named.is_named
        ∙ by_pick (has_pick (env_of c) block.0) block.0 named.named (ap (λ r. r >>= λ s. has_pick (env_of c) s >>= λ _. let q : Result Signature ParseError = Ok s in q) (sym block.1) ∙ lacks)
      where
        by_pick : (r : Result (Unit {0}) ParseError) (s : Signature) (named : NamedOperation) → (r >>= λ _. let q : Result Signature ParseError = Ok s in q) ≡ Err e → (r >>= λ _. let q : Result NamedOperation ParseError = Ok named in q) ≡ Err e
        by_pick (Ok u) s named h = absurd cc
        by_pick (Err f) s named h = let same : f ≡ e = cc h in ap Err same

    module _ (m n : OpenTrees) (place location id : ℕ) (opened : OpensAs c m kind.TryTable id (name_block (env_of c) b)) where
      pub opens_table : n ≡ record m { frames = changed_at 1 (with_instr (table id, location)) m.frames } → Advances (env_of c) (state_with n ifs) ls s o place location
      opens_table e =
          let h = named_as c m kind.TryTable b id (name_block (env_of c) b) refl opened in
          let named = named_so id in
          let shape = table_named b cs (env_of c) (frames_of ls) h.signature named.named h.is_named named.is_named in
          let control : control_of named.named ≡ OpensConstruct (TryTable (map catching shape.0)) = ap control_of shape.1 in
          opens_as c m n ifs ls s place location b id keeps kind.TryTable h (TryTable (map catching shape.0)) IsAny (table id) o named.named (try_table_at_once (env_of c) (map catching shape.0))
          (pick_last b cs (env_of c) ls h.signature named.named h.is_named named.is_named ∙ ap (λ p. unless (is_some p) TypeMissing >>= λ _. let q : Result NamedOperation ParseError = Ok named.named in q) h.picked)
          control (ap block_signature shape.1) refl refl named.kept tt e
