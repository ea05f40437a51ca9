-- A parse so far, with a caller's location function and validator: the operators read, and the state of the parser.
use Rattle.std.specs.Prelude.{◌≡◌, ℕ, ◌+◌, ◌-◌, ◌<◌, ◌≤◌, ◌⊎◌, List, [], ◌∷◌, ◌++◌, length, Option, Some, None, Ok, Err}
use Rattle.std.specs.Borrow.{Bor}
use Rattle.std.specs.Fn.{Shared}
use Rattle.std.proofs.Common.{ap, sym, subst, ◌∙◌, arith, inl, inr}
use Rattle.wasm_operators.specs.Operations.{RawOperation}
use Rattle.wasm_operators.specs.Spelling.{read_operation}
use Rattle.wasm_body.specs.declared.error.ParseError.{ParseError}
use Rattle.wasm_body.specs.declared.error.ParseError.TheVariants.{Trailing, MissingEnd, Memory}
use Rattle.wasm_body.specs.declared.error.ParseFailure.{ParseFailure}
use Rattle.wasm_body.specs.Control.{end_operation}
use Rattle.wasm_body.specs.SourceTree.{Sequence, Empty, Body}
use Rattle.wasm_body.specs.Naming.{NamedOperation, Occurrence, named_in}
use Rattle.wasm_body.specs.Parsing.Accepted.{mark, has_location, admitted}
use Rattle.wasm_body.specs.Parsing.Lists.{failure}
use Rattle.wasm_body.specs.Parsing.Progress.{Layer, Progress, Within, Whole, NoBody, frames_of, further}
use Rattle.walrus_parser.specs.declared.body_parser.BodyParser.{BodyParser}
use Rattle.walrus_parser.specs.Advancing.{Keeps, KeepsProgress}
use Rattle.walrus_parser.specs.Bodies.{ParseInput, mapped_by, operators_parsed, IsRefusedAnyway}
use Rattle.walrus_parser.specs.BodyParsers.{BeginsParse, state_of}
use Rattle.walrus_validators.specs.Locating.{Locates, MayCall}
use Rattle.walrus_parser.specs.NextOperator.{TakesNext, RefusesNext, not_admitted as not_admitted_at, breaks_rule}
use Rattle.walrus_context.specs.OpenTrees.{env_of}
use Rattle.walrus_parser.specs.Settings.{BothOrNone, locations_in, operators_of, IsMapping}
use Rattle.walrus_parser.proofs.AnyLocations.{any_locations}
use Rattle.walrus_parser.proofs.Mappings.{may_call_next, rise-wider}
use Rattle.walrus_parser.proofs.ParsedSoFar.{Reads, begins, occurrence, goes_over, not_admitted, broken, missing, whole, trailing, whole_operators}

abbrev pub body_at : Sequence Occurrence → (place location : ℕ) → Body Occurrence
body_at s place location = record { sequence = s; close = occurrence end_operation place location end_operation }

module _ {S F : Type 0} (g : Shared F (Bor ℕ × Unit {0}) ℕ) (i : ParseInput S F) where
  abbrev pub ReadsSo : Progress Occurrence → S → ℕ → List ℕ → List (ℕ × ℕ) → Type 0
  ReadsSo progress state place rest mapping = Reads g i.on_instr_pos i.environment i.start i.offset i.check i.first i.bytes progress state place rest mapping

  pub record SoFar (p : BodyParser) (state : S) (place : ℕ) (rest : List ℕ) (mapping : List (ℕ × ℕ)) : Type 0 where
    pub layers : List (Layer Occurrence)
    pub sequence : Sequence Occurrence
    pub reads : ReadsSo (Within layers sequence) state place rest mapping
    pub env_is : env_of p.context ≡ i.environment
    pub keeps : Keeps (env_of p.context) (state_of p) layers sequence
    pub entry : p.context.builder.entry ≡ Some 0

  pub begins_parse : (p : BodyParser) (mapping : List (ℕ × ℕ)) → env_of p.context ≡ i.environment → BeginsParse p → mapping ≡ [] → SoFar p i.first i.start i.bytes mapping
  begins_parse p mapping e fresh none = record {
    layers = [];
    sequence = Empty;
    reads = subst (ReadsSo (Within [] Empty) i.first i.start i.bytes) (sym none) (begins g i.on_instr_pos i.environment i.start i.offset i.check i.first i.bytes);
    env_is = e;
    keeps = fresh.keeps;
    entry = fresh.entry;
  }

  pub continues : (p : BodyParser) (progress : Progress Occurrence) (state : S) (place : ℕ) (rest : List ℕ) (mapping : List (ℕ × ℕ)) → env_of p.context ≡ i.environment → p.context.builder.entry ≡ Some 0 →
      KeepsProgress (env_of p.context) (state_of p) progress → ReadsSo progress state place rest mapping → SoFar p state place rest mapping
  continues p (Within ls s) state place rest mapping e entry keeps reads = record { layers = ls; sequence = s; reads = reads; env_is = e; keeps = keeps; entry = entry }
  continues p (Whole b) state place rest mapping e entry keeps reads = absurd keeps
  continues p NoBody state place rest mapping e entry keeps reads = absurd keeps

  -- nothing changed
  pub still : (p q : BodyParser) (s t : S) (place : ℕ) (rest : List ℕ) (m n : List (ℕ × ℕ)) → q ≡ p → n ≡ m → t ≡ s → SoFar p s place rest m → SoFar q t place rest n
  still p q s t place rest m n parser mapping state so =
      subst (λ k. SoFar k t place rest n) (sym parser) (subst (λ k. SoFar p t place rest k) (sym mapping) (subst (λ k. SoFar p k place rest m) (sym state) so))

  -- ---- refusals

  both_mapped : (mapping : List (ℕ × ℕ)) (locations : Option (ℕ → ℕ)) → BothOrNone i.on_instr_pos locations → BothOrNone (locations_in i.on_instr_pos i.offset mapping) locations
  both_mapped mapping locations both = by_cases i.on_instr_pos locations both
    where
      by_cases : (q : Option (Bor F)) (l : Option (ℕ → ℕ)) → BothOrNone q l → BothOrNone (locations_in q i.offset mapping) l
      by_cases None None both = tt
      by_cases (Some f) (Some l) both = tt
      by_cases None (Some l) both = absurd both
      by_cases (Some f) None both = absurd both

  anyway : (mapping : List (ℕ × ℕ)) (f : ParseFailure) → operators_parsed g i (mapped_by g i mapping) ≡ Err f → IsRefusedAnyway g i f
  anyway mapping f e locations both = any_locations i.environment i.start i.check i.first (mapped_by g i mapping) locations (both_mapped mapping locations both) i.bytes f e

  module _ (fits : i.offset ≤ i.start) where
    pub unread : (p : BodyParser) (state : S) (place : ℕ) (rest : List ℕ) (mapping : List (ℕ × ℕ)) (e : ParseError) (f : ParseFailure) → SoFar p state place rest mapping → 0 < length rest →
        admitted (has_location i.on_instr_pos) i.check state place rest ≡ Err e → f ≡ failure e place → IsRefusedAnyway g i f
    unread p state place rest mapping e f s some take is =
        anyway mapping f (not_admitted g i.on_instr_pos i.environment i.start i.offset i.check i.first i.bytes fits s.layers s.sequence state place rest mapping e s.reads some take ∙ ap Err (sym is))

    pub breaks : (p : BodyParser) (state next_state : S) (place : ℕ) (rest after : List ℕ) (mapping : List (ℕ × ℕ)) (op : RawOperation) (e : ParseError) (f : ParseFailure) (s : SoFar p state place rest mapping) → 0 < length rest →
        admitted (has_location i.on_instr_pos) i.check state place rest ≡ Ok (record { spelt = op; rest = after; state = next_state }) → named_in (env_of p.context) (frames_of s.layers) op ≡ Err e → f ≡ failure e place → IsRefusedAnyway g i f
    breaks p state next_state place rest after mapping op e f s some take named is =
        anyway mapping f
        (broken g i.on_instr_pos i.environment i.start i.offset i.check i.first i.bytes fits s.layers s.sequence state next_state place rest after mapping op e s.reads some take
        (ap (λ v. named_in v (frames_of s.layers) op) (sym s.env_is) ∙ named) ∙ ap Err (sym is))

    pub ends_early : (p : BodyParser) (state : S) (place : ℕ) (rest : List ℕ) (mapping : List (ℕ × ℕ)) (f : ParseFailure) → SoFar p state place rest mapping → length rest ≡ 0 → f ≡ failure MissingEnd place → IsRefusedAnyway g i f
    ends_early p state place rest mapping f s none is =
        anyway mapping f (missing g i.on_instr_pos i.environment i.start i.offset i.check i.first i.bytes fits s.layers s.sequence state place rest mapping s.reads none ∙ ap Err (sym is))

    -- ---- one more operator

    -- the operator was admitted, and it has a name
    pub over_next : (p : BodyParser) (state next_state : S) (place next : ℕ) (rest after : List ℕ) (mapping following : List (ℕ × ℕ)) (op : RawOperation) (location : ℕ) (named : NamedOperation) (s : SoFar p state place rest mapping) →
        admitted (has_location i.on_instr_pos) i.check state place rest ≡ Ok (record { spelt = op; rest = after; state = next_state }) → Locates g i.on_instr_pos place location → named_in (env_of p.context) (frames_of s.layers) op ≡ Ok named →
        next + length after ≡ place + length rest → length after < length rest → following ≡ mapping ++ (place - i.offset, location) ∷ [] →
        ReadsSo (further (Within s.layers s.sequence) (mark (occurrence op place location named))) next_state next after following
    over_next p state next_state place next rest after mapping following op location named s take located is moved shorter pushed =
        subst (ReadsSo (further (Within s.layers s.sequence) (mark (occurrence op place location named))) next_state next after) (sym pushed)
        (goes_over g i.on_instr_pos i.environment i.start i.offset i.check i.first i.bytes s.layers s.sequence state next_state place next rest after mapping op location named s.reads take located
        (ap (λ v. named_in v (frames_of s.layers) op) (sym s.env_is) ∙ is) moved shorter)

    pub takes : (p q : BodyParser) (state next_state : S) (place next : ℕ) (rest after : List ℕ) (mapping following : List (ℕ × ℕ)) (op : RawOperation) → SoFar p state place rest mapping →
        read_operation rest ≡ Ok (op, after) → next + length after ≡ place + length rest → length after < length rest →
        TakesNext g i.on_instr_pos i.check state next_state place i.offset op p q mapping following → SoFar q next_state next after following
    takes p q state next_state place next rest after mapping following op s read moved shorter t =
        let advances = t.steps s.layers s.sequence place s.keeps in
        let more = further (Within s.layers s.sequence) (mark (occurrence op place t.location advances.named)) in
        let reads = over_next p state next_state place next rest after mapping following op t.location advances.named s (t.is_admitted rest after read) t.is_located advances.is_named moved shorter t.adds_pair in
        continues q more next_state next after following (t.is_same.env ∙ s.env_is) (t.is_same.entry ∙ s.entry) (subst (λ e. KeepsProgress e (state_of q) more) (sym t.is_same.env) advances.keeps) reads

    pub refuses : (p : BodyParser) (state : S) (place : ℕ) (rest after : List ℕ) (mapping : List (ℕ × ℕ)) (op : RawOperation) (e : ParseError) (f : ParseFailure) → SoFar p state place rest mapping → 0 < length rest →
        read_operation rest ≡ Ok (op, after) → f ≡ failure e place → RefusesNext i.on_instr_pos i.check state place op p e → (e ≡ Memory) ⊎ IsRefusedAnyway g i f
    refuses p state place rest after mapping op e f s some read is (not_admitted_at admits) = inr (unread p state place rest mapping e f s some (admits rest after read) is)
    refuses p state place rest after mapping op e f s some read is (breaks_rule t location new admits steps) = elim (steps s.layers s.sequence place s.keeps) [
      | inl out_of_memory ↦ inl out_of_memory
      | inr named ↦ inr (breaks p state t place rest after mapping op e f s some (admits rest after read) named is)
    ]

    -- it was the function's own `end`
    pub over_end : (p : BodyParser) (state next_state : S) (place next : ℕ) (rest after : List ℕ) (mapping following : List (ℕ × ℕ)) (location : ℕ) (s : SoFar p state place rest mapping) → s.layers ≡ [] →
        admitted (has_location i.on_instr_pos) i.check state place rest ≡ Ok (record { spelt = end_operation; rest = after; state = next_state }) → Locates g i.on_instr_pos place location →
        next + length after ≡ place + length rest → length after < length rest → following ≡ mapping ++ (place - i.offset, location) ∷ [] →
        ReadsSo (Whole (body_at s.sequence place location)) next_state next after following
    over_end p state next_state place next rest after mapping following location s top take located moved shorter pushed =
        subst (λ ls. ReadsSo (further (Within ls s.sequence) (mark (occurrence end_operation place location end_operation))) next_state next after following) top
        (over_next p state next_state place next rest after mapping following end_operation location end_operation s take located
        (ap (λ ls. named_in (env_of p.context) (frames_of ls) end_operation) top) moved shorter pushed)

    -- ---- the body is whole

    pub goes_past : (b : Body Occurrence) (state : S) (place : ℕ) (rest : List ℕ) (mapping : List (ℕ × ℕ)) (f : ParseFailure) → ReadsSo (Whole b) state place rest mapping → 0 < length rest → f ≡ failure Trailing place → IsRefusedAnyway g i f
    goes_past b state place rest mapping f r some is = anyway mapping f (trailing g i.on_instr_pos i.environment i.start i.offset i.check i.first i.bytes fits b state place rest mapping r some ∙ ap Err (sym is))

    pub is_whole : (b : Body Occurrence) (state : S) (place : ℕ) (rest : List ℕ) (mapping : List (ℕ × ℕ)) → ReadsSo (Whole b) state place rest mapping → length rest ≡ 0 → operators_parsed g i (mapped_by g i mapping) ≡ Ok b
    is_whole b state place rest mapping r none = whole g i.on_instr_pos i.environment i.start i.offset i.check i.first i.bytes fits b state place rest mapping r none

    pub whole_mapping : (b : Body Occurrence) (state : S) (place : ℕ) (rest : List ℕ) (mapping : List (ℕ × ℕ)) → ReadsSo (Whole b) state place rest mapping →
        IsMapping g i.on_instr_pos i.offset i.start (i.start + length i.bytes) (operators_of b) mapping
    whole_mapping b state place rest mapping r =
        let at = r.place_is in
        subst (λ xs. IsMapping g i.on_instr_pos i.offset i.start (i.start + length i.bytes) xs mapping) (whole_operators g i.on_instr_pos i.environment i.start i.offset i.check i.first i.bytes b state place rest mapping r)
        (record { pairs = r.is_mapping.pairs; rise = rise-wider r.operators i.start place (i.start + length i.bytes) (omega arith) r.is_mapping.rise; are_located = r.is_mapping.are_located })

  pub may_call_here : (pre : F → Bor ℕ → Type 0) (p : BodyParser) (state : S) (place : ℕ) (rest : List ℕ) (mapping : List (ℕ × ℕ)) → SoFar p state place rest mapping → 0 < length rest →
      MayCall pre i.on_instr_pos i.start (i.start + length i.bytes) → MayCall pre i.on_instr_pos place (place + 1)
  may_call_here pre p state place rest mapping s some may =
      let at = s.reads.place_is in
      may_call_next pre i.on_instr_pos i.start (i.start + length i.bytes) place s.reads.started (omega arith) may
