-- The parts of an operator are checked as they are named: both exist, or both are refused for the same fault.
use Rattle.std.proofs.Common.{◌≡◌, ℕ, zero, suc, ◌<◌, List, [], ◌∷◌, length, drop, Bool, true, false, Option, Some, None, Result, Ok, Err, refl, sym, ap, ◌∙◌, arith}
use Rattle.std.specs.Prelude.{nat_lt, slice_get}
use Rattle.std.proofs.lemmas.Bool.{ltb-true, ltb-false}
use Rattle.std.proofs.lemmas.Option.{slice_get_past}
use Rattle.walrus_ir.specs.declared.control.BlockKind.{BlockKind}
use Rattle.walrus_ir.specs.declared.control.BlockKind.TheVariants as kind
use Rattle.walrus_ir.specs.Types.{Signature, ModuleType}
use Rattle.wasm_numbers.specs.Results.{◌>>=◌, some_or, unless, with_fault}
use Rattle.wasm_operators.specs.declared.types.BlockType.{BlockType}
use Rattle.wasm_operators.specs.Operations.{Immediate, operation, RawOperation}
use Rattle.wasm_body.specs.declared.error.ParseError.{ParseError}
use Rattle.wasm_body.specs.declared.error.ParseError.TheVariants.{Index, NoSuchLabel, RethrowOutsideHandler}
use Rattle.wasm_body.specs.Frames.{SequenceFrame, OfFunction, OfWrapper, Consequent, Alternative, TryBody, Handler, HandlerOfAll, is_handler, handler_at, outside}
use Rattle.wasm_body.specs.Translation.{translate, translate_immediates}
use Rattle.wasm_body.specs.Naming.{Environment, NamedOperation, Occurrence, naming, id_at, name_block, handler_label}
use Rattle.wasm_body.proofs.Translation.Outcomes.{outcome, Alike, AreAlike, translate_alike}
use Rattle.wasm_renumber.specs.Changes.{changing, changed_operator}
use Rattle.walrus_context.specs.Placing.{is_handler_kind}
use Rattle.walrus_flat.specs.declared.open_sequence.OpenSequence.{OpenSequence}
use Rattle.walrus_flat.specs.Checked.{IsWrapper, IsFrame, AreFrames, open_handler, checking_changes}

-- ---- frames

wrapper_kind : (k : BlockKind) → IsWrapper k → is_handler_kind k ≡ false
wrapper_kind kind.Block h = refl
wrapper_kind kind.Loop h = refl
wrapper_kind kind.TryTable h = refl
wrapper_kind _ h = absurd h

module _ (types : List ModuleType) where
  handler_kind : (f : OpenSequence) (g : SequenceFrame Occurrence) → IsFrame types f g → is_handler_kind f.kind ≡ is_handler g
  handler_kind f OfFunction h = ap is_handler_kind h
  handler_kind f (OfWrapper a) h = wrapper_kind f.kind h.0
  handler_kind f (Consequent a) h = ap is_handler_kind h.0
  handler_kind f (Alternative a) h = ap is_handler_kind h.0
  handler_kind f (TryBody a) h = ap is_handler_kind h.0
  handler_kind f (Handler a) h = ap is_handler_kind h.0
  handler_kind f (HandlerOfAll a) h = ap is_handler_kind h.0

  pub same_length : (fs : List OpenSequence) (gs : List (SequenceFrame Occurrence)) → AreFrames types fs gs → length fs ≡ length gs
  same_length [] [] h = refl
  same_length (f ∷ fs) (g ∷ gs) h = ap suc (same_length fs gs h.1)
  same_length [] (g ∷ gs) h = absurd h
  same_length (f ∷ fs) [] h = absurd h

  outside_length : (fs : List OpenSequence) (gs : List (SequenceFrame Occurrence)) → AreFrames types fs gs → length (drop 1 fs) ≡ length (outside gs)
  outside_length [] [] h = refl
  outside_length (f ∷ fs) (g ∷ gs) h = same_length fs gs h.1
  outside_length [] (g ∷ gs) h = absurd h
  outside_length (f ∷ fs) [] h = absurd h

  -- the sequence that a depth names
  abbrev IsSeen : List OpenSequence → List (SequenceFrame Occurrence) → ℕ → Type 0
  IsSeen fs gs n = (f : OpenSequence) × (slice_get fs n ≡ Some f) × (is_handler_kind f.kind ≡ handler_at gs n)

  seen_at : (fs : List OpenSequence) (gs : List (SequenceFrame Occurrence)) → AreFrames types fs gs → (n : ℕ) → n < length gs → IsSeen fs gs n
  seen_at [] [] h n l = absurd (omega (arith, l))
  seen_at (f ∷ fs) (g ∷ gs) h zero l = (f, refl, handler_kind f g h.0)
  seen_at (f ∷ fs) (g ∷ gs) h (suc n) l = seen_at fs gs h.1 n (omega (arith, l))
  seen_at [] (g ∷ gs) h n l = absurd h
  seen_at (f ∷ fs) [] h n l = absurd h

-- ---- parts

module _ (env : Environment) (fs : List OpenSequence) (gs : List (SequenceFrame Occurrence)) (are : AreFrames env.types fs gs) where
  kept_alike : (r : Result ℕ ParseError) (n : ℕ) → Alike {B = ℕ} (let s : Result ℕ ParseError = r >>= (λ id. Ok n) in s) r
  kept_alike (Ok id) n = refl
  kept_alike (Err e) n = refl

  block_alike : (r : Result Signature ParseError) (b : BlockType) → Alike {B = Signature} (let s : Result BlockType ParseError = r >>= (λ t. Ok b) in s) r
  block_alike (Ok t) b = refl
  block_alike (Err e) b = refl

  handler_alike : (n : ℕ) (b : Bool) → nat_lt n (length gs) ≡ b →
      Alike {E = ParseError} (let r : Result ℕ ParseError = open_handler fs n >>= (λ u. Ok n) in r) (handler_label gs n)
  handler_alike n true is =
      let s = seen_at env.types fs gs are n (ltb-true n (length gs) is) in
      let named : Bool → Result ℕ ParseError = λ b. unless b RethrowOutsideHandler >>= λ u. Ok n in
      let left : (let r : Result ℕ ParseError = open_handler fs n >>= (λ u. Ok n) in r) ≡ named (is_handler_kind s.0.kind) =
      ap (λ (o : Option OpenSequence). (some_or o NoSuchLabel >>= λ f. unless (is_handler_kind f.kind) RethrowOutsideHandler) >>= λ u. Ok n) s.1 in
      let right : handler_label gs n ≡ named (handler_at gs n) = ap (λ b. (unless b NoSuchLabel >>= λ u. Ok n) >>= λ m. named (handler_at gs n)) is in
      ap outcome (left ∙ (ap named s.2 ∙ sym right))
  handler_alike n false is =
      let past : slice_get fs n ≡ None = slice_get_past fs n (omega (arith, ltb-false n (length gs) is, same_length env.types fs gs are)) in
      let left : (let r : Result ℕ ParseError = open_handler fs n >>= (λ u. Ok n) in r) ≡ Err NoSuchLabel =
      ap (λ (o : Option OpenSequence). (some_or o NoSuchLabel >>= λ f. unless (is_handler_kind f.kind) RethrowOutsideHandler) >>= λ u. Ok n) past in
      let right : handler_label gs n ≡ Err NoSuchLabel = ap (λ b. (unless b NoSuchLabel >>= λ u. Ok n) >>= λ m. unless (handler_at gs n) RethrowOutsideHandler >>= λ u. Ok n) is in
      ap outcome (left ∙ sym right)

  pub checking_alike : AreAlike (changing (checking_changes env fs)) (naming env gs)
  checking_alike = record {
    indices = λ space n. kept_alike (id_at env space n) n;
    locals = λ n. kept_alike (with_fault Index (env.local_of n)) n;
    labels = λ n. ap (λ k. outcome {A = ℕ} {E = ParseError} (unless (nat_lt n k) NoSuchLabel >>= λ u. Ok n)) (same_length env.types fs gs are);
    handlers = λ n. handler_alike n (nat_lt n (length gs)) refl;
    outers = λ n. ap (λ k. outcome {A = ℕ} {E = ParseError} (unless (nat_lt n k) NoSuchLabel >>= λ u. Ok n)) (outside_length env.types fs gs are);
    numbers = λ n. refl;
    blocks = λ b. block_alike (name_block env b) b;
    counts = λ n. refl;
  }

  -- ---- an operator

  -- the parts of an operator that were checked have names
  pub named_too : (o checked : RawOperation) → changed_operator (checking_changes env fs) o ≡ Ok checked → (named : NamedOperation) × (translate (naming env gs) o ≡ Ok named)
  named_too o checked e =
      by_results (translate_immediates (changing (checking_changes env fs)) o.immediates) (translate_immediates (naming env gs) o.immediates)
      (translate_alike (changing (checking_changes env fs)) (naming env gs) checking_alike o.immediates) e
    where
      by_results : (r : Result (List (Immediate ℕ BlockType)) ParseError) (t : Result (List (Immediate ℕ Signature)) ParseError) → Alike r t →
          (r >>= λ is. Ok (operation o.opcode is)) ≡ Ok checked → (named : NamedOperation) × ((t >>= λ is. Ok (operation o.opcode is)) ≡ Ok named)
      by_results (Ok x) (Ok y) a e = (operation o.opcode y, refl)
      by_results (Ok x) (Err f) a e = absurd cc
      by_results (Err f) t a e = absurd cc

  -- or the same fault
  pub refused_too : (o : RawOperation) (f : ParseError) → changed_operator (checking_changes env fs) o ≡ Err f → translate (naming env gs) o ≡ Err f
  refused_too o f e =
      by_results (translate_immediates (changing (checking_changes env fs)) o.immediates) (translate_immediates (naming env gs) o.immediates)
      (translate_alike (changing (checking_changes env fs)) (naming env gs) checking_alike o.immediates) e
    where
      by_results : (r : Result (List (Immediate ℕ BlockType)) ParseError) (t : Result (List (Immediate ℕ Signature)) ParseError) → Alike r t →
          (r >>= λ is. Ok (operation o.opcode is)) ≡ Err f → (t >>= λ is. Ok (operation o.opcode is)) ≡ Err f
      by_results (Ok x) t a e = absurd cc
      by_results (Err c) (Ok y) a e = absurd cc
      by_results (Err c) (Err d) a e = let one : c ≡ f = cc e in let two : c ≡ d = cc a in ap Err (sym two ∙ one)
