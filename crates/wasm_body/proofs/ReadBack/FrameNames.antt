-- Rules by names: the conditions of an operator's rules on the frames, which show only the names of openers.
use Rattle.std.proofs.Common.{◌≡◌, ℕ, zero, suc, List, [], ◌∷◌, length, true, Option, Some, None, Result, Ok, refl, sym, ap, ◌∙◌}
use Rattle.std.specs.Prelude.{nat_lt, is_some}
use Rattle.wasm_types.specs.declared.val_type.ValType.{ValType}
use Rattle.walrus_ir.specs.Types.{Signature, signature}
use Rattle.wasm_operators.specs.Operations.{RawOperation}
use Rattle.wasm_body.specs.declared.error.ParseError.{ParseError}
use Rattle.wasm_body.specs.declared.error.ParseError.TheVariants.{NoSuchLabel, RethrowOutsideHandler}
use Rattle.wasm_numbers.specs.Results.{◌>>=◌, unless}
use Rattle.wasm_body.specs.Control.{Construct, Block, Loop, If, Try, TryTable, Control, Does, Opens, Else, Catch, CatchAll, End, Delegate, control_of, control_by, role_of}
use Rattle.wasm_body.specs.Frames.{SequenceFrame, OfFunction, OfWrapper, Consequent, Alternative, TryBody, Handler, HandlerOfAll, is_allowed, frame_opened, moves, else_moves, catch_moves, catch_all_moves, delegate_moves, is_handler, handler_at, outside, opener_of}
use Rattle.wasm_body.specs.Translation.{Translation, keeping_numbers, translate, translate_immediates}
use Rattle.wasm_body.specs.Naming.{Environment, NamedOperation, Occurrence, naming, open_label, handler_label, block_types, block_signature, construct_results, results_around, has_pick, tag_type, has_types, position_fault, named_in}
use Rattle.wasm_body.proofs.Translation.Steps.{Leads, bound, all_of}
use Rattle.wasm_body.proofs.Translation.Translations.{LeadAll, lead_all, translate_leads}
use Rattle.wasm_body.proofs.NormalForm.KeptNames.{open_same, handler_same}
use Rattle.wasm_body.proofs.Parsing.NamingLemmas.{same_allowed, same_opcode, named_parts, named_is_allowed}

-- ---- frames with other values shown

abbrev pub map_frame : {A B : Type 0} → (A → B) → SequenceFrame A → SequenceFrame B
map_frame g OfFunction = OfFunction
map_frame g (OfWrapper a) = OfWrapper (g a)
map_frame g (Consequent a) = Consequent (g a)
map_frame g (Alternative a) = Alternative (g a)
map_frame g (TryBody a) = TryBody (g a)
map_frame g (Handler a) = Handler (g a)
map_frame g (HandlerOfAll a) = HandlerOfAll (g a)

abbrev pub map_frames : {A B : Type 0} → (A → B) → List (SequenceFrame A) → List (SequenceFrame B)
map_frames g [] = []
map_frames g (f ∷ fs) = map_frame g f ∷ map_frames g fs

module _ {A B : Type 0} (g : A → B) where
  length_frames : (fs : List (SequenceFrame A)) → length (map_frames g fs) ≡ length fs
  length_frames [] = refl
  length_frames (f ∷ fs) = ap suc (length_frames fs)

  handler_frame : (f : SequenceFrame A) → is_handler (map_frame g f) ≡ is_handler f
  handler_frame (Handler a) = refl
  handler_frame (HandlerOfAll a) = refl
  handler_frame _ = refl

  handler_frames : (fs : List (SequenceFrame A)) (n : ℕ) → handler_at (map_frames g fs) n ≡ handler_at fs n
  handler_frames [] n = refl
  handler_frames (f ∷ fs) zero = handler_frame f
  handler_frames (f ∷ fs) (suc n) = handler_frames fs n

  outside_frames : (fs : List (SequenceFrame A)) → outside (map_frames g fs) ≡ map_frames g (outside fs)
  outside_frames [] = refl
  outside_frames (f ∷ fs) = refl

  else_frame : (f : SequenceFrame A) → is_some (else_moves (map_frame g f)) ≡ is_some (else_moves f)
  else_frame (Consequent a) = refl
  else_frame _ = refl

  catch_frame : (f : SequenceFrame A) → is_some (catch_moves (map_frame g f)) ≡ is_some (catch_moves f)
  catch_frame (TryBody a) = refl
  catch_frame (Handler a) = refl
  catch_frame _ = refl

  catch_all_frame : (f : SequenceFrame A) → is_some (catch_all_moves (map_frame g f)) ≡ is_some (catch_all_moves f)
  catch_all_frame (TryBody a) = refl
  catch_all_frame (Handler a) = refl
  catch_all_frame _ = refl

  delegate_frame : (fs : List (SequenceFrame A)) (f : SequenceFrame A) → is_some (delegate_moves (map_frames g fs) (map_frame g f)) ≡ is_some (delegate_moves fs f)
  delegate_frame fs (TryBody a) = refl
  delegate_frame fs _ = refl

  pub allowed_frames : (fs : List (SequenceFrame A)) (c : Control) → is_allowed (map_frames g fs) c ≡ is_allowed fs c
  allowed_frames [] c = refl
  allowed_frames (f ∷ fs) (Does action) = refl
  allowed_frames (f ∷ fs) (Opens construct) = refl
  allowed_frames (f ∷ fs) Else = else_frame f
  allowed_frames (f ∷ fs) (Catch t) = catch_frame f
  allowed_frames (f ∷ fs) CatchAll = catch_all_frame f
  allowed_frames (f ∷ fs) End = refl
  allowed_frames (f ∷ fs) (Delegate n) = delegate_frame fs f

  pub open_frames : (fs : List (SequenceFrame A)) (n : ℕ) → open_label (map_frames g fs) n ≡ open_label fs n
  open_frames fs n = ap (λ k. unless (nat_lt n k) NoSuchLabel >>= λ u. Ok n) (length_frames fs)

  pub handler_label_frames : (fs : List (SequenceFrame A)) (n : ℕ) → handler_label (map_frames g fs) n ≡ handler_label fs n
  handler_label_frames fs n =
      ap (λ (r : Result ℕ ParseError). r >>= λ m. unless (handler_at (map_frames g fs) n) RethrowOutsideHandler >>= λ u. Ok n) (open_frames fs n)
      ∙ ap (λ b. open_label fs n >>= λ m. unless b RethrowOutsideHandler >>= λ u. Ok n) (handler_frames fs n)

  pub outer_frames : (fs : List (SequenceFrame A)) (n : ℕ) → open_label (outside (map_frames g fs)) n ≡ open_label (outside fs) n
  outer_frames fs n = ap (λ gs. open_label gs n) (outside_frames fs) ∙ open_frames (outside fs) n

  -- ---- the frames after an operator

  opened_frame : (a : A) (k : Construct) → map_frame g (frame_opened a k) ≡ frame_opened (g a) k
  opened_frame a Block = refl
  opened_frame a Loop = refl
  opened_frame a (TryTable cs) = refl
  opened_frame a If = refl
  opened_frame a Try = refl

  abbrev pub after_frames : Option (List (SequenceFrame A)) → Option (List (SequenceFrame B))
  after_frames (Some fs) = Some (map_frames g fs)
  after_frames None = None

  pub moves_frames : (c : Control) (a : A) (fs : List (SequenceFrame A)) → after_frames (moves c a fs) ≡ moves c (g a) (map_frames g fs)
  moves_frames c a [] = refl
  moves_frames (Does action) a (f ∷ fs) = refl
  moves_frames (Opens k) a (f ∷ fs) = ap (λ x. Some (x ∷ map_frame g f ∷ map_frames g fs)) (opened_frame a k)
  moves_frames Else a (Consequent b ∷ fs) = refl
  moves_frames Else a (_ ∷ fs) = refl
  moves_frames (Catch t) a (TryBody b ∷ fs) = refl
  moves_frames (Catch t) a (Handler b ∷ fs) = refl
  moves_frames (Catch t) a (_ ∷ fs) = refl
  moves_frames CatchAll a (TryBody b ∷ fs) = refl
  moves_frames CatchAll a (Handler b ∷ fs) = refl
  moves_frames CatchAll a (_ ∷ fs) = refl
  moves_frames End a (f ∷ fs) = refl
  moves_frames (Delegate n) a (TryBody b ∷ fs) = refl
  moves_frames (Delegate n) a (_ ∷ fs) = refl

-- ---- the rules, by names

abbrev pub named_results : Option NamedOperation → List (ValType ℕ)
named_results (Some o) = (block_signature o).results
named_results None = []

abbrev pub results_at : List (SequenceFrame NamedOperation) → List (ValType ℕ)
results_at [] = []
results_at (f ∷ fs) = named_results (opener_of f)

-- the types that the module must have, if the innermost construct has these results
abbrev pub types_in : Environment → List (ValType ℕ) → Control → NamedOperation → Result (Unit {0}) ParseError
types_in env rs (Opens construct) o = has_pick env (block_signature o)
types_in env rs (Catch tag) o = tag_type env tag >>= λ s. has_pick env (signature s.parameters rs)
types_in env rs CatchAll o = has_pick env (signature [] rs)
types_in env rs (Does action) o = Ok tt
types_in env rs Else o = Ok tt
types_in env rs End o = Ok tt
types_in env rs (Delegate n) o = Ok tt

-- naming without indices
abbrev pub ruling : {A : Type 0} → List (SequenceFrame A) → Translation ℕ Signature ℕ Signature ParseError
ruling fs = record (keeping_numbers {B = Signature} (open_label fs) (λ s. Ok s) (λ e. e)) { handler = handler_label fs; outer = open_label (outside fs) }

-- The operator keeps the rules inside these frames.
pub record KeepsRules (env : Environment) (fs : List (SequenceFrame NamedOperation)) (o : NamedOperation) : Type 0 where
  pub allowed : is_allowed fs (control_of o) ≡ true
  pub keeps : translate_immediates (ruling fs) o.immediates ≡ Ok o.immediates
  pub typed : types_in env (results_at fs) (control_of o) o ≡ Ok tt

abbrev pub named_of : Occurrence → NamedOperation
named_of x = x.named

construct_by : (fs : List (SequenceFrame Occurrence)) → construct_results fs ≡ results_at (map_frames named_of fs)
construct_by [] = refl
construct_by (f ∷ fs) = by_frame f
  where
    by_frame : (f : SequenceFrame Occurrence) → results_around (opener_of f) ≡ named_results (opener_of (map_frame named_of f))
    by_frame OfFunction = refl
    by_frame _ = refl

types_by : (env : Environment) (fs : List (SequenceFrame Occurrence)) (c : Control) (o : NamedOperation) → has_types env fs c o ≡ types_in env (construct_results fs) c o
types_by env fs (Opens construct) o = refl
types_by env fs (Catch tag) o = refl
types_by env fs _ o = refl

pub types_named : (env : Environment) (fs : List (SequenceFrame Occurrence)) (c : Control) (o : NamedOperation) → has_types env fs c o ≡ types_in env (results_at (map_frames named_of fs)) c o
types_named env fs c o = types_by env fs c o ∙ ap (λ rs. types_in env rs c o) (construct_by fs)

-- an operator that has its name keeps the rules
module _ (env : Environment) (fs : List (SequenceFrame Occurrence)) where
  abbrev here : List (SequenceFrame NamedOperation)
  here = map_frames named_of fs

  ruled_lead : LeadAll (naming env fs) (ruling here) (naming env fs)
  ruled_lead = record {
    indices = λ space n q e. sym e;
    locals = λ n q e. sym e;
    labels = λ n q e. ap (open_label here) (open_same fs n q e) ∙ open_frames named_of fs n;
    handlers = λ n q e. ap (handler_label here) (handler_same fs n q e) ∙ handler_label_frames named_of fs n;
    outers = λ n q e. ap (open_label (outside here)) (open_same (outside fs) n q e) ∙ outer_frames named_of fs n;
    numbers = λ n q e. sym e;
    alignments = λ n. refl;
    counts = λ n u e. refl;
  }

  pub named_immediates : (o : RawOperation) (named : NamedOperation) → translate (naming env fs) o ≡ Ok named → translate_immediates (naming env fs) o.immediates ≡ Ok named.immediates
  named_immediates o named e =
      let first = bound (translate_immediates (naming env fs) o.immediates) (λ is. Ok (record { opcode = o.opcode; immediates = is })) named e in
      let is : record { opcode = o.opcode; immediates = first.0 } ≡ named = cc first.2 in
      first.1 ∙ ap (λ (n : NamedOperation). Ok n.immediates) is

  pub is_ruled : (o : RawOperation) (named : NamedOperation) → named_in env fs o ≡ Ok named → KeepsRules env here named
  is_ruled o named e =
      let parts = named_parts env fs o named e in
      let immediates = named_immediates o named parts.translated in
      record {
        allowed = allowed_frames named_of fs (control_of named) ∙ named_is_allowed env fs o named e;
        keeps =
            translate_leads (naming env fs) (ruling here) (naming env fs) o.immediates
            (lead_all (naming env fs) (ruling here) (naming env fs) ruled_lead o.immediates (all_of (Leads (naming env fs).block (ruling here).block (naming env fs).block) (λ b c h. sym h) (block_types o.immediates)))
            named.immediates immediates
            ∙ immediates;
        typed = sym (types_named env fs (control_of named) named) ∙ parts.typed;
      }

  -- an operator whose indices have ids, and whose name keeps the rules, has the name
  pub has_name : (o : RawOperation) (named : NamedOperation) → translate (naming env fs) o ≡ Ok named → KeepsRules env here named → named_in env fs o ≡ Ok named
  has_name o named e r =
      let opcode : named.opcode ≡ o.opcode = same_opcode (naming env fs) o named e in
      let may : is_allowed fs (control_of o) ≡ true =
      same_allowed fs (role_of o.opcode) o.immediates named.immediates
      ∙ (ap (λ c. is_allowed fs (control_by (role_of c) named.immediates)) (sym opcode)
      ∙ (sym (allowed_frames named_of fs (control_of named)) ∙ r.allowed)) in
      let next : Result NamedOperation ParseError → Result NamedOperation ParseError = λ t. t >>= λ n. has_types env fs (control_of n) n >>= λ _. Ok n in
      ap (λ b. unless b (position_fault (control_of o)) >>= λ _. next (translate (naming env fs) o)) may
      ∙ (ap next e
      ∙ ap (λ (t : Result (Unit {0}) ParseError). t >>= λ _. Ok named) (types_named env fs (control_of named) named ∙ r.typed))

-- ---- frames that were opened by operators of the same names

abbrev pub shapes : List (SequenceFrame Occurrence) → List (SequenceFrame NamedOperation)
shapes = map_frames named_of

module _ (env : Environment) where
  abbrev named_by : List (SequenceFrame NamedOperation) → RawOperation → Result NamedOperation ParseError
  named_by gs o =
      unless (is_allowed gs (control_of o)) (position_fault (control_of o)) >>= λ _.
      translate (naming env gs) o >>= λ named.
      types_in env (results_at gs) (control_of named) named >>= λ _.
      Ok named

  naming_is : (fs : List (SequenceFrame Occurrence)) → naming env fs ≡ naming env (shapes fs)
  naming_is fs = λ i. record (naming env fs) {
    label = λ n. (sym (open_frames named_of fs n)) i;
    handler = λ n. (sym (handler_label_frames named_of fs n)) i;
    outer = λ n. (sym (outer_frames named_of fs n)) i;
  }

  named_is : (fs : List (SequenceFrame Occurrence)) (o : RawOperation) → named_in env fs o ≡ named_by (shapes fs) o
  named_is fs o =
      (λ i. unless ((sym (allowed_frames named_of fs (control_of o))) i) (position_fault (control_of o)) >>= λ _. translate (naming_is fs i) o >>= λ named. types_named env fs (control_of named) named i >>= λ _. Ok named)

  -- they give an operator the same name, or the same fault
  pub named_same : (fs gs : List (SequenceFrame Occurrence)) (o : RawOperation) → shapes fs ≡ shapes gs → named_in env fs o ≡ named_in env gs o
  named_same fs gs o e = named_is fs o ∙ ap (λ hs. named_by hs o) e ∙ sym (named_is gs o)
