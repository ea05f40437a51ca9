-- Operators that part or close a construct, when they are checked.
use Rattle.std.proofs.Common.{◌≡◌, ℕ, List, [], ◌∷◌, map, Bool, true, false, Option, Some, None, Result, Ok, Err, refl, sym, ap, subst, ◌∙◌}
use Rattle.walrus_ir.specs.declared.control.BlockKind.{BlockKind}
use Rattle.walrus_ir.specs.declared.control.BlockKind.TheVariants as kind
use Rattle.walrus_ir.specs.Types.{Signature, signature_of_type}
use Rattle.wasm_numbers.specs.Results.{◌>>=◌}
use Rattle.wasm_operators.specs.declared.types.Space.TheVariants.{Tags}
use Rattle.wasm_operators.specs.Operations.{index, operation}
use Rattle.wasm_body.specs.declared.error.ParseError.{ParseError}
use Rattle.wasm_body.specs.declared.error.ParseError.TheVariants.{ElseOutsideIf, CatchOutsideTry, DelegateOutsideTry}
use Rattle.wasm_body.specs.Control.{Else, Catch, CatchAll, End, Delegate, control_of, else_operation, end_operation, catch_opcode, catch_all_operation, delegate_operation, first_depth}
use Rattle.wasm_body.specs.Frames.{SequenceFrame, OfFunction, OfWrapper, Consequent, Alternative, TryBody, Handler, HandlerOfAll}
use Rattle.wasm_body.specs.Translation.{translate}
use Rattle.wasm_body.specs.Naming.{Environment, NamedOperation, Occurrence, naming, id_at, block_signature, named_in}
use Rattle.walrus_parser.proofs.Rules.{catch_types, named_catch, named_catch_all}
use Rattle.wasm_body.specs.Flat.{unreachability, unreachability_after, first_or_true}
use Rattle.walrus_flat.specs.declared.open_sequence.OpenSequence.{OpenSequence}
use Rattle.walrus_flat.specs.Checked.{IsWrapper, IsFrame, AreFrames, CheckState, unreachability_of, Passes}
use Rattle.walrus_flat.specs.Checkers.{as_kind, has_handler_type}
use Rattle.walrus_parser.specs.Handlers.{has_clauses}
use Rattle.walrus_flat.specs.SequenceKinds.{has_else, has_delegate}
use Rattle.walrus_flat.proofs.CheckedSteps.{passes_other, named_immediates}

-- ---- kinds

other_kind : (test : BlockKind → Bool) (k j : BlockKind) → k ≡ j → test j ≡ false → test k ≡ true → ⊥
other_kind test k j e n t = let both : false ≡ true = sym n ∙ (ap test (sym e) ∙ t) in absurd cc

no_wrapper : (test : BlockKind → Bool) → test kind.Block ≡ false → test kind.Loop ≡ false → test kind.TryTable ≡ false → (k : BlockKind) → IsWrapper k → test k ≡ true → ⊥
no_wrapper test b l t kind.Block h e = let both : false ≡ true = sym b ∙ e in absurd cc
no_wrapper test b l t kind.Loop h e = let both : false ≡ true = sym l ∙ e in absurd cc
no_wrapper test b l t kind.TryTable h e = let both : false ≡ true = sym t ∙ e in absurd cc
no_wrapper test b l t _ h e = absurd h

not_both : (b : Bool) → b ≡ false → b ≡ true → ⊥
not_both b f t = let both : false ≡ true = sym f ∙ t in absurd cc

abbrev befores : List OpenSequence → List Bool
befores fs = map (λ (f : OpenSequence). f.before) fs

module _ (env : Environment) (old : CheckState) (f : OpenSequence) (fs : List OpenSequence) (frames_are : old.frames ≡ f ∷ fs) (gs : List (SequenceFrame Occurrence)) (are : AreFrames env.types fs gs) where
  -- the sequence of a construct is replaced by the next one
  parted_unreachable : (new : CheckState) (k : BlockKind) → new.frames ≡ as_kind k f ∷ fs → new.unreachable ≡ f.before → unreachability_of new ≡ unreachability (first_or_true (befores old.frames)) (befores old.frames)
  parted_unreachable new k frames unreachable = (λ i. unreachability (unreachable i) (befores (frames i))) ∙ (λ i. unreachability (first_or_true (befores (sym frames_are i))) (befores (sym frames_are i)))

  closed_unreachable : (new : CheckState) → new.frames ≡ fs → new.unreachable ≡ f.before → unreachability_of new ≡ unreachability_after (unreachability_of old) End
  closed_unreachable new frames unreachable = (λ i. unreachability (unreachable i) (befores (frames i))) ∙ ap (λ hs. unreachability_after (unreachability old.unreachable (befores hs)) End) (sym frames_are)

  parted_frames : (new : CheckState) (k : BlockKind) (h : SequenceFrame Occurrence) → new.frames ≡ as_kind k f ∷ fs → IsFrame env.types (as_kind k f) h → (hs : List (SequenceFrame Occurrence)) → h ∷ gs ≡ hs → AreFrames env.types new.frames hs
  parted_frames new k h frames is hs same =
      subst (AreFrames env.types new.frames) same (subst (λ l. AreFrames env.types l (h ∷ gs)) (sym frames) (let whole : AreFrames env.types (as_kind k f ∷ fs) (h ∷ gs) = (is, are) in whole))

  closed_frames : (new : CheckState) → new.frames ≡ fs → (hs : List (SequenceFrame Occurrence)) → gs ≡ hs → AreFrames env.types new.frames hs
  closed_frames new frames hs same = subst (AreFrames env.types new.frames) same (subst (λ l. AreFrames env.types l gs) (sym frames) are)

  -- ---- `else`

  pub passes_else : (new : CheckState) → has_else f.kind ≡ true → new.frames ≡ as_kind kind.Else f ∷ fs → new.unreachable ≡ f.before → ((x : ℕ) → new.used x ≡ old.used x) →
      (g : SequenceFrame Occurrence) → IsFrame env.types f g → Passes env old new (g ∷ gs) else_operation
  passes_else new is frames unreachable used (Consequent a) h =
      passes_other env (Consequent a) gs old new else_operation else_operation Else refl refl
      (λ x hs m. parted_frames new kind.Else (Alternative a) frames (refl, h.1) hs (cc m)) (parted_unreachable new kind.Else frames unreachable) (λ l. refl) used
  passes_else new is frames unreachable used OfFunction h = absurd (other_kind has_else f.kind kind.FunctionEntry h refl is)
  passes_else new is frames unreachable used (OfWrapper a) h = absurd (no_wrapper has_else refl refl refl f.kind h.0 is)
  passes_else new is frames unreachable used (Alternative a) h = absurd (other_kind has_else f.kind kind.Else h.0 refl is)
  passes_else new is frames unreachable used (TryBody a) h = absurd (other_kind has_else f.kind kind.Try h.0 refl is)
  passes_else new is frames unreachable used (Handler a) h = absurd (other_kind has_else f.kind kind.Catch h.0 refl is)
  passes_else new is frames unreachable used (HandlerOfAll a) h = absurd (other_kind has_else f.kind kind.CatchAll h.0 refl is)

  pub refuses_else : has_else f.kind ≡ false → (g : SequenceFrame Occurrence) → IsFrame env.types f g → named_in env (g ∷ gs) else_operation ≡ Err ElseOutsideIf
  refuses_else not (Consequent a) h = absurd (not_both (has_else f.kind) not (ap has_else h.0))
  refuses_else not OfFunction h = refl
  refuses_else not (OfWrapper a) h = refl
  refuses_else not (Alternative a) h = refl
  refuses_else not (TryBody a) h = refl
  refuses_else not (Handler a) h = refl
  refuses_else not (HandlerOfAll a) h = refl

  -- ---- `end`

  pub passes_end : (new : CheckState) → new.frames ≡ fs → new.unreachable ≡ f.before → ((x : ℕ) → new.used x ≡ old.used x) → (g : SequenceFrame Occurrence) → IsFrame env.types f g → Passes env old new (g ∷ gs) end_operation
  passes_end new frames unreachable used g h = passes_other env g gs old new end_operation end_operation End refl refl (λ x hs m. closed_frames new frames hs (cc m)) (closed_unreachable new frames unreachable) (λ l. refl) used

  -- ---- `delegate`

  pub passes_delegate : (new : CheckState) (n : ℕ) → has_delegate f.kind ≡ true → new.frames ≡ fs → new.unreachable ≡ f.before → ((x : ℕ) → new.used x ≡ old.used x) →
      (g : SequenceFrame Occurrence) → IsFrame env.types f g → (named : NamedOperation) → translate (naming env (g ∷ gs)) (delegate_operation n) ≡ Ok named → Passes env old new (g ∷ gs) (delegate_operation n)
  passes_delegate new n is frames unreachable used (TryBody a) h named e =
      let m = named_immediates env (TryBody a) gs (delegate_operation n) named e in
      let control : control_of named ≡ Delegate (first_depth m.0) = ap control_of m.2 in
      passes_other env (TryBody a) gs old new (delegate_operation n) named (Delegate (first_depth m.0)) (rw (e, control) refl) control
      (λ x hs s. closed_frames new frames hs (cc s)) (closed_unreachable new frames unreachable) (λ l. refl) used
  passes_delegate new n is frames unreachable used OfFunction h named e = absurd (other_kind has_delegate f.kind kind.FunctionEntry h refl is)
  passes_delegate new n is frames unreachable used (OfWrapper a) h named e = absurd (no_wrapper has_delegate refl refl refl f.kind h.0 is)
  passes_delegate new n is frames unreachable used (Consequent a) h named e = absurd (other_kind has_delegate f.kind kind.If h.0 refl is)
  passes_delegate new n is frames unreachable used (Alternative a) h named e = absurd (other_kind has_delegate f.kind kind.Else h.0 refl is)
  passes_delegate new n is frames unreachable used (Handler a) h named e = absurd (other_kind has_delegate f.kind kind.Catch h.0 refl is)
  passes_delegate new n is frames unreachable used (HandlerOfAll a) h named e = absurd (other_kind has_delegate f.kind kind.CatchAll h.0 refl is)

  pub refuses_delegate : (n : ℕ) → has_delegate f.kind ≡ false → (g : SequenceFrame Occurrence) → IsFrame env.types f g → named_in env (g ∷ gs) (delegate_operation n) ≡ Err DelegateOutsideTry
  refuses_delegate n not (TryBody a) h = absurd (not_both (has_delegate f.kind) not (ap has_delegate h.0))
  refuses_delegate n not OfFunction h = refl
  refuses_delegate n not (OfWrapper a) h = refl
  refuses_delegate n not (Consequent a) h = refl
  refuses_delegate n not (Alternative a) h = refl
  refuses_delegate n not (Handler a) h = refl
  refuses_delegate n not (HandlerOfAll a) h = refl

  -- its depth names no sequence
  pub delegate_outside : (n : ℕ) (e : ParseError) → has_delegate f.kind ≡ true → (g : SequenceFrame Occurrence) → IsFrame env.types f g → translate (naming env (g ∷ gs)) (delegate_operation n) ≡ Err e →
      named_in env (g ∷ gs) (delegate_operation n) ≡ Err e
  delegate_outside n e is (TryBody a) h t = rw t refl
  delegate_outside n e is OfFunction h t = absurd (other_kind has_delegate f.kind kind.FunctionEntry h refl is)
  delegate_outside n e is (OfWrapper a) h t = absurd (no_wrapper has_delegate refl refl refl f.kind h.0 is)
  delegate_outside n e is (Consequent a) h t = absurd (other_kind has_delegate f.kind kind.If h.0 refl is)
  delegate_outside n e is (Alternative a) h t = absurd (other_kind has_delegate f.kind kind.Else h.0 refl is)
  delegate_outside n e is (Handler a) h t = absurd (other_kind has_delegate f.kind kind.Catch h.0 refl is)
  delegate_outside n e is (HandlerOfAll a) h t = absurd (other_kind has_delegate f.kind kind.CatchAll h.0 refl is)

  -- ---- clauses

  -- the frames in which clauses may come next
  catch_by : (P : SequenceFrame Occurrence → Type 0) → ((a : Occurrence) → IsFrame env.types f (TryBody a) → P (TryBody a)) → ((a : Occurrence) → IsFrame env.types f (Handler a) → P (Handler a)) → has_clauses f.kind ≡ true →
      (g : SequenceFrame Occurrence) → IsFrame env.types f g → P g
  catch_by P t c is (TryBody a) h = t a h
  catch_by P t c is (Handler a) h = c a h
  catch_by P t c is OfFunction h = absurd (other_kind has_clauses f.kind kind.FunctionEntry h refl is)
  catch_by P t c is (OfWrapper a) h = absurd (no_wrapper has_clauses refl refl refl f.kind h.0 is)
  catch_by P t c is (Consequent a) h = absurd (other_kind has_clauses f.kind kind.If h.0 refl is)
  catch_by P t c is (Alternative a) h = absurd (other_kind has_clauses f.kind kind.Else h.0 refl is)
  catch_by P t c is (HandlerOfAll a) h = absurd (other_kind has_clauses f.kind kind.CatchAll h.0 refl is)

  abbrev typed_as : (Result (Unit {0}) ParseError) → Option ℕ → Type 0
  typed_as r tag = (s : Signature) → signature_of_type env.types f.ty ≡ Some s → has_handler_type env tag s.results ≡ r

  named_tag : (r : Result ℕ ParseError) (types : ℕ → Result (Unit {0}) ParseError) → (r >>= types) ≡ Ok tt →
      (tag : ℕ) × ((r >>= λ t. types t >>= λ _. let q : Result NamedOperation ParseError = Ok (operation catch_opcode (index Tags t ∷ [])) in q) ≡ Ok (operation catch_opcode (index Tags tag ∷ [])))
  named_tag (Ok t) types e = (t, ap (λ r. r >>= λ _. Ok (operation catch_opcode (index Tags t ∷ []))) e)
  named_tag (Err d) types e = absurd cc

  refused_tag : (r : Result ℕ ParseError) (types : ℕ → Result (Unit {0}) ParseError) (e : ParseError) → (r >>= types) ≡ Err e →
      (r >>= λ t. types t >>= λ _. let q : Result NamedOperation ParseError = Ok (operation catch_opcode (index Tags t ∷ [])) in q) ≡ Err e
  refused_tag (Ok t) types e h = ap (λ r. r >>= λ _. Ok (operation catch_opcode (index Tags t ∷ []))) h
  refused_tag (Err d) types e h = let same : d ≡ e = cc h in ap Err same

  pub passes_catch : (new : CheckState) (n : ℕ) → has_clauses f.kind ≡ true → typed_as (Ok tt) (Some n) → new.frames ≡ as_kind kind.Catch f ∷ fs → new.unreachable ≡ f.before → ((x : ℕ) → new.used x ≡ old.used x) →
      (g : SequenceFrame Occurrence) → IsFrame env.types f g → Passes env old new (g ∷ gs) (operation catch_opcode (index Tags n ∷ []))
  passes_catch new n is typed frames unreachable used =
      catch_by (λ g. Passes env old new (g ∷ gs) (operation catch_opcode (index Tags n ∷ [])))
      (λ a h.
      let t = named_tag (id_at env Tags n) (catch_types env (TryBody a) gs) (typed (block_signature a.named) h.1) in
      passes_other env (TryBody a) gs old new (operation catch_opcode (index Tags n ∷ [])) (operation catch_opcode (index Tags t.0 ∷ [])) (Catch t.0) (named_catch env (TryBody a) gs n ∙ t.1) refl
      (λ x hs m. parted_frames new kind.Catch (Handler a) frames (refl, h.1) hs (cc m)) (parted_unreachable new kind.Catch frames unreachable) (λ l. refl) used)
      (λ a h.
      let t = named_tag (id_at env Tags n) (catch_types env (Handler a) gs) (typed (block_signature a.named) h.1) in
      passes_other env (Handler a) gs old new (operation catch_opcode (index Tags n ∷ [])) (operation catch_opcode (index Tags t.0 ∷ [])) (Catch t.0) (named_catch env (Handler a) gs n ∙ t.1) refl
      (λ x hs m. parted_frames new kind.Catch (Handler a) frames (refl, h.1) hs (cc m)) (parted_unreachable new kind.Catch frames unreachable) (λ l. refl) used)
      is

  pub passes_catch_all : (new : CheckState) → has_clauses f.kind ≡ true → typed_as (Ok tt) None → new.frames ≡ as_kind kind.CatchAll f ∷ fs → new.unreachable ≡ f.before → ((x : ℕ) → new.used x ≡ old.used x) →
      (g : SequenceFrame Occurrence) → IsFrame env.types f g → Passes env old new (g ∷ gs) catch_all_operation
  passes_catch_all new is typed frames unreachable used =
      catch_by (λ g. Passes env old new (g ∷ gs) catch_all_operation)
      (λ a h.
      passes_other env (TryBody a) gs old new catch_all_operation catch_all_operation CatchAll
      (named_catch_all env (TryBody a) gs ∙ ap (λ r. r >>= λ _. Ok catch_all_operation) (typed (block_signature a.named) h.1)) refl
      (λ x hs m. parted_frames new kind.CatchAll (HandlerOfAll a) frames (refl, h.1) hs (cc m)) (parted_unreachable new kind.CatchAll frames unreachable) (λ l. refl) used)
      (λ a h.
      passes_other env (Handler a) gs old new catch_all_operation catch_all_operation CatchAll
      (named_catch_all env (Handler a) gs ∙ ap (λ r. r >>= λ _. Ok catch_all_operation) (typed (block_signature a.named) h.1)) refl
      (λ x hs m. parted_frames new kind.CatchAll (HandlerOfAll a) frames (refl, h.1) hs (cc m)) (parted_unreachable new kind.CatchAll frames unreachable) (λ l. refl) used)
      is

  pub untyped_catch : (n : ℕ) (e : ParseError) → has_clauses f.kind ≡ true → typed_as (Err e) (Some n) → (g : SequenceFrame Occurrence) → IsFrame env.types f g →
      named_in env (g ∷ gs) (operation catch_opcode (index Tags n ∷ [])) ≡ Err e
  untyped_catch n e is typed =
      catch_by (λ g. named_in env (g ∷ gs) (operation catch_opcode (index Tags n ∷ [])) ≡ Err e)
      (λ a h. named_catch env (TryBody a) gs n ∙ refused_tag (id_at env Tags n) (catch_types env (TryBody a) gs) e (typed (block_signature a.named) h.1))
      (λ a h. named_catch env (Handler a) gs n ∙ refused_tag (id_at env Tags n) (catch_types env (Handler a) gs) e (typed (block_signature a.named) h.1))
      is

  pub untyped_catch_all : (e : ParseError) → has_clauses f.kind ≡ true → typed_as (Err e) None → (g : SequenceFrame Occurrence) → IsFrame env.types f g → named_in env (g ∷ gs) catch_all_operation ≡ Err e
  untyped_catch_all e is typed =
      catch_by (λ g. named_in env (g ∷ gs) catch_all_operation ≡ Err e)
      (λ a h. named_catch_all env (TryBody a) gs ∙ ap (λ r. r >>= λ _. Ok catch_all_operation) (typed (block_signature a.named) h.1))
      (λ a h. named_catch_all env (Handler a) gs ∙ ap (λ r. r >>= λ _. Ok catch_all_operation) (typed (block_signature a.named) h.1))
      is

  pub refuses_catch : (n : ℕ) → has_clauses f.kind ≡ false → (g : SequenceFrame Occurrence) → IsFrame env.types f g → named_in env (g ∷ gs) (operation catch_opcode (index Tags n ∷ [])) ≡ Err CatchOutsideTry
  refuses_catch n not (TryBody a) h = absurd (not_both (has_clauses f.kind) not (ap has_clauses h.0))
  refuses_catch n not (Handler a) h = absurd (not_both (has_clauses f.kind) not (ap has_clauses h.0))
  refuses_catch n not OfFunction h = refl
  refuses_catch n not (OfWrapper a) h = refl
  refuses_catch n not (Consequent a) h = refl
  refuses_catch n not (Alternative a) h = refl
  refuses_catch n not (HandlerOfAll a) h = refl

  pub refuses_catch_all : has_clauses f.kind ≡ false → (g : SequenceFrame Occurrence) → IsFrame env.types f g → named_in env (g ∷ gs) catch_all_operation ≡ Err CatchOutsideTry
  refuses_catch_all not (TryBody a) h = absurd (not_both (has_clauses f.kind) not (ap has_clauses h.0))
  refuses_catch_all not (Handler a) h = absurd (not_both (has_clauses f.kind) not (ap has_clauses h.0))
  refuses_catch_all not OfFunction h = refl
  refuses_catch_all not (OfWrapper a) h = refl
  refuses_catch_all not (Consequent a) h = refl
  refuses_catch_all not (Alternative a) h = refl
  refuses_catch_all not (HandlerOfAll a) h = refl
