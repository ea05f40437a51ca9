-- The steps of the checker, from what its calls do.
use Rattle.std.proofs.Common.{◌≡◌, ◌≢◌, ◌⊎◌, inl, inr, ℕ, List, [], ◌∷◌, ◌++◌, reverse, Bool, true, false, Some, None, Result, Ok, Err, OnOk, IfErr, refl, sym, ap, subst, ◌∙◌}
use Rattle.std.specs.Prelude.{◌||◌, ◌==◌, cond, IsOk}
use Rattle.std.proofs.lemmas.List.{reverse-reverse, reverse-append}
use Rattle.walrus_ir.specs.declared.control.BlockKind.{BlockKind}
use Rattle.walrus_ir.specs.declared.control.BlockKind.TheVariants as kind
use Rattle.walrus_ir.specs.Types.{Signature, ModuleType}
use Rattle.walrus_ir.specs.Unfolding.{among}
use Rattle.wasm_operators.specs.declared.types.BlockType.{BlockType}
use Rattle.wasm_operators.specs.declared.types.Opcode.TheVariants.{Byte}
use Rattle.wasm_operators.specs.declared.types.Space.TheVariants.{Tags}
use Rattle.wasm_operators.specs.Operations.{Immediate, RawImmediate, index, local, block, operation, RawOperation}
use Rattle.wasm_body.specs.declared.error.ParseError.{ParseError}
use Rattle.wasm_body.specs.declared.error.ParseError.TheVariants.{Memory}
use Rattle.wasm_body.specs.Control.{Construct, Does, Nop, Opens, role_of, control_of, else_operation, end_operation, catch_opcode, catch_all_operation, delegate_operation}
use Rattle.wasm_body.specs.Frames.{SequenceFrame}
use Rattle.wasm_body.specs.Translation.{translate}
use Rattle.wasm_body.specs.Naming.{Environment, NamedOperation, Occurrence, naming, block_signature, named_in}
use Rattle.wasm_body.specs.LocalNumbers.{locals_among}
use Rattle.wasm_body.specs.NormalForm.{Drops}
use Rattle.wasm_body.specs.Flat.{unreachability, plain_unreachability}
use Rattle.std.proofs.Math.Bool.{or-false}
use Rattle.walrus_parser.proofs.Roles.{fate_by, fate_of_role}
use Rattle.walrus_flat.specs.declared.checker.Checker.{Checker}
use Rattle.walrus_flat.specs.declared.open_sequence.OpenSequence.{OpenSequence}
use Rattle.walrus_flat.specs.declared.used_locals.UsedLocals.{UsedLocals}
use Rattle.walrus_flat.specs.Checked.{env_of_checker, AreFrames, unreachability_of, check_state_of, Passes, IsCheckedOperator}
use Rattle.walrus_flat.specs.UsedLocals.{is_used}
use Rattle.walrus_flat.specs.Checkers.{parts_in, as_kind, ClosesSequence, BeginsConstruct, RefusesConstruct, PartsIf, RefusesElse, PartsTry, RefusesClause, ClosesTry, RefusesDelegate, used_in, NamesLocal, RefusesLocal, TakesOperator}
use Rattle.walrus_flat.proofs.CheckingAlike.{named_too, refused_too}
use Rattle.walrus_flat.proofs.CheckedOperators.{last_first}
use Rattle.walrus_flat.proofs.CheckedSteps.{none_kept, named_immediates, alone_named, passes_alone, IsOpenedAs, opener_signature, opener_refused, pick_refused, passes_opener, passes_other}
use Rattle.walrus_flat.proofs.CheckedClosings.{passes_else, refuses_else, passes_end, passes_delegate, refuses_delegate, delegate_outside, passes_catch, passes_catch_all, untyped_catch, untyped_catch_all, refuses_catch, refuses_catch_all}

made : {A E : Type 0} (r : Result A E) → IsOk r → (x : A) × (r ≡ Ok x)
made (Ok x) h = (x, refl)
made (Err e) h = absurd cc

none_left : (types : List ModuleType) (fs : List OpenSequence) → AreFrames types fs [] → fs ≡ []
none_left types [] h = refl
none_left types (f ∷ fs) h = absurd h

module _ (old new : Checker) (some : old.«open».items ≢ []) where
  abbrev fs : List OpenSequence
  fs = reverse old.«open».items

  abbrev env : Environment
  env = env_of_checker old

  abbrev pub Steps : RawOperation → Result (Unit {0}) ParseError → Type 0
  Steps o r = (gs : List (SequenceFrame Occurrence)) → AreFrames env.types fs gs → IsCheckedOperator env (check_state_of old) (check_state_of new) gs o r

  -- a frame is open
  with_frames : (P : List (SequenceFrame Occurrence) → Type 0) → ((g : SequenceFrame Occurrence) (hs : List (SequenceFrame Occurrence)) → AreFrames env.types fs (g ∷ hs) → P (g ∷ hs)) → (gs : List (SequenceFrame Occurrence)) → AreFrames env.types fs gs → P gs
  with_frames P k [] h = absurd (some (sym (reverse-reverse old.«open».items) ∙ ap reverse (none_left env.types fs h)))
  with_frames P k (g ∷ hs) h = k g hs h

  -- the innermost one
  module _ (others : List OpenSequence) (top : OpenSequence) (was : old.«open».items ≡ others ++ top ∷ []) where
    frames_are : fs ≡ top ∷ reverse others
    frames_are = last_first others top old.«open».items was

    split : (g : SequenceFrame Occurrence) (hs : List (SequenceFrame Occurrence)) → AreFrames env.types fs (g ∷ hs) → AreFrames env.types (top ∷ reverse others) (g ∷ hs)
    split g hs are = subst (λ l. AreFrames env.types l (g ∷ hs)) frames_are are

  -- the innermost one, if it isn't known
  top_of : (all : List OpenSequence) → reverse all ≢ [] → (others : List OpenSequence) × (top : OpenSequence) × (all ≡ others ++ top ∷ [])
  top_of all h = by_reverse (reverse all) refl
    where
      by_reverse : (bs : List OpenSequence) → reverse all ≡ bs → (others : List OpenSequence) × (top : OpenSequence) × (all ≡ others ++ top ∷ [])
      by_reverse [] e = absurd (h e)
      by_reverse (b ∷ bs) e = (reverse bs, b, sym (reverse-reverse all) ∙ (ap reverse e ∙ reverse-append (b ∷ []) bs))

  same_used : (c : Checker) → new.used ≡ old.used → (x : ℕ) → (check_state_of new).used x ≡ (check_state_of old).used x
  same_used c e x = ap (λ (u : UsedLocals). is_used u x) e

  -- ---- openers

  pub steps_opener : (o : RawOperation) (b : BlockType) (is : List RawImmediate) (k : BlockKind) (c : Construct) (d : List (Immediate ℕ Signature) → Construct) → o.immediates ≡ block b ∷ is → control_of o ≡ Opens c →
      ((js : List (Immediate ℕ Signature)) → control_of (operation o.opcode js) ≡ Opens (d js)) → ((js : List (Immediate ℕ Signature)) → IsOpenedAs k (d js)) → locals_among o.immediates ≡ [] →
      (r : Result (Unit {0}) ParseError) → OnOk r (BeginsConstruct old new o k b) → IfErr r (RefusesConstruct old o b) → Steps o r
  steps_opener o b is k c d shape raw control opened none (Ok u) ok err =
      with_frames (λ gs. Passes env (check_state_of old) (check_state_of new) gs o) (λ g hs are.
      let whole = made (parts_in old o) ok.parts in
      let n = named_too env fs (g ∷ hs) are o whole.0 whole.1 in
      let m = named_immediates env g hs o n.0 n.1 in
      let same = opener_signature env g hs o b is shape n.0 n.1 in
      passes_opener env g hs (check_state_of old) (check_state_of new) o c (d m.0) k ok.type n.0 are raw n.1 (ap control_of m.2 ∙ control m.0) (ok.picks (block_signature n.0) same) (ok.has_type (block_signature n.0) same)
      (opened m.0) (ap (λ (q : NamedOperation). locals_among q.immediates) m.2 ∙ none_kept (naming env (g ∷ hs)) o.immediates m.0 m.1 none)
      (last_first old.«open».items (record { kind = k; ty = ok.type; before = old.unreachable }) new.«open».items ok.opens.opens) (ap (λ (q : Checker). q.unreachable) ok.opens.is)
      (same_used old (ap (λ (q : Checker). q.used) ok.opens.is)))
  steps_opener o b is k c d shape raw control opened none (Err e) ok (inl memory) = λ gs are. inl memory
  steps_opener o b is k c d shape raw control opened none (Err e) ok (inr (inl parts)) =
      with_frames (λ gs. (e ≡ Memory) ⊎ (named_in env gs o ≡ Err e)) (λ g hs are. inr (opener_refused env g hs o c e raw (refused_too env fs (g ∷ hs) are o e parts)))
  steps_opener o b is k c d shape raw control opened none (Err e) ok (inr (inr pick)) =
      with_frames (λ gs. (e ≡ Memory) ⊎ (named_in env gs o ≡ Err e)) (λ g hs are.
      let whole = made (parts_in old o) pick.0 in
      let n = named_too env fs (g ∷ hs) are o whole.0 whole.1 in
      let m = named_immediates env g hs o n.0 n.1 in
      inr (pick_refused env g hs o c (d m.0) n.0 e raw n.1 (ap control_of m.2 ∙ control m.0) (pick.1 (block_signature n.0) (opener_signature env g hs o b is shape n.0 n.1))))

  -- ---- operators by themselves

  pub steps_alone : (o : RawOperation) (unreachable_after : Bool) → fate_of_role (role_of o.opcode) ≡ Some (fate_by unreachable_after) → locals_among o.immediates ≡ [] →
      (r : Result (Unit {0}) ParseError) → OnOk r (TakesOperator old new o unreachable_after) → IfErr r (λ e. (e ≡ Memory) ⊎ (parts_in old o ≡ Err e)) → Steps o r
  steps_alone o unreachable_after role none (Ok u) ok err =
      with_frames (λ gs. Passes env (check_state_of old) (check_state_of new) gs o) (λ g hs are.
      let whole = made (parts_in old o) ok.parts in
      let n = named_too env fs (g ∷ hs) are o whole.0 whole.1 in
      let m = named_immediates env g hs o n.0 n.1 in
      let no_locals : locals_among n.0.immediates ≡ [] = ap (λ (q : NamedOperation). locals_among q.immediates) m.2 ∙ none_kept (naming env (g ∷ hs)) o.immediates m.0 m.1 none in
      passes_alone env g hs o unreachable_after role (check_state_of old) (check_state_of new) are n.0 n.1 (ap (λ (q : Checker). reverse q.«open».items) ok.is) (ap (λ (q : Checker). q.unreachable) ok.is)
      (λ x. same_used old (ap (λ (q : Checker). q.used) ok.is) x ∙ (no_more old.unreachable ((check_state_of old).used x) ∙ ap (λ ls. cond old.unreachable false (among x ls) || (check_state_of old).used x) (sym no_locals))))
    where
      no_more : (d b : Bool) → b ≡ (cond d false false || b)
      no_more true b = refl
      no_more false b = refl
  steps_alone o unreachable_after role none (Err e) ok (inl memory) = λ gs are. inl memory
  steps_alone o unreachable_after role none (Err e) ok (inr parts) =
      with_frames (λ gs. (e ≡ Memory) ⊎ (named_in env gs o ≡ Err e)) (λ g hs are. inr (alone_named env g hs o unreachable_after role ∙ refused_too env fs (g ∷ hs) are o e parts))

  -- ---- `else`

  pub steps_else : (r : Result (Unit {0}) ParseError) → OnOk r (PartsIf old new) → IfErr r (RefusesElse old) → Steps else_operation r
  steps_else (Ok u) ok err =
      with_frames (λ gs. Passes env (check_state_of old) (check_state_of new) gs else_operation) (λ g hs are.
      let p = ok.parts in
      let both = split p.others ok.top p.was g hs are in
      passes_else env (check_state_of old) ok.top (reverse p.others) (frames_are p.others ok.top p.was) hs both.1 (check_state_of new) ok.is_if
      (last_first p.others (as_kind kind.Else ok.top) new.«open».items p.opens) (ap (λ (q : Checker). q.unreachable) p.is) (same_used old (ap (λ (q : Checker). q.used) p.is)) g both.0)
  steps_else (Err e) ok (inl memory) = λ gs are. inl memory
  steps_else (Err e) ok (inr other) =
      with_frames (λ gs. (e ≡ Memory) ⊎ (named_in env gs else_operation ≡ Err e)) (λ g hs are.
      let t = top_of old.«open».items (λ h. some (sym (reverse-reverse old.«open».items) ∙ ap reverse h)) in
      let both = split t.0 t.1 t.2 g hs are in
      inr (refuses_else env (check_state_of old) t.1 (reverse t.0) (frames_are t.0 t.1 t.2) hs both.1 (other.1 t.0 t.1 t.2) g both.0 ∙ ap Err (sym other.0)))

  -- ---- `end`

  pub steps_end : (top : OpenSequence) → ClosesSequence old new top → Steps end_operation (Ok tt)
  steps_end top closes =
      with_frames (λ gs. Passes env (check_state_of old) (check_state_of new) gs end_operation) (λ g hs are.
      let both = split new.«open».items top closes.was g hs are in
      passes_end env (check_state_of old) top (reverse new.«open».items) (frames_are new.«open».items top closes.was) hs both.1 (check_state_of new) refl (ap (λ (q : Checker). q.unreachable) closes.is)
      (same_used old (ap (λ (q : Checker). q.used) closes.is)) g both.0)

  -- ---- `delegate`

  pub steps_delegate : (n : ℕ) (r : Result (Unit {0}) ParseError) → OnOk r (ClosesTry old new (delegate_operation n)) → IfErr r (RefusesDelegate old (delegate_operation n)) → Steps (delegate_operation n) r
  steps_delegate n (Ok u) ok err =
      with_frames (λ gs. Passes env (check_state_of old) (check_state_of new) gs (delegate_operation n)) (λ g hs are.
      let both = split ok.others ok.top ok.was g hs are in
      let whole = made (parts_in old (delegate_operation n)) ok.parts in
      let named = named_too env fs (g ∷ hs) are (delegate_operation n) whole.0 whole.1 in
      passes_delegate env (check_state_of old) ok.top (reverse ok.others) (frames_are ok.others ok.top ok.was) hs both.1 (check_state_of new) n ok.is_try (ap reverse ok.now) (ap (λ (q : Checker). q.unreachable) ok.is)
      (same_used old (ap (λ (q : Checker). q.used) ok.is)) g both.0 named.0 named.1)
  steps_delegate n (Err e) ok (inl memory) = λ gs are. inl memory
  steps_delegate n (Err e) ok (inr (inl other)) =
      with_frames (λ gs. (e ≡ Memory) ⊎ (named_in env gs (delegate_operation n) ≡ Err e)) (λ g hs are.
      let t = top_of old.«open».items (λ h. some (sym (reverse-reverse old.«open».items) ∙ ap reverse h)) in
      let both = split t.0 t.1 t.2 g hs are in
      inr (refuses_delegate env (check_state_of old) t.1 (reverse t.0) (frames_are t.0 t.1 t.2) hs both.1 n (other.1 t.0 t.1 t.2) g both.0 ∙ ap Err (sym other.0)))
  steps_delegate n (Err e) ok (inr (inr parts)) =
      with_frames (λ gs. (e ≡ Memory) ⊎ (named_in env gs (delegate_operation n) ≡ Err e)) (λ g hs are.
      let t = top_of old.«open».items (λ h. some (sym (reverse-reverse old.«open».items) ∙ ap reverse h)) in
      let both = split t.0 t.1 t.2 g hs are in
      inr (delegate_outside env (check_state_of old) t.1 (reverse t.0) (frames_are t.0 t.1 t.2) hs both.1 n e (parts.0 t.0 t.1 t.2) g both.0 (refused_too env fs (g ∷ hs) are (delegate_operation n) e parts.1)))

  -- ---- clauses

  pub steps_catch : (n : ℕ) (r : Result (Unit {0}) ParseError) → OnOk r (PartsTry old new (Some n)) → IfErr r (RefusesClause old (Some n)) → Steps (operation catch_opcode (index Tags n ∷ [])) r
  steps_catch n (Ok u) ok err =
      with_frames (λ gs. Passes env (check_state_of old) (check_state_of new) gs (operation catch_opcode (index Tags n ∷ []))) (λ g hs are.
      let p = ok.parts in
      let both = split p.others ok.top p.was g hs are in
      passes_catch env (check_state_of old) ok.top (reverse p.others) (frames_are p.others ok.top p.was) hs both.1 (check_state_of new) n ok.is_try ok.has_type
      (last_first p.others (as_kind kind.Catch ok.top) new.«open».items p.opens) (ap (λ (q : Checker). q.unreachable) p.is) (same_used old (ap (λ (q : Checker). q.used) p.is)) g both.0)
  steps_catch n (Err e) ok (inl memory) = λ gs are. inl memory
  steps_catch n (Err e) ok (inr (inl other)) =
      with_frames (λ gs. (e ≡ Memory) ⊎ (named_in env gs (operation catch_opcode (index Tags n ∷ [])) ≡ Err e)) (λ g hs are.
      let t = top_of old.«open».items (λ h. some (sym (reverse-reverse old.«open».items) ∙ ap reverse h)) in
      let both = split t.0 t.1 t.2 g hs are in
      inr (refuses_catch env (check_state_of old) t.1 (reverse t.0) (frames_are t.0 t.1 t.2) hs both.1 n (other.1 t.0 t.1 t.2) g both.0 ∙ ap Err (sym other.0)))
  steps_catch n (Err e) ok (inr (inr h)) =
      with_frames (λ gs. (e ≡ Memory) ⊎ (named_in env gs (operation catch_opcode (index Tags n ∷ [])) ≡ Err e)) (λ g hs are.
      let both = split h.others h.top h.was g hs are in
      inr (untyped_catch env (check_state_of old) h.top (reverse h.others) (frames_are h.others h.top h.was) hs both.1 n e h.is_try h.has_no_type g both.0))

  pub steps_catch_all : (r : Result (Unit {0}) ParseError) → OnOk r (PartsTry old new None) → IfErr r (RefusesClause old None) → Steps catch_all_operation r
  steps_catch_all (Ok u) ok err =
      with_frames (λ gs. Passes env (check_state_of old) (check_state_of new) gs catch_all_operation) (λ g hs are.
      let p = ok.parts in
      let both = split p.others ok.top p.was g hs are in
      passes_catch_all env (check_state_of old) ok.top (reverse p.others) (frames_are p.others ok.top p.was) hs both.1 (check_state_of new) ok.is_try ok.has_type
      (last_first p.others (as_kind kind.CatchAll ok.top) new.«open».items p.opens) (ap (λ (q : Checker). q.unreachable) p.is) (same_used old (ap (λ (q : Checker). q.used) p.is)) g both.0)
  steps_catch_all (Err e) ok (inl memory) = λ gs are. inl memory
  steps_catch_all (Err e) ok (inr (inl other)) =
      with_frames (λ gs. (e ≡ Memory) ⊎ (named_in env gs catch_all_operation ≡ Err e)) (λ g hs are.
      let t = top_of old.«open».items (λ h. some (sym (reverse-reverse old.«open».items) ∙ ap reverse h)) in
      let both = split t.0 t.1 t.2 g hs are in
      inr (refuses_catch_all env (check_state_of old) t.1 (reverse t.0) (frames_are t.0 t.1 t.2) hs both.1 (other.1 t.0 t.1 t.2) g both.0 ∙ ap Err (sym other.0)))
  steps_catch_all (Err e) ok (inr (inr h)) =
      with_frames (λ gs. (e ≡ Memory) ⊎ (named_in env gs catch_all_operation ≡ Err e)) (λ g hs are.
      let both = split h.others h.top h.was g hs are in
      inr (untyped_catch_all env (check_state_of old) h.top (reverse h.others) (frames_are h.others h.top h.was) hs both.1 e h.is_try h.has_no_type g both.0))

  -- ---- locals

  pub steps_local : (b n : ℕ) → fate_of_role (role_of (Byte b)) ≡ Some (fate_by false) → (r : Result (Unit {0}) ParseError) → OnOk r (NamesLocal old new n) → IfErr r (RefusesLocal old n) →
      Steps (operation (Byte b) (local n ∷ [])) r
  steps_local b n role (Ok u) ok err =
      with_frames (λ gs. Passes env (check_state_of old) (check_state_of new) gs (operation (Byte b) (local n ∷ []))) (λ g hs are.
      passes_alone env g hs (operation (Byte b) (local n ∷ [])) false role (check_state_of old) (check_state_of new) are (operation (Byte b) (local ok.id ∷ [])) (rw ok.is_local refl)
      (ap (λ (q : Checker). reverse q.«open».items) ok.is) (ap (λ (q : Checker). q.unreachable) ok.is)
      (λ x. ok.used x ∙ ap (λ t. cond old.unreachable false t || used_in old x) (sym (or-false (x == ok.id)))))
  steps_local b n role (Err e) ok (inl memory) = λ gs are. inl memory
  steps_local b n role (Err e) ok (inr none) =
      with_frames (λ gs. (e ≡ Memory) ⊎ (named_in env gs (operation (Byte b) (local n ∷ [])) ≡ Err e)) (λ g hs are.
      inr (alone_named env g hs (operation (Byte b) (local n ∷ [])) false role ∙ rw none refl))

module _ (old : Checker) (some : old.«open».items ≢ []) where
  -- an operator without parts, after which nothing changes
  pub steps_plain : (o : RawOperation) (named : NamedOperation) → ((g : SequenceFrame Occurrence) (hs : List (SequenceFrame Occurrence)) → translate (naming (env_of_checker old) (g ∷ hs)) o ≡ Ok named) →
      fate_of_role (role_of o.opcode) ≡ Some (fate_by false) → locals_among named.immediates ≡ [] → Steps old old some o (Ok tt)
  steps_plain o named is role none =
      with_frames old old some (λ gs. Passes (env_of_checker old) (check_state_of old) (check_state_of old) gs o) (λ g hs are.
      passes_alone (env_of_checker old) g hs o false role (check_state_of old) (check_state_of old) are named (is g hs) refl refl
      (λ x. no_more old.unreachable ((check_state_of old).used x) ∙ ap (λ ls. cond old.unreachable false (among x ls) || (check_state_of old).used x) (sym none)))
    where
      no_more : (d b : Bool) → b ≡ (cond d false false || b)
      no_more true b = refl
      no_more false b = refl

  pub steps_nop : Steps old old some (operation (Byte 0x01) []) (Ok tt)
  steps_nop =
      with_frames old old some (λ gs. Passes (env_of_checker old) (check_state_of old) (check_state_of old) gs (operation (Byte 0x01) [])) (λ g hs are.
      passes_other (env_of_checker old) g hs (check_state_of old) (check_state_of old) (operation (Byte 0x01) []) (operation (Byte 0x01) []) (Does Nop) refl refl
      (λ x ks m. let same : g ∷ hs ≡ ks = cc m in subst (AreFrames (env_of_checker old).types (reverse old.«open».items)) same are)
      (ap (λ d. unreachability d (unreachability_of (check_state_of old)).before) (stays old.unreachable)) (λ l. refl) (λ x. refl))
    where
      stays : (d : Bool) → d ≡ plain_unreachability d Drops
      stays true = refl
      stays false = refl
