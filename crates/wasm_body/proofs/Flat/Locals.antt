-- The locals that live operators name are those that the tree names.
use Rattle.std.proofs.Common.{◌≡◌, ℕ, List, [], ◌∷◌, ◌++◌, Bool, true, false, refl, sym, ap, ◌∙◌, append_assoc}
use Rattle.std.proofs.lemmas.List.{append-nil}
use Rattle.wasm_body.specs.Control.{Action, Control, Does, Opens, Else, Catch, CatchAll, End, Delegate, Marked, with_control}
use Rattle.wasm_body.specs.SourceTree.{Sequence, Empty, Single, Wrapped, IfThen, IfElse, TryCatch, TryDelegate, Clauses, Ended, Catches, CatchesAll, text, clauses_text, Body}
use Rattle.wasm_body.specs.Naming.{NamedOperation}
use Rattle.wasm_body.specs.NormalForm.{Typing, Fate, Drops, Stays, MakesUnreachable, fate, kept, kept_operation, instruction, with_fate, normal, handler_sequences}
use Rattle.wasm_body.specs.Translation.{translate_immediates}
use Rattle.wasm_body.specs.Keeping.{unreachable_after, is_unreachable_after}
use Rattle.wasm_body.specs.LocalNumbers.{locals_among, locals_in_items, locals_inside}
use Rattle.wasm_body.specs.TextLaws.{EndsSequence}
use Rattle.wasm_body.proofs.Translation.Steps.{ok-infallible}
use Rattle.wasm_body.proofs.Translation.LocalsKept.{locals_kept}
use Rattle.wasm_body.specs.Flat.{Named, fate_makes_unreachable, unless_dropped, unreachability, first_unreachability, unreachability_after, locals_read}
use Rattle.wasm_body.specs.FlatLaws.{LocalsReadAreNamed}

abbrev from : Bool → List Bool → List (Marked Named) → List ℕ
from d ds xs = locals_read (unreachability d ds) xs

-- an operator in the tree names the same locals
own : (a : Named) → locals_among (kept_operation a.op).immediates ≡ locals_among a.op.immediates
own a = locals_kept kept (λ n. refl) a.op.immediates (kept_operation a.op).immediates (ok-infallible (translate_immediates kept a.op.immediates))

-- those of an instruction, those inside of it, and those after it
item_read : (ls ms inside rest following xs : List ℕ) → ms ≡ ls → xs ≡ inside ++ (rest ++ following) → ls ++ xs ≡ (ms ++ (inside ++ rest)) ++ following
item_read ls ms inside rest following xs same h =
    ap (λ l. ls ++ l) (h ∙ sym (append_assoc inside rest following))
    ∙ (sym (append_assoc ls (inside ++ rest) following) ∙ ap (λ l. (l ++ (inside ++ rest)) ++ following) (sym same))

-- the operator that ends a sequence names none
at_end : (unreachable : Bool) (ds : List Bool) (a : Named) (c : Control) → EndsSequence c → (ys : List (Marked Named)) →
    from unreachable ds (with_control a c ∷ ys) ≡ locals_read (unreachability_after (unreachability unreachable ds) c) ys
at_end false ds a Else h ys = refl
at_end false ds a (Catch t) h ys = refl
at_end false ds a CatchAll h ys = refl
at_end false ds a End h ys = refl
at_end false ds a (Delegate n) h ys = refl
at_end false ds a (Does action) h ys = absurd h
at_end false ds a (Opens c) h ys = absurd h
at_end true ds a c h ys = refl

-- ---- unreachable code

mutual
  unreachable_read : (s : Sequence Named) (ds : List Bool) (k : List (Marked Named)) → from true ds (text s k) ≡ from true ds k
  unreachable_read Empty ds k = refl
  unreachable_read (Single a action r) ds k = unreachable_read r ds k
  unreachable_read (Wrapped a w b e r) ds k = unreachable_read b (true ∷ ds) (with_control e End ∷ text r k) ∙ unreachable_read r ds k
  unreachable_read (IfThen a b e r) ds k = unreachable_read b (true ∷ ds) (with_control e End ∷ text r k) ∙ unreachable_read r ds k
  unreachable_read (IfElse a b l c e r) ds k =
      unreachable_read b (true ∷ ds) (with_control l Else ∷ text c (with_control e End ∷ text r k))
      ∙ (unreachable_read c (true ∷ ds) (with_control e End ∷ text r k) ∙ unreachable_read r ds k)
  unreachable_read (TryCatch a b cs r) ds k = unreachable_read b (true ∷ ds) (clauses_text cs (text r k)) ∙ (unreachable_clauses cs ds (text r k) ∙ unreachable_read r ds k)
  unreachable_read (TryDelegate a b e n r) ds k = unreachable_read b (true ∷ ds) (with_control e (Delegate n) ∷ text r k) ∙ unreachable_read r ds k

  unreachable_clauses : (cs : Clauses Named) (ds : List Bool) (k : List (Marked Named)) → from true (true ∷ ds) (clauses_text cs k) ≡ from true ds k
  unreachable_clauses (Ended e) ds k = refl
  unreachable_clauses (Catches a t b cs) ds k = unreachable_read b (true ∷ ds) (clauses_text cs k) ∙ unreachable_clauses cs ds k
  unreachable_clauses (CatchesAll a b e) ds k = unreachable_read b (true ∷ ds) (with_control e End ∷ k)

-- ---- live code

module _ (m : Typing) where
  abbrev in_tree : Sequence Named → List ℕ
  in_tree s = locals_in_items (normal m s)

  abbrev Reads : Sequence Named → Type 0
  Reads s = (ds : List Bool) (k : List (Marked Named)) → from false ds (text s k) ≡ in_tree s ++ from (is_unreachable_after s) ds k

  single : (f : Fate) (a : Named) (action : Action) (r : Sequence Named) (ds : List Bool) (k : List (Marked Named)) → Reads r →
      unless_dropped f (locals_among a.op.immediates) ++ from (fate_makes_unreachable f) ds (text r k)
      ≡ locals_in_items (with_fate f (instruction a []) (normal m r)) ++ from (unreachable_after f (is_unreachable_after r)) ds k
  single Drops a action r ds k g = g ds k
  single Stays a action r ds k g =
      item_read (locals_among a.op.immediates) (locals_among (kept_operation a.op).immediates) [] (in_tree r) (from (is_unreachable_after r) ds k) (from false ds (text r k)) (own a) (g ds k)
  single MakesUnreachable a action r ds k g =
      item_read (locals_among a.op.immediates) (locals_among (kept_operation a.op).immediates) [] [] (from true ds k) (from true ds (text r k)) (own a) (unreachable_read r ds k)

  -- a sequence and the operator that ends it, before these locals
  ended : (b : Sequence Named) (e : Named) (c : Control) → EndsSequence c → (ds : List Bool) (ys : List (Marked Named)) (ls : List ℕ) → Reads b →
      locals_read (unreachability_after (unreachability (is_unreachable_after b) ds) c) ys ≡ ls → from false ds (text b (with_control e c ∷ ys)) ≡ in_tree b ++ ls
  ended b e c h ds ys ls g is = g ds (with_control e c ∷ ys) ∙ ap (λ l. in_tree b ++ l) (at_end (is_unreachable_after b) ds e c h ys ∙ is)

  -- the same where it is the last sequence of a construct
  ended_last : (b : Sequence Named) (e : Named) (c : Control) → EndsSequence c → (ds : List Bool) (ys : List (Marked Named)) (ls : List ℕ) → Reads b →
      locals_read (unreachability_after (unreachability (is_unreachable_after b) ds) c) ys ≡ ls → from false ds (text b (with_control e c ∷ ys)) ≡ (in_tree b ++ []) ++ ls
  ended_last b e c h ds ys ls g is = ended b e c h ds ys ls g is ∙ ap (λ l. l ++ ls) (sym (append-nil (in_tree b)))

  -- a construct: what its sequences name, before the rest
  construct : (a : Named) (r : Sequence Named) (inside xs : List ℕ) (ds : List Bool) (k : List (Marked Named)) →
      xs ≡ inside ++ (in_tree r ++ from (is_unreachable_after r) ds k) →
      locals_among a.op.immediates ++ xs ≡ (locals_among (kept_operation a.op).immediates ++ (inside ++ in_tree r)) ++ from (is_unreachable_after r) ds k
  construct a r inside xs ds k h =
      item_read (locals_among a.op.immediates) (locals_among (kept_operation a.op).immediates) inside (in_tree r) (from (is_unreachable_after r) ds k) xs (own a) h

  mutual
    live_read : (s : Sequence Named) → Reads s
    live_read Empty ds k = refl
    live_read (Single a action r) ds k = single (fate action) a action r ds k (live_read r)
    live_read (Wrapped a w b e r) ds k =
        construct a r (in_tree b ++ []) (from false (false ∷ ds) (text b (with_control e End ∷ text r k))) ds k
        (ended_last b e End tt (false ∷ ds) (text r k) (in_tree r ++ from (is_unreachable_after r) ds k) (live_read b) (live_read r ds k))
    live_read (IfThen a b e r) ds k =
        construct a r (in_tree b ++ []) (from false (false ∷ ds) (text b (with_control e End ∷ text r k))) ds k
        (ended_last b e End tt (false ∷ ds) (text r k) (in_tree r ++ from (is_unreachable_after r) ds k) (live_read b) (live_read r ds k))
    live_read (IfElse a b l c e r) ds k =
        let ys = with_control e End ∷ text r k in
        let rest = in_tree r ++ from (is_unreachable_after r) ds k in
        let second = ended_last c e End tt (false ∷ ds) (text r k) rest (live_read c) (live_read r ds k) in
        construct a r (in_tree b ++ (in_tree c ++ [])) (from false (false ∷ ds) (text b (with_control l Else ∷ text c ys))) ds k
        (ended b l Else tt (false ∷ ds) (text c ys) ((in_tree c ++ []) ++ rest) (live_read b) second ∙ sym (append_assoc (in_tree b) (in_tree c ++ []) rest))
    live_read (TryCatch a b cs r) ds k =
        let rest = in_tree r ++ from (is_unreachable_after r) ds k in
        let others = locals_inside (handler_sequences m a.op cs) in
        construct a r (in_tree b ++ others) (from false (false ∷ ds) (text b (clauses_text cs (text r k)))) ds k
        (live_read b (false ∷ ds) (clauses_text cs (text r k))
        ∙ (ap (λ l. in_tree b ++ l) (clauses_read cs a.op (is_unreachable_after b) ds (text r k) rest (live_read r ds k)) ∙ sym (append_assoc (in_tree b) others rest)))
    live_read (TryDelegate a b e n r) ds k =
        construct a r (in_tree b ++ []) (from false (false ∷ ds) (text b (with_control e (Delegate n) ∷ text r k))) ds k
        (ended_last b e (Delegate n) tt (false ∷ ds) (text r k) (in_tree r ++ from (is_unreachable_after r) ds k) (live_read b) (live_read r ds k))

    clauses_read : (cs : Clauses Named) (o : NamedOperation) (unreachable : Bool) (ds : List Bool) (ys : List (Marked Named)) (ls : List ℕ) → from false ds ys ≡ ls →
        from unreachable (false ∷ ds) (clauses_text cs ys) ≡ locals_inside (handler_sequences m o cs) ++ ls
    clauses_read (Ended e) o unreachable ds ys ls h = at_end unreachable (false ∷ ds) e End tt ys ∙ h
    clauses_read (Catches a t b cs) o unreachable ds ys ls h =
        at_end unreachable (false ∷ ds) a (Catch t) tt (text b (clauses_text cs ys))
        ∙ (live_read b (false ∷ ds) (clauses_text cs ys)
        ∙ (ap (λ l. in_tree b ++ l) (clauses_read cs o (is_unreachable_after b) ds ys ls h) ∙ sym (append_assoc (in_tree b) (locals_inside (handler_sequences m o cs)) ls)))
    clauses_read (CatchesAll a b e) o unreachable ds ys ls h =
        at_end unreachable (false ∷ ds) a CatchAll tt (text b (with_control e End ∷ ys)) ∙ ended_last b e End tt (false ∷ ds) ys ls (live_read b) h

  pub body_read : (b : Body Named) → locals_read first_unreachability (text b.sequence (with_control b.close End ∷ [])) ≡ locals_in_items (normal m b.sequence)
  body_read b = ended b.sequence b.close End tt (false ∷ []) [] [] (live_read b.sequence) refl ∙ append-nil (in_tree b.sequence)

pub locals_read_are_named : LocalsReadAreNamed
locals_read_are_named m xs b hx = ap (locals_read first_unreachability) hx ∙ body_read m b
