-- The text of a normal form has a normal form that is the same tree.
use Rattle.std.proofs.Common.{◌≡◌, ℕ, [], ◌∷◌, Bool, true, false, refl, sym, ap, ◌∙◌}
use Rattle.std.specs.Prelude.{◌&&◌}
use Rattle.walrus_ir.specs.declared.val_type.InstrSeqType.{InstrSeqType}
use Rattle.walrus_ir.specs.Tree.{Items, no_items, item, Sequences, no_sequences, sequence}
use Rattle.walrus_ir.specs.Locations.{default_location}
use Rattle.wasm_body.specs.Control.{Action}
use Rattle.wasm_body.specs.SourceTree.{Sequence, Empty, Single, Wrapped, IfThen, IfElse, TryCatch, TryDelegate, Clauses, Ended, Catches, CatchesAll}
use Rattle.wasm_body.specs.Naming.{NamedOperation}
use Rattle.wasm_body.specs.FunctionTree.{handles, delegates, Bare, bare, bare_items, bare_sequences}
use Rattle.wasm_body.specs.NormalForm.{Typing, balances, Fate, Drops, Stays, MakesUnreachable, fate, instruction, kept_operation, with_fate, construct_type, handler_type, legacy_clauses, normal, handler_sequences}
use Rattle.wasm_body.specs.TextLaws.{NormalAgain}
use Rattle.wasm_body.specs.RewrittenTree.{single_with_fate, is_empty_sequence, written_if, rewritten, rewritten_clauses, rewritten_body}
use Rattle.wasm_body.proofs.NormalForm.Rewritten.{Named, emptied, second_holds}
use Rattle.wasm_body.proofs.NormalForm.NamedTexts.{text_is_body}
use Rattle.wasm_body.proofs.Structure.ReadingTrees.{one_body}

single_again : (m : Typing) (a : Named) (action : Action) (f : Fate) → fate action ≡ f → (r r' : Sequence Named)
    → bare_items (normal m r') ≡ bare_items (normal m r)
    → bare_items (normal m (single_with_fate f a action r')) ≡ bare_items (with_fate f (instruction a []) (normal m r))
single_again m a action Drops h r r' e = e
single_again m a action Stays h r r' e =
    ap (λ f. bare_items (with_fate f (instruction a []) (normal m r'))) h ∙ ap (λ x. item (bare (instruction a [])) no_sequences x) e
single_again m a action MakesUnreachable h r r' e = ap (λ f. bare_items (with_fate f (instruction a []) (normal m Empty))) h

clauses_again : (balanced : NamedOperation → Bool) (cs : Clauses Named) → legacy_clauses (rewritten_clauses balanced cs) ≡ legacy_clauses cs
clauses_again balanced (Ended e) = refl
clauses_again balanced (Catches a t b cs) = ap (λ l. handles t ∷ l) (clauses_again balanced cs)
clauses_again balanced (CatchesAll a b e) = refl

-- an item: its first sequence, the sequences next to it, and the items after it
pub item_again : (i : Bare) (t : InstrSeqType) {b b' r r' : Items InstrSeqType Bare} {k k' : Sequences InstrSeqType Bare} → b ≡ b'
    → k ≡ k' → r ≡ r'
    → item i (sequence t b k) r ≡ item i (sequence t b' k') r'
item_again i t {b = b} {b' = b'} {r = r} {r' = r'} {k = k} {k' = k'} e d c =
    ap (λ x. item i (sequence t x k) r) e ∙ (ap (λ x. item i (sequence t b' x) r) d ∙ ap (λ x. item i (sequence t b' k') x) c)

-- an `if`, whose alternative has no instruction if it is written without `else`
if_again : (m : Typing) (t : Bool) (a : Named) (b b' : Sequence Named) (l : ℕ) (c c' : Sequence Named) (n : ℕ) (r r' : Sequence Named)
    → (t ≡ true → bare_items (normal m c) ≡ no_items)
    → bare_items (normal m b') ≡ bare_items (normal m b) → bare_items (normal m c') ≡ bare_items (normal m c)
    → bare_items (normal m r') ≡ bare_items (normal m r)
    → bare_items (normal m (written_if t a b' l c' n r'))
    ≡ item (bare (instruction a []))
    (sequence (construct_type m a.op) (bare_items (normal m b)) (sequence (construct_type m a.op) (bare_items (normal m c)) no_sequences))
    (bare_items (normal m r))
if_again m true a b b' l c c' n r r' none e f g =
    item_again (bare (instruction a [])) (construct_type m a.op) e
    (ap (λ x. sequence (construct_type m a.op) x no_sequences) (sym (none refl))) g
if_again m false a b b' l c c' n r r' none e f g =
    item_again (bare (instruction a [])) (construct_type m a.op) e
    (ap (λ x. sequence (construct_type m a.op) x no_sequences) f) g

module _ (balanced : NamedOperation → Bool) (m : Typing) where
  mutual
    pub again : (s : Sequence Named) → bare_items (normal m (rewritten balanced s)) ≡ bare_items (normal m s)
    again Empty = refl
    again (Single a action r) = single_again m a action (fate action) refl r (rewritten balanced r) (again r)
    again (Wrapped a w b e r) = item_again (bare (instruction a [])) (construct_type m a.op) (again b) refl (again r)
    again (IfThen a b e r) =
        if_again m (balanced a.op) a b (rewritten balanced b) e.location Empty Empty default_location r (rewritten balanced r)
        (λ h. refl) (again b) refl (again r)
    again (IfElse a b l c e r) =
        if_again m (balanced a.op && is_empty_sequence (rewritten balanced c)) a b (rewritten balanced b) l.location c (rewritten balanced c) e.location r (rewritten balanced r)
        (λ h. sym (again c)
        ∙ ap (λ s. bare_items (normal m s)) (emptied (rewritten balanced c) (second_holds (balanced a.op) (is_empty_sequence (rewritten balanced c)) h)))
        (again b) (again c) (again r)
    again (TryCatch a b cs r) =
        let inside = sequence (construct_type m a.op) (bare_items (normal m (rewritten balanced b))) (bare_sequences (handler_sequences m a.op (rewritten_clauses balanced cs))) in
        ap (λ l. item (kept_operation a.op, l) inside (bare_items (normal m (rewritten balanced r)))) (clauses_again balanced cs)
        ∙ item_again (kept_operation a.op, legacy_clauses cs) (construct_type m a.op) (again b) (handlers_again a.op cs) (again r)
    again (TryDelegate a b e n r) = item_again (bare (instruction a (delegates n ∷ []))) (construct_type m a.op) (again b) refl (again r)

    handlers_again : (o : NamedOperation) (cs : Clauses Named)
        → bare_sequences (handler_sequences m o (rewritten_clauses balanced cs)) ≡ bare_sequences (handler_sequences m o cs)
    handlers_again o (Ended e) = refl
    handlers_again o (Catches a t b cs) =
        ap (λ x. sequence (handler_type m o (m.tag_parameters t)) x (bare_sequences (handler_sequences m o (rewritten_clauses balanced cs)))) (again b)
        ∙ ap (λ x. sequence (handler_type m o (m.tag_parameters t)) (bare_items (normal m b)) x) (handlers_again o cs)
    handlers_again o (CatchesAll a b e) = ap (λ x. sequence (handler_type m o []) x no_sequences) (again b)

pub normal_again : NormalAgain
normal_again m xs ys b c hx h hy hc =
    let one : c ≡ rewritten_body m b = one_body c (rewritten_body m b) (sym hc ∙ text_is_body m xs b hx h ys hy) in
    ap (λ d. sequence m.entry (bare_items (normal m d.sequence)) no_sequences) one
    ∙ ap (λ x. sequence m.entry x no_sequences) (again (λ o. balances m (construct_type m o)) m b.sequence)
