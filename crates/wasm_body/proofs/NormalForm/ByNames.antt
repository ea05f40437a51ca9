-- The normal form of a body, locations aside, depends only on its operators' names and what they do to the control flow.
use Rattle.std.proofs.Common.{◌≡◌, List, [], ◌∷◌, map, refl, sym, ap, ◌∙◌}
use Rattle.walrus_ir.specs.Tree.{Items, item, no_sequences, sequence}
use Rattle.wasm_body.specs.Control.{End, Marked, with_control}
use Rattle.wasm_body.specs.SourceTree.{Sequence, Empty, Single, Wrapped, IfThen, IfElse, TryCatch, TryDelegate, Clauses, Ended, Catches, CatchesAll, Body, body_text, map_sequence, map_clauses, map_body}
use Rattle.wasm_body.specs.Translation.{at_location}
use Rattle.wasm_body.specs.Naming.{NamedOperation}
use Rattle.wasm_body.specs.FunctionTree.{Head, Instruction, handles, delegates, bare, bare_items, bare_sequences, IsSameTree}
use Rattle.wasm_body.specs.NormalForm.{Typing, Fate, Drops, Stays, MakesUnreachable, fate, instruction, kept_operation, with_fate, construct_type, handler_type, legacy_clauses, normal, handler_sequences, normal_form}
use Rattle.wasm_body.proofs.Structure.ReadingTrees.{one_body}
use Rattle.wasm_body.proofs.Structure.Mapped.{map_mark, text_mapped}
use Rattle.wasm_body.proofs.NormalForm.Rewritten.{Named}
use Rattle.wasm_body.proofs.NormalForm.NormalAgain.{item_again}

abbrev pub op_of : Named → NamedOperation
op_of a = a.op

-- the same operator, with location 0
abbrev nowhere : Named → Named
nowhere a = at_location a.op 0

single_nowhere : (f : Fate) (a : Named) (r r' : Items Head Instruction) → bare_items r ≡ bare_items r'
    → bare_items (with_fate f (instruction (nowhere a) []) r) ≡ bare_items (with_fate f (instruction a []) r')
single_nowhere Drops a r r' e = e
single_nowhere Stays a r r' e = ap (λ x. item (kept_operation a.op, []) no_sequences x) e
single_nowhere MakesUnreachable a r r' e = refl

clauses_nowhere : (cs : Clauses Named) → legacy_clauses (map_clauses nowhere cs) ≡ legacy_clauses cs
clauses_nowhere (Ended e) = refl
clauses_nowhere (Catches a t b cs) = ap (λ l. handles t ∷ l) (clauses_nowhere cs)
clauses_nowhere (CatchesAll a b e) = refl

mutual
  bare_nowhere : (m : Typing) (s : Sequence Named) → bare_items (normal m (map_sequence nowhere s)) ≡ bare_items (normal m s)
  bare_nowhere m Empty = refl
  bare_nowhere m (Single a action r) = single_nowhere (fate action) a (normal m (map_sequence nowhere r)) (normal m r) (bare_nowhere m r)
  bare_nowhere m (Wrapped a w b e r) = item_again (bare (instruction a [])) (construct_type m a.op) (bare_nowhere m b) refl (bare_nowhere m r)
  bare_nowhere m (IfThen a b e r) = item_again (bare (instruction a [])) (construct_type m a.op) (bare_nowhere m b) refl (bare_nowhere m r)
  bare_nowhere m (IfElse a b l c e r) =
      item_again (bare (instruction a [])) (construct_type m a.op) (bare_nowhere m b)
      (ap (λ x. sequence (construct_type m a.op) x no_sequences) (bare_nowhere m c)) (bare_nowhere m r)
  bare_nowhere m (TryCatch a b cs r) =
      let first = sequence (construct_type m a.op) (bare_items (normal m (map_sequence nowhere b))) (bare_sequences (handler_sequences m a.op (map_clauses nowhere cs))) in
      ap (λ l. item (kept_operation a.op, l) first (bare_items (normal m (map_sequence nowhere r)))) (clauses_nowhere cs)
      ∙ item_again (kept_operation a.op, legacy_clauses cs) (construct_type m a.op) (bare_nowhere m b) (handlers_nowhere m a.op cs) (bare_nowhere m r)
  bare_nowhere m (TryDelegate a b e n r) =
      item_again (bare (instruction a (delegates n ∷ []))) (construct_type m a.op) (bare_nowhere m b) refl (bare_nowhere m r)

  handlers_nowhere : (m : Typing) (o : NamedOperation) (cs : Clauses Named)
      → bare_sequences (handler_sequences m o (map_clauses nowhere cs)) ≡ bare_sequences (handler_sequences m o cs)
  handlers_nowhere m o (Ended e) = refl
  handlers_nowhere m o (Catches a t b cs) =
      let type = handler_type m o (m.tag_parameters t) in
      ap (λ x. sequence type x (bare_sequences (handler_sequences m o (map_clauses nowhere cs)))) (bare_nowhere m b)
      ∙ ap (λ x. sequence type (bare_items (normal m b)) x) (handlers_nowhere m o cs)
  handlers_nowhere m o (CatchesAll a b e) = ap (λ x. sequence (handler_type m o []) x no_sequences) (bare_nowhere m b)

without : (xs ys : List (Marked Named)) → map (map_mark op_of) xs ≡ map (map_mark op_of) ys → map (map_mark nowhere) xs ≡ map (map_mark nowhere) ys
without [] [] e = refl
without [] (y ∷ ys) e = absurd cc
without (x ∷ xs) [] e = absurd cc
without (x ∷ xs) (y ∷ ys) e =
    let first : map_mark op_of x ≡ map_mark op_of y = cc in
    let rest : map (map_mark op_of) xs ≡ map (map_mark op_of) ys = cc in
    ap (λ (z : Marked NamedOperation). with_control (at_location z.shown 0) z.control ∷ map (map_mark nowhere) xs) first
    ∙ ap (λ l. map_mark nowhere y ∷ l) (without xs ys rest)

-- bodies whose operators have the same names and do the same have normal forms that are the same tree
pub same_by_names : (m : Typing) (b c : Body Named) → map (map_mark op_of) (body_text b) ≡ map (map_mark op_of) (body_text c)
    → IsSameTree (normal_form m b) (normal_form m c)
same_by_names m b c e =
    let text : (d : Body Named) → body_text (map_body nowhere d) ≡ map (map_mark nowhere) (body_text d) =
    λ d. text_mapped nowhere d.sequence (with_control d.close End ∷ []) in
    let one = one_body (map_body nowhere b) (map_body nowhere c)
    (text b ∙ (without (body_text b) (body_text c) e ∙ sym (text c))) in
    ap (λ x. sequence m.entry x no_sequences)
    (sym (bare_nowhere m b.sequence) ∙ (ap (λ (d : Body Named). bare_items (normal m d.sequence)) one ∙ bare_nowhere m c.sequence))
