-- The normal form of a metered body, with the operators of charges, is that of the body with a charge before each straight piece.
use Rattle.std.proofs.Common.{◌≡◌, ℕ, zero, suc, ◌+◌, List, [], ◌∷◌, Bool, true, false, refl, sym, ap, ◌∙◌, arith}
use Rattle.walrus_ir.specs.Locations.{default_location}
use Rattle.walrus_ir.specs.Tree.{Items, no_items, item, Sequences, no_sequences, sequence}
use Rattle.wasm_body.specs.Control.{role_of, Action, Nop, Plain, Branch, ConditionalBranch, TableBranch, Return, Unreachable, Throw, ThrowRef, Rethrow, TailCall, Construct, If, Try, Does, Opens}
use Rattle.wasm_body.specs.Flat.{Named}
use Rattle.wasm_body.specs.FunctionTree.{Head, Instruction, handles, delegates}
use Rattle.wasm_body.specs.Naming.{NamedOperation}
use Rattle.wasm_body.specs.NormalForm.{Typing, instruction, head, construct_type, handler_type, normal, handler_sequences, legacy_clauses, closed_at}
use Rattle.wasm_body.specs.SourceTree.{Sequence, Empty, Single, Wrapped, IfThen, IfElse, TryCatch, TryDelegate, Clauses, Ended, Catches, CatchesAll, construct_of, Body, map_sequence, map_clauses}
use Rattle.wasm_body.proofs.Structure.Along.{Each, EachIn, HasControl}
use Rattle.wasm_insertion.specs.Insertion.{Origin, Own, Added, without_origin, Inserted, empty, insert, single, wrapped, if_then, added_else, if_else, try_catch, try_delegate, ClausesInserted, ended, catches_one, catches_all, InsertedBody, rest_of_piece, piece_cost, with_charge, metered, metered_clauses}
use Rattle.walrus_insertion.proofs.AddedItems.{before_items}
use Rattle.walrus_insertion.specs.BegunBodies.{with_added}
use Rattle.walrus_metering.specs.declared.costs.Costs.{Costs}
use Rattle.walrus_metering.specs.declared.charge.Charge.{Charge}
use Rattle.wasm_insertion.proofs.Metering.{metered_is_inserted}
use Rattle.walrus_metering.specs.MeteredTrees.{prepared, prepared_clauses, charge_shown, charging_operator, prepared_for, named_cost, charged_body}
use Rattle.walrus_metering.proofs.PaidItems.{action_straight, opens_straight, before_more, is_straight_on, items_cost, paying, paid_items, paid_sequences}

module _ (costs : Costs) (charge : Charge) where
  abbrev O : Type 0
  O = Origin Named Named

  abbrev cost : Named → ℕ
  cost = named_cost costs

  -- ---- the body

  abbrev shown : Sequence (Origin (Origin Named ℕ) Named) → Sequence O
  shown t = map_sequence (charge_shown (charging_operator charge)) t

  -- with the operators that prepare a charge
  abbrev with_all : Sequence (Origin Named ℕ) → Sequence O
  with_all t = shown (prepared (prepared_for charge) t)

  abbrev charged : Sequence Named → Sequence O
  charged s = with_all (metered cost s)

  abbrev charged_clauses : Clauses Named → Clauses O
  charged_clauses cs = map_clauses (charge_shown (charging_operator charge)) (prepared_clauses (prepared_for charge) (metered_clauses cost cs))

  -- a sequence and what is charged before it
  abbrev before : Bool → Sequence Named → Sequence O
  before straight s = with_all (with_charge straight (piece_cost cost s) (metered cost s))

  -- from its first piece on
  abbrev whole : Sequence Named → Sequence O
  whole s = before false s

  -- ---- it is an insertion

  added_inserted : (ps : List Named) (s : Sequence Named) (t : Sequence (Origin (Origin Named ℕ) Named)) → Inserted s (shown t)
      → Inserted s (shown (with_added ps t))
  added_inserted [] s t h = h
  added_inserted (p ∷ ps) s t h = insert (added_inserted ps s t h)

  mutual
    is_inserted : {s : Sequence Named} {t : Sequence (Origin Named ℕ)} → Inserted s t → Inserted s (with_all t)
    is_inserted empty = empty
    is_inserted (insert {p = n} {s = s} {t = t} h) =
        added_inserted (prepared_for charge n) s (Single (Own (Added n)) Plain (prepared (prepared_for charge) t)) (insert (is_inserted h))
    is_inserted (single h) = single (is_inserted h)
    is_inserted (wrapped f h) = wrapped (is_inserted f) (is_inserted h)
    is_inserted (if_then f h) = if_then (is_inserted f) (is_inserted h)
    is_inserted (added_else f g h) = added_else (is_inserted f) (is_inserted g) (is_inserted h)
    is_inserted (if_else f g h) = if_else (is_inserted f) (is_inserted g) (is_inserted h)
    is_inserted (try_catch f g h) = try_catch (is_inserted f) (clauses_inserted g) (is_inserted h)
    is_inserted (try_delegate f h) = try_delegate (is_inserted f) (is_inserted h)

    clauses_inserted : {cs : Clauses Named} {ds : Clauses (Origin Named ℕ)} → ClausesInserted cs ds
        → ClausesInserted cs (map_clauses (charge_shown (charging_operator charge)) (prepared_clauses (prepared_for charge) ds))
    clauses_inserted ended = ended
    clauses_inserted (catches_one f g) = catches_one (is_inserted f) (clauses_inserted g)
    clauses_inserted (catches_all f) = catches_all (is_inserted f)

  pub body_inserted : (b : Body Named) → InsertedBody b (charged_body costs charge b)
  body_inserted b = record { sequence = is_inserted (metered_is_inserted Named cost b).sequence; close = refl }

  -- ---- its normal form

  module _ (m : Typing) where
    abbrev form : Sequence O → Items Head Instruction
    form t = normal m (map_sequence without_origin t)

    added_form : (ps : List Named) (t : Sequence (Origin (Origin Named ℕ) Named)) → form (shown (with_added ps t)) ≡ before_items ps (form (shown t))
    added_form [] t = refl
    added_form (p ∷ ps) t = ap (λ l. item (instruction p []) no_sequences l) (added_form ps t)

    charge_form : (straight : Bool) (n : ℕ) (t : Sequence (Origin Named ℕ))
        → form (with_all (with_charge straight n t)) ≡ paying costs charge straight n (form (with_all t))
    charge_form true n t = refl
    charge_form false zero t = refl
    charge_form false (suc n) t =
        added_form (prepared_for charge (suc n)) (Single (Own (Added (suc n))) Plain (prepared (prepared_for charge) t))
        ∙ before_more (prepared_for charge (suc n)) (charging_operator charge) (form (with_all t))

    nothing_more : (n : ℕ) → n + 0 ≡ n
    nothing_more n = omega arith

    nothing_paid : (straight : Bool) → paying costs charge straight 0 no_items ≡ no_items
    nothing_paid true = refl
    nothing_paid false = refl

    -- ---- costs

    stays_cost : (a : Named) (straight : Bool) (n : ℕ) (is : Items Head Instruction) → is_straight_on (instruction a []) ≡ straight
        → items_cost costs charge is ≡ n → items_cost costs charge (item (instruction a []) no_sequences is) ≡ cost a + rest_of_piece straight n
    stays_cost a straight n is e h =
        ap (λ y. cost a + rest_of_piece y (items_cost costs charge is)) e ∙ ap (λ k. cost a + rest_of_piece straight k) h

    cut_cost : (a : Named) (n : ℕ) → is_straight_on (instruction a []) ≡ false
        → items_cost costs charge (item (instruction a []) no_sequences no_items) ≡ cost a + rest_of_piece false n
    cut_cost a n e = ap (λ y. cost a + rest_of_piece y 0) e

    -- what a sequence begins with costs the same as what its normal form begins with
    single_cost : (a : Named) (action : Action) (r : Sequence Named) → HasControl a (Does action)
        → items_cost costs charge (normal m r) ≡ piece_cost cost r → items_cost costs charge (normal m (Single a action r)) ≡ piece_cost cost (Single a action r)
    single_cost a Nop r q h = h
    single_cost a Plain r q h = stays_cost a true (piece_cost cost r) (normal m r) (action_straight (role_of a.op.opcode) a.op.immediates Plain q) h
    single_cost a (Branch n) r q h = cut_cost a (piece_cost cost r) (action_straight (role_of a.op.opcode) a.op.immediates (Branch n) q)
    single_cost a (ConditionalBranch n) r q h =
        stays_cost a false (piece_cost cost r) (normal m r) (action_straight (role_of a.op.opcode) a.op.immediates (ConditionalBranch n) q) h
    single_cost a (TableBranch ts d) r q h = cut_cost a (piece_cost cost r) (action_straight (role_of a.op.opcode) a.op.immediates (TableBranch ts d) q)
    single_cost a Return r q h = cut_cost a (piece_cost cost r) (action_straight (role_of a.op.opcode) a.op.immediates Return q)
    single_cost a Unreachable r q h = cut_cost a (piece_cost cost r) (action_straight (role_of a.op.opcode) a.op.immediates Unreachable q)
    single_cost a (Throw t) r q h = cut_cost a (piece_cost cost r) (action_straight (role_of a.op.opcode) a.op.immediates (Throw t) q)
    single_cost a ThrowRef r q h = cut_cost a (piece_cost cost r) (action_straight (role_of a.op.opcode) a.op.immediates ThrowRef q)
    single_cost a (Rethrow n) r q h = cut_cost a (piece_cost cost r) (action_straight (role_of a.op.opcode) a.op.immediates (Rethrow n) q)
    single_cost a TailCall r q h =
        stays_cost a false (piece_cost cost r) (normal m r) (action_straight (role_of a.op.opcode) a.op.immediates TailCall q) h

    opener_stops : (a : Named) (k : Construct) → HasControl a (Opens k) → is_straight_on (instruction a []) ≡ false
    opener_stops a k q = opens_straight (role_of a.op.opcode) a.op.immediates k q

    opener_cost : (a : Named) (k : Construct) (n : ℕ) → HasControl a (Opens k) → cost a + rest_of_piece (is_straight_on (instruction a [])) n ≡ cost a
    opener_cost a k n q = ap (λ y. cost a + rest_of_piece y n) (opener_stops a k q) ∙ nothing_more (cost a)

    form_cost : (s : Sequence Named) → Each HasControl s → items_cost costs charge (normal m s) ≡ piece_cost cost s
    form_cost Empty h = refl
    form_cost (Single a action r) h = single_cost a action r h.0 (form_cost r h.1)
    form_cost (Wrapped a w b e r) h = opener_cost a (construct_of w) (items_cost costs charge (normal m r)) h.0
    form_cost (IfThen a b e r) h = opener_cost a If (items_cost costs charge (normal m r)) h.0
    form_cost (IfElse a b l c e r) h = opener_cost a If (items_cost costs charge (normal m r)) h.0
    form_cost (TryCatch a b cs r) h = opener_cost a Try (items_cost costs charge (normal m r)) h.0
    form_cost (TryDelegate a b e n r) h = opener_cost a Try (items_cost costs charge (normal m r)) h.0

    -- ---- items

    -- what comes after an operator, or in a sequence
    paid_after : (straight : Bool) (s : Sequence Named) → Each HasControl s → form (charged s) ≡ paid_items costs charge (normal m s)
        → form (before straight s)
        ≡ paying costs charge straight (items_cost costs charge (normal m s)) (paid_items costs charge (normal m s))
    paid_after straight s h e =
        charge_form straight (piece_cost cost s) (metered cost s)
        ∙ ap (λ l. paying costs charge straight (piece_cost cost s) l) e
        ∙ ap (λ n. paying costs charge straight n (paid_items costs charge (normal m s))) (sym (form_cost s h))

    stays_paid : (a : Named) (straight : Bool) (r : Sequence Named) → is_straight_on (instruction a []) ≡ straight → Each HasControl r
        → form (charged r) ≡ paid_items costs charge (normal m r)
        → item (instruction a []) no_sequences (form (before straight r))
        ≡ paid_items costs charge (item (instruction a []) no_sequences (normal m r))
    stays_paid a straight r q h e =
        ap (λ l. item (instruction a []) no_sequences l) (paid_after straight r h e)
        ∙ ap (λ y. item (instruction a []) no_sequences (paying costs charge y (items_cost costs charge (normal m r)) (paid_items costs charge (normal m r)))) (sym q)

    cut_paid : (a : Named) → item (instruction a []) no_sequences no_items ≡ paid_items costs charge (item (instruction a []) no_sequences no_items)
    cut_paid a = ap (λ l. item (instruction a []) no_sequences l) (sym (nothing_paid (is_straight_on (instruction a []))))

    single_paid : (a : Named) (action : Action) (r : Sequence Named) → HasControl a (Does action) → Each HasControl r
        → form (charged r) ≡ paid_items costs charge (normal m r) → form (charged (Single a action r)) ≡ paid_items costs charge (normal m (Single a action r))
    single_paid a Nop r q h e = e
    single_paid a Plain r q h e = stays_paid a true r (action_straight (role_of a.op.opcode) a.op.immediates Plain q) h e
    single_paid a (Branch n) r q h e = cut_paid a
    single_paid a (ConditionalBranch n) r q h e = stays_paid a false r (action_straight (role_of a.op.opcode) a.op.immediates (ConditionalBranch n) q) h e
    single_paid a (TableBranch ts d) r q h e = cut_paid a
    single_paid a Return r q h e = cut_paid a
    single_paid a Unreachable r q h e = cut_paid a
    single_paid a (Throw t) r q h e = cut_paid a
    single_paid a ThrowRef r q h e = cut_paid a
    single_paid a (Rethrow n) r q h e = cut_paid a
    single_paid a TailCall r q h e = stays_paid a false r (action_straight (role_of a.op.opcode) a.op.immediates TailCall q) h e

    legacy_same : (cs : Clauses Named) → legacy_clauses (map_clauses without_origin (charged_clauses cs)) ≡ legacy_clauses cs
    legacy_same (Ended e) = refl
    legacy_same (Catches a t b cs) = ap (λ l. handles t ∷ l) (legacy_same cs)
    legacy_same (CatchesAll a b e) = refl

    closed_same : (cs : Clauses Named) → closed_at (map_clauses without_origin (charged_clauses cs)) ≡ closed_at cs
    closed_same (Ended e) = refl
    closed_same (Catches a t b cs) = refl
    closed_same (CatchesAll a b e) = refl

    -- a construct: its sequences, and what comes after it
    construct_paid : (i : Instruction) (ss ts : Sequences Head Instruction) (r : Sequence Named) → is_straight_on i ≡ false
        → ss ≡ paid_sequences costs charge ts → Each HasControl r → form (charged r) ≡ paid_items costs charge (normal m r)
        → item i ss (form (before false r)) ≡ paid_items costs charge (item i ts (normal m r))
    construct_paid i ss ts r q f h e =
        ap (λ l. item i l (form (before false r))) f
        ∙ ap (λ l. item i (paid_sequences costs charge ts) l) (paid_after false r h e)
        ∙ ap (λ y. item i (paid_sequences costs charge ts) (paying costs charge y (items_cost costs charge (normal m r)) (paid_items costs charge (normal m r)))) (sym q)

    -- a sequence before others
    sequence_paid : (t : Head) (b : Sequence Named) (ss ts : Sequences Head Instruction) → Each HasControl b
        → form (charged b) ≡ paid_items costs charge (normal m b) → ss ≡ paid_sequences costs charge ts
        → sequence t (form (before false b)) ss ≡ paid_sequences costs charge (sequence t (normal m b) ts)
    sequence_paid t b ss ts h e f = ap (λ l. sequence t l ss) (paid_after false b h e)
        ∙ ap (λ l. sequence t (paying costs charge false (items_cost costs charge (normal m b)) (paid_items costs charge (normal m b))) l) f

    mutual
      form_paid : (s : Sequence Named) → Each HasControl s → form (charged s) ≡ paid_items costs charge (normal m s)
      form_paid Empty h = refl
      form_paid (Single a action r) h = single_paid a action r h.0 h.1 (form_paid r h.1)
      form_paid (Wrapped a w b e r) h =
          let t = head (construct_type m a.op) e.location in
          construct_paid (instruction a []) (sequence t (form (whole b)) no_sequences) (sequence t (normal m b) no_sequences) r
          (opener_stops a (construct_of w) h.0) (sequence_paid t b no_sequences no_sequences h.1 (form_paid b h.1) refl) h.3 (form_paid r h.3)
      form_paid (IfThen a b e r) h =
          let t = head (construct_type m a.op) e.location in
          let u = sequence (head (construct_type m a.op) default_location) no_items no_sequences in
          construct_paid (instruction a []) (sequence t (form (whole b)) u) (sequence t (normal m b) u) r
          (opener_stops a If h.0) (sequence_paid t b u u h.1 (form_paid b h.1) refl) h.3 (form_paid r h.3)
      form_paid (IfElse a b l c e r) h =
          let t = head (construct_type m a.op) l.location in
          let u = head (construct_type m a.op) e.location in
          construct_paid (instruction a []) (sequence t (form (whole b)) (sequence u (form (whole c)) no_sequences))
          (sequence t (normal m b) (sequence u (normal m c) no_sequences)) r (opener_stops a If h.0)
          (sequence_paid t b (sequence u (form (whole c)) no_sequences) (sequence u (normal m c) no_sequences) h.1 (form_paid b h.1)
          (sequence_paid u c no_sequences no_sequences h.3 (form_paid c h.3) refl))
          h.5 (form_paid r h.5)
      form_paid (TryCatch a b cs r) h =
          let t = head (construct_type m a.op) (closed_at cs) in
          let ss = handler_sequences m a.op (map_clauses without_origin (charged_clauses cs)) in
          ap (λ l. item (instruction a l)
          (sequence (head (construct_type m a.op) (closed_at (map_clauses without_origin (charged_clauses cs)))) (form (whole b)) ss) (form (whole r))) (legacy_same cs)
          ∙ ap (λ l. item (instruction a (legacy_clauses cs)) (sequence (head (construct_type m a.op) l) (form (whole b)) ss) (form (whole r))) (closed_same cs)
          ∙ construct_paid (instruction a (legacy_clauses cs)) (sequence t (form (whole b)) ss) (sequence t (normal m b) (handler_sequences m a.op cs)) r
          (opener_stops a Try h.0) (sequence_paid t b ss (handler_sequences m a.op cs) h.1 (form_paid b h.1) (handlers_paid a.op cs h.2)) h.3 (form_paid r h.3)
      form_paid (TryDelegate a b e n r) h =
          let t = head (construct_type m a.op) default_location in
          construct_paid (instruction a (delegates n ∷ [])) (sequence t (form (whole b)) no_sequences) (sequence t (normal m b) no_sequences) r
          (opener_stops a Try h.0) (sequence_paid t b no_sequences no_sequences h.1 (form_paid b h.1) refl) h.3 (form_paid r h.3)

      handlers_paid : (o : NamedOperation) (cs : Clauses Named) → EachIn HasControl cs
          → handler_sequences m o (map_clauses without_origin (charged_clauses cs)) ≡ paid_sequences costs charge (handler_sequences m o cs)
      handlers_paid o (Ended e) h = refl
      handlers_paid o (Catches a t b cs) h =
          let u = handler_type m o (m.tag_parameters t) in
          ap (λ l. sequence (head u l) (form (whole b)) (handler_sequences m o (map_clauses without_origin (charged_clauses cs)))) (closed_same cs)
          ∙ sequence_paid (head u (closed_at cs)) b (handler_sequences m o (map_clauses without_origin (charged_clauses cs))) (handler_sequences m o cs) h.1
          (form_paid b h.1) (handlers_paid o cs h.2)
      handlers_paid o (CatchesAll a b e) h =
          sequence_paid (head (handler_type m o []) e.location) b no_sequences no_sequences h.1 (form_paid b h.1) refl

    -- the normal form of the whole body
    pub whole_form : (s : Sequence Named) → Each HasControl s
        → normal m (map_sequence without_origin (whole s))
        ≡ paying costs charge false (items_cost costs charge (normal m s)) (paid_items costs charge (normal m s))
    whole_form s h = paid_after false s h (form_paid s h)
