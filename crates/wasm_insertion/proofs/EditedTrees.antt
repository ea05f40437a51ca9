-- For each tree with insertions into the normal form of a body there is a body with insertions whose normal form it is.
use Rattle.std.proofs.Common.{◌≡◌, ℕ, List, [], ◌∷◌, map, Bool, true, false, refl, sym, ap, ◌∙◌, subst}
use Rattle.std.specs.List.{AllByRecursion}
use Rattle.walrus_ir.specs.declared.val_type.InstrSeqType.{InstrSeqType}
use Rattle.walrus_ir.specs.Types.{Signature}
use Rattle.walrus_ir.specs.Tree.{Items, no_items, item, Sequences, no_sequences, sequence}
use Rattle.wasm_operators.specs.Operations.{Immediate, index, local, label, handler, outer, number, access, branch_table, clauses, block, heap, value, cast, i32, i64, f32, f64, v128, lane, lanes, zero_byte}
use Rattle.wasm_body.specs.Control.{Role, an_unreachable, a_nop, a_block, a_loop, an_if, an_else, a_try, a_catch, a_throw, a_rethrow, a_throw_ref, an_end, a_branch, a_conditional_branch, a_table_branch, a_return, a_tail_call, a_delegate, a_catch_all, a_try_table, a_plain, role_of, Action, Nop, Plain, Branch, ConditionalBranch, Return, Unreachable, Throw, ThrowRef, Rethrow, TailCall, Construct, If, Try, Control, Does, Opens, Else, End, Delegate, first_label, first_depth, first_index, branches, control_by, Marked, with_control}
use Rattle.wasm_body.specs.SourceTree.{Sequence, Empty, Single, Wrapped, IfThen, IfElse, TryCatch, TryDelegate, Clauses, Ended, Catches, CatchesAll, Wrapper, construct_of, Body, body_text, map_sequence, map_clauses, map_body}
use Rattle.wasm_body.specs.Naming.{NamedOperation, block_types}
use Rattle.wasm_body.specs.FunctionTree.{Head, LegacyClause, handles, delegates, Instruction}
use Rattle.wasm_body.specs.NormalForm.{Typing, Fate, Drops, Stays, MakesUnreachable, fate, with_fate, instruction, normal, handler_sequences, handler_type, legacy_clauses, head, closed_at, construct_type}
use Rattle.walrus_ir.specs.Locations.{default_location}
use Rattle.wasm_body.specs.Keeping.{unreachable_after}
use Rattle.wasm_body.specs.RewrittenTree.{else_at}
use Rattle.wasm_body.specs.Typed.{IsTypedAs, AreTyped}
use Rattle.wasm_body.specs.TextLaws.{mark_named, IsNamedBody}
use Rattle.wasm_body.specs.Flat.{Named}
use Rattle.wasm_body.proofs.Structure.Mapped.{text_mapped}
use Rattle.wasm_body.proofs.Structure.Along.{Each, EachIn, AllMarked, HasControl, each_of, all_of_each, weaker, each_mapped, is_body}
use Rattle.wasm_insertion.specs.Insertion.{Origin, Own, Added, Inserted, empty, insert, single, wrapped, if_then, added_else, if_else, try_catch, try_delegate, ClausesInserted, ended, catches_one, catches_all, InsertedBody, without_origin, IsInsertedText}
use Rattle.wasm_insertion.specs.EditedTrees.{never_goes_on, EditedItems, no_item, added_item, going_item, last_item, EditedSequences, no_sequence, edited_sequence, without_ends, sequences_without_ends}

-- ---- roles

table_ends : (is : List (Immediate ℕ Signature)) → true ≡ unreachable_after (fate (branches is)) false
table_ends [] = refl
table_ends (index space n ∷ is) = refl
table_ends (local n ∷ is) = refl
table_ends (label l ∷ is) = refl
table_ends (handler depth ∷ is) = refl
table_ends (outer depth ∷ is) = refl
table_ends (number n ∷ is) = refl
table_ends (access a ∷ is) = refl
table_ends (branch_table targets default ∷ is) = refl
table_ends (clauses cs ∷ is) = refl
table_ends (block type ∷ is) = refl
table_ends (heap type ∷ is) = refl
table_ends (value type ∷ is) = refl
table_ends (cast c ∷ is) = refl
table_ends (i32 z ∷ is) = refl
table_ends (i64 z ∷ is) = refl
table_ends (f32 bits ∷ is) = refl
table_ends (f64 bits ∷ is) = refl
table_ends (v128 bits ∷ is) = refl
table_ends (lane n ∷ is) = refl
table_ends (lanes ns ∷ is) = refl
table_ends (zero_byte ∷ is) = refl

same_fate : (x action : Action) (y : Bool) → Does x ≡ Does action → y ≡ unreachable_after (fate x) false → y ≡ unreachable_after (fate action) false
same_fate x action y e q = let z : x ≡ action = cc e in subst (λ w. y ≡ unreachable_after (fate w) false) z q

-- what its role says of an operator that does this
pub action_role : (r : Role) (is : List (Immediate ℕ Signature)) (action : Action) → control_by r is ≡ Does action
    → never_goes_on r ≡ unreachable_after (fate action) false
action_role an_unreachable is action h = same_fate Unreachable action true h refl
action_role a_nop is action h = same_fate Nop action false h refl
action_role a_block is action h = absurd (cc h)
action_role a_loop is action h = absurd (cc h)
action_role an_if is action h = absurd (cc h)
action_role an_else is action h = absurd (cc h)
action_role a_try is action h = absurd (cc h)
action_role a_catch is action h = absurd (cc h)
action_role a_throw is action h = same_fate (Throw (first_index is)) action true h refl
action_role a_rethrow is action h = same_fate (Rethrow (first_depth is)) action true h refl
action_role a_throw_ref is action h = same_fate ThrowRef action true h refl
action_role an_end is action h = absurd (cc h)
action_role a_branch is action h = same_fate (Branch (first_label is)) action true h refl
action_role a_conditional_branch is action h = same_fate (ConditionalBranch (first_label is)) action false h refl
action_role a_table_branch is action h = same_fate (branches is) action true h (table_ends is)
action_role a_return is action h = same_fate Return action true h refl
action_role a_tail_call is action h = same_fate TailCall action false h refl
action_role a_delegate is action h = absurd (cc h)
action_role a_catch_all is action h = absurd (cc h)
action_role a_try_table is action h = absurd (cc h)
action_role a_plain is action h = same_fate Plain action false h refl

pub opens_role : (r : Role) (is : List (Immediate ℕ Signature)) (k : Construct) → control_by r is ≡ Opens k → never_goes_on r ≡ false
opens_role an_unreachable is k h = absurd (cc h)
opens_role a_nop is k h = absurd (cc h)
opens_role a_block is k h = refl
opens_role a_loop is k h = refl
opens_role an_if is k h = refl
opens_role an_else is k h = absurd (cc h)
opens_role a_try is k h = refl
opens_role a_catch is k h = absurd (cc h)
opens_role a_throw is k h = absurd (cc h)
opens_role a_rethrow is k h = absurd (cc h)
opens_role a_throw_ref is k h = absurd (cc h)
opens_role an_end is k h = absurd (cc h)
opens_role a_branch is k h = absurd (cc h)
opens_role a_conditional_branch is k h = absurd (cc h)
opens_role a_table_branch is k h = absurd (cc h)
opens_role a_return is k h = absurd (cc h)
opens_role a_tail_call is k h = absurd (cc h)
opens_role a_delegate is k h = absurd (cc h)
opens_role a_catch_all is k h = absurd (cc h)
opens_role a_try_table is k h = refl
opens_role a_plain is k h = absurd (cc h)

pub plain_typed : (m : Typing) (r : Role) (o : NamedOperation) → control_by r o.immediates ≡ Does Plain → block_types o.immediates ≡ [] → IsTypedAs m r o
plain_typed m an_unreachable o h t = t
plain_typed m a_nop o h t = t
plain_typed m a_block o h t = absurd (cc h)
plain_typed m a_loop o h t = absurd (cc h)
plain_typed m an_if o h t = absurd (cc h)
plain_typed m an_else o h t = t
plain_typed m a_try o h t = absurd (cc h)
plain_typed m a_catch o h t = t
plain_typed m a_throw o h t = t
plain_typed m a_rethrow o h t = t
plain_typed m a_throw_ref o h t = t
plain_typed m an_end o h t = t
plain_typed m a_branch o h t = t
plain_typed m a_conditional_branch o h t = t
plain_typed m a_table_branch o h t = t
plain_typed m a_return o h t = t
plain_typed m a_tail_call o h t = t
plain_typed m a_delegate o h t = t
plain_typed m a_catch_all o h t = t
plain_typed m a_try_table o h t = absurd (cc h)
plain_typed m a_plain o h t = t

-- ---- what is inserted before the first item

data Rest (ends : Bool) (is js : Items Head Instruction) (ss ts : Sequences Head Instruction) : Type 0 where
  goes : ends ≡ false → EditedSequences ss ts → EditedItems is js → Rest ends is js ss ts
  stays : ends ≡ true → is ≡ no_items → js ≡ no_items → ts ≡ ss → Rest ends is js ss ts

record Kept (i : Instruction) (ss : Sequences Head Instruction) (is core : Items Head Instruction) : Type 0 where
  pub inside : Sequences Head Instruction
  pub rest : Items Head Instruction
  pub edited : Rest (never_goes_on (role_of i.op.opcode)) is rest ss inside
  pub is_core : item i inside rest ≡ core

abbrev Core : (is core : Items Head Instruction) → Type 0
Core no_items core = no_items ≡ core
Core (item i ss is) core = Kept i ss is core

abbrev adding : List Named → Items Head Instruction → Items Head Instruction
adding [] js = js
adding (p ∷ ps) js = item (instruction p []) no_sequences (adding ps js)

record Split (h : Head) (is : Items Head Instruction) (ss ts : Sequences Head Instruction) : Type 0 where
  pub items : Items Head Instruction
  pub others : Sequences Head Instruction
  pub first : EditedItems is items
  pub following : EditedSequences ss others
  pub is_list : sequence h items others ≡ ts

split : {h : Head} {is : Items Head Instruction} {ss ts : Sequences Head Instruction} → EditedSequences (sequence h is ss) ts → Split h is ss ts
split (edited_sequence {js = js} {ts = us} f g) = record { items = js; others = us; first = f; following = g; is_list = refl }

none_edited : {ts : Sequences Head Instruction} → EditedSequences no_sequences ts → no_sequences ≡ ts
none_edited no_sequence = refl

module _ (m : Typing) where
  abbrev O : Type 0
  O = Origin Named Named

  abbrev pub IsRight : Named → Control → Type 0
  IsRight a c = HasControl a c × IsTypedAs m (role_of a.op.opcode) a.op

  abbrev IsRightOrigin : O → Control → Type 0
  IsRightOrigin x c = IsRight (without_origin x) c

  record Peeled (is js : Items Head Instruction) : Type 0 where
    pub probes : List Named
    pub plain : AllByRecursion (λ p. IsRight p (Does Plain)) probes
    pub core : Items Head Instruction
    pub edited : Core is core
    pub is_items : adding probes core ≡ js

  peel : {is js : Items Head Instruction} → EditedItems is js → Peeled is js
  peel no_item = record { probes = []; plain = tt; core = no_items; edited = refl; is_items = refl }
  peel (added_item p c t f) =
      let h = peel f in
      record {
        probes = p ∷ h.probes;
        plain = ((c, plain_typed m (role_of p.op.opcode) p.op c t), h.plain);
        core = h.core;
        edited = h.edited;
        is_items = ap (λ l. item (instruction p []) no_sequences l) h.is_items;
      }
  peel (going_item {i = i} {ts = ts} {js = js} y g f) = record {
    probes = [];
    plain = tt;
    core = item i ts js;
    edited = record { inside = ts; rest = js; edited = goes y g f; is_core = refl };
    is_items = refl;
  }
  peel (last_item {i = i} {ss = ss} y) = record {
    probes = [];
    plain = tt;
    core = item i ss no_items;
    edited = record { inside = ss; rest = no_items; edited = stays y refl refl refl; is_core = refl };
    is_items = refl;
  }

  -- ---- trees

  abbrev marked_normal : Sequence O → Items InstrSeqType Instruction
  marked_normal t = without_ends (normal m (map_sequence without_origin t))

  -- a sequence with insertions, whose normal form has these items
  record Grown (s : Sequence Named) (js : Items Head Instruction) : Type 0 where
    pub tree : Sequence O
    pub inserted : Inserted s tree
    pub right : Each IsRightOrigin tree
    pub same : marked_normal tree ≡ without_ends js

  lift : (ps : List Named) → AllByRecursion (λ p. IsRight p (Does Plain)) ps → (s : Sequence Named) (core : Items Head Instruction) → Grown s core
      → Grown s (adding ps core)
  lift [] a s core g = g
  lift (p ∷ ps) a s core g =
      let h = lift ps a.1 s core g in
      record {
        tree = Single (Added p) Plain h.tree;
        inserted = insert h.inserted;
        right = (a.0, h.right);
        same = ap (λ l. item (instruction p []) no_sequences l) h.same;
      }

  lifted : (s : Sequence Named) {is js : Items Head Instruction} → (h : Peeled is js) → Grown s h.core → Grown s js
  lifted s h g = subst (Grown s) h.is_items (lift h.probes h.plain s h.core g)

  empty_grown : (js : Items Head Instruction) → EditedItems no_items js → Grown Empty js
  empty_grown js f =
      let h = peel f in
      let g : Grown Empty no_items = record { tree = Empty; inserted = empty; right = tt; same = refl } in
      lifted Empty h (subst (Grown Empty) h.edited g)

  -- a sequence that begins with an item: what is inserted before it, and then the item
  item_grown : (s : Sequence Named) (i : Instruction) (ss : Sequences Head Instruction) (is js : Items Head Instruction) → EditedItems (item i ss is) js
      → ((ts : Sequences Head Instruction) (ks : Items Head Instruction) → Rest (never_goes_on (role_of i.op.opcode)) is ks ss ts → Grown s (item i ts ks))
      → Grown s js
  item_grown s i ss is js f build =
      let h = peel f in
      lifted s h (subst (Grown s) h.edited.is_core (build h.edited.inside h.edited.rest h.edited.edited))

  mutual
    pub own_inserted : (s : Sequence Named) → Inserted {P = Named} s (map_sequence Own s)
    own_inserted Empty = empty
    own_inserted (Single a action r) = single (own_inserted r)
    own_inserted (Wrapped a w b e r) = wrapped (own_inserted b) (own_inserted r)
    own_inserted (IfThen a b e r) = if_then (own_inserted b) (own_inserted r)
    own_inserted (IfElse a b l c e r) = if_else (own_inserted b) (own_inserted c) (own_inserted r)
    own_inserted (TryCatch a b cs r) = try_catch (own_inserted b) (own_clauses cs) (own_inserted r)
    own_inserted (TryDelegate a b e n r) = try_delegate (own_inserted b) (own_inserted r)

    own_clauses : (cs : Clauses Named) → ClausesInserted {P = Named} cs (map_clauses Own cs)
    own_clauses (Ended e) = ended
    own_clauses (Catches a t b cs) = catches_one (own_inserted b) (own_clauses cs)
    own_clauses (CatchesAll a b e) = catches_all (own_inserted b)

  abbrev Grows : Sequence Named → Type 0
  Grows r = (js : Items Head Instruction) → EditedItems (normal m r) js → Grown r js

  no_contradiction : (y : Bool) → y ≡ true → y ≡ false → ⊥
  no_contradiction y h k = let z : true ≡ false = sym h ∙ k in absurd (cc z)

  single_grown : (a : Named) (action : Action) (r : Sequence Named) → IsRight a (Does action) → Each IsRight r → Grows r → (φ : Fate) → fate action ≡ φ
      → (js : Items Head Instruction) → EditedItems (with_fate φ (instruction a []) (normal m r)) js → Grown (Single a action r) js
  single_grown a action r q qs gr Drops e js f =
      let g = gr js f in
      record {
        tree = Single (Own a) action g.tree;
        inserted = single g.inserted;
        right = (q, g.right);
        same = ap (λ φ. without_ends (with_fate φ (instruction a []) (normal m (map_sequence without_origin g.tree)))) e ∙ g.same;
      }
  single_grown a action r q qs gr Stays e js f =
      item_grown (Single a action r) (instruction a []) no_sequences (normal m r) js f (λ ts ks rest. by_rest ts ks rest)
    where
      by_rest : (ts : Sequences Head Instruction) (ks : Items Head Instruction) → Rest (never_goes_on (role_of a.op.opcode)) (normal m r) ks no_sequences ts
          → Grown (Single a action r) (item (instruction a []) ts ks)
      by_rest ts ks (goes y h k) =
          let g = gr ks k in
          record {
            tree = Single (Own a) action g.tree;
            inserted = single g.inserted;
            right = (q, g.right);
            same =
                ap (λ φ. without_ends (with_fate φ (instruction a []) (normal m (map_sequence without_origin g.tree)))) e
                ∙ (ap (λ l. item (instruction a []) no_sequences l) g.same
                ∙ ap (λ us. item (instruction a []) (sequences_without_ends us) (without_ends ks)) (none_edited h));
          }
      by_rest ts ks (stays y h k l) =
          absurd (no_contradiction (never_goes_on (role_of a.op.opcode)) y
          (action_role (role_of a.op.opcode) a.op.immediates action q.0 ∙ ap (λ φ. unreachable_after φ false) e))
  single_grown a action r q qs gr MakesUnreachable e js f =
      item_grown (Single a action r) (instruction a []) no_sequences no_items js f (λ ts ks rest. by_rest ts ks rest)
    where
      by_rest : (ts : Sequences Head Instruction) (ks : Items Head Instruction) → Rest (never_goes_on (role_of a.op.opcode)) no_items ks no_sequences ts
          → Grown (Single a action r) (item (instruction a []) ts ks)
      by_rest ts ks (goes y h k) =
          absurd (no_contradiction (never_goes_on (role_of a.op.opcode))
          (action_role (role_of a.op.opcode) a.op.immediates action q.0 ∙ ap (λ φ. unreachable_after φ false) e) y)
      by_rest ts ks (stays y h k l) = record {
        tree = Single (Own a) action (map_sequence Own r);
        inserted = single (own_inserted r);
        right = (q, each_mapped IsRightOrigin Own r qs);
        same =
            ap (λ φ. without_ends (with_fate φ (instruction a []) (normal m (map_sequence without_origin (map_sequence Own r))))) e
            ∙ (ap (λ us. item (instruction a []) (sequences_without_ends us) no_items) (sym l)
            ∙ ap (λ z. item (instruction a []) (sequences_without_ends ts) (without_ends z)) (sym k));
      }

  -- a construct: the parts are made by `build`
  construct_grown : (s : Sequence Named) (a : Named) (cs : List LegacyClause) (k : Construct) (ss : Sequences Head Instruction) (r : Sequence Named)
      → IsRight a (Opens k) → Grows r
      → ((ts : Sequences Head Instruction) (ks : Items Head Instruction) → EditedSequences ss ts → Grown r ks → Grown s (item (instruction a cs) ts ks))
      → (js : Items Head Instruction) → EditedItems (item (instruction a cs) ss (normal m r)) js → Grown s js
  construct_grown s a cs k ss r q gr build js f =
      item_grown s (instruction a cs) ss (normal m r) js f (λ ts ks rest. by_rest ts ks rest)
    where
      by_rest : (ts : Sequences Head Instruction) (ks : Items Head Instruction) → Rest (never_goes_on (role_of a.op.opcode)) (normal m r) ks ss ts
          → Grown s (item (instruction a cs) ts ks)
      by_rest ts ks (goes y h f') = build ts ks h (gr ks f')
      by_rest ts ks (stays y h f' l) =
          absurd (no_contradiction (never_goes_on (role_of a.op.opcode)) y (opens_role (role_of a.op.opcode) a.op.immediates k q.0))

  -- ---- lists of sequences that are the same, the ends apart

  same_item : (i : Instruction) (us vs : Sequences InstrSeqType Instruction) (ks ls : Items InstrSeqType Instruction) → us ≡ vs → ks ≡ ls
      → item i us ks ≡ item i vs ls
  same_item i us vs ks ls h k = ap (λ z. item i z ks) h ∙ ap (λ z. item i vs z) k

  same_sequence : (h : Head) (is : Items InstrSeqType Instruction) (us : Sequences InstrSeqType Instruction) (x : Items Head Instruction)
      (xs ts : Sequences Head Instruction) → is ≡ without_ends x → us ≡ sequences_without_ends xs → sequence h x xs ≡ ts
      → sequence h.type is us ≡ sequences_without_ends ts
  same_sequence h is us x xs ts e f g =
      ap (λ z. sequence h.type z us) e ∙ (ap (λ z. sequence h.type (without_ends x) z) f ∙ ap sequences_without_ends g)

  record GrownClauses (o : NamedOperation) (cs : Clauses Named) (ts : Sequences Head Instruction) : Type 0 where
    pub tree : Clauses O
    pub inserted : ClausesInserted cs tree
    pub right : EachIn IsRightOrigin tree
    pub legacy : legacy_clauses (map_clauses without_origin tree) ≡ legacy_clauses cs
    pub same : sequences_without_ends (handler_sequences m o (map_clauses without_origin tree)) ≡ sequences_without_ends ts

  -- ---- constructs

  wrapped_grown : (a e : Named) (w : Wrapper) (b r : Sequence Named) → IsRight a (Opens (construct_of w)) → IsRight e End → Grows b → Grows r
      → Grows (Wrapped a w b e r)
  wrapped_grown a e w b r qa qe gb gr js f =
      let h : Head = head (construct_type m a.op) e.location in
      construct_grown (Wrapped a w b e r) a [] (construct_of w) (sequence h (normal m b) no_sequences) r qa gr
      (λ ts ks es g.
      let x = split es in
      let y = gb x.items x.first in
      record {
        tree = Wrapped (Own a) w y.tree (Own e) g.tree;
        inserted = wrapped y.inserted g.inserted;
        right = (qa, y.right, qe, g.right);
        same =
            same_item (instruction a []) (sequence h.type (marked_normal y.tree) no_sequences) (sequences_without_ends ts) (marked_normal g.tree) (without_ends ks)
            (same_sequence h (marked_normal y.tree) no_sequences x.items x.others ts y.same (ap sequences_without_ends (none_edited x.following)) x.is_list)
            g.same;
      })
      js f

  delegate_grown : (a e : Named) (n : ℕ) (b r : Sequence Named) → IsRight a (Opens Try) → IsRight e (Delegate n) → Grows b → Grows r
      → Grows (TryDelegate a b e n r)
  delegate_grown a e n b r qa qe gb gr js f =
      let h : Head = head (construct_type m a.op) default_location in
      construct_grown (TryDelegate a b e n r) a (delegates n ∷ []) Try (sequence h (normal m b) no_sequences) r qa gr
      (λ ts ks es g.
      let x = split es in
      let y = gb x.items x.first in
      record {
        tree = TryDelegate (Own a) y.tree (Own e) n g.tree;
        inserted = try_delegate y.inserted g.inserted;
        right = (qa, y.right, qe, g.right);
        same =
            same_item (instruction a (delegates n ∷ [])) (sequence h.type (marked_normal y.tree) no_sequences) (sequences_without_ends ts)
            (marked_normal g.tree) (without_ends ks)
            (same_sequence h (marked_normal y.tree) no_sequences x.items x.others ts y.same (ap sequences_without_ends (none_edited x.following)) x.is_list)
            g.same;
      })
      js f

  -- an `if` without `else` gets one if something is inserted into its alternative
  then_grown : (a e : Named) (b r : Sequence Named) → IsRight a (Opens If) → IsRight e End → (ts : Sequences Head Instruction) (ks bs : Items Head Instruction)
      → Grown b bs → Grown r ks → (cs : Items Head Instruction) → Grown Empty cs
      → sequence (construct_type m a.op) (without_ends bs) (sequence (construct_type m a.op) (without_ends cs) no_sequences) ≡ sequences_without_ends ts
      → Grown (IfThen a b e r) (item (instruction a []) ts ks)
  then_grown a e b r qa qe ts ks bs y g no_items z h =
      let t = construct_type m a.op in
      record {
        tree = IfThen (Own a) y.tree (Own e) g.tree;
        inserted = if_then y.inserted g.inserted;
        right = (qa, y.right, qe, g.right);
        same =
            same_item (instruction a []) (sequence t (marked_normal y.tree) (sequence t no_items no_sequences)) (sequences_without_ends ts) (marked_normal g.tree)
            (without_ends ks) (ap (λ l. sequence t l (sequence t no_items no_sequences)) y.same ∙ h) g.same;
      }
  then_grown a e b r qa qe ts ks bs y g (item i ss is) z h =
      let t = construct_type m a.op in
      record {
        tree = IfElse (Own a) y.tree (Added (else_at e.location)) z.tree (Own e) g.tree;
        inserted = added_else y.inserted z.inserted g.inserted;
        right = (qa, y.right, (refl, refl), z.right, qe, g.right);
        same =
            same_item (instruction a []) (sequence t (marked_normal y.tree) (sequence t (marked_normal z.tree) no_sequences)) (sequences_without_ends ts)
            (marked_normal g.tree) (without_ends ks)
            (ap (λ l. sequence t l (sequence t (marked_normal z.tree) no_sequences)) y.same
            ∙ (ap (λ l. sequence t (without_ends bs) (sequence t l no_sequences)) z.same ∙ h))
            g.same;
      }

  -- two sequences that are edited
  two_edited : (h k : Head) (is js : Items Head Instruction) (ts : Sequences Head Instruction) → (x : Split h is (sequence k js no_sequences) ts)
      → (y : Split k js no_sequences x.others)
      → sequence h.type (without_ends x.items) (sequence k.type (without_ends y.items) no_sequences) ≡ sequences_without_ends ts
  two_edited h k is js ts x y =
      same_sequence h (without_ends x.items) (sequence k.type (without_ends y.items) no_sequences) x.items x.others ts refl
      (same_sequence k (without_ends y.items) no_sequences y.items y.others x.others refl (ap sequences_without_ends (none_edited y.following)) y.is_list)
      x.is_list

  if_then_grown : (a e : Named) (b r : Sequence Named) → IsRight a (Opens If) → IsRight e End → Grows b → Grows r → Grows (IfThen a b e r)
  if_then_grown a e b r qa qe gb gr js f =
      let h : Head = head (construct_type m a.op) e.location in
      let k : Head = head (construct_type m a.op) default_location in
      construct_grown (IfThen a b e r) a [] If (sequence h (normal m b) (sequence k no_items no_sequences)) r qa gr
      (λ ts ks es g.
      let x = split es in
      let y = split x.following in
      then_grown a e b r qa qe ts ks x.items (gb x.items x.first) g y.items (empty_grown y.items y.first)
      (two_edited h k (normal m b) no_items ts x y))
      js f

  if_else_grown : (a l e : Named) (b c r : Sequence Named) → IsRight a (Opens If) → IsRight l Else → IsRight e End → Grows b → Grows c → Grows r
      → Grows (IfElse a b l c e r)
  if_else_grown a l e b c r qa ql qe gb gc gr js f =
      let h : Head = head (construct_type m a.op) l.location in
      let k : Head = head (construct_type m a.op) e.location in
      construct_grown (IfElse a b l c e r) a [] If (sequence h (normal m b) (sequence k (normal m c) no_sequences)) r qa gr
      (λ ts ks es g.
      let x = split es in
      let y = split x.following in
      let p = gb x.items x.first in
      let q = gc y.items y.first in
      record {
        tree = IfElse (Own a) p.tree (Own l) q.tree (Own e) g.tree;
        inserted = if_else p.inserted q.inserted g.inserted;
        right = (qa, p.right, ql, q.right, qe, g.right);
        same =
            same_item (instruction a []) (sequence h.type (marked_normal p.tree) (sequence k.type (marked_normal q.tree) no_sequences)) (sequences_without_ends ts)
            (marked_normal g.tree) (without_ends ks)
            (ap (λ z. sequence h.type z (sequence k.type (marked_normal q.tree) no_sequences)) p.same
            ∙ (ap (λ z. sequence h.type (without_ends x.items) (sequence k.type z no_sequences)) q.same ∙ two_edited h k (normal m b) (normal m c) ts x y))
            g.same;
      })
      js f

  try_grown : (a : Named) (b : Sequence Named) (cs : Clauses Named) (r : Sequence Named) → IsRight a (Opens Try) → Grows b
      → ((ts : Sequences Head Instruction) → EditedSequences (handler_sequences m a.op cs) ts → GrownClauses a.op cs ts) → Grows r → Grows (TryCatch a b cs r)
  try_grown a b cs r qa gb gcs gr js f =
      let h : Head = head (construct_type m a.op) (closed_at cs) in
      construct_grown (TryCatch a b cs r) a (legacy_clauses cs) Try (sequence h (normal m b) (handler_sequences m a.op cs)) r qa gr
      (λ ts ks es g.
      let x = split es in
      let y = gb x.items x.first in
      let z = gcs x.others x.following in
      let us = sequences_without_ends (handler_sequences m a.op (map_clauses without_origin z.tree)) in
      record {
        tree = TryCatch (Own a) y.tree z.tree g.tree;
        inserted = try_catch y.inserted z.inserted g.inserted;
        right = (qa, y.right, z.right, g.right);
        same =
            ap (λ l. item (instruction a l) (sequence h.type (marked_normal y.tree) us) (marked_normal g.tree)) z.legacy
            ∙ same_item (instruction a (legacy_clauses cs)) (sequence h.type (marked_normal y.tree) us) (sequences_without_ends ts) (marked_normal g.tree)
            (without_ends ks) (same_sequence h (marked_normal y.tree) us x.items x.others ts y.same z.same x.is_list) g.same;
      })
      js f

  mutual
    grow : (s : Sequence Named) → Each IsRight s → Grows s
    grow Empty h js f = empty_grown js f
    grow (Single a action r) h js f = single_grown a action r h.0 h.1 (λ js f. grow r h.1 js f) (fate action) refl js f
    grow (Wrapped a w b e r) h js f = wrapped_grown a e w b r h.0 h.2 (λ js f. grow b h.1 js f) (λ js f. grow r h.3 js f) js f
    grow (IfThen a b e r) h js f = if_then_grown a e b r h.0 h.2 (λ js f. grow b h.1 js f) (λ js f. grow r h.3 js f) js f
    grow (IfElse a b l c e r) h js f =
        if_else_grown a l e b c r h.0 h.2 h.4 (λ js f. grow b h.1 js f) (λ js f. grow c h.3 js f) (λ js f. grow r h.5 js f) js f
    grow (TryCatch a b cs r) h js f =
        try_grown a b cs r h.0 (λ js f. grow b h.1 js f) (λ ts f. grow_clauses a.op cs h.2 ts f) (λ js f. grow r h.3 js f) js f
    grow (TryDelegate a b e n r) h js f = delegate_grown a e n b r h.0 h.2 (λ js f. grow b h.1 js f) (λ js f. grow r h.3 js f) js f

    grow_clauses : (o : NamedOperation) (cs : Clauses Named) → EachIn IsRight cs → (ts : Sequences Head Instruction)
        → EditedSequences (handler_sequences m o cs) ts → GrownClauses o cs ts
    grow_clauses o (Ended e) h ts f =
        record { tree = Ended (Own e); inserted = ended; right = h; legacy = refl; same = ap sequences_without_ends (none_edited f) }
    grow_clauses o (Catches a t b cs) h ts f =
        let x = split f in
        let y = grow b h.1 x.items x.first in
        let z = grow_clauses o cs h.2 x.others x.following in
        record {
          tree = Catches (Own a) t y.tree z.tree;
          inserted = catches_one y.inserted z.inserted;
          right = (h.0, y.right, z.right);
          legacy = ap (λ l. handles t ∷ l) z.legacy;
          same =
              same_sequence (head (handler_type m o (m.tag_parameters t)) (closed_at cs)) (marked_normal y.tree)
              (sequences_without_ends (handler_sequences m o (map_clauses without_origin z.tree))) x.items x.others ts y.same z.same x.is_list;
        }
    grow_clauses o (CatchesAll a b e) h ts f =
        let x = split f in
        let y = grow b h.1 x.items x.first in
        record {
          tree = CatchesAll (Own a) y.tree (Own e);
          inserted = catches_all y.inserted;
          right = (h.0, y.right, h.2);
          legacy = refl;
          same =
              same_sequence (head (handler_type m o []) e.location) (marked_normal y.tree) no_sequences x.items x.others ts y.same
              (ap sequences_without_ends (none_edited x.following)) x.is_list;
        }

  -- ---- bodies

  pub right_marks : (xs : List Named) → AreTyped m xs → AllMarked IsRight (map mark_named xs)
  right_marks [] h = tt
  right_marks (x ∷ xs) h = ((refl, h.0), right_marks xs h.1)

  pub typed_marks : (xs : List (Marked Named)) → AllMarked IsRight xs → AreTyped m (map (λ x. x.shown) xs)
  typed_marks [] h = tt
  typed_marks (x ∷ xs) h = (h.0.1, typed_marks xs h.1)

-- operators that form a body with insertions, whose normal form has these items
pub record Edited (m : Typing) (b : Body Named) (js : Items Head Instruction) : Type 0 where
  pub operators : List Named
  pub body : Body (Origin Named Named)
  pub inserted : InsertedBody b body
  pub is_text : IsInsertedText operators body
  pub typed : AreTyped m operators
  pub close : body.close ≡ Own b.close
  pub same : without_ends (normal m (map_sequence without_origin body.sequence)) ≡ without_ends js

pub edited : (m : Typing) (xs : List Named) (b : Body Named) → IsNamedBody xs b → AreTyped m xs → (js : Items Head Instruction)
    → EditedItems (normal m b.sequence) js → Edited m b js
edited m xs b hx typed js f =
    let h = each_of (IsRight m) b.sequence (with_control b.close End ∷ []) (subst (AllMarked (IsRight m)) hx (right_marks m xs typed)) in
    let g = grow m b.sequence h.0 js f in
    let c : Body (Origin Named Named) = record { sequence = g.tree; close = Own b.close } in
    let d : Body Named = map_body without_origin c in
    let right = each_mapped (IsRight m) without_origin g.tree g.right in
    record {
      operators = map (λ x. x.shown) (body_text d);
      body = c;
      inserted = record { sequence = g.inserted; close = refl };
      is_text =
          is_body d (weaker (IsRight m) HasControl (λ a k q. q.0) d.sequence right) h.1.0.0
          ∙ text_mapped without_origin g.tree (with_control (Own b.close) End ∷ []);
      typed = typed_marks m (body_text d) (all_of_each (IsRight m) d.sequence (with_control d.close End ∷ []) right (h.1.0, tt));
      close = refl;
      same = g.same;
    }
