-- The rules of the standard are alike in functions whose locals differ: none but those of `local.get`, `local.set` and `local.tee` looks at a
-- local.
use Rattle.std.proofs.Common.{◌≡◌, ℕ, zero, suc, List, [], ◌∷◌, ◌++◌, length, map, reverse, Bool, true, false, Option, Some, None, Result, Ok, Err, refl, sym, ap, ◌∙◌, subst, inl, inr, eq-eqb}
use Rattle.std.specs.Prelude.{◌&&◌, ◌||◌, ◌==◌, nat_le, nat_lt, if◌then◌else◌, slice_get, is_some}
use Rattle.std.specs.List.{AllByRecursion, list_any, list_all}
use Rattle.std.specs.Result.{result_ok}
use Rattle.std.proofs.lemmas.Bool.Decides.{eqb_tells}
use Rattle.wasm_types.specs.declared.val_type.AbstractHeapType.{AbstractHeapType}
use Rattle.wasm_types.specs.declared.val_type.AbstractHeapType.TheVariants as abstract
use Rattle.wasm_types.specs.declared.val_type.HeapType.{HeapType}
use Rattle.wasm_types.specs.declared.val_type.HeapType.TheVariants.{Abstract, Concrete}
use Rattle.wasm_types.specs.declared.val_type.RefType.{RefType}
use Rattle.wasm_types.specs.declared.val_type.ValType.{ValType}
use Rattle.wasm_types.specs.declared.val_type.ValType.TheVariants.{I32, I64, F32, F64, V128, Ref}
use Rattle.walrus_ir.specs.Types.{Signature, same_bool}
use Rattle.wasm_numbers.specs.Results.{◌>>=◌}
use Rattle.wasm_operators.specs.declared.types.Opcode.{Opcode}
use Rattle.wasm_operators.specs.declared.types.Opcode.TheVariants.{Byte, Prefixed}
use Rattle.wasm_operators.specs.Opcodes.{range_at}
use Rattle.wasm_operators.specs.Operations.{Immediate, index, local, number, access, heap, value, lane, lanes, cast}
use Rattle.wasm_operators.specs.Types.{row_at}
use Rattle.wasm_body.specs.LocalNumbers.{locals_among}
use Rattle.wasm_body.specs.Validity.{Unknown, Known, Point, Change, Checked, demand, required, set_locals}
use Rattle.wasm_body.specs.ValidityLaws.{KnownOperand, of_type, of_reference}
use Rattle.wasm_typing.specs.Contexts.{StorageType, Unpacked, FieldType, OperandContext, contains, function_type_in, struct_type, array_type, unpacked, is_packed, has_default}
use Rattle.wasm_typing.specs.Matching.{supertype_of, supertypes, first_of, matches_null, matches_heap, matches_reference, matches_value, matches_values, matches_storage, matches_known, is_valid_heap, is_valid_value, top_heap, difference}
use Rattle.wasm_typing.specs.Operands.{InstructionType, ◌⟶◌, Operands, leaving, push_operands, pop_operand, pop_each_operand, pop_operands, typed, pop_any, pop_reference, not_null, may_be_number, one_of, with_operand_list}
use Rattle.wasm_typing.specs.Rules.{Rule, by_type, by_point, fixed, of_index, of_indices, of_index_and_number, of_local, of_heap, ref, ref_null, dropped, selected_type, selected_of, call, call_ref, call_indirect, local_get, local_set, local_tee, global_get, global_set, table_get, table_set, table_size, table_grow, table_fill, table_copy, table_init, elem_drop, accessed, accesses, accesses_lane, memory_size, memory_grow, memory_fill, memory_copy, data_segment, memory_init, data_drop, null_reference, function_reference, is_null, as_non_null, top_reference, reference_test, reference_cast, converted, struct_new, struct_new_default, struct_get, struct_set, array_new, array_new_default, array_new_fixed, from_data, from_elements, array_new_from, array_get, array_set, array_fill, array_copy, array_init_from, at_lane, at_lanes}
use Rattle.wasm_typing.specs.RuleTable.{Row, Width, width_at, rule_of, prefixed_rule, byte_rules, aggregate_rules, bulk_rules, vector_rules, atomic_rules}
use Rattle.wasm_typing.specs.StandardRules.{by_rule, plain_change, ConditionalRule, branch_if, branch_on_null, branch_on_non_null, branch_on_cast, branch_on_cast_fail, branch_on_reference, is_cast, label_parts, reference_type, cast_branches, conditional_rule, conditional_change, TailRule, tail_rule, tail_change, standard_rules}
use Rattle.renamed_locals.specs.RenamedLocals.{renamed_immediate, renamed, context_with_locals, RenamedStayValid}
use Rattle.renamed_locals.proofs.RulesAlike.{Like, like_bind, like_same, moved, SameSet, ChangeAlike, RulesAlike, valid_alike}

-- what holds of a row, and what holds of those after it
infixr 20 ◌⨾◌
abbrev ◌⨾◌ : {A B : Type 0} → A → B → A × B
a ⨾ b = (a, b)

after_alike : {X Y E : Type 0} (g h : X → Result Y E) → ((x : X) → g x ≡ h x) → (r : Result X E) → (r >>= g) ≡ (r >>= h)
after_alike g h e (Ok x) = e x
after_alike g h e (Err d) = refl

module _ (c : OperandContext) (locals : List (ValType ℕ)) where
  abbrev d : OperandContext
  d = context_with_locals c locals

  -- ---- matching

  same_supertypes : (n : ℕ) (id : Option ℕ) → supertypes d n id ≡ supertypes c n id
  same_supertypes zero id = refl
  same_supertypes (suc n) None = refl
  same_supertypes (suc n) (Some id) = ap (λ xs. id ∷ xs) (same_supertypes n (supertype_of c id))

  same_heap : (g h : HeapType ℕ) → matches_heap d g h ≡ matches_heap c g h
  same_heap (Abstract a) (Abstract b) = refl
  same_heap (Concrete m) (Abstract b) = refl
  same_heap (Abstract a) (Concrete n) = refl
  same_heap (Concrete m) (Concrete n) = ap (list_any (λ id. first_of c id == first_of c n)) (same_supertypes (suc (length c.types)) (Some m))

  same_reference : (a b : RefType ℕ) → matches_reference d a b ≡ matches_reference c a b
  same_reference a b = ap (λ x. matches_null a.nullable b.nullable && x) (same_heap a.heap_type b.heap_type)

  same_value : (t u : ValType ℕ) → matches_value d t u ≡ matches_value c t u
  same_value (Ref a) (Ref b) = same_reference a b
  same_value _ _ = refl

  same_values : (ts us : List (ValType ℕ)) → matches_values d ts us ≡ matches_values c ts us
  same_values [] [] = refl
  same_values [] (u ∷ us) = refl
  same_values (t ∷ ts) [] = refl
  same_values (t ∷ ts) (u ∷ us) = ap (λ b. b && matches_values d ts us) (same_value t u) ∙ ap (λ b. matches_value c t u && b) (same_values ts us)

  same_storage : (s t : StorageType) → matches_storage d s t ≡ matches_storage c s t
  same_storage (Unpacked t) (Unpacked u) = same_value t u
  same_storage _ _ = refl

  same_known : (x : KnownOperand) (u : ValType ℕ) → matches_known d x u ≡ matches_known c x u
  same_known (of_type t) u = same_value t u
  same_known (of_reference b) (Ref r) = refl
  same_known (of_reference b) _ = refl

  valid_heap : (h : HeapType ℕ) → is_valid_heap d h ≡ is_valid_heap c h
  valid_heap (Abstract a) = refl
  valid_heap (Concrete n) = refl

  valid_value : (t : ValType ℕ) → is_valid_value d t ≡ is_valid_value c t
  valid_value (Ref r) = valid_heap r.heap_type
  valid_value _ = refl

  same_top : (h : HeapType ℕ) → top_heap d h ≡ top_heap c h
  same_top (Abstract a) = refl
  same_top (Concrete n) = refl

  -- ---- operands

  same_operand : (b : Bool) (t : ValType ℕ) (xs : Operands) → pop_operand d b t xs ≡ pop_operand c b t xs
  same_operand b t [] = refl
  same_operand b t (Unknown ∷ xs) = refl
  same_operand b t (Known x ∷ xs) = ap (λ a. demand a >>= λ u. Ok xs) (same_known x t)

  same_each : (b : Bool) (ts : List (ValType ℕ)) (xs : Operands) → pop_each_operand d b ts xs ≡ pop_each_operand c b ts xs
  same_each b [] xs = refl
  same_each b (t ∷ ts) xs =
      ap (λ r. r >>= pop_each_operand d b ts) (same_operand b t xs) ∙ after_alike (pop_each_operand d b ts) (pop_each_operand c b ts) (same_each b ts) (pop_operand c b t xs)

  same_pops : (b : Bool) (ts : List (ValType ℕ)) (xs : Operands) → pop_operands d b ts xs ≡ pop_operands c b ts xs
  same_pops b ts xs = same_each b (reverse ts) xs

  module _ (Used : ℕ → Type 0) (f : ℕ → ℕ) where
    abbrev Set : List ℕ → List ℕ → Type 0
    Set ls ks = SameSet Used f ls ks

    abbrev Alike : Change KnownOperand → Change KnownOperand → Type 0
    Alike k j = ChangeAlike Used f k j

    abbrev over : List (Immediate ℕ Signature) → List (Immediate ℕ Signature)
    over is = map (renamed_immediate f) is

    abbrev Initialise : (a b : List ℕ) → Type 0
    Initialise a b = (ls ks : List ℕ) → Set ls ks → Set (set_locals a ls) (set_locals b ks)

    none : Initialise [] []
    none ls ks s = s

    same_change : (xs : Operands) → Alike (leaving xs) (leaving xs)
    same_change xs = record { operands = refl; initialises = none }

    typed_like : (ts us : List (ValType ℕ)) (a b : List ℕ) → Initialise a b → (p : Point KnownOperand) (ks : List ℕ)
        → Like Alike (typed c (record { takes = ts; gives = us; initialises = a }) p) (typed d (record { takes = ts; gives = us; initialises = b }) (moved ks p))
    typed_like ts us a b h p ks =
        subst (λ r. Like Alike (typed c (record { takes = ts; gives = us; initialises = a }) p) (r >>= λ xs. Ok (record { operands = push_operands us xs; initialises = b })))
        (sym (same_pops p.unreachable ts p.operands))
        (like_same Alike (pop_operands c p.unreachable ts p.operands) (λ xs. Ok (record { operands = push_operands us xs; initialises = a })) (λ xs. Ok (record { operands = push_operands us xs; initialises = b }))
        (λ xs. record { operands = refl; initialises = h }))

    -- a type that initialises nothing
    abbrev SameType : InstructionType → InstructionType → Type 0
    SameType t u = (u ≡ t) × (t.initialises ≡ [])

    quiet_like : (t u : InstructionType) → SameType t u → (p : Point KnownOperand) (ks : List ℕ) → Like Alike (typed c t p) (typed d u (moved ks p))
    quiet_like t u e p ks =
        subst (λ x. Like Alike (typed c t p) (typed d x (moved ks p))) (sym e.0)
        (subst (λ a. Like Alike (typed c (record { takes = t.takes; gives = t.gives; initialises = a }) p) (typed d (record { takes = t.takes; gives = t.gives; initialises = a }) (moved ks p))) (sym e.1)
        (typed_like t.takes t.gives [] [] none p ks))

    -- ---- rules

    abbrev Fair : Rule → Type 0
    Fair rule =
        (is : List (Immediate ℕ Signature)) → AllByRecursion Used (locals_among is) → (p : Point KnownOperand) (ks : List ℕ) → Set p.initialised ks →
        Like Alike (by_rule c rule is p) (by_rule d rule (over is) (moved ks p))

    abbrev FairRow : Row → Type 0
    FairRow None = Unit {0}
    FairRow (Some rule) = Fair rule

    abbrev FairType : (OperandContext → List (Immediate ℕ Signature) → Checked InstructionType) → Type 0
    FairType rule = (is : List (Immediate ℕ Signature)) → Like SameType (rule c is) (rule d (over is))

    by_types : (rule : OperandContext → List (Immediate ℕ Signature) → Checked InstructionType) → FairType rule → Fair (by_type rule)
    by_types rule h is u p ks s =
        like_bind SameType Alike (rule c is) (rule d (over is)) (λ t. typed c t p) (λ t. typed d t (moved ks p)) (h is) (λ t v e. quiet_like t v e p ks)

    fixes : (ts us : List (ValType ℕ)) → Fair (fixed ts us)
    fixes ts us = by_types (λ e is. Ok (ts ⟶ us)) (λ is. (refl, refl))

    access_type : (exact : Bool) (exponent : ℕ) (ts us : List (ValType ℕ)) → FairType (accesses exact exponent ts us)
    access_type exact exponent ts us (access a ∷ []) = like_same SameType (accessed exact exponent c a) _ _ (λ at. (refl, refl))
    access_type exact exponent ts us _ = tt

    accessing : (exact : Bool) (exponent : ℕ) (ts us : List (ValType ℕ)) → Fair (by_type (accesses exact exponent ts us))
    accessing exact exponent ts us = by_types (accesses exact exponent ts us) (access_type exact exponent ts us)

    lane_type : (exponent bound : ℕ) (ts us : List (ValType ℕ)) → FairType (accesses_lane exponent bound ts us)
    lane_type exponent bound ts us (access a ∷ lane n ∷ []) = like_same SameType (accessed false exponent c a) _ _ (λ at. like_same SameType (demand (nat_lt n bound)) _ _ (λ u. (refl, refl)))
    lane_type exponent bound ts us _ = tt

    lane_access : (exponent bound : ℕ) (ts us : List (ValType ℕ)) → Fair (by_type (accesses_lane exponent bound ts us))
    lane_access exponent bound ts us = by_types (accesses_lane exponent bound ts us) (lane_type exponent bound ts us)

    one_lane : (bound : ℕ) (ts us : List (ValType ℕ)) → FairType (at_lane bound ts us)
    one_lane bound ts us (lane n ∷ []) = like_same SameType (demand (nat_lt n bound)) _ _ (λ u. (refl, refl))
    one_lane bound ts us _ = tt

    lanes_at : (bound : ℕ) (ts us : List (ValType ℕ)) → Fair (by_type (at_lane bound ts us))
    lanes_at bound ts us = by_types (at_lane bound ts us) (one_lane bound ts us)

    lanes_type : (ts us : List (ValType ℕ)) → FairType (at_lanes ts us)
    lanes_type ts us (lanes ns ∷ []) = like_same SameType (demand (list_all (λ n. nat_lt n 32) ns)) _ _ (λ u. (refl, refl))
    lanes_type ts us _ = tt

    all_lanes : (ts us : List (ValType ℕ)) → Fair (by_type (at_lanes ts us))
    all_lanes ts us = by_types (at_lanes ts us) (lanes_type ts us)

    -- ---- of indices

    index_type : (g : OperandContext → ℕ → Checked InstructionType) → ((n : ℕ) → Like SameType (g c n) (g d n)) → FairType (of_index g)
    index_type g h (index space n ∷ []) = h n
    index_type g h _ = tt

    indices_type : (g : OperandContext → ℕ → ℕ → Checked InstructionType) → ((n k : ℕ) → Like SameType (g c n k) (g d n k)) → FairType (of_indices g)
    indices_type g h (index space n ∷ index other k ∷ []) = h n k
    indices_type g h _ = tt

    number_type : (g : OperandContext → ℕ → ℕ → Checked InstructionType) → ((n k : ℕ) → Like SameType (g c n k) (g d n k)) → FairType (of_index_and_number g)
    number_type g h (index space n ∷ number k ∷ []) = h n k
    number_type g h _ = tt

    heap_type : (g : OperandContext → HeapType ℕ → Checked InstructionType) → ((h : HeapType ℕ) → Like SameType (g c h) (g d h)) → FairType (of_heap g)
    heap_type g h (heap t ∷ []) = h t
    heap_type g h _ = tt

    by_index : (g : OperandContext → ℕ → Checked InstructionType) → ((n : ℕ) → Like SameType (g c n) (g d n)) → Fair (by_type (of_index g))
    by_index g h = by_types (of_index g) (index_type g h)

    by_indices : (g : OperandContext → ℕ → ℕ → Checked InstructionType) → ((n k : ℕ) → Like SameType (g c n k) (g d n k)) → Fair (by_type (of_indices g))
    by_indices g h = by_types (of_indices g) (indices_type g h)

    by_number : (g : OperandContext → ℕ → ℕ → Checked InstructionType) → ((n k : ℕ) → Like SameType (g c n k) (g d n k)) → Fair (by_type (of_index_and_number g))
    by_number g h = by_types (of_index_and_number g) (number_type g h)

    by_heap : (g : OperandContext → HeapType ℕ → Checked InstructionType) → ((h : HeapType ℕ) → Like SameType (g c h) (g d h)) → Fair (by_type (of_heap g))
    by_heap g h = by_types (of_heap g) (heap_type g h)

    abbrev Q : {X : Type 0} → (a : Checked X) (k l : X → Checked InstructionType) → ((x : X) → Like SameType (k x) (l x)) → Like SameType (a >>= k) (a >>= l)
    Q a k l h = like_same SameType a k l h

    tests : (b e : Bool) → b ≡ e → (k l : Unit {0} → Checked InstructionType) → ((u : Unit {0}) → Like SameType (k u) (l u)) → Like SameType (demand e >>= k) (demand b >>= l)
    tests b e same k l h = subst (λ x. Like SameType (demand e >>= k) (demand x >>= l)) (sym same) (like_same SameType (demand e) k l h)

    call_fair : Fair (by_type (of_index call))
    call_fair = by_index call (λ x. Q (required (slice_get c.functions x)) _ _ λ type. Q (function_type_in c type) _ _ λ s. (refl, refl))

    call_ref_fair : Fair (by_type (of_index call_ref))
    call_ref_fair = by_index call_ref (λ x. Q (function_type_in c x) _ _ λ s. (refl, refl))

    call_indirect_there : (x y : ℕ) → Like SameType (call_indirect c x y) (call_indirect d x y)
    call_indirect_there x y =
        Q (required (slice_get c.tables y)) _ _ λ t.
        tests (matches_reference d t.element (record { nullable = true; heap_type = Abstract abstract.Func })) (matches_reference c t.element (record { nullable = true; heap_type = Abstract abstract.Func }))
        (same_reference t.element (record { nullable = true; heap_type = Abstract abstract.Func })) _ _ λ u. Q (function_type_in c x) _ _ λ s. (refl, refl)

    call_indirect_fair : Fair (by_type (of_indices call_indirect))
    call_indirect_fair = by_indices call_indirect call_indirect_there

    global_get_fair : Fair (by_type (of_index global_get))
    global_get_fair = by_index global_get (λ x. Q (required (slice_get c.globals x)) _ _ λ g. (refl, refl))

    global_set_fair : Fair (by_type (of_index global_set))
    global_set_fair = by_index global_set (λ x. Q (required (slice_get c.globals x)) _ _ λ g. Q (demand g.mutable) _ _ λ u. (refl, refl))

    table_get_fair : Fair (by_type (of_index table_get))
    table_get_fair = by_index table_get (λ x. Q (required (slice_get c.tables x)) _ _ λ t. (refl, refl))

    table_set_fair : Fair (by_type (of_index table_set))
    table_set_fair = by_index table_set (λ x. Q (required (slice_get c.tables x)) _ _ λ t. (refl, refl))

    table_size_fair : Fair (by_type (of_index table_size))
    table_size_fair = by_index table_size (λ x. Q (required (slice_get c.tables x)) _ _ λ t. (refl, refl))

    table_grow_fair : Fair (by_type (of_index table_grow))
    table_grow_fair = by_index table_grow (λ x. Q (required (slice_get c.tables x)) _ _ λ t. (refl, refl))

    table_fill_fair : Fair (by_type (of_index table_fill))
    table_fill_fair = by_index table_fill (λ x. Q (required (slice_get c.tables x)) _ _ λ t. (refl, refl))

    elem_drop_fair : Fair (by_type (of_index elem_drop))
    elem_drop_fair = by_index elem_drop (λ x. Q (required (slice_get c.elements x)) _ _ λ r. (refl, refl))

    memory_size_fair : Fair (by_type (of_index memory_size))
    memory_size_fair = by_index memory_size (λ x. Q (required (slice_get c.memories x)) _ _ λ a. (refl, refl))

    memory_grow_fair : Fair (by_type (of_index memory_grow))
    memory_grow_fair = by_index memory_grow (λ x. Q (required (slice_get c.memories x)) _ _ λ a. (refl, refl))

    memory_fill_fair : Fair (by_type (of_index memory_fill))
    memory_fill_fair = by_index memory_fill (λ x. Q (required (slice_get c.memories x)) _ _ λ a. (refl, refl))

    memory_copy_fair : Fair (by_type (of_indices memory_copy))
    memory_copy_fair = by_indices memory_copy (λ x y. Q (required (slice_get c.memories x)) _ _ λ a. Q (required (slice_get c.memories y)) _ _ λ b. (refl, refl))

    memory_init_fair : Fair (by_type (of_indices memory_init))
    memory_init_fair = by_indices memory_init (λ y x. Q (required (slice_get c.memories x)) _ _ λ a. Q (data_segment c y) _ _ λ u. (refl, refl))

    data_drop_fair : Fair (by_type (of_index data_drop))
    data_drop_fair = by_index data_drop (λ x. Q (data_segment c x) _ _ λ u. (refl, refl))

    function_reference_fair : Fair (by_type (of_index function_reference))
    function_reference_fair = by_index function_reference (λ x. Q (required (slice_get c.functions x)) _ _ λ t. Q (demand (contains x c.referenced)) _ _ λ u. (refl, refl))

    struct_new_fair : Fair (by_type (of_index struct_new))
    struct_new_fair = by_index struct_new (λ x. Q (struct_type c x) _ _ λ fs. (refl, refl))

    struct_new_default_fair : Fair (by_type (of_index struct_new_default))
    struct_new_default_fair = by_index struct_new_default (λ x. Q (struct_type c x) _ _ λ fs. Q (demand (list_all (λ f. has_default (unpacked f.storage)) fs)) _ _ λ u. (refl, refl))

    struct_get_false_fair : Fair (by_type (of_index_and_number (struct_get false)))
    struct_get_false_fair = by_number (struct_get false) (λ x y. Q (struct_type c x) _ _ λ fs. Q (required (slice_get fs y)) _ _ λ g. Q (demand (same_bool (is_packed g.storage) false)) _ _ λ u. (refl, refl))

    struct_get_true_fair : Fair (by_type (of_index_and_number (struct_get true)))
    struct_get_true_fair = by_number (struct_get true) (λ x y. Q (struct_type c x) _ _ λ fs. Q (required (slice_get fs y)) _ _ λ g. Q (demand (same_bool (is_packed g.storage) true)) _ _ λ u. (refl, refl))

    struct_set_fair : Fair (by_type (of_index_and_number struct_set))
    struct_set_fair = by_number struct_set (λ x y. Q (struct_type c x) _ _ λ fs. Q (required (slice_get fs y)) _ _ λ g. Q (demand g.mutable) _ _ λ u. (refl, refl))

    array_new_fair : Fair (by_type (of_index array_new))
    array_new_fair = by_index array_new (λ x. Q (array_type c x) _ _ λ g. (refl, refl))

    array_new_default_fair : Fair (by_type (of_index array_new_default))
    array_new_default_fair = by_index array_new_default (λ x. Q (array_type c x) _ _ λ g. Q (demand (has_default (unpacked g.storage))) _ _ λ u. (refl, refl))

    array_new_fixed_fair : Fair (by_type (of_index_and_number array_new_fixed))
    array_new_fixed_fair = by_number array_new_fixed (λ x y. Q (array_type c x) _ _ λ g. (refl, refl))

    array_get_false_fair : Fair (by_type (of_index (array_get false)))
    array_get_false_fair = by_index (array_get false) (λ x. Q (array_type c x) _ _ λ g. Q (demand (same_bool (is_packed g.storage) false)) _ _ λ u. (refl, refl))

    array_get_true_fair : Fair (by_type (of_index (array_get true)))
    array_get_true_fair = by_index (array_get true) (λ x. Q (array_type c x) _ _ λ g. Q (demand (same_bool (is_packed g.storage) true)) _ _ λ u. (refl, refl))

    array_set_fair : Fair (by_type (of_index array_set))
    array_set_fair = by_index array_set (λ x. Q (array_type c x) _ _ λ g. Q (demand g.mutable) _ _ λ u. (refl, refl))

    array_fill_fair : Fair (by_type (of_index array_fill))
    array_fill_fair = by_index array_fill (λ x. Q (array_type c x) _ _ λ g. Q (demand g.mutable) _ _ λ u. (refl, refl))

    array_new_from_from_data_fair : Fair (by_type (of_indices (array_new_from from_data)))
    array_new_from_from_data_fair = by_indices (array_new_from from_data) (λ x y. Q (array_type c x) _ _ λ g. Q (from_data c g y) _ _ λ u. (refl, refl))

    array_init_from_from_data_fair : Fair (by_type (of_indices (array_init_from from_data)))
    array_init_from_from_data_fair = by_indices (array_init_from from_data) (λ x y. Q (array_type c x) _ _ λ g. Q (demand g.mutable) _ _ λ v. Q (from_data c g y) _ _ λ u. (refl, refl))

    table_copy_fair : Fair (by_type (of_indices table_copy))
    table_copy_fair =
        by_indices table_copy (λ x y. Q (required (slice_get c.tables x)) _ _ λ t. Q (required (slice_get c.tables y)) _ _ λ s.
        tests (matches_reference d s.element t.element) (matches_reference c s.element t.element) (same_reference s.element t.element) _ _ λ u. (refl, refl))

    table_init_fair : Fair (by_type (of_indices table_init))
    table_init_fair =
        by_indices table_init (λ y x. Q (required (slice_get c.tables x)) _ _ λ t. Q (required (slice_get c.elements y)) _ _ λ r.
        tests (matches_reference d r t.element) (matches_reference c r t.element) (same_reference r t.element) _ _ λ u. (refl, refl))

    array_copy_fair : Fair (by_type (of_indices array_copy))
    array_copy_fair =
        by_indices array_copy (λ x y. Q (array_type c x) _ _ λ g. Q (array_type c y) _ _ λ h. Q (demand g.mutable) _ _ λ u.
        tests (matches_storage d h.storage g.storage) (matches_storage c h.storage g.storage) (same_storage h.storage g.storage) _ _ λ v. (refl, refl))

    same_elements : (g : FieldType) (y : ℕ) → from_elements d g y ≡ from_elements c g y
    same_elements g y =
        after_alike (λ r. demand (matches_storage d (Unpacked (Ref r)) g.storage)) (λ r. demand (matches_storage c (Unpacked (Ref r)) g.storage)) (λ r. ap demand (same_storage (Unpacked (Ref r)) g.storage))
        (required (slice_get c.elements y))

    after_elements : (g : FieldType) (y : ℕ) (t : InstructionType) → t.initialises ≡ [] → Like SameType (from_elements c g y >>= λ u. Ok t) (from_elements d g y >>= λ u. Ok t)
    after_elements g y t e =
        subst (λ r. Like SameType (from_elements c g y >>= λ u. Ok t) (r >>= λ u. Ok t)) (sym (same_elements g y)) (like_same SameType (from_elements c g y) (λ u. Ok t) (λ u. Ok t) (λ u. (refl, e)))

    array_new_from_from_elements_fair : Fair (by_type (of_indices (array_new_from from_elements)))
    array_new_from_from_elements_fair =
        by_indices (array_new_from from_elements) (λ x y. Q (array_type c x) _ _ λ g. after_elements g y (I32 ∷ I32 ∷ [] ⟶ ref (Concrete x) ∷ []) refl)

    array_init_from_from_elements_fair : Fair (by_type (of_indices (array_init_from from_elements)))
    array_init_from_from_elements_fair =
        by_indices (array_init_from from_elements) (λ x y. Q (array_type c x) _ _ λ g. Q (demand g.mutable) _ _ λ v. after_elements g y (ref_null (Concrete x) ∷ I32 ∷ I32 ∷ I32 ∷ [] ⟶ []) refl)

    null_reference_fair : Fair (by_type (of_heap null_reference))
    null_reference_fair = by_heap null_reference (λ h. tests (is_valid_heap d h) (is_valid_heap c h) (valid_heap h) _ _ λ u. (refl, refl))

    after_top : (h : HeapType ℕ) (k : ValType ℕ → InstructionType) → ((t : ValType ℕ) → (k t).initialises ≡ [])
        → Like SameType (top_reference c h >>= λ t. Ok (k t)) (top_reference d h >>= λ t. Ok (k t))
    after_top h k e =
        let same : top_reference d h ≡ top_reference c h = ap (λ o. required o >>= λ a. Ok (ref_null (Abstract a))) (same_top h) in
        subst (λ r. Like SameType (top_reference c h >>= λ t. Ok (k t)) (r >>= λ t. Ok (k t))) (sym same) (like_same SameType (top_reference c h) (λ t. Ok (k t)) (λ t. Ok (k t)) (λ t. (refl, e t)))

    reference_test_fair : Fair (by_type (of_heap reference_test))
    reference_test_fair = by_heap reference_test (λ h. after_top h (λ t. t ∷ [] ⟶ I32 ∷ []) (λ t. refl))

    reference_cast_false_fair : Fair (by_type (of_heap (reference_cast false)))
    reference_cast_false_fair = by_heap (reference_cast false) (λ h. after_top h (λ t. t ∷ [] ⟶ ref h ∷ []) (λ t. refl))

    reference_cast_true_fair : Fair (by_type (of_heap (reference_cast true)))
    reference_cast_true_fair = by_heap (reference_cast true) (λ h. after_top h (λ t. t ∷ [] ⟶ ref_null h ∷ []) (λ t. refl))

    selected_there : FairType selected_of
    selected_there (value t ∷ []) = tests (is_valid_value d t) (is_valid_value c t) (valid_value t) _ _ λ u. (refl, refl)
    selected_there _ = tt

    selected_of_fair : Fair (by_type selected_of)
    selected_of_fair = by_types selected_of selected_there

    -- ---- by operands

    dropped_fair : Fair (by_point dropped)
    dropped_fair is u p ks s = like_same Alike (pop_any p.unreachable p.operands) _ _ (λ q. same_change q.below)

    abbrev select_from : Bool → Operands → Checked (Change KnownOperand)
    select_from b xs =
        pop_any b xs >>= λ x. pop_any b x.below >>= λ y. demand (may_be_number x.operand) >>= λ u. demand (may_be_number y.operand) >>= λ v.
        one_of x.operand y.operand >>= λ z. Ok (leaving (z ∷ y.below))

    select_same : (b : Bool) (xs : Operands) → Like Alike (select_from b xs) (select_from b xs)
    select_same b xs =
        like_same Alike (pop_any b xs) _ _ λ x. like_same Alike (pop_any b x.below) _ _ λ y. like_same Alike (demand (may_be_number x.operand)) _ _ λ u.
        like_same Alike (demand (may_be_number y.operand)) _ _ λ v. like_same Alike (one_of x.operand y.operand) _ _ λ z. same_change (z ∷ y.below)

    selected_type_fair : Fair (by_point selected_type)
    selected_type_fair is u p ks s =
        like_bind Alike Alike (typed c (I32 ∷ [] ⟶ []) p) (typed d (I32 ∷ [] ⟶ []) (moved ks p)) (λ k. select_from p.unreachable k.operands) (λ k. select_from p.unreachable k.operands)
        (typed_like (I32 ∷ []) [] [] [] none p ks)
        (λ k j e. subst (λ xs. Like Alike (select_from p.unreachable k.operands) (select_from p.unreachable xs)) (sym e.operands) (select_same p.unreachable k.operands))

    is_null_fair : Fair (by_point is_null)
    is_null_fair is u p ks s = like_same Alike (pop_reference p) _ _ (λ q. same_change (Known (of_type I32) ∷ q.below))

    as_non_null_fair : Fair (by_point as_non_null)
    as_non_null_fair is u p ks s = like_same Alike (pop_reference p) _ _ (λ q. same_change (Known (not_null q.reference) ∷ q.below))

    -- a test that is the same, before what is alike
    after_test : (b e : Bool) → b ≡ e → (k l : Unit {0} → Checked (Change KnownOperand)) → ((u : Unit {0}) → Like Alike (k u) (l u)) → Like Alike (demand e >>= k) (demand b >>= l)
    after_test b e same k l h = subst (λ x. Like Alike (demand e >>= k) (demand x >>= l)) (sym same) (like_same Alike (demand e) k l h)

    converted_fair : (from to : AbstractHeapType) → Fair (by_point (converted from to))
    converted_fair from to is u p ks s =
        like_same Alike (pop_reference p) _ _ λ q.
        after_test (matches_known d q.reference (ref_null (Abstract from))) (matches_known c q.reference (ref_null (Abstract from))) (same_known q.reference (ref_null (Abstract from))) _ _ λ v. same_change _

    -- ---- branches and tail calls

    abbrev FairBranch : ConditionalRule → Type 0
    FairBranch rule = (is : List (Immediate ℕ Signature)) (ts : List (ValType ℕ)) (p : Point KnownOperand) (ks : List ℕ) → Like Alike (rule c is ts p) (rule d (over is) ts (moved ks p))

    branch_if_fair : FairBranch branch_if
    branch_if_fair is ts p ks = typed_like (ts ++ I32 ∷ []) ts [] [] none p ks

    branch_on_null_fair : FairBranch branch_on_null
    branch_on_null_fair is ts p ks =
        like_same Alike (pop_reference p) _ _ λ q.
        like_bind Alike Alike (typed c (ts ⟶ ts) (with_operand_list p q.below)) (typed d (ts ⟶ ts) (with_operand_list (moved ks p) q.below)) _ _ (typed_like ts ts [] [] none (with_operand_list p q.below) ks)
        (λ k j e. record { operands = ap (λ xs. Known (not_null q.reference) ∷ xs) e.operands; initialises = e.initialises })

    branch_on_non_null_fair : FairBranch branch_on_non_null
    branch_on_non_null_fair is ts p ks =
        like_same Alike (label_parts ts) _ _ λ l. typed_like (l.before ++ ref_null l.last.heap_type ∷ []) l.before [] [] none p ks

    same_cast : (a b : RefType ℕ) → is_cast d a b ≡ is_cast c a b
    same_cast a b =
        ap (λ x. demand x >>= λ u. demand (is_valid_heap d b.heap_type) >>= λ v. demand (matches_reference d b a)) (valid_heap a.heap_type)
        ∙ (ap (λ x. demand (is_valid_heap c a.heap_type) >>= λ u. demand x >>= λ v. demand (matches_reference d b a)) (valid_heap b.heap_type)
        ∙ ap (λ x. demand (is_valid_heap c a.heap_type) >>= λ u. demand (is_valid_heap c b.heap_type) >>= λ v. demand x) (same_reference b a))

    reference_like : (a branches stays : RefType ℕ) (ts : List (ValType ℕ)) (p : Point KnownOperand) (ks : List ℕ)
        → Like Alike (branch_on_reference c a branches stays ts p) (branch_on_reference d a branches stays ts (moved ks p))
    reference_like a branches stays ts p ks =
        like_same Alike (label_parts ts) _ _ λ l.
        after_test (matches_reference d branches l.last) (matches_reference c branches l.last) (same_reference branches l.last) _ _ λ u.
        typed_like (l.before ++ Ref a ∷ []) (l.before ++ Ref stays ∷ []) [] [] none p ks

    cast_like : (a b branches stays : RefType ℕ) (ts : List (ValType ℕ)) (p : Point KnownOperand) (ks : List ℕ)
        → Like Alike (is_cast c a b >>= λ u. branch_on_reference c a branches stays ts p) (is_cast d a b >>= λ u. branch_on_reference d a branches stays ts (moved ks p))
    cast_like a b branches stays ts p ks =
        subst (λ r. Like Alike (is_cast c a b >>= λ u. branch_on_reference c a branches stays ts p) (r >>= λ u. branch_on_reference d a branches stays ts (moved ks p))) (sym (same_cast a b))
        (like_same Alike (is_cast c a b) _ _ λ u. reference_like a branches stays ts p ks)

    branch_on_cast_fair : FairBranch branch_on_cast
    branch_on_cast_fair (cast k ∷ []) ts p ks =
        let a = reference_type k.from_nullable k.source in
        let b = reference_type k.to_nullable k.target in cast_like a b b (difference a b) ts p ks
    branch_on_cast_fair _ ts p ks = tt

    branch_on_cast_fail_fair : FairBranch branch_on_cast_fail
    branch_on_cast_fail_fair (cast k ∷ []) ts p ks =
        let a = reference_type k.from_nullable k.source in
        let b = reference_type k.to_nullable k.target in cast_like a b (difference a b) b ts p ks
    branch_on_cast_fail_fair _ ts p ks = tt

    module _ (apart : (n k : ℕ) → Used n → Used k → f n ≡ f k → n ≡ k) (types : (n : ℕ) → Used n → slice_get locals (f n) ≡ slice_get c.locals n) where
      -- ---- locals

      not_equal : (n k : ℕ) → (n ≡ k → ⊥) → (n == k) ≡ false
      not_equal n k h = elim (eqb_tells n k) [
        | inl e ↦ absurd (h e.1)
        | inr e ↦ e.0
      ]

      same_equality : (n x : ℕ) → Used n → Used x → (n == x) ≡ (f n == f x)
      same_equality n x u v = elim (eqb_tells n x) [
        | inl e ↦ e.0 ∙ sym (eq-eqb (f n) (f x) (ap f e.1))
        | inr e ↦ e.0 ∙ sym (not_equal (f n) (f x) (λ h. e.1 (apart n x u v h)))
      ]

      in_set : (n x : ℕ) (ls : List ℕ) → contains x ls ≡ true → contains n ls ≡ ((n == x) || contains n ls)
      in_set n x ls e = elim (eqb_tells n x) [
        | inl h ↦ ap (λ k. contains k ls) h.1 ∙ (e ∙ sym (ap (λ b. b || contains n ls) h.0))
        | inr h ↦ sym (ap (λ b. b || contains n ls) h.0)
      ]

      set_one : (n x : ℕ) (ls : List ℕ) (b : Bool) → contains x ls ≡ b → contains n (set_locals (x ∷ []) ls) ≡ ((n == x) || contains n ls)
      set_one n x ls true e = rw e (in_set n x ls e)
      set_one n x ls false e = rw e refl

      set_alike : (x : ℕ) → Used x → Initialise (x ∷ []) (f x ∷ [])
      set_alike x v ls ks s n u =
          set_one n x ls (contains x ls) refl ∙ (ap (λ b. b || contains n ls) (same_equality n x u v) ∙ (ap (λ b. (f n == f x) || b) (s n u) ∙ sym (set_one (f n) (f x) ks (contains (f x) ks) refl)))

      -- a type that initialises a local
      abbrev TypeAlike : InstructionType → InstructionType → Type 0
      TypeAlike t u = (u.takes ≡ t.takes) × (u.gives ≡ t.gives) × Initialise t.initialises u.initialises

      initialising : (t u : InstructionType) → TypeAlike t u → (p : Point KnownOperand) (ks : List ℕ) → Like Alike (typed c t p) (typed d u (moved ks p))
      initialising t u e p ks =
          subst (λ ts. Like Alike (typed c t p) (typed d (record { takes = ts; gives = u.gives; initialises = u.initialises }) (moved ks p))) (sym e.0)
          (subst (λ gs. Like Alike (typed c t p) (typed d (record { takes = t.takes; gives = gs; initialises = u.initialises }) (moved ks p))) (sym e.1)
          (typed_like t.takes t.gives t.initialises u.initialises e.2 p ks))

      local_set_there : (x : ℕ) → Used x → Like TypeAlike (local_set c x) (local_set d (f x))
      local_set_there x u =
          subst (λ o. Like TypeAlike (local_set c x) (required o >>= λ t. Ok (record { takes = t ∷ []; gives = []; initialises = f x ∷ [] }))) (sym (types x u))
          (like_same TypeAlike (required (slice_get c.locals x)) _ _ λ t. (refl, refl, set_alike x u))

      local_tee_there : (x : ℕ) → Used x → Like TypeAlike (local_tee c x) (local_tee d (f x))
      local_tee_there x u =
          subst (λ o. Like TypeAlike (local_tee c x) (required o >>= λ t. Ok (record { takes = t ∷ []; gives = t ∷ []; initialises = f x ∷ [] }))) (sym (types x u))
          (like_same TypeAlike (required (slice_get c.locals x)) _ _ λ t. (refl, refl, set_alike x u))

      by_local : (g : OperandContext → ℕ → Checked InstructionType) → ((x : ℕ) → Used x → Like TypeAlike (g c x) (g d (f x))) → Fair (by_type (of_local g))
      by_local g h (local x ∷ []) u p ks s =
          like_bind TypeAlike Alike (g c x) (g d (f x)) (λ t. typed c t p) (λ t. typed d t (moved ks p)) (h x u.0) (λ t v e. initialising t v e p ks)
      by_local g h _ u p ks s = tt

      local_set_fair : Fair (by_type (of_local local_set))
      local_set_fair = by_local local_set local_set_there

      local_tee_fair : Fair (by_type (of_local local_tee))
      local_tee_fair = by_local local_tee local_tee_there

      local_get_fair : Fair (by_point local_get)
      local_get_fair (local x ∷ []) u p ks s =
          subst (λ o. Like Alike (local_get c (local x ∷ []) p) (required o >>= λ t. demand (contains (f x) ks) >>= λ v. typed d ([] ⟶ t ∷ []) (moved ks p))) (sym (types x u.0))
          (subst (λ b. Like Alike (local_get c (local x ∷ []) p) (required (slice_get c.locals x) >>= λ t. demand b >>= λ v. typed d ([] ⟶ t ∷ []) (moved ks p))) (s x u.0)
          (like_same Alike (required (slice_get c.locals x)) _ _ λ t. like_same Alike (demand (contains x p.initialised)) _ _ λ v. typed_like [] (t ∷ []) [] [] none p ks))
      local_get_fair _ u p ks s = tt

      -- ---- the tables

      abbrev AllFair : List (ℕ × Row) → Type 0
      AllFair rows = AllByRecursion (λ row. FairRow row.1) rows

      one_of_two : (b : Bool) (r s : Row) → FairRow r → FairRow s → FairRow (if b then r else s)
      one_of_two true r s h i = h
      one_of_two false r s h i = i

      in_range : (rows : List (ℕ × Row)) → AllFair rows → (n : ℕ) → FairRow (range_at rows n)
      in_range [] h n = tt
      in_range (row ∷ rows) h n = one_of_two (nat_le n row.0) row.1 (range_at rows n) h.0 (in_range rows h.1 n)

      fair_byte_rules : AllFair byte_rules
      fair_byte_rules =
          tt ⨾ call_fair ⨾ call_indirect_fair ⨾ tt ⨾ call_ref_fair ⨾ tt ⨾ dropped_fair ⨾ selected_type_fair ⨾ selected_of_fair ⨾ tt ⨾ local_get_fair ⨾
          local_set_fair ⨾ local_tee_fair ⨾ global_get_fair ⨾ global_set_fair ⨾ table_get_fair ⨾ table_set_fair ⨾ tt ⨾ accessing false 2 [] (I32 ∷ []) ⨾
          accessing false 3 [] (I64 ∷ []) ⨾ accessing false 2 [] (F32 ∷ []) ⨾ accessing false 3 [] (F64 ∷ []) ⨾ accessing false 0 [] (I32 ∷ []) ⨾
          accessing false 1 [] (I32 ∷ []) ⨾ accessing false 0 [] (I64 ∷ []) ⨾ accessing false 1 [] (I64 ∷ []) ⨾ accessing false 2 [] (I64 ∷ []) ⨾
          accessing false 2 (I32 ∷ []) [] ⨾ accessing false 3 (I64 ∷ []) [] ⨾ accessing false 2 (F32 ∷ []) [] ⨾ accessing false 3 (F64 ∷ []) [] ⨾
          accessing false 0 (I32 ∷ []) [] ⨾ accessing false 1 (I32 ∷ []) [] ⨾ accessing false 0 (I64 ∷ []) [] ⨾ accessing false 1 (I64 ∷ []) [] ⨾
          accessing false 2 (I64 ∷ []) [] ⨾ memory_size_fair ⨾ memory_grow_fair ⨾ fixes [] (I32 ∷ []) ⨾ fixes [] (I64 ∷ []) ⨾ fixes [] (F32 ∷ []) ⨾
          fixes [] (F64 ∷ []) ⨾ fixes (I32 ∷ []) (I32 ∷ []) ⨾ fixes (I32 ∷ I32 ∷ []) (I32 ∷ []) ⨾ fixes (I64 ∷ []) (I32 ∷ []) ⨾
          fixes (I64 ∷ I64 ∷ []) (I32 ∷ []) ⨾ fixes (F32 ∷ F32 ∷ []) (I32 ∷ []) ⨾ fixes (F64 ∷ F64 ∷ []) (I32 ∷ []) ⨾ fixes (I32 ∷ []) (I32 ∷ []) ⨾
          fixes (I32 ∷ I32 ∷ []) (I32 ∷ []) ⨾ fixes (I64 ∷ []) (I64 ∷ []) ⨾ fixes (I64 ∷ I64 ∷ []) (I64 ∷ []) ⨾ fixes (F32 ∷ []) (F32 ∷ []) ⨾
          fixes (F32 ∷ F32 ∷ []) (F32 ∷ []) ⨾ fixes (F64 ∷ []) (F64 ∷ []) ⨾ fixes (F64 ∷ F64 ∷ []) (F64 ∷ []) ⨾ fixes (I64 ∷ []) (I32 ∷ []) ⨾
          fixes (F32 ∷ []) (I32 ∷ []) ⨾ fixes (F64 ∷ []) (I32 ∷ []) ⨾ fixes (I32 ∷ []) (I64 ∷ []) ⨾ fixes (F32 ∷ []) (I64 ∷ []) ⨾ fixes (F64 ∷ []) (I64 ∷ []) ⨾
          fixes (I32 ∷ []) (F32 ∷ []) ⨾ fixes (I64 ∷ []) (F32 ∷ []) ⨾ fixes (F64 ∷ []) (F32 ∷ []) ⨾ fixes (I32 ∷ []) (F64 ∷ []) ⨾ fixes (I64 ∷ []) (F64 ∷ []) ⨾
          fixes (F32 ∷ []) (F64 ∷ []) ⨾ fixes (F32 ∷ []) (I32 ∷ []) ⨾ fixes (F64 ∷ []) (I64 ∷ []) ⨾ fixes (I32 ∷ []) (F32 ∷ []) ⨾ fixes (I64 ∷ []) (F64 ∷ []) ⨾
          fixes (I32 ∷ []) (I32 ∷ []) ⨾ fixes (I64 ∷ []) (I64 ∷ []) ⨾ tt ⨾ null_reference_fair ⨾ is_null_fair ⨾ function_reference_fair ⨾
          fixes (ref_null (Abstract abstract.Eq) ∷ ref_null (Abstract abstract.Eq) ∷ []) (I32 ∷ []) ⨾ as_non_null_fair ⨾ tt

      fair_aggregate_rules : AllFair aggregate_rules
      fair_aggregate_rules =
          struct_new_fair ⨾ struct_new_default_fair ⨾ struct_get_false_fair ⨾ struct_get_true_fair ⨾ struct_set_fair ⨾ array_new_fair ⨾
          array_new_default_fair ⨾ array_new_fixed_fair ⨾ array_new_from_from_data_fair ⨾ array_new_from_from_elements_fair ⨾ array_get_false_fair ⨾
          array_get_true_fair ⨾ array_set_fair ⨾ fixes (ref_null (Abstract abstract.Array) ∷ []) (I32 ∷ []) ⨾ array_fill_fair ⨾ array_copy_fair ⨾
          array_init_from_from_data_fair ⨾ array_init_from_from_elements_fair ⨾ reference_test_fair ⨾ reference_cast_false_fair ⨾ reference_cast_true_fair ⨾
          tt ⨾ converted_fair abstract.Extern abstract.Any ⨾ converted_fair abstract.Any abstract.Extern ⨾
          fixes (I32 ∷ []) (ref (Abstract abstract.I31) ∷ []) ⨾ fixes (ref_null (Abstract abstract.I31) ∷ []) (I32 ∷ []) ⨾ tt

      fair_bulk_rules : AllFair bulk_rules
      fair_bulk_rules =
          fixes (F32 ∷ []) (I32 ∷ []) ⨾ fixes (F64 ∷ []) (I32 ∷ []) ⨾ fixes (F32 ∷ []) (I64 ∷ []) ⨾ fixes (F64 ∷ []) (I64 ∷ []) ⨾ memory_init_fair ⨾
          data_drop_fair ⨾ memory_copy_fair ⨾ memory_fill_fair ⨾ table_init_fair ⨾ elem_drop_fair ⨾ table_copy_fair ⨾ table_grow_fair ⨾ table_size_fair ⨾
          table_fill_fair ⨾ tt ⨾ fixes (I64 ∷ I64 ∷ I64 ∷ I64 ∷ []) (I64 ∷ I64 ∷ []) ⨾ fixes (I64 ∷ I64 ∷ []) (I64 ∷ I64 ∷ []) ⨾ tt

      fair_vector_rules : AllFair vector_rules
      fair_vector_rules =
          accessing false 4 [] (V128 ∷ []) ⨾ accessing false 3 [] (V128 ∷ []) ⨾ accessing false 0 [] (V128 ∷ []) ⨾ accessing false 1 [] (V128 ∷ []) ⨾
          accessing false 2 [] (V128 ∷ []) ⨾ accessing false 3 [] (V128 ∷ []) ⨾ accessing false 4 (V128 ∷ []) [] ⨾ fixes [] (V128 ∷ []) ⨾
          all_lanes (V128 ∷ V128 ∷ []) (V128 ∷ []) ⨾ fixes (V128 ∷ V128 ∷ []) (V128 ∷ []) ⨾ fixes (I32 ∷ []) (V128 ∷ []) ⨾ fixes (I64 ∷ []) (V128 ∷ []) ⨾
          fixes (F32 ∷ []) (V128 ∷ []) ⨾ fixes (F64 ∷ []) (V128 ∷ []) ⨾ lanes_at 16 (V128 ∷ []) (I32 ∷ []) ⨾ lanes_at 16 (V128 ∷ I32 ∷ []) (V128 ∷ []) ⨾
          lanes_at 8 (V128 ∷ []) (I32 ∷ []) ⨾ lanes_at 8 (V128 ∷ I32 ∷ []) (V128 ∷ []) ⨾ lanes_at 4 (V128 ∷ []) (I32 ∷ []) ⨾
          lanes_at 4 (V128 ∷ I32 ∷ []) (V128 ∷ []) ⨾ lanes_at 2 (V128 ∷ []) (I64 ∷ []) ⨾ lanes_at 2 (V128 ∷ I64 ∷ []) (V128 ∷ []) ⨾
          lanes_at 4 (V128 ∷ []) (F32 ∷ []) ⨾ lanes_at 4 (V128 ∷ F32 ∷ []) (V128 ∷ []) ⨾ lanes_at 2 (V128 ∷ []) (F64 ∷ []) ⨾
          lanes_at 2 (V128 ∷ F64 ∷ []) (V128 ∷ []) ⨾ fixes (V128 ∷ V128 ∷ []) (V128 ∷ []) ⨾ fixes (V128 ∷ []) (V128 ∷ []) ⨾
          fixes (V128 ∷ V128 ∷ []) (V128 ∷ []) ⨾ fixes (V128 ∷ V128 ∷ V128 ∷ []) (V128 ∷ []) ⨾ fixes (V128 ∷ []) (I32 ∷ []) ⨾
          lane_access 0 16 (V128 ∷ []) (V128 ∷ []) ⨾ lane_access 1 8 (V128 ∷ []) (V128 ∷ []) ⨾ lane_access 2 4 (V128 ∷ []) (V128 ∷ []) ⨾
          lane_access 3 2 (V128 ∷ []) (V128 ∷ []) ⨾ lane_access 0 16 (V128 ∷ []) [] ⨾ lane_access 1 8 (V128 ∷ []) [] ⨾ lane_access 2 4 (V128 ∷ []) [] ⨾
          lane_access 3 2 (V128 ∷ []) [] ⨾ accessing false 2 [] (V128 ∷ []) ⨾ accessing false 3 [] (V128 ∷ []) ⨾ fixes (V128 ∷ []) (V128 ∷ []) ⨾
          fixes (V128 ∷ []) (I32 ∷ []) ⨾ fixes (V128 ∷ V128 ∷ []) (V128 ∷ []) ⨾ fixes (V128 ∷ []) (V128 ∷ []) ⨾ fixes (V128 ∷ I32 ∷ []) (V128 ∷ []) ⨾
          fixes (V128 ∷ V128 ∷ []) (V128 ∷ []) ⨾ fixes (V128 ∷ []) (V128 ∷ []) ⨾ fixes (V128 ∷ V128 ∷ []) (V128 ∷ []) ⨾ fixes (V128 ∷ []) (V128 ∷ []) ⨾
          fixes (V128 ∷ V128 ∷ []) (V128 ∷ []) ⨾ fixes (V128 ∷ []) (V128 ∷ []) ⨾ fixes (V128 ∷ V128 ∷ []) (V128 ∷ []) ⨾ fixes (V128 ∷ []) (I32 ∷ []) ⨾
          fixes (V128 ∷ V128 ∷ []) (V128 ∷ []) ⨾ fixes (V128 ∷ []) (V128 ∷ []) ⨾ fixes (V128 ∷ I32 ∷ []) (V128 ∷ []) ⨾ fixes (V128 ∷ V128 ∷ []) (V128 ∷ []) ⨾
          fixes (V128 ∷ []) (V128 ∷ []) ⨾ fixes (V128 ∷ V128 ∷ []) (V128 ∷ []) ⨾ tt ⨾ fixes (V128 ∷ V128 ∷ []) (V128 ∷ []) ⨾ fixes (V128 ∷ []) (V128 ∷ []) ⨾
          tt ⨾ fixes (V128 ∷ []) (I32 ∷ []) ⨾ tt ⨾ fixes (V128 ∷ []) (V128 ∷ []) ⨾ fixes (V128 ∷ I32 ∷ []) (V128 ∷ []) ⨾ fixes (V128 ∷ V128 ∷ []) (V128 ∷ []) ⨾
          tt ⨾ fixes (V128 ∷ V128 ∷ []) (V128 ∷ []) ⨾ tt ⨾ fixes (V128 ∷ V128 ∷ []) (V128 ∷ []) ⨾ tt ⨾ fixes (V128 ∷ V128 ∷ []) (V128 ∷ []) ⨾
          fixes (V128 ∷ []) (V128 ∷ []) ⨾ tt ⨾ fixes (V128 ∷ []) (I32 ∷ []) ⨾ tt ⨾ fixes (V128 ∷ []) (V128 ∷ []) ⨾ fixes (V128 ∷ I32 ∷ []) (V128 ∷ []) ⨾
          fixes (V128 ∷ V128 ∷ []) (V128 ∷ []) ⨾ tt ⨾ fixes (V128 ∷ V128 ∷ []) (V128 ∷ []) ⨾ tt ⨾ fixes (V128 ∷ V128 ∷ []) (V128 ∷ []) ⨾
          fixes (V128 ∷ []) (V128 ∷ []) ⨾ tt ⨾ fixes (V128 ∷ []) (V128 ∷ []) ⨾ fixes (V128 ∷ V128 ∷ []) (V128 ∷ []) ⨾ fixes (V128 ∷ []) (V128 ∷ []) ⨾ tt ⨾
          fixes (V128 ∷ []) (V128 ∷ []) ⨾ fixes (V128 ∷ V128 ∷ []) (V128 ∷ []) ⨾ fixes (V128 ∷ []) (V128 ∷ []) ⨾ fixes (V128 ∷ V128 ∷ []) (V128 ∷ []) ⨾
          fixes (V128 ∷ []) (V128 ∷ []) ⨾ fixes (V128 ∷ V128 ∷ V128 ∷ []) (V128 ∷ []) ⨾ fixes (V128 ∷ V128 ∷ []) (V128 ∷ []) ⨾
          fixes (V128 ∷ V128 ∷ V128 ∷ []) (V128 ∷ []) ⨾ tt

      fair_atomic_rules : (w : Width) → AllFair (atomic_rules w)
      fair_atomic_rules w =
          accessing true 2 (I32 ∷ []) (I32 ∷ []) ⨾ accessing true 2 (I32 ∷ I64 ∷ []) (I32 ∷ []) ⨾ accessing true 3 (I64 ∷ I64 ∷ []) (I32 ∷ []) ⨾ fixes [] [] ⨾
          tt ⨾ accessing true w.0 [] (w.1 ∷ []) ⨾ accessing true w.0 (w.1 ∷ []) [] ⨾ accessing true w.0 (w.1 ∷ []) (w.1 ∷ []) ⨾
          accessing true w.0 (w.1 ∷ w.1 ∷ []) (w.1 ∷ []) ⨾ tt

      fair_prefixed : (prefix n : ℕ) → FairRow (prefixed_rule prefix n)
      fair_prefixed prefix n =
          one_of_two (prefix == 0xfc) _ _ (in_range bulk_rules fair_bulk_rules n)
          (one_of_two (prefix == 0xfd) _ _ (in_range vector_rules fair_vector_rules n)
          (one_of_two (prefix == 0xfe) _ _ (in_range (atomic_rules (width_at n)) (fair_atomic_rules (width_at n)) n)
          (one_of_two (prefix == 0xfb) _ _ (in_range aggregate_rules fair_aggregate_rules n) tt)))

      fair_rule : (o : Opcode) → FairRow (rule_of o)
      fair_rule (Byte b) = in_range byte_rules fair_byte_rules b
      fair_rule (Prefixed prefix n) = fair_prefixed prefix n

      plain_there : (row : Row) → FairRow row → (is : List (Immediate ℕ Signature)) → AllByRecursion Used (locals_among is) → (p : Point KnownOperand) (ks : List ℕ) → Set p.initialised ks
          → Like Alike (required row >>= λ rule. by_rule c rule is p) (required row >>= λ rule. by_rule d rule (over is) (moved ks p))
      plain_there None h is u p ks s = tt
      plain_there (Some rule) h is u p ks s = h is u p ks s

      -- ---- branches and tail calls

      abbrev FairBranchRow : Option ConditionalRule → Type 0
      FairBranchRow None = Unit {0}
      FairBranchRow (Some rule) = FairBranch rule

      one_branch : (b : Bool) (rule : ConditionalRule) (s : Option ConditionalRule) → FairBranch rule → FairBranchRow s → FairBranchRow (if b then Some rule else s)
      one_branch true rule s h i = h
      one_branch false rule s h i = i

      either_branch : (b : Bool) (r s : Option ConditionalRule) → FairBranchRow r → FairBranchRow s → FairBranchRow (if b then r else s)
      either_branch true r s h i = h
      either_branch false r s h i = i

      fair_branch : (o : Opcode) → FairBranchRow (conditional_rule o)
      fair_branch (Byte b) =
          one_branch (b == 0x0d) branch_if _ branch_if_fair
          (one_branch (b == 0xd5) branch_on_null _ branch_on_null_fair (one_branch (b == 0xd6) branch_on_non_null _ branch_on_non_null_fair tt))
      fair_branch (Prefixed prefix n) =
          either_branch (prefix == 0xfb) (row_at cast_branches n) None
          (one_branch (n == 24) branch_on_cast _ branch_on_cast_fair (one_branch (n == 25) branch_on_cast_fail _ branch_on_cast_fail_fair tt)) tt

      branch_there : (row : Option ConditionalRule) → FairBranchRow row → (is : List (Immediate ℕ Signature)) (ts : List (ValType ℕ)) (p : Point KnownOperand) (ks : List ℕ)
          → Like Alike (required row >>= λ rule. rule c is ts p) (required row >>= λ rule. rule d (over is) ts (moved ks p))
      branch_there None h is ts p ks = tt
      branch_there (Some rule) h is ts p ks = h is ts p ks

      abbrev FairTailRow : Option TailRule → Type 0
      FairTailRow None = Unit {0}
      FairTailRow (Some rule) = FairType rule

      one_tail : (b : Bool) (rule : TailRule) (s : Option TailRule) → FairType rule → FairTailRow s → FairTailRow (if b then Some rule else s)
      one_tail true rule s h i = h
      one_tail false rule s h i = i

      fair_tail : (o : Opcode) → FairTailRow (tail_rule o)
      fair_tail (Byte b) =
          one_tail (b == 0x12) (of_index call) _ (index_type call (λ x. Q (required (slice_get c.functions x)) _ _ λ type. Q (function_type_in c type) _ _ λ s. (refl, refl)))
          (one_tail (b == 0x13) (of_indices call_indirect) _ (indices_type call_indirect call_indirect_there)
          (one_tail (b == 0x15) (of_index call_ref) _ (index_type call_ref (λ x. Q (function_type_in c x) _ _ λ s. (refl, refl))) tt))
      fair_tail (Prefixed prefix n) = tt

      after_call : (results : List (ValType ℕ)) (p : Point KnownOperand) (ks : List ℕ) (t u : InstructionType) → SameType t u
          → Like Alike (demand (matches_values c t.gives results) >>= λ v. typed c (t.takes ⟶ []) p) (demand (matches_values d u.gives results) >>= λ v. typed d (u.takes ⟶ []) (moved ks p))
      after_call results p ks t u e =
          subst (λ x. Like Alike (demand (matches_values c t.gives results) >>= λ v. typed c (t.takes ⟶ []) p) (demand (matches_values d x.gives results) >>= λ v. typed d (x.takes ⟶ []) (moved ks p))) (sym e.0)
          (after_test (matches_values d t.gives results) (matches_values c t.gives results) (same_values t.gives results) _ _ λ v. typed_like t.takes [] [] [] none p ks)

      tail_there : (row : Option TailRule) → FairTailRow row → (is : List (Immediate ℕ Signature)) (results : List (ValType ℕ)) (p : Point KnownOperand) (ks : List ℕ)
          → Like Alike (required row >>= λ rule. rule c is >>= λ t. demand (matches_values c t.gives results) >>= λ u. typed c (t.takes ⟶ []) p)
          (required row >>= λ rule. rule d (over is) >>= λ t. demand (matches_values d t.gives results) >>= λ u. typed d (t.takes ⟶ []) (moved ks p))
      tail_there None h is results p ks = tt
      tail_there (Some rule) h is results p ks =
          like_bind SameType Alike (rule c is) (rule d (over is)) (λ t. demand (matches_values c t.gives results) >>= λ u. typed c (t.takes ⟶ []) p)
          (λ t. demand (matches_values d t.gives results) >>= λ u. typed d (t.takes ⟶ []) (moved ks p)) (h is) (after_call results p ks)

      -- ---- the instance

      like_ok : (a b : Checked (Change KnownOperand)) → Like Alike a b → Like Alike (required (result_ok a)) (required (result_ok b))
      like_ok (Ok x) (Ok y) h = h
      like_ok (Err e) (Err k) h = tt
      like_ok (Ok x) (Err k) h = absurd h
      like_ok (Err e) (Ok y) h = absurd h

      same_verdict : (a b : Checked (Change KnownOperand)) → Like Alike a b → is_some (result_ok b) ≡ is_some (result_ok a)
      same_verdict (Ok x) (Ok y) h = refl
      same_verdict (Err e) (Err k) h = refl
      same_verdict (Ok x) (Err k) h = absurd h
      same_verdict (Err e) (Ok y) h = absurd h

      pub standard_alike : RulesAlike Used f (standard_rules c) (standard_rules d)
      standard_alike = record {
        type_of = λ t. refl;
        matches = same_known;
        plain = λ o u p ks s. like_ok (plain_change c o p) (plain_change d (renamed f o) (moved ks p)) (plain_there (rule_of o.opcode) (fair_rule o.opcode) o.immediates u p ks s);
        conditional = λ o u ts p ks s.
            like_ok (conditional_change c o ts p) (conditional_change d (renamed f o) ts (moved ks p)) (branch_there (conditional_rule o.opcode) (fair_branch o.opcode) o.immediates ts p ks);
        tail_call = λ o u ts p ks s. same_verdict (tail_change c o ts p) (tail_change d (renamed f o) ts (moved ks p)) (tail_there (tail_rule o.opcode) (fair_tail o.opcode) o.immediates ts p ks);
      }

pub renamed_stay_valid : RenamedStayValid
renamed_stay_valid m c used f locals old new h results xs u v =
    valid_alike (λ n. used n ≡ true) f m (standard_rules c) (standard_rules (context_with_locals c locals)) (standard_alike c locals (λ n. used n ≡ true) f h.apart h.types) results old new h.same xs u v
