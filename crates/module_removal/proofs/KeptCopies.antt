-- A part is copied if each item that it names has a new index: one part after the other, and item by item.
use Rattle.std.proofs.Common.{◌≡◌, ◌==◌, ◌%◌, ℕ, zero, suc, nat_le, not, Bool, true, false, cond, List, [], ◌∷◌, ◌++◌, length, Option, Some, None, Result, Ok, Err, refl, sym, ap, subst, ◌∙◌, arith}
use Rattle.std.proofs.lemmas.List.{append-nil}
use Rattle.std.proofs.lemmas.List.Elements.{Contains-append_left, Contains-append_right}
use Rattle.std.specs.List.{Contains}
use Rattle.wasm_types.specs.declared.val_type.HeapType.{HeapType}
use Rattle.wasm_types.specs.declared.val_type.HeapType.TheVariants.{Abstract, Concrete}
use Rattle.wasm_types.specs.declared.val_type.ValType.{ValType}
use Rattle.wasm_types.specs.declared.val_type.RefType.{RefType}
use Rattle.wasm_types.specs.declared.val_type.ValType.TheVariants.{Ref, I32, I64, F32, F64, V128}
use Rattle.wasm_numbers.specs.declared.fault.ReadFault.TheVariants as unread
use Rattle.wasm_numbers.specs.Reading.{starts}
use Rattle.wasm_numbers.specs.Results.{◌>>=◌, with_fault, some_or}
use Rattle.wasm_operators.specs.declared.types.Opcode.{Opcode}
use Rattle.wasm_operators.specs.declared.types.Space.{Space}
use Rattle.wasm_operators.specs.declared.types.Space.TheVariants as spaces
use Rattle.wasm_operators.specs.declared.immediates.Immediates.TheVariants as immediates
use Rattle.wasm_operators.specs.Operations.{RawOperation}
use Rattle.wasm_operators.specs.Parts.{ListedImmediates, shape_of}
use Rattle.wasm_operators.specs.Shortest.{short_number, short_value, short_heap, short_opcode}
use Rattle.wasm_body.specs.declared.error.IndexError.TheVariants as index
use Rattle.wasm_sections.specs.declared.fault.ModuleError.{ModuleError}
use Rattle.wasm_sections.specs.declared.fault.ModuleFault.{ModuleFault}
use Rattle.wasm_sections.specs.declared.fault.ModuleFault.TheVariants as fault
use Rattle.wasm_sections.specs.Format.{value_part, operator_part, is_end_opcode, after_table_mark, is_packed_byte, has_supertypes}
use Rattle.wasm_sections.specs.Parts.{Part, checked, number, fault_here}
use Rattle.module_removal.specs.declared.item.Item.{Item}
use Rattle.module_removal.specs.LeftSpaces.{own_index}
use Rattle.module_removal.specs.CopiedParts.{Copied, writes, names_item, copied_both, CopiedPart, nothing, puts, ◌>+>◌, with_other_value, times, copied_byte, copied_number, copied_bytes, copied_vector, NewIndices, item_at, named_item, copied_item, copied_index, new_heap, new_type, written_type, copied_value, copied_limits}
use Rattle.module_removal.specs.CopiedConstants.{with_extent, after_bytes, before_bytes, copied_heap, copied_operation, copied_if_constant, copied_operator, copied_operators, copied_constant}
use Rattle.module_removal.specs.CopiedItems.{passed_byte, copied_table_type, copied_initialized, copied_table_after, copied_table, copied_global_type, copied_global, copied_tag, copied_kind, copied_imported, copied_import, copied_export, copied_first, copied_target, copied_active, copied_place, copied_element_kind, copied_element_type, copied_elements, copied_typed_elements, copied_element, copied_data, copied_storage, copied_field, copied_function_type, copied_composite_kind, copied_composite_of, copied_composite_after, copied_composite, copied_supertypes, copied_derived, copied_subtype, copied_defined}
use Rattle.module_removal.specs.LeftLaws.{HaveIndices, IsCopied, ItemsAreCopied}

abbrev Read : Type 0 → Type 0
Read A = Result ((A × Copied) × List ℕ) ModuleError

-- a result that isn't an error comes from one
from_ok : {A B E : Type 0} (r : Result A E) (f : A → Result B E) (y : B) → (r >>= f) ≡ Ok y → (x : A) × (r ≡ Ok x) × (f x ≡ Ok y)
from_ok (Ok x) f y e = (x, refl, e)
from_ok (Err g) f y e = absurd cc

ok_value : {A E : Type 0} (x y : A) → (let r : Result A E = Ok x in r) ≡ Ok y → x ≡ y
ok_value x y e = cc

-- ---- one part after the other

-- a part that names nothing
same_copied : {A : Type 0} (part : CopiedPart A) → IsCopied (λ w. part)
same_copied part w end text rest x found e has = (found, e, refl)

then_copied :
    {A B : Type 0} (first : NewIndices → CopiedPart A) (second : NewIndices → A → CopiedPart B) → IsCopied first → ((x : A) → IsCopied (λ w. second w x)) →
    IsCopied (λ w. first w >+> second w)
then_copied {A} {B} first second p q w end text rest y found e has =
    let a = from_ok (first own_index end text) (λ z. (second own_index z.0.0 end z.1) >>= λ u. Ok ((u.0.0, copied_both z.0.1 u.0.1), u.1)) ((y, found), rest) e in
    let x = a.0.0.0 in
    let one = a.0.0.1 in
    let next = a.0.1 in
    let b = from_ok (second own_index x end next) (λ u. Ok ((u.0.0, copied_both one u.0.1), u.1)) ((y, found), rest) a.2 in
    let two = b.0.0.1 in
    let all = ok_value {A = (B × Copied) × List ℕ} {E = ModuleError} ((b.0.0.0, copied_both one two), b.0.1) ((y, found), rest) b.2 in
    let named : one.named ++ two.named ≡ found.named = ap (λ (z : (B × Copied) × List ℕ). z.0.1.named) all in
    let value : b.0.0.0 ≡ y = ap (λ (z : (B × Copied) × List ℕ). z.0.0) all in
    let following : b.0.1 ≡ rest = ap (λ (z : (B × Copied) × List ℕ). z.1) all in
    let there : HaveIndices w (one.named ++ two.named) = subst (HaveIndices w) (sym named) has in
    let c = p w end text next x one a.1 (λ item h. there item (Contains-append_left one.named two.named item h)) in
    let d = q x w end next b.0.1 b.0.0.0 two b.1 (λ item h. there item (Contains-append_right one.named two.named item h)) in (
      copied_both c.0 d.0,
      ap (λ (r : Read A). r >>= λ z. (second w z.0.0 end z.1) >>= λ u. Ok ((u.0.0, copied_both z.0.1 u.0.1), u.1)) c.1
          ∙ ap (λ (r : Read B). r >>= λ u. Ok ((u.0.0, copied_both c.0 u.0.1), u.1)) d.1
          ∙ ap (λ (v : B). (let r : Read B = Ok ((v, copied_both c.0 d.0), b.0.1) in r)) value
          ∙ ap (λ (l : List ℕ). (let r : Read B = Ok ((y, copied_both c.0 d.0), l) in r)) following,
      ap (λ (l : List Item). l ++ d.0.named) c.2 ∙ ap (λ (l : List Item). one.named ++ l) d.2 ∙ named,
    )

other_copied : {A B : Type 0} (f : A → B) (part : NewIndices → CopiedPart A) → IsCopied part → IsCopied (λ w. with_other_value f (part w))
other_copied {A} {B} f part p w end text rest y found e has =
    let a = from_ok (part own_index end text) (λ z. Ok ((f z.0.0, z.0.1), z.1)) ((y, found), rest) e in
    let all = ok_value {A = (B × Copied) × List ℕ} {E = ModuleError} ((f a.0.0.0, a.0.0.1), a.0.1) ((y, found), rest) a.2 in
    let named : a.0.0.1.named ≡ found.named = ap (λ (z : (B × Copied) × List ℕ). z.0.1.named) all in
    let c = p w end text a.0.1 a.0.0.0 a.0.0.1 a.1 (subst (HaveIndices w) (sym named) has) in (
      c.0,
      ap (λ (r : Read A). r >>= λ z. Ok ((f z.0.0, z.0.1), z.1)) c.1
          ∙ ap (λ (z : (B × Copied) × List ℕ). (let r : Read B = Ok ((z.0.0, c.0), z.1) in r)) all,
      c.2 ∙ named,
    )

times_copied : (part : NewIndices → CopiedPart (Unit {0})) → IsCopied part → (n : ℕ) → IsCopied (λ w. times (part w) n)
unfolding times
times_copied part p zero = same_copied nothing
times_copied part p (suc n) = then_copied part (λ w u. times (part w) n) p (λ u. times_copied part p n)

vector_copied : (part : NewIndices → CopiedPart (Unit {0})) → IsCopied part → IsCopied (λ w. copied_vector (part w))
vector_copied part p = then_copied (λ w. copied_number) (λ w n. times (part w) n) (same_copied copied_number) (λ n. times_copied part p n)

-- a value that is turned into what is copied
abbrev checked_after : {A B : Type 0} → (A → Result (B × Copied) ModuleFault) → (end : ℕ) → (text : List ℕ) → A × List ℕ → Read B
checked_after check end text z = with_fault (fault_here end text) (check z.0) >>= λ y. Ok (y, z.1)

abbrev placed : {B : Type 0} → (end : ℕ) → (text : List ℕ) → Result (B × Copied) ModuleFault → List ℕ → Read B
placed end text r l = with_fault (fault_here end text) r >>= λ y. Ok (y, l)

checked_copied :
    {A B : Type 0} (part : Part A) (check : NewIndices → A → Result (B × Copied) ModuleFault) →
    ((w : NewIndices) (v : A) (x : B) (found : Copied) → check own_index v ≡ Ok (x, found) → HaveIndices w found.named →
    (copied : Copied) × (check w v ≡ Ok (x, copied)) × (copied.named ≡ found.named)) → IsCopied (λ w. checked part (check w))
checked_copied {A} {B} part check p w end text rest x found e has = from (part end text) e
  where
    given : (r : Result (B × Copied) ModuleFault) (l : List ℕ) → placed end text r l ≡ Ok ((x, found), rest) →
        (r ≡ Ok (x, found)) × (l ≡ rest)
    given (Ok y) l h =
        let same = ok_value {A = (B × Copied) × List ℕ} {E = ModuleError} (y, l) ((x, found), rest) h in
        (ap (λ (z : (B × Copied) × List ℕ). (let r : Result (B × Copied) ModuleFault = Ok z.0 in r)) same, ap (λ (z : (B × Copied) × List ℕ). z.1) same)
    given (Err g) l h = absurd cc

    from : (r : Result (A × List ℕ) ModuleError) → (r >>= checked_after (check own_index) end text) ≡ Ok ((x, found), rest) →
        (copied : Copied) × ((r >>= checked_after (check w) end text) ≡ Ok ((x, copied), rest)) × (copied.named ≡ found.named)
    from (Err g) h = absurd cc
    from (Ok z) h =
        let is = given (check own_index z.0) z.1 h in
        let c = p w z.0 x found is.0 has in (
          c.0,
          ap (λ (r : Result (B × Copied) ModuleFault). placed end text r z.1) c.1
              ∙ ap (λ (l : List ℕ). (let r : Read B = Ok ((x, c.0), l) in r)) is.1,
          c.2,
        )

-- ---- items

one_item : (w : NewIndices) (item : Item) (named : List Item) → HaveIndices w named → item ∷ [] ≡ named → (i : ℕ) × (w item ≡ Some i)
one_item w item named has e = has item (subst (λ (l : List Item). Contains l item) e (zero, omega arith, refl))

same_given : {B : Type 0} (x y : B) (c d : Copied) → (let r : Result (B × Copied) ModuleFault = Ok (x, c) in r) ≡ Ok (y, d) → (x ≡ y) × (c.named ≡ d.named)
same_given {B} x y c d e =
    let same = ok_value {A = B × Copied} {E = ModuleFault} (x, c) (y, d) e in (ap (λ (z : B × Copied). z.0) same, ap (λ (z : B × Copied). z.1.named) same)

item_copied :
    (w : NewIndices) (item : Item) (x : Unit {0}) (found : Copied) → copied_item own_index item ≡ Ok (x, found) → HaveIndices w found.named →
    (copied : Copied) × (copied_item w item ≡ Ok (x, copied)) × (copied.named ≡ found.named)
item_copied w item x found e has =
    let same = same_given tt x (record { written = short_number item.index; named = item ∷ [] }) found e in
    let new = one_item w item found.named has same.1 in (
      record { written = short_number new.0; named = item ∷ [] },
      ap (λ (o : Option ℕ). some_or o (fault.Index (index.Unnumbered item.space)) >>= λ i. Ok (tt, record { written = short_number i; named = item ∷ [] })) new.1,
      same.1,
    )

index_copied : (space : Space) → IsCopied (λ w. copied_index w space)
index_copied space = checked_copied number (λ w i. copied_item w (item_at space i)) (λ w i. item_copied w (item_at space i))

-- ---- types

abbrev item_new : Option ℕ → Item → Result (ℕ × Copied) ModuleFault
item_new o item = some_or o (fault.Index (index.Unnumbered item.space)) >>= λ i. Ok (i, names_item item)

abbrev heap_new : Option ℕ → ℕ → Result (HeapType ℕ × Copied) ModuleFault
heap_new o i = item_new o (item_at spaces.Types i) >>= λ x. Ok (Concrete x.0, x.1)

heap_copied :
    (w : NewIndices) (h g : HeapType ℕ) (found : Copied) → new_heap own_index h ≡ Ok (g, found) → HaveIndices w found.named →
    (k : HeapType ℕ) × (copied : Copied) × (new_heap w h ≡ Ok (k, copied)) × (copied.named ≡ found.named)
heap_copied w (Abstract a) g found e has = (Abstract a, writes [], refl, (same_given (Abstract a) g (writes []) found e).1)
heap_copied w (Concrete i) g found e has =
    let item = item_at spaces.Types i in
    let same = same_given (Concrete i) g (names_item item) found e in
    let new = one_item w item found.named has same.1 in (
      Concrete new.0,
      names_item item,
      ap (λ (o : Option ℕ). heap_new o i) new.1,
      same.1,
    )

-- a type that names no other one
plain_copied :
    (w : NewIndices) (t : ValType ℕ) (x : Unit {0}) (found : Copied) →
    (let r : Result (Unit {0} × Copied) ModuleFault = Ok (tt, record { written = short_value t; named = [] }) in r) ≡ Ok (x, found) →
    (copied : Copied) × ((let r : Result (Unit {0} × Copied) ModuleFault = Ok (tt, record { written = short_value t; named = [] }) in r) ≡ Ok (x, copied)) × (copied.named ≡ found.named)
plain_copied w t x found e = (found, e, refl)

abbrev to_type : RefType ℕ → HeapType ℕ × Copied → Result (ValType ℕ × Copied) ModuleFault
to_type r h = Ok (Ref (record { nullable = r.nullable; heap_type = h.0 }), h.1)

type_copied :
    (w : NewIndices) (t : ValType ℕ) (x : Unit {0}) (found : Copied) → (new_type own_index t >>= written_type) ≡ Ok (x, found) → HaveIndices w found.named →
    (copied : Copied) × ((new_type w t >>= written_type) ≡ Ok (x, copied)) × (copied.named ≡ found.named)
type_copied w I32 x found e has = plain_copied w I32 x found e
type_copied w I64 x found e has = plain_copied w I64 x found e
type_copied w F32 x found e has = plain_copied w F32 x found e
type_copied w F64 x found e has = plain_copied w F64 x found e
type_copied w V128 x found e has = plain_copied w V128 x found e
type_copied w (Ref r) x found e has = from (new_heap own_index r.heap_type) refl e
  where
    from : (h : Result (HeapType ℕ × Copied) ModuleFault) → new_heap own_index r.heap_type ≡ h → ((h >>= to_type r) >>= written_type) ≡ Ok (x, found) →
        (copied : Copied) × ((new_type w (Ref r) >>= written_type) ≡ Ok (x, copied)) × (copied.named ≡ found.named)
    from (Err g) is h = absurd cc
    from (Ok z) is h =
        let same = same_given tt x (record { written = short_value (Ref (record { nullable = r.nullable; heap_type = z.0 })); named = z.1.named }) found h in
        let c = heap_copied w r.heap_type z.0 z.1 is (subst (HaveIndices w) (sym same.1) has) in (
          record { written = short_value (Ref (record { nullable = r.nullable; heap_type = c.0 })); named = c.1.named },
          ap (λ (h : Result (HeapType ℕ × Copied) ModuleFault). (h >>= to_type r) >>= written_type) c.2,
          c.3 ∙ same.1,
        )

value_copied : IsCopied copied_value
value_copied = checked_copied value_part (λ w t. new_type w t >>= written_type) type_copied

-- ---- constant expressions

abbrev Keeps : {B : Type 0} → NewIndices → B → Copied → Result (B × Copied) ModuleFault → Type 0
Keeps w x found r = (copied : Copied) × (r ≡ Ok (x, copied)) × (copied.named ≡ found.named)

-- bytes before and after what is copied
after_copied :
    (bytes : List ℕ) (r : Result (Unit {0} × Copied) ModuleFault) (w : NewIndices) (s : Result (Unit {0} × Copied) ModuleFault) (x : Unit {0}) (found : Copied) →
    ((y : Unit {0}) (c : Copied) → r ≡ Ok (y, c) → c.named ≡ found.named → Keeps w y c s) → after_bytes bytes r ≡ Ok (x, found) → Keeps w x found (after_bytes bytes s)
after_copied bytes (Ok z) w s x found keeps e =
    let same = same_given tt x (copied_both (writes bytes) z.1) found e in
    let k = keeps z.0 z.1 refl same.1 in
    (copied_both (writes bytes) k.0, ap (λ (r : Result (Unit {0} × Copied) ModuleFault). after_bytes bytes r) k.1, k.2 ∙ same.1)
after_copied bytes (Err g) w s x found keeps e = absurd cc

before_copied :
    (bytes : List ℕ) (r : Result (Unit {0} × Copied) ModuleFault) (w : NewIndices) (s : Result (Unit {0} × Copied) ModuleFault) (x : Unit {0}) (found : Copied) →
    ((y : Unit {0}) (c : Copied) → r ≡ Ok (y, c) → c.named ≡ found.named → Keeps w y c s) → before_bytes bytes r ≡ Ok (x, found) →
    Keeps w x found (before_bytes bytes s)
before_copied bytes (Ok z) w s x found keeps e =
    let same = same_given tt x (copied_both z.1 (writes bytes)) found e in
    let none = append-nil z.1.named in
    let k = keeps z.0 z.1 refl (sym none ∙ same.1) in
    (copied_both k.0 (writes bytes), ap (λ (r : Result (Unit {0} × Copied) ModuleFault). before_bytes bytes r) k.1, append-nil k.0.named ∙ k.2 ∙ sym none ∙ same.1)
before_copied bytes (Err g) w s x found keeps e = absurd cc

abbrev to_bytes : HeapType ℕ × Copied → Result (Unit {0} × Copied) ModuleFault
to_bytes y = Ok (tt, record { written = short_heap y.0; named = y.1.named })

heap_written :
    (w : NewIndices) (h : HeapType ℕ) (x : Unit {0}) (found : Copied) → copied_heap own_index h ≡ Ok (x, found) → HaveIndices w found.named →
    Keeps w x found (copied_heap w h)
heap_written w h x found e has = from (new_heap own_index h) refl e
  where
    from : (g : Result (HeapType ℕ × Copied) ModuleFault) → new_heap own_index h ≡ g → (g >>= to_bytes) ≡ Ok (x, found) → Keeps w x found (copied_heap w h)
    from (Err g) is e = absurd cc
    from (Ok z) is e =
        let same = same_given tt x (record { written = short_heap z.0; named = z.1.named }) found e in
        let c = heap_copied w h z.0 z.1 is (subst (HaveIndices w) (sym same.1) has) in
        (record { written = short_heap c.0; named = c.1.named }, ap (λ (g : Result (HeapType ℕ × Copied) ModuleFault). g >>= to_bytes) c.2, c.3 ∙ same.1)

operation_copied :
    (w : NewIndices) (bytes : List ℕ) (o : Opcode) (is : ListedImmediates) (x : Unit {0}) (found : Copied) → copied_operation own_index bytes o is ≡ Ok (x, found) →
    HaveIndices w found.named → Keeps w x found (copied_operation w bytes o is)
operation_copied w bytes o (immediates.Index space i) x found e has =
    after_copied (short_opcode o) (copied_item own_index (item_at space i)) w (copied_item w (item_at space i)) x found
    (λ y c is named. item_copied w (item_at space i) y c is (subst (HaveIndices w) (sym named) has)) e
operation_copied w bytes o (immediates.IndexNumber space i n) x found e has =
    after_copied (short_opcode o) (before_bytes (short_number n) (copied_item own_index (item_at space i))) w
    (before_bytes (short_number n) (copied_item w (item_at space i))) x found
    (λ y c is named. before_copied (short_number n) (copied_item own_index (item_at space i)) w (copied_item w (item_at space i)) y c
    (λ z d it there. item_copied w (item_at space i) z d it (subst (HaveIndices w) (sym (there ∙ named)) has)) is) e
operation_copied w bytes o (immediates.Heap h) x found e has =
    after_copied (short_opcode o) (copied_heap own_index h) w (copied_heap w h) x found
    (λ y c is named. heap_written w h y c is (subst (HaveIndices w) (sym named) has)) e
operation_copied w bytes o (immediates.Pair first m second n) x found e has = absurd cc
operation_copied w bytes o (immediates.Access a) x found e has = absurd cc
operation_copied w bytes o (immediates.LaneAccess a n) x found e has = absurd cc
operation_copied w bytes o (immediates.Block type) x found e has = absurd cc
operation_copied w bytes o (immediates.Clauses type cs) x found e has = absurd cc
operation_copied w bytes o (immediates.Value type) x found e has = absurd cc
operation_copied w bytes o (immediates.Cast c) x found e has = absurd cc
operation_copied w bytes o _ x found e has = (found, e, refl)

abbrev to_end : Opcode → Unit {0} × Copied → Result (Bool × Copied) ModuleFault
to_end o y = Ok (is_end_opcode o, y.1)

if_constant_copied :
    (w : NewIndices) (v : RawOperation × List ℕ) (x : Bool) (found : Copied) → copied_if_constant own_index v ≡ Ok (x, found) → HaveIndices w found.named →
    Keeps w x found (copied_if_constant w v)
if_constant_copied w v x found e has = from (copied_operation own_index v.1 v.0.opcode (shape_of v.0.immediates)) refl e
  where
    from : (r : Result (Unit {0} × Copied) ModuleFault) → copied_operation own_index v.1 v.0.opcode (shape_of v.0.immediates) ≡ r → (r >>= to_end v.0.opcode) ≡ Ok (x, found) →
        Keeps w x found (copied_if_constant w v)
    from (Err g) is e = absurd cc
    from (Ok z) is e =
        let same = same_given (is_end_opcode v.0.opcode) x z.1 found e in
        let c = operation_copied w v.1 v.0.opcode (shape_of v.0.immediates) z.0 z.1 is (subst (HaveIndices w) (sym same.1) has) in (
          c.0,
          ap (λ (r : Result (Unit {0} × Copied) ModuleFault). r >>= to_end v.0.opcode) c.1
              ∙ ap (λ (b : Bool). (let r : Result (Bool × Copied) ModuleFault = Ok (b, c.0) in r)) same.0,
          c.2 ∙ same.1,
        )

operator_copied : IsCopied copied_operator
operator_copied = checked_copied (with_extent operator_part) copied_if_constant if_constant_copied

ends_copied : (n : ℕ) → IsCopied (λ w. copied_operators w n) → (is_end : Bool) → IsCopied (λ w. cond is_end nothing (copied_operators w n))
ends_copied n p true = same_copied nothing
ends_copied n p false = p

operators_copied : (n : ℕ) → IsCopied (λ w. copied_operators w n)
unfolding copied_operators
operators_copied zero = same_copied {A = Unit {0}} (λ end text. Err (fault_here end text (fault.Read unread.Truncated)))
operators_copied (suc n) =
    then_copied copied_operator (λ w is_end. cond is_end nothing (copied_operators w n)) operator_copied (ends_copied n (operators_copied n))

constant_copied : IsCopied copied_constant
constant_copied w end text = operators_copied (length text) w end text

-- ---- the items of sections

table_type_copied : IsCopied copied_table_type
table_type_copied = then_copied copied_value (λ w u. copied_limits) value_copied (λ u. same_copied copied_limits)

initialized_copied : IsCopied copied_initialized
initialized_copied =
    then_copied (λ w. puts (0x40 ∷ 0x00 ∷ [])) (λ w u. copied_table_type w >+> λ u. copied_constant w) (same_copied (puts (0x40 ∷ 0x00 ∷ [])))
    (λ u. then_copied copied_table_type (λ w u. copied_constant w) table_type_copied (λ u. constant_copied))

table_after_copied :
    (mark : Option (List ℕ)) → IsCopied (λ w end text. copied_table_after w mark end text)
table_after_copied None = table_type_copied
table_after_copied (Some marked) = λ w end text. initialized_copied w end marked

table_copied : IsCopied copied_table
table_copied w end text = table_after_copied (after_table_mark text) w end text

global_type_copied : IsCopied copied_global_type
global_type_copied = then_copied copied_value (λ w u. passed_byte) value_copied (λ u. same_copied passed_byte)

global_copied : IsCopied copied_global
global_copied = then_copied copied_global_type (λ w u. copied_constant w) global_type_copied (λ u. constant_copied)

tag_copied : IsCopied copied_tag
tag_copied = then_copied (λ w. copied_byte) (λ w b. copied_index w spaces.Types) (same_copied copied_byte) (λ b. index_copied spaces.Types)

imported_copied : (space : Space) → IsCopied (λ w. copied_imported w space)
imported_copied spaces.Funcs = index_copied spaces.Types
imported_copied spaces.Tables = table_type_copied
imported_copied spaces.Memories = same_copied copied_limits
imported_copied spaces.Globals = global_type_copied
imported_copied spaces.Types = tag_copied
imported_copied spaces.Tags = tag_copied
imported_copied spaces.Elements = tag_copied
imported_copied spaces.Data = tag_copied

import_copied : IsCopied copied_import
import_copied =
    then_copied (λ w. copied_bytes)
    (λ w u. copied_bytes >+> λ u. copied_kind fault.BadImportKind >+> λ space. with_other_value (λ u. space) (copied_imported w space))
    (same_copied copied_bytes)
    (λ u. then_copied (λ w. copied_bytes) (λ w u. copied_kind fault.BadImportKind >+> λ space. with_other_value (λ u. space) (copied_imported w space))
    (same_copied copied_bytes)
    (λ u. then_copied (λ w. copied_kind fault.BadImportKind) (λ w space. with_other_value (λ u. space) (copied_imported w space))
    (same_copied (copied_kind fault.BadImportKind)) (λ space. other_copied (λ u. space) (λ w. copied_imported w space) (imported_copied space))))

export_copied : IsCopied copied_export
export_copied =
    then_copied (λ w. copied_bytes) (λ w u. copied_kind fault.BadExportKind >+> copied_index w) (same_copied copied_bytes)
    (λ u. then_copied (λ w. copied_kind fault.BadExportKind) copied_index (same_copied (copied_kind fault.BadExportKind)) index_copied)

-- the first item of a space, which is named and not written
name_copied :
    (w : NewIndices) (item : Item) (i : ℕ) (found : Copied) → named_item own_index item ≡ Ok (i, found) → HaveIndices w found.named →
    (j : ℕ) × (copied : Copied) × (named_item w item ≡ Ok (j, copied)) × (copied.named ≡ found.named)
name_copied w item i found e has =
    let same = same_given item.index i (names_item item) found e in
    let new = one_item w item found.named has same.1 in
    (new.0, names_item item, ap (λ (o : Option ℕ). item_new o item) new.1, same.1)

abbrev first_from : (end : ℕ) → (text : List ℕ) → Result (ℕ × Copied) ModuleFault → Read (Unit {0})
first_from end text r = with_fault (fault_here end text) r >>= λ y. Ok ((tt, y.1), text)

first_copied : (space : Space) → IsCopied (λ w. copied_first w space)
first_copied space w end text rest x found e has =
    let all = ok_value {A = (Unit {0} × Copied) × List ℕ} {E = ModuleError} ((tt, names_item (item_at space 0)), text) ((x, found), rest) e in
    let named : item_at space 0 ∷ [] ≡ found.named = ap (λ (z : (Unit {0} × Copied) × List ℕ). z.0.1.named) all in
    let c = name_copied w (item_at space 0) 0 (names_item (item_at space 0)) refl (subst (HaveIndices w) (sym named) has) in (
      c.1,
      ap (first_from end text) c.2
          ∙ ap (λ (l : List ℕ). (let r : Read (Unit {0}) = Ok ((x, c.1), l) in r)) (ap (λ (z : (Unit {0} × Copied) × List ℕ). z.1) all),
      c.3 ∙ named,
    )

target_copied : (space : Space) (has_index : Bool) → IsCopied (λ w. copied_target w space has_index)
target_copied space true = index_copied space
target_copied space false = first_copied space

active_copied : (space : Space) (has_index : Bool) → IsCopied (λ w. copied_active w space has_index)
active_copied space has_index =
    then_copied (λ w. copied_target w space has_index) (λ w u. copied_constant w) (target_copied space has_index) (λ u. constant_copied)

place_copied : (space : Space) (is_active has_index : Bool) → IsCopied (λ w. copied_place w space is_active has_index)
place_copied space true has_index = active_copied space has_index
place_copied space false has_index = same_copied nothing

kind_copied : (is_type : Bool) → IsCopied (λ w. copied_element_kind w is_type)
kind_copied true = value_copied
kind_copied false = same_copied passed_byte

kind_if_copied : (none is_type : Bool) → IsCopied (λ w. cond none nothing (copied_element_kind w is_type))
kind_if_copied true is_type = same_copied nothing
kind_if_copied false is_type = kind_copied is_type

elements_copied : (are_expressions : Bool) → IsCopied (λ w. copied_elements w are_expressions)
elements_copied true = vector_copied copied_constant constant_copied
elements_copied false = vector_copied (λ w. copied_index w spaces.Funcs) (index_copied spaces.Funcs)

typed_elements_copied : (flags : ℕ) → IsCopied (λ w. copied_typed_elements w flags)
typed_elements_copied flags =
    then_copied (λ w. copied_element_type w flags) (λ w u. copied_elements w (nat_le 4 flags)) (kind_if_copied ((flags % 4) == 0) (nat_le 4 flags))
    (λ u. elements_copied (nat_le 4 flags))

element_copied : IsCopied copied_element
element_copied =
    then_copied (λ w. copied_number)
    (λ w flags. copied_place w spaces.Tables ((flags % 2) == 0) ((flags % 4) == 2) >+> λ u. copied_typed_elements w flags) (same_copied copied_number)
    (λ flags. then_copied (λ w. copied_place w spaces.Tables ((flags % 2) == 0) ((flags % 4) == 2)) (λ w u. copied_typed_elements w flags)
    (place_copied spaces.Tables ((flags % 2) == 0) ((flags % 4) == 2)) (λ u. typed_elements_copied flags))

data_copied : IsCopied copied_data
data_copied =
    then_copied (λ w. copied_number) (λ w flags. copied_place w spaces.Memories (not (flags == 1)) (flags == 2) >+> λ u. copied_bytes)
    (same_copied copied_number)
    (λ flags. then_copied (λ w. copied_place w spaces.Memories (not (flags == 1)) (flags == 2)) (λ w u. copied_bytes)
    (place_copied spaces.Memories (not (flags == 1)) (flags == 2)) (λ u. same_copied copied_bytes))

defined_copied : (space : Space) → IsCopied (λ w. copied_defined w space)
defined_copied spaces.Tables = table_copied
defined_copied spaces.Memories = same_copied copied_limits
defined_copied spaces.Tags = tag_copied
defined_copied spaces.Globals = global_copied
defined_copied spaces.Elements = element_copied
defined_copied spaces.Data = data_copied
defined_copied spaces.Types = index_copied spaces.Types
defined_copied spaces.Funcs = index_copied spaces.Types

-- ---- types

storage_if_copied : (is_packed : Bool) → IsCopied (λ w end text. cond is_packed (passed_byte end text) (copied_value w end text))
storage_if_copied true = same_copied passed_byte
storage_if_copied false = value_copied

storage_copied : IsCopied copied_storage
storage_copied w end text = storage_if_copied (starts is_packed_byte text) w end text

field_copied : IsCopied copied_field
field_copied = then_copied copied_storage (λ w u. passed_byte) storage_copied (λ u. same_copied passed_byte)

function_type_copied : IsCopied copied_function_type
function_type_copied =
    then_copied (λ w. copied_vector (copied_value w)) (λ w u. copied_vector (copied_value w)) (vector_copied copied_value value_copied)
    (λ u. vector_copied copied_value value_copied)

composite_of_copied : (is_function is_struct : Bool) → IsCopied (λ w. copied_composite_of w is_function is_struct)
composite_of_copied true is_struct = function_type_copied
composite_of_copied false true = vector_copied copied_field field_copied
composite_of_copied false false = field_copied

composite_copied : IsCopied copied_composite
composite_copied =
    then_copied (λ w. copied_composite_kind) copied_composite_after (same_copied copied_composite_kind)
    (λ b. composite_of_copied (b == 0x60) (b == 0x5f))

supertypes_copied : IsCopied copied_supertypes
supertypes_copied =
    then_copied (λ w. copied_byte) (λ w b. copied_vector (copied_index w spaces.Types)) (same_copied copied_byte)
    (λ b. vector_copied (λ w. copied_index w spaces.Types) (index_copied spaces.Types))

derived_copied : IsCopied copied_derived
derived_copied = then_copied copied_supertypes (λ w u. copied_composite w) supertypes_copied (λ u. composite_copied)

subtype_if_copied : (has_supertypes : Bool) → IsCopied (λ w end text. cond has_supertypes (copied_derived w end text) (copied_composite w end text))
subtype_if_copied true = derived_copied
subtype_if_copied false = composite_copied

subtype_copied : IsCopied copied_subtype
subtype_copied w end text = subtype_if_copied (starts has_supertypes text) w end text

pub items_copied : ItemsAreCopied
items_copied = record { imports = import_copied; defined = defined_copied; exports = export_copied; start = index_copied spaces.Funcs; types = subtype_copied }
