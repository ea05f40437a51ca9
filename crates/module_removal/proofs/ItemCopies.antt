-- What is copied of an item that is named, of a type, and of an operator of a constant expression.
use Rattle.std.proofs.Common.{◌≡◌, ℕ, Bool, List, [], ◌∷◌, ◌++◌, Option, Some, None, Result, Ok, Err, OnOk, IfErr, refl, sym, ap, subst, ◌∙◌, inl, inr, pos}
use Rattle.std.proofs.lemmas.List.{append-nil}
use denote.Ref.{Bor}
use Rattle.wasm_types.specs.declared.val_type.HeapType.{HeapType}
use Rattle.wasm_types.specs.declared.val_type.HeapType.TheVariants.{Abstract, Concrete}
use Rattle.wasm_types.specs.declared.val_type.ValType.{ValType}
use Rattle.wasm_types.specs.declared.val_type.ValType.TheVariants.{Ref, I32, I64, F32, F64, V128}
use Rattle.wasm_types.specs.declared.val_type.RefType.{RefType}
use Rattle.wasm_numbers.specs.Results.{◌>>=◌, with_fault, some_or}
use Rattle.wasm_operators.specs.declared.types.Opcode.{Opcode}
use Rattle.wasm_operators.specs.declared.types.Space.TheVariants.{Types}
use Rattle.wasm_operators.specs.Operations.{RawOperation}
use Rattle.wasm_operators.specs.Parts.{ListedImmediates, parts_of, shape_of}
use Rattle.wasm_operators.specs.Shortest.{short_number, short_value, short_heap, short_integer}
use Rattle.wasm_body.specs.declared.error.IndexError.TheVariants as index
use Rattle.wasm_sections.specs.declared.fault.ModuleError.{ModuleError}
use Rattle.wasm_sections.specs.declared.fault.ModuleFault.{ModuleFault}
use Rattle.wasm_sections.specs.declared.fault.ModuleFault.TheVariants as fault
use Rattle.wasm_sections.specs.Format.{is_end_opcode}
use Rattle.module_removal.specs.declared.item.Item.{Item}
use Rattle.module_removal.specs.declared.left.LeftItems.{LeftItems}
use Rattle.module_removal.specs.declared.copier.Copier.{Copier}
use Rattle.module_removal.specs.LeftSpaces.{index_written}
use Rattle.module_removal.specs.CopiedParts.{Copied, writes, names_item, copied_both, NewIndices, item_at, named_item, copied_item, new_heap, new_type, written_type, AppendsCopied, PutsCopied}
use Rattle.module_removal.specs.CopiedConstants.{after_bytes, before_bytes, copied_heap, copied_operation, copied_if_constant}
use Rattle.module_removal.proofs.CopyLemmas.{Given, Fails, appends_both, appends_nothing}

-- ---- an item

abbrev item_from : Option ℕ → Item → Result (ℕ × Copied) ModuleFault
item_from o item = some_or o (fault.Index (index.Unnumbered item.space)) >>= λ i. Ok (i, names_item item)

-- a pair in a result
ok_same : {A E : Type 0} (x y : A × Copied) → (let r : Result (A × Copied) E = Ok x in r) ≡ Ok y → x ≡ y
ok_same x y e = cc

named_from :
    (o : Option ℕ) (item : Item) (f : ModuleFault → ModuleError) (i : ℕ) (c : Copied) → with_fault f (item_from o item) ≡ Ok (i, c) →
    (o ≡ Some i) × (c ≡ names_item item)
named_from (Some j) item f i c e =
    let same = ok_same {A = ℕ} {E = ModuleError} (j, names_item item) (i, c) e in
    (ap (λ (p : ℕ × Copied). Some p.0) same, sym (ap (λ (p : ℕ × Copied). p.1) same))
named_from None item f i c e = absurd cc

puts_from :
    (o : Option ℕ) (f : ModuleFault → ModuleError) (item : Item) (old new : Copier) (r : Result ℕ ModuleError) → AppendsCopied old (names_item item) new →
    r ≡ with_fault f (some_or o (fault.Index (index.Unnumbered item.space))) → PutsCopied old new r (with_fault f (item_from o item))
puts_from (Some j) f item old new (Ok i) a e = (names_item item, cc, a)
puts_from (Some j) f item old new (Err g) a e = absurd cc
puts_from None f item old new (Ok i) a e = absurd cc
puts_from None f item old new (Err g) a e = inr cc

-- the item is named, and its new index is the result
pub puts_name :
    (f : ModuleFault → ModuleError) (item : Item) (old new : Copier) (r : Result ℕ ModuleError) → AppendsCopied old (names_item item) new →
    r ≡ with_fault f (some_or (index_written new.left item) (fault.Index (index.Unnumbered item.space))) →
    PutsCopied old new r (with_fault f (named_item (index_written old.left) item))
puts_name f item old new r a e =
    puts_from (index_written old.left item) f item old new r a
    (e ∙ ap (λ (l : Option (Bor LeftItems)). with_fault f (some_or (index_written l item) (fault.Index (index.Unnumbered item.space)))) a.left)

-- its new index, which is written
abbrev item_to : Option ℕ → Item → Result (Unit {0} × Copied) ModuleFault
item_to o item = some_or o (fault.Index (index.Unnumbered item.space)) >>= λ i. Ok (tt, record { written = short_number i; named = item ∷ [] })

pub puts_item :
    (f : ModuleFault → ModuleError) (w : NewIndices) (item : Item) (i : ℕ) (old mid new : Copier) (r : Result (Unit {0}) ModuleError) →
    PutsCopied old mid (Ok i) (with_fault f (named_item w item)) → OnOk r (AppendsCopied mid (writes (short_number i)) new) →
    IfErr r (λ e. e.fault ≡ fault.Memory) → PutsCopied old new r (with_fault f (copied_item w item))
puts_item f w item i old mid new (Ok u) p a m =
    let from = named_from (w item) item f i p.0 p.1 in
    let first : AppendsCopied old (names_item item) mid = subst (λ (c : Copied). AppendsCopied old c mid) from.1 p.2 in (
      record { written = short_number i; named = item ∷ [] },
      ap (λ (o : Option ℕ). with_fault f (item_to o item)) from.0,
      appends_both old mid new (names_item item) (writes (short_number i)) first a,
    )
puts_item f w item i old mid new (Err e) p a m = inl m

item_fails_from :
    (o : Option ℕ) (item : Item) (f : ModuleFault → ModuleError) (e : ModuleError) → with_fault f (item_from o item) ≡ Err e → with_fault f (item_to o item) ≡ Err e
item_fails_from (Some j) item f e h = absurd cc
item_fails_from None item f e h = cc

pub item_fails :
    (f : ModuleFault → ModuleError) (w : NewIndices) (item : Item) (e : ModuleError) → Fails e (with_fault f (named_item w item)) →
    Fails e (with_fault f (copied_item w item))
item_fails f w item e (inl m) = inl m
item_fails f w item e (inr h) = inr (item_fails_from (w item) item f e h)

-- ---- types

-- a type is named and nothing is written, and then bytes
appends_type :
    (old mid new : Copier) (c : Copied) (bytes : List ℕ) → c.written ≡ [] → AppendsCopied old c mid → AppendsCopied mid (writes bytes) new →
    AppendsCopied old (record { written = bytes; named = c.named }) new
appends_type old mid new c bytes none a b = record {
  left = b.left ∙ a.left;
  out = b.out ∙ ap (λ (l : List ℕ). l ++ bytes) (a.out ∙ ap (λ (l : List ℕ). old.out.items ++ l) none ∙ append-nil old.out.items);
  found = b.found ∙ append-nil mid.found.items ∙ a.found;
}

abbrev heap_from : Option ℕ → ℕ → Result (HeapType ℕ × Copied) ModuleFault
heap_from o i = item_from o (item_at Types i) >>= λ x. Ok (Concrete x.0, x.1)

concrete_writes_none : (o : Option ℕ) (i : ℕ) (f : ModuleFault → ModuleError) (g : HeapType ℕ) (c : Copied) → with_fault f (heap_from o i) ≡ Ok (g, c) → c.written ≡ []
concrete_writes_none (Some j) i f g c e =
    sym (ap (λ (p : HeapType ℕ × Copied). p.1.written) (ok_same {A = HeapType ℕ} {E = ModuleError} (Concrete j, names_item (item_at Types i)) (g, c) e))
concrete_writes_none None i f g c e = absurd cc

heap_writes_none : (f : ModuleFault → ModuleError) (w : NewIndices) (h g : HeapType ℕ) (c : Copied) → with_fault f (new_heap w h) ≡ Ok (g, c) → c.written ≡ []
heap_writes_none f w (Abstract a) g c e =
    sym (ap (λ (p : HeapType ℕ × Copied). p.1.written) (ok_same {A = HeapType ℕ} {E = ModuleError} (Abstract a, writes []) (g, c) e))
heap_writes_none f w (Concrete i) g c e = concrete_writes_none (w (item_at Types i)) i f g c e

-- a heap type, and a value type, with the new index of the type that it names
pub puts_heap_name :
    (f : ModuleFault → ModuleError) (w : NewIndices) (i j : ℕ) (old new : Copier) → PutsCopied old new (Ok j) (with_fault f (named_item w (item_at Types i))) →
    PutsCopied old new (Ok (Concrete j)) (with_fault f (new_heap w (Concrete i)))
puts_heap_name f w i j old new p =
    let from = named_from (w (item_at Types i)) (item_at Types i) f j p.0 p.1 in
    (names_item (item_at Types i), ap (λ (o : Option ℕ). with_fault f (heap_from o i)) from.0, subst (λ (c : Copied). AppendsCopied old c new) from.1 p.2)

heap_fails_from :
    (o : Option ℕ) (f : ModuleFault → ModuleError) (i : ℕ) (e : ModuleError) → with_fault f (item_from o (item_at Types i)) ≡ Err e →
    with_fault f (heap_from o i) ≡ Err e
heap_fails_from (Some j) f i e h = absurd cc
heap_fails_from None f i e h = cc

pub heap_name_fails :
    (f : ModuleFault → ModuleError) (w : NewIndices) (i : ℕ) (e : ModuleError) → Fails e (with_fault f (named_item w (item_at Types i))) →
    Fails e (with_fault f (new_heap w (Concrete i)))
heap_name_fails f w i e (inl m) = inl m
heap_name_fails f w i e (inr h) = inr (heap_fails_from (w (item_at Types i)) f i e h)

-- the value type of a heap type
abbrev type_from : RefType ℕ → Result (HeapType ℕ × Copied) ModuleFault → Result (ValType ℕ × Copied) ModuleFault
type_from r h = h >>= λ h. Ok (Ref (record { nullable = r.nullable; heap_type = h.0 }), h.1)

type_given :
    (r : RefType ℕ) (f : ModuleFault → ModuleError) (g : Result (HeapType ℕ × Copied) ModuleFault) (h : HeapType ℕ) (c : Copied) →
    with_fault f g ≡ Ok (h, c) → with_fault f (type_from r g) ≡ Ok (Ref (record { nullable = r.nullable; heap_type = h }), c)
type_given r f (Ok x) h c e = ap (λ (y : Result (HeapType ℕ × Copied) ModuleError). y >>= λ h. Ok (Ref (record { nullable = r.nullable; heap_type = h.0 }), h.1)) e
type_given r f (Err g) h c e = absurd cc

type_refused :
    (r : RefType ℕ) (f : ModuleFault → ModuleError) (g : Result (HeapType ℕ × Copied) ModuleFault) (e : ModuleError) →
    with_fault f g ≡ Err e → with_fault f (type_from r g) ≡ Err e
type_refused r f (Ok x) e h = absurd cc
type_refused r f (Err g) e h = cc

-- the type that a reference type names
pub puts_type_name :
    (f : ModuleFault → ModuleError) (w : NewIndices) (nullable : Bool) (i j : ℕ) (old new : Copier) →
    PutsCopied old new (Ok j) (with_fault f (named_item w (item_at Types i))) →
    PutsCopied old new (Ok (Ref (record { nullable = nullable; heap_type = Concrete j }))) (with_fault f (new_type w (Ref (record { nullable = nullable; heap_type = Concrete i }))))
puts_type_name f w nullable i j old new p =
    let q = puts_heap_name f w i j old new p in
    (q.0, type_given (record { nullable = nullable; heap_type = Concrete i }) f (new_heap w (Concrete i)) (Concrete j) q.0 q.1, q.2)

pub type_name_fails :
    (f : ModuleFault → ModuleError) (w : NewIndices) (nullable : Bool) (i : ℕ) (e : ModuleError) →
    Fails e (with_fault f (named_item w (item_at Types i))) →
    Fails e (with_fault f (new_type w (Ref (record { nullable = nullable; heap_type = Concrete i }))))
type_name_fails f w nullable i e (inl m) = inl m
type_name_fails f w nullable i e (inr h) =
    inr (type_refused (record { nullable = nullable; heap_type = Concrete i }) f (new_heap w (Concrete i)) e (heap_fails_from (w (item_at Types i)) f i e h))

-- the same of a type that is one
module _ (f : ModuleFault → ModuleError) (w : NewIndices) (t : ValType ℕ) (r : RefType ℕ) (i : ℕ) (is : t ≡ Ref r) (heap : r.heap_type ≡ Concrete i) where
  same_reference : t ≡ Ref (record { nullable = r.nullable; heap_type = Concrete i })
  same_reference = is ∙ ap (λ (h : HeapType ℕ). Ref (record { nullable = r.nullable; heap_type = h })) heap

  pub puts_named_type :
      (u : ValType ℕ) (j : ℕ) (old new : Copier) → u ≡ Ref (record { nullable = r.nullable; heap_type = Concrete j }) →
      PutsCopied old new (Ok j) (with_fault f (named_item w (item_at Types i))) → PutsCopied old new (Ok u) (with_fault f (new_type w t))
  puts_named_type u j old new e p =
      subst (λ (v : ValType ℕ). PutsCopied old new (Ok v) (with_fault f (new_type w t))) (sym e)
      (subst (λ (v : ValType ℕ). PutsCopied old new (Ok (Ref (record { nullable = r.nullable; heap_type = Concrete j }))) (with_fault f (new_type w v))) (sym same_reference)
      (puts_type_name f w r.nullable i j old new p))

  pub named_type_fails : (e : ModuleError) → Fails e (with_fault f (named_item w (item_at Types i))) → Fails e (with_fault f (new_type w t))
  named_type_fails e h =
      subst (λ (v : ValType ℕ). Fails e (with_fault f (new_type w v))) (sym same_reference) (type_name_fails f w r.nullable i e h)

-- a type that names none
pub puts_same_type :
    (f : ModuleFault → ModuleError) (w : NewIndices) (t : ValType ℕ) (old : Copier) → ((r : RefType ℕ) → t ≡ Ref r → ⊥) →
    PutsCopied old old (Ok t) (with_fault f (new_type w t))
puts_same_type f w I32 old never = (writes [], refl, appends_nothing old)
puts_same_type f w I64 old never = (writes [], refl, appends_nothing old)
puts_same_type f w F32 old never = (writes [], refl, appends_nothing old)
puts_same_type f w F64 old never = (writes [], refl, appends_nothing old)
puts_same_type f w V128 old never = (writes [], refl, appends_nothing old)
puts_same_type f w (Ref r) old never = absurd (never r refl)

pub puts_same_heap :
    (f : ModuleFault → ModuleError) (w : NewIndices) (r : RefType ℕ) (old : Copier) → ((i : ℕ) → r.heap_type ≡ Concrete i → ⊥) →
    PutsCopied old old (Ok (Ref r)) (with_fault f (new_type w (Ref r)))
puts_same_heap f w r old never = same r.heap_type refl
  where
    same : (h : HeapType ℕ) → r.heap_type ≡ h → PutsCopied old old (Ok (Ref r)) (with_fault f (new_type w (Ref r)))
    same (Abstract a) e =
        (writes [], ap (λ (h : HeapType ℕ). with_fault f (type_from r (new_heap w h))) e ∙ ap (λ (h : HeapType ℕ). Ok (Ref (record { nullable = r.nullable; heap_type = h }), writes [])) (sym e), appends_nothing old)
    same (Concrete i) e = absurd (never i e)

pub puts_unnamed_type :
    (f : ModuleFault → ModuleError) (w : NewIndices) (t : ValType ℕ) (r : RefType ℕ) (old : Copier) → t ≡ Ref r → ((i : ℕ) → r.heap_type ≡ Concrete i → ⊥) →
    PutsCopied old old (Ok (Ref r)) (with_fault f (new_type w t))
puts_unnamed_type f w t r old e never =
    subst (λ (v : ValType ℕ). PutsCopied old old (Ok (Ref r)) (with_fault f (new_type w v))) (sym e) (puts_same_heap f w r old never)

-- a value type with the new index, which is written
none_written :
    (t u : ValType ℕ) (c : Copied) (f : ModuleFault → ModuleError) → (let r : Result (ValType ℕ × Copied) ModuleError = Ok (t, writes []) in r) ≡ Ok (u, c) →
    c.written ≡ []
none_written t u c f e = sym (ap (λ (p : ValType ℕ × Copied). p.1.written) (ok_same {A = ValType ℕ} {E = ModuleError} (t, writes []) (u, c) e))

type_writes_none :
    (f : ModuleFault → ModuleError) (w : NewIndices) (t u : ValType ℕ) (c : Copied) → with_fault f (new_type w t) ≡ Ok (u, c) → c.written ≡ []
type_writes_none f w I32 u c e = none_written I32 u c f e
type_writes_none f w I64 u c e = none_written I64 u c f e
type_writes_none f w F32 u c e = none_written F32 u c f e
type_writes_none f w F64 u c e = none_written F64 u c f e
type_writes_none f w V128 u c e = none_written V128 u c f e
type_writes_none f w (Ref r) u c e = none (new_heap w r.heap_type) e (λ g d. heap_writes_none f w r.heap_type g d)
  where
    none :
        (h : Result (HeapType ℕ × Copied) ModuleFault) → with_fault f (type_from r h) ≡ Ok (u, c) →
        ((g : HeapType ℕ) (d : Copied) → with_fault f h ≡ Ok (g, d) → d.written ≡ []) → c.written ≡ []
    none (Ok x) e writes_none =
        let same = ok_same {A = ValType ℕ} {E = ModuleError} (Ref (record { nullable = r.nullable; heap_type = x.0 }), x.1) (u, c) e in
        sym (ap (λ (p : ValType ℕ × Copied). p.1.written) same) ∙ writes_none x.0 x.1 refl
    none (Err g) e writes_none = absurd cc

-- what is given, and then other steps that may not fail
given_then :
    {A B : Type 0} (f : ModuleFault → ModuleError) (g : Result (A × Copied) ModuleFault) (then : A × Copied → Result (B × Copied) ModuleFault) (x : A) (c : Copied) →
    with_fault f g ≡ Ok (x, c) → with_fault f (g >>= then) ≡ with_fault f (then (x, c))
given_then {A} f (Ok y) then x c e = let same : y ≡ (x, c) = cc in ap (λ (z : A × Copied). with_fault f (then z)) same
given_then f (Err h) then x c e = absurd cc

pub given_fails :
    {A B : Type 0} (f : ModuleFault → ModuleError) (g : Result (A × Copied) ModuleFault) (then : A × Copied → Result (B × Copied) ModuleFault) (e : ModuleError) →
    Fails e (with_fault f g) → Fails e (with_fault f (g >>= then))
given_fails f g then e (inl m) = inl m
given_fails f (Ok x) then e (inr h) = absurd cc
given_fails f (Err y) then e (inr h) = inr cc

pub puts_type :
    (f : ModuleFault → ModuleError) (w : NewIndices) (t u : ValType ℕ) (old mid new : Copier) (r : Result (Unit {0}) ModuleError) →
    PutsCopied old mid (Ok u) (with_fault f (new_type w t)) → OnOk r (AppendsCopied mid (writes (short_value u)) new) → IfErr r (λ e. e.fault ≡ fault.Memory) →
    PutsCopied old new r (with_fault f (new_type w t >>= written_type))
puts_type f w t u old mid new (Ok v) p a m = (
  record { written = short_value u; named = p.0.named },
  given_then f (new_type w t) written_type u p.0 p.1,
  appends_type old mid new p.0 (short_value u) (type_writes_none f w t u p.0 p.1) p.2 a,
)
puts_type f w t u old mid new (Err e) p a m = inl m

-- a heap type with the new index, which is written
abbrev heap_to : Option ℕ → ℕ → Result (Unit {0} × Copied) ModuleFault
heap_to o i = heap_from o i >>= λ x. Ok (tt, record { written = short_heap x.0; named = x.1.named })

pub puts_heap :
    (f : ModuleFault → ModuleError) (w : NewIndices) (i j : ℕ) (old mid new : Copier) (r : Result (Unit {0}) ModuleError) →
    PutsCopied old mid (Ok j) (with_fault f (named_item w (item_at Types i))) → OnOk r (AppendsCopied mid (writes (short_integer (pos j))) new) →
    IfErr r (λ e. e.fault ≡ fault.Memory) → PutsCopied old new r (with_fault f (copied_heap w (Concrete i)))
puts_heap f w i j old mid new (Ok u) p a m =
    let item = item_at Types i in
    let from = named_from (w item) item f j p.0 p.1 in
    let first : AppendsCopied old (names_item item) mid = subst (λ (c : Copied). AppendsCopied old c mid) from.1 p.2 in (
      record { written = short_integer (pos j); named = item ∷ [] },
      ap (λ (o : Option ℕ). with_fault f (heap_to o i)) from.0,
      appends_both old mid new (names_item item) (writes (short_integer (pos j))) first a,
    )
puts_heap f w i j old mid new (Err e) p a m = inl m

-- ---- operators of constant expressions

-- bytes, and then what is copied
pub puts_after :
    (f : ModuleFault → ModuleError) (given : NewIndices → Result (Unit {0} × Copied) ModuleFault) (bytes : List ℕ) (old mid new : Copier)
    (r : Result (Unit {0}) ModuleError) → AppendsCopied old (writes bytes) mid → PutsCopied mid new r (with_fault f (given (index_written mid.left))) →
    PutsCopied old new r (with_fault f (after_bytes bytes (given (index_written old.left))))
puts_after f given bytes old mid new r a p = after r (puts_left r p)
  where
    puts_left : (r : Result (Unit {0}) ModuleError) → PutsCopied mid new r (with_fault f (given (index_written mid.left))) → PutsCopied mid new r (with_fault f (given (index_written old.left)))
    puts_left r p = subst (λ (l : Option (Bor LeftItems)). PutsCopied mid new r (with_fault f (given (index_written l)))) a.left p

    after : (r : Result (Unit {0}) ModuleError) → PutsCopied mid new r (with_fault f (given (index_written old.left))) → PutsCopied old new r (with_fault f (after_bytes bytes (given (index_written old.left))))
    after (Ok u) p = (
      copied_both (writes bytes) p.0,
      given_then f (given (index_written old.left)) (λ x. Ok (tt, copied_both (writes bytes) x.1)) u p.0 p.1,
      appends_both old mid new (writes bytes) p.0 a p.2,
    )
    after (Err e) p = given_fails f (given (index_written old.left)) (λ x. Ok (tt, copied_both (writes bytes) x.1)) e p

-- what is copied, and then bytes
pub puts_before :
    (f : ModuleFault → ModuleError) (given : Result (Unit {0} × Copied) ModuleFault) (bytes : List ℕ) (old mid new : Copier)
    (r : Result (Unit {0}) ModuleError) → PutsCopied old mid (Ok tt) (with_fault f given) → OnOk r (AppendsCopied mid (writes bytes) new) →
    IfErr r (λ e. e.fault ≡ fault.Memory) → PutsCopied old new r (with_fault f (before_bytes bytes given))
puts_before f given bytes old mid new (Ok u) p a m = (
  copied_both p.0 (writes bytes),
  given_then f given (λ x. Ok (tt, copied_both x.1 (writes bytes))) tt p.0 p.1,
  appends_both old mid new p.0 (writes bytes) p.2 a,
)
puts_before f given bytes old mid new (Err e) p a m = inl m

-- the parts of an operator, and whether it is the `end`
pub puts_operator :
    (f : ModuleFault → ModuleError) (w : NewIndices) (o : RawOperation) (bytes : List ℕ) (x : Opcode × ListedImmediates) (is_end : Bool)
    (old new : Copier) → x ≡ parts_of o → is_end ≡ is_end_opcode x.0 → PutsCopied old new (Ok tt) (with_fault f (copied_operation w bytes x.0 x.1)) →
    PutsCopied old new (Ok is_end) (with_fault f (copied_if_constant w (o, bytes)))
puts_operator f w o bytes x is_end old new e b p =
    let q : PutsCopied old new (Ok tt) (with_fault f (copied_operation w bytes o.opcode (shape_of o.immediates))) =
    subst (λ (y : Opcode × ListedImmediates). PutsCopied old new (Ok tt) (with_fault f (copied_operation w bytes y.0 y.1))) e p in
    let is : is_end ≡ is_end_opcode o.opcode = b ∙ ap (λ (y : Opcode × ListedImmediates). is_end_opcode y.0) e in (
      q.0,
      given_then f (copied_operation w bytes o.opcode (shape_of o.immediates)) (λ y. Ok (is_end_opcode o.opcode, y.1)) tt q.0 q.1
          ∙ ap (λ (b : Bool). (let r : Given Bool = Ok (b, q.0) in r)) (sym is),
      q.2,
    )

pub operator_fails :
    (f : ModuleFault → ModuleError) (w : NewIndices) (o : RawOperation) (bytes : List ℕ) (x : Opcode × ListedImmediates) (e : ModuleError) →
    x ≡ parts_of o → Fails e (with_fault f (copied_operation w bytes x.0 x.1)) → Fails e (with_fault f (copied_if_constant w (o, bytes)))
operator_fails f w o bytes x e s h =
    given_fails f (copied_operation w bytes o.opcode (shape_of o.immediates)) (λ y. Ok (is_end_opcode o.opcode, y.1)) e
    (subst (λ (y : Opcode × ListedImmediates). Fails e (with_fault f (copied_operation w bytes y.0 y.1))) s h)
