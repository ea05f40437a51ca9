-- Two translations, one after the other, are the one that they lead to; and the translation that changes nothing.
use Rattle.std.proofs.Common.{◌≡◌, ℕ, length, List, [], ◌∷◌, Option, Some, None, Result, Ok, refl, sym, ap, ◌∙◌}
use Rattle.std.specs.List.{AllByRecursion}
use Rattle.wasm_types.specs.declared.val_type.HeapType.{HeapType}
use Rattle.wasm_types.specs.declared.val_type.HeapType.TheVariants.{Abstract, Concrete}
use Rattle.wasm_types.specs.declared.val_type.ValType.{ValType}
use Rattle.wasm_types.specs.declared.val_type.ValType.TheVariants.{I32, I64, F32, F64, V128, Ref}
use Rattle.wasm_operators.specs.declared.types.Space.{Space}
use Rattle.wasm_operators.specs.declared.types.Space.TheVariants.{Types, Memories, Tags}
use Rattle.wasm_operators.specs.Operations.{Access, CatchClause, Cast, Immediate, index, local, label, handler, outer, number, access, branch_table, clauses, block, heap, value, cast, i32, i64, f32, f64, v128, lane, lanes, zero_byte}
use Rattle.wasm_numbers.specs.Results.{◌>>=◌, each}
use Rattle.wasm_body.specs.Translation.{Translation, keeping_numbers, translate_heap, translate_value, translate_tag, translate_clause, translate_cast, translate_access, translate_immediate, translate_immediates}
use Rattle.wasm_body.specs.Naming.{block_types}
use Rattle.wasm_body.proofs.Translation.Steps.{bound, after_one, after_two, after_three, Leads, each_leads, length-each, each-ok, all_of}

-- ---- types and tags, which contain indices

module _ {E F : Type 0} (f : Space → ℕ → Result ℕ E) (g h : Space → ℕ → Result ℕ F) where
  abbrev pub LeadsHeap : HeapType ℕ → Type 0
  LeadsHeap (Abstract a) = Unit {0}
  LeadsHeap (Concrete n) = Leads (f Types) (g Types) (h Types) n

  abbrev pub LeadsValue : ValType ℕ → Type 0
  LeadsValue (Ref r) = LeadsHeap r.heap_type
  LeadsValue _ = Unit {0}

  abbrev pub LeadsTag : Option ℕ → Type 0
  LeadsTag None = Unit {0}
  LeadsTag (Some n) = Leads (f Tags) (g Tags) (h Tags) n

  heap_leads : (t : HeapType ℕ) → LeadsHeap t → Leads (translate_heap f) (translate_heap g) (translate_heap h) t
  heap_leads (Abstract a) l q e = let made : Abstract a ≡ q = cc e in ap (translate_heap g) (sym made)
  heap_leads (Concrete n) l q e =
      let id = bound (f Types n) (λ m. Ok (Concrete m)) q e in
      let made : Concrete id.0 ≡ q = cc id.2 in
      ap (translate_heap g) (sym made) ∙ after_one (g Types id.0) (h Types n) (λ x. Ok (Concrete x)) (l id.0 id.1)

  value_leads : (t : ValType ℕ) → LeadsValue t → Leads (translate_value f) (translate_value g) (translate_value h) t
  value_leads I32 l q e = let made : I32 ≡ q = cc e in ap (translate_value g) (sym made)
  value_leads I64 l q e = let made : I64 ≡ q = cc e in ap (translate_value g) (sym made)
  value_leads F32 l q e = let made : F32 ≡ q = cc e in ap (translate_value g) (sym made)
  value_leads F64 l q e = let made : F64 ≡ q = cc e in ap (translate_value g) (sym made)
  value_leads V128 l q e = let made : V128 ≡ q = cc e in ap (translate_value g) (sym made)
  value_leads (Ref r) l q e =
      let ref : HeapType ℕ → ValType ℕ = λ t. Ref (record { nullable = r.nullable; heap_type = t }) in
      let heap = bound (translate_heap f r.heap_type) (λ t. Ok (ref t)) q e in
      let made : ref heap.0 ≡ q = cc heap.2 in
      ap (translate_value g) (sym made)
      ∙ after_one (translate_heap g heap.0) (translate_heap h r.heap_type) (λ t. Ok (ref t)) (heap_leads r.heap_type l heap.0 heap.1)

  tag_leads : (t : Option ℕ) → LeadsTag t → Leads (translate_tag f) (translate_tag g) (translate_tag h) t
  tag_leads None l q e = let made : None ≡ q = cc e in ap (translate_tag g) (sym made)
  tag_leads (Some n) l q e =
      let id = bound (f Tags n) (λ m. Ok (Some m)) q e in
      let made : Some id.0 ≡ q = cc id.2 in ap (translate_tag g) (sym made) ∙ after_one (g Tags id.0) (h Tags n) (λ x. Ok (Some x)) (l id.0 id.1)

-- ---- immediates

module _ {L B M C N D E F : Type 0} (f : Translation L B M C E) (g : Translation M C N D F) (h : Translation L B N D F) where
  abbrev pub LeadsIndex : Space → ℕ → Type 0
  LeadsIndex space n = Leads (f.index space) (g.index space) (h.index space) n

  abbrev pub LeadsLabel : L → Type 0
  LeadsLabel l = Leads f.label g.label h.label l

  abbrev pub LeadsCount : ℕ → Type 0
  LeadsCount n = (u : Unit {0}) → f.count n ≡ Ok u → g.count n ≡ h.count n

  abbrev pub LeadsClause : CatchClause L → Type 0
  LeadsClause c = LeadsTag f.index g.index h.index c.tag × LeadsLabel c.label

  -- For each part of the immediate, g has the same result for the value of f as h has for the part.
  abbrev pub LeadsAt : Immediate L B → Type 0
  LeadsAt (index space n) = LeadsIndex space n
  LeadsAt (local n) = Leads f.local g.local h.local n
  LeadsAt (label l) = LeadsLabel l
  LeadsAt (handler depth) = Leads f.handler g.handler h.handler depth
  LeadsAt (outer depth) = Leads f.outer g.outer h.outer depth
  LeadsAt (number n) = Leads f.number g.number h.number n
  LeadsAt (access a) = LeadsIndex Memories a.memory × (g.alignment (f.alignment a.alignment) ≡ h.alignment a.alignment)
  LeadsAt (branch_table ts d) = LeadsCount (length ts) × AllByRecursion LeadsLabel ts × LeadsLabel d
  LeadsAt (clauses cs) = LeadsCount (length cs) × AllByRecursion LeadsClause cs
  LeadsAt (block b) = Leads f.block g.block h.block b
  LeadsAt (heap t) = LeadsHeap f.index g.index h.index t
  LeadsAt (value v) = LeadsValue f.index g.index h.index v
  LeadsAt (cast c) = LeadsLabel c.label × LeadsHeap f.index g.index h.index c.source × LeadsHeap f.index g.index h.index c.target
  LeadsAt _ = Unit {0}

  clause_leads : (c : CatchClause L) → LeadsClause c → Leads (translate_clause f) (translate_clause g) (translate_clause h) c
  clause_leads c l q e =
      let from : Option ℕ → M → CatchClause M = λ t m. record { by_reference = c.by_reference; tag = t; label = m } in
      let to : Option ℕ → N → CatchClause N = λ t m. record { by_reference = c.by_reference; tag = t; label = m } in
      let tag = bound (translate_tag f.index c.tag) (λ t. f.label c.label >>= λ m. Ok (from t m)) q e in
      let target = bound (f.label c.label) (λ m. Ok (from tag.0 m)) q tag.2 in
      let made : from tag.0 target.0 ≡ q = cc target.2 in
      ap (translate_clause g) (sym made)
      ∙ after_two (translate_tag g.index tag.0) (translate_tag h.index c.tag) (g.label target.0) (h.label c.label) (λ t m. Ok (to t m))
      (tag_leads f.index g.index h.index c.tag l.0 tag.0 tag.1) (l.1 target.0 target.1)

  clauses_lead : (cs : List (CatchClause L)) → AllByRecursion LeadsClause cs
      → AllByRecursion (Leads (translate_clause f) (translate_clause g) (translate_clause h)) cs
  clauses_lead [] l = tt
  clauses_lead (c ∷ cs) l = (clause_leads c l.0, clauses_lead cs l.1)

  cast_leads : (c : Cast L) → LeadsAt (cast c) → Leads (translate_cast f) (translate_cast g) (translate_cast h) c
  cast_leads c l q e =
      let from : M → HeapType ℕ → HeapType ℕ → Cast M =
      λ m s t. record { from_nullable = c.from_nullable; to_nullable = c.to_nullable; label = m; source = s; target = t } in
      let to : N → HeapType ℕ → HeapType ℕ → Cast N =
      λ m s t. record { from_nullable = c.from_nullable; to_nullable = c.to_nullable; label = m; source = s; target = t } in
      let heap : HeapType ℕ → Result (HeapType ℕ) E = translate_heap f.index in
      let m = bound (f.label c.label) (λ m. heap c.source >>= λ s. heap c.target >>= λ t. Ok (from m s t)) q e in
      let s = bound (heap c.source) (λ s. heap c.target >>= λ t. Ok (from m.0 s t)) q m.2 in
      let t = bound (heap c.target) (λ t. Ok (from m.0 s.0 t)) q s.2 in
      let made : from m.0 s.0 t.0 ≡ q = cc t.2 in
      ap (translate_cast g) (sym made)
      ∙ after_three (g.label m.0) (h.label c.label) (translate_heap g.index s.0) (translate_heap h.index c.source)
      (translate_heap g.index t.0) (translate_heap h.index c.target) (λ x y z. Ok (to x y z))
      (l.0 m.0 m.1) (heap_leads f.index g.index h.index c.source l.1 s.0 s.1) (heap_leads f.index g.index h.index c.target l.2 t.0 t.1)

  access_leads : (a : Access) → LeadsAt (access a) → Leads (translate_access f) (translate_access g) (translate_access h) a
  access_leads a l q e =
      let at : ℕ → ℕ → Access = λ k m. record { alignment = k; memory = m; offset = a.offset } in
      let m = bound (f.index Memories a.memory) (λ m. Ok (at (f.alignment a.alignment) m)) q e in
      let made : at (f.alignment a.alignment) m.0 ≡ q = cc m.2 in
      ap (translate_access g) (sym made)
      ∙ (ap (λ k. g.index Memories m.0 >>= λ y. Ok (at k y)) l.1
      ∙ after_one (g.index Memories m.0) (h.index Memories a.memory) (λ y. Ok (at (h.alignment a.alignment) y)) (l.0 m.0 m.1))

  abbrev pub LeadsOn : Immediate L B → Type 0
  LeadsOn i = Leads (translate_immediate f) (translate_immediate g) (translate_immediate h) i

  -- an immediate of one part, and one that stays as it is
  part_leads : {X Y Z : Type 0} → (first : X → Result Y E) (second : Y → Result Z F) (both : X → Result Z F) (x : X) (i : Immediate L B)
      → (from : Y → Immediate M C) (to : Z → Immediate N D)
      → translate_immediate f i ≡ (first x >>= λ y. Ok (from y))
      → ((y : Y) → translate_immediate g (from y) ≡ (second y >>= λ z. Ok (to z)))
      → translate_immediate h i ≡ (both x >>= λ z. Ok (to z))
      → Leads first second both x → LeadsOn i
  part_leads first second both x i from to ef eg eh l q e =
      let y = bound (first x) (λ y. Ok (from y)) q (sym ef ∙ e) in
      let made : from y.0 ≡ q = cc y.2 in
      ap (translate_immediate g) (sym made) ∙ (eg y.0 ∙ (after_one (second y.0) (both x) (λ z. Ok (to z)) (l y.0 y.1) ∙ sym eh))

  stays : (i : Immediate L B) (j : Immediate M C) → translate_immediate f i ≡ Ok j → translate_immediate g j ≡ translate_immediate h i → LeadsOn i
  stays i j ef eg q e =
      let same : Ok j ≡ Ok q = sym ef ∙ e in
      let made : j ≡ q = cc in ap (translate_immediate g) (sym made) ∙ eg

  immediate_leads : (i : Immediate L B) → LeadsAt i → LeadsOn i
  immediate_leads (index space n) l =
      part_leads (f.index space) (g.index space) (h.index space) n (index space n) (index space) (index space) refl (λ y. refl) refl l
  immediate_leads (local n) l = part_leads f.local g.local h.local n (local n) local local refl (λ y. refl) refl l
  immediate_leads (label n) l = part_leads f.label g.label h.label n (label n) label label refl (λ y. refl) refl l
  immediate_leads (handler n) l = part_leads f.handler g.handler h.handler n (handler n) handler handler refl (λ y. refl) refl l
  immediate_leads (outer n) l = part_leads f.outer g.outer h.outer n (outer n) outer outer refl (λ y. refl) refl l
  immediate_leads (access a) l =
      part_leads (translate_access f) (translate_access g) (translate_access h) a (access a) access access refl (λ y. refl) refl (access_leads a l)
  immediate_leads (branch_table ts d) l = λ q e.
      let u = bound (f.count (length ts)) (λ u. each f.label ts >>= λ us. f.label d >>= λ c. Ok (branch_table us c)) q e in
      let us = bound (each f.label ts) (λ us. f.label d >>= λ c. Ok (branch_table us c)) q u.2 in
      let c = bound (f.label d) (λ c. Ok (branch_table us.0 c)) q us.2 in
      let made : branch_table us.0 c.0 ≡ q = cc c.2 in
      ap (translate_immediate g) (sym made)
      ∙ after_three (g.count (length us.0)) (h.count (length ts)) (each g.label us.0) (each h.label ts) (g.label c.0) (h.label d)
      (λ v x y. Ok (branch_table x y))
      (ap g.count (length-each f.label ts us.0 us.1) ∙ l.0 u.0 u.1) (each_leads f.label g.label h.label ts l.1 us.0 us.1) (l.2 c.0 c.1)
  immediate_leads (clauses cs) l = λ q e.
      let u = bound (f.count (length cs)) (λ u. each (translate_clause f) cs >>= λ ds. Ok (clauses ds)) q e in
      let ds = bound (each (translate_clause f) cs) (λ ds. Ok (clauses ds)) q u.2 in
      let made : clauses ds.0 ≡ q = cc ds.2 in
      ap (translate_immediate g) (sym made)
      ∙ after_two (g.count (length ds.0)) (h.count (length cs)) (each (translate_clause g) ds.0) (each (translate_clause h) cs)
      (λ v x. Ok (clauses x))
      (ap g.count (length-each (translate_clause f) cs ds.0 ds.1) ∙ l.0 u.0 u.1)
      (each_leads (translate_clause f) (translate_clause g) (translate_clause h) cs (clauses_lead cs l.1) ds.0 ds.1)
  immediate_leads (block b) l = part_leads f.block g.block h.block b (block b) block block refl (λ y. refl) refl l
  immediate_leads (heap t) l =
      part_leads (translate_heap f.index) (translate_heap g.index) (translate_heap h.index) t (heap t) heap heap refl (λ y. refl) refl
      (heap_leads f.index g.index h.index t l)
  immediate_leads (value v) l =
      part_leads (translate_value f.index) (translate_value g.index) (translate_value h.index) v (value v) value value refl (λ y. refl) refl
      (value_leads f.index g.index h.index v l)
  immediate_leads (cast c) l =
      part_leads (translate_cast f) (translate_cast g) (translate_cast h) c (cast c) cast cast refl (λ y. refl) refl (cast_leads c l)
  immediate_leads (number n) l = part_leads f.number g.number h.number n (number n) number number refl (λ y. refl) refl l
  immediate_leads (i32 z) l = stays (i32 z) (i32 z) refl refl
  immediate_leads (i64 z) l = stays (i64 z) (i64 z) refl refl
  immediate_leads (f32 bits) l = stays (f32 bits) (f32 bits) refl refl
  immediate_leads (f64 bits) l = stays (f64 bits) (f64 bits) refl refl
  immediate_leads (v128 bits) l = stays (v128 bits) (v128 bits) refl refl
  immediate_leads (lane n) l = stays (lane n) (lane n) refl refl
  immediate_leads (lanes ns) l = stays (lanes ns) (lanes ns) refl refl
  immediate_leads zero_byte l = stays zero_byte zero_byte refl refl

  immediates_lead : (is : List (Immediate L B)) → AllByRecursion LeadsAt is → AllByRecursion LeadsOn is
  immediates_lead [] l = tt
  immediates_lead (i ∷ is) l = (immediate_leads i l.0, immediates_lead is l.1)

  -- g has the same result for the immediates that f gives as h has for the immediates, if this is so for each part of each
  pub translate_leads : (is : List (Immediate L B)) → AllByRecursion LeadsAt is
      → Leads (translate_immediates f) (translate_immediates g) (translate_immediates h) is
  translate_leads is l = each_leads (translate_immediate f) (translate_immediate g) (translate_immediate h) is (immediates_lead is l)

  -- ---- if it is so for all parts except block types

  pub record LeadAll : Type 0 where
    pub indices : (space : Space) (n : ℕ) → LeadsIndex space n
    pub locals : (n : ℕ) → Leads f.local g.local h.local n
    pub labels : (l : L) → LeadsLabel l
    pub handlers : (n : ℕ) → Leads f.handler g.handler h.handler n
    pub outers : (n : ℕ) → Leads f.outer g.outer h.outer n
    pub numbers : (n : ℕ) → Leads f.number g.number h.number n
    pub alignments : (n : ℕ) → g.alignment (f.alignment n) ≡ h.alignment n
    pub counts : (n : ℕ) → LeadsCount n

  heap_all : LeadAll → (t : HeapType ℕ) → LeadsHeap f.index g.index h.index t
  heap_all all (Abstract a) = tt
  heap_all all (Concrete n) = all.indices Types n

  value_all : LeadAll → (t : ValType ℕ) → LeadsValue f.index g.index h.index t
  value_all all (Ref r) = heap_all all r.heap_type
  value_all all _ = tt

  tag_all : LeadAll → (t : Option ℕ) → LeadsTag f.index g.index h.index t
  tag_all all None = tt
  tag_all all (Some n) = all.indices Tags n

  pub lead_all : LeadAll → (is : List (Immediate L B)) → AllByRecursion (Leads f.block g.block h.block) (block_types is) → AllByRecursion LeadsAt is
  lead_all all [] b = tt
  lead_all all (block x ∷ is) b = (b.0, lead_all all is b.1)
  lead_all all (index space n ∷ is) b = (all.indices space n, lead_all all is b)
  lead_all all (local n ∷ is) b = (all.locals n, lead_all all is b)
  lead_all all (label l ∷ is) b = (all.labels l, lead_all all is b)
  lead_all all (handler n ∷ is) b = (all.handlers n, lead_all all is b)
  lead_all all (outer n ∷ is) b = (all.outers n, lead_all all is b)
  lead_all all (number n ∷ is) b = (all.numbers n, lead_all all is b)
  lead_all all (access a ∷ is) b = ((all.indices Memories a.memory, all.alignments a.alignment), lead_all all is b)
  lead_all all (branch_table ts d ∷ is) b = ((all.counts (length ts), all_of _ all.labels ts, all.labels d), lead_all all is b)
  lead_all all (clauses cs ∷ is) b = ((all.counts (length cs), all_of _ (λ c. (tag_all all c.tag, all.labels c.label)) cs), lead_all all is b)
  lead_all all (heap t ∷ is) b = (heap_all all t, lead_all all is b)
  lead_all all (value v ∷ is) b = (value_all all v, lead_all all is b)
  lead_all all (cast c ∷ is) b = ((all.labels c.label, heap_all all c.source, heap_all all c.target), lead_all all is b)
  lead_all all (_ ∷ is) b = (tt, lead_all all is b)

-- ---- the translation that changes nothing

abbrev pub same : {L B E : Type 0} → Translation L B L B E
same = keeping_numbers (λ l. Ok l) (λ b. Ok b) (λ n. n)

module _ (L B E : Type 0) where
  abbrev nothing : Translation L B L B E
  nothing = same

  heap_same : (t : HeapType ℕ) → translate_heap nothing.index t ≡ Ok t
  heap_same (Abstract a) = refl
  heap_same (Concrete n) = refl

  value_same : (t : ValType ℕ) → translate_value nothing.index t ≡ Ok t
  value_same (Ref r) =
      after_one (translate_heap nothing.index r.heap_type) (Ok r.heap_type)
      (λ h. Ok (Ref (record { nullable = r.nullable; heap_type = h }))) (heap_same r.heap_type)
  value_same I32 = refl
  value_same I64 = refl
  value_same F32 = refl
  value_same F64 = refl
  value_same V128 = refl

  tag_same : (t : Option ℕ) → translate_tag nothing.index t ≡ Ok t
  tag_same None = refl
  tag_same (Some n) = refl

  clause_same : (c : CatchClause L) → translate_clause nothing c ≡ Ok c
  clause_same c =
      after_one (translate_tag nothing.index c.tag) (Ok c.tag)
      (λ t. Ok (record { by_reference = c.by_reference; tag = t; label = c.label })) (tag_same c.tag)

  cast_same : (c : Cast L) → translate_cast nothing c ≡ Ok c
  cast_same c =
      after_two (translate_heap nothing.index c.source) (Ok c.source) (translate_heap nothing.index c.target) (Ok c.target)
      (λ s t. Ok (record { from_nullable = c.from_nullable; to_nullable = c.to_nullable; label = c.label; source = s; target = t }))
      (heap_same c.source) (heap_same c.target)

  immediate_same : (i : Immediate L B) → translate_immediate nothing i ≡ Ok i
  immediate_same (branch_table ts d) = after_one (each nothing.label ts) (Ok ts) (λ us. Ok (branch_table us d)) (each-ok nothing.label (λ l. refl) ts)
  immediate_same (clauses cs) =
      after_one (each (translate_clause nothing) cs) (Ok cs) (λ ds. Ok (clauses ds)) (each-ok (translate_clause nothing) clause_same cs)
  immediate_same (heap t) = after_one (translate_heap nothing.index t) (Ok t) (λ h. Ok (heap h)) (heap_same t)
  immediate_same (value v) = after_one (translate_value nothing.index v) (Ok v) (λ w. Ok (value w)) (value_same v)
  immediate_same (cast c) = after_one (translate_cast nothing c) (Ok c) (λ d. Ok (cast d)) (cast_same c)
  immediate_same _ = refl

pub translate_same : {L B E : Type 0} → (is : List (Immediate L B)) → translate_immediates (same {L = L} {B = B} {E = E}) is ≡ Ok is
translate_same {L = L} {B = B} {E = E} is = each-ok (translate_immediate (same {L = L} {B = B} {E = E})) (immediate_same L B E) is
