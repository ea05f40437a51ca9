-- Plain operators that are inserted into the text of a body are inserted into its tree.
use Rattle.std.proofs.Common.{◌≡◌, List, [], ◌∷◌, ◌++◌, map, refl, ap, ◌∙◌, subst}
use Rattle.std.specs.List.{AllByRecursion}
use Rattle.wasm_body.specs.Control.{Plain, If, Try, Does, Opens, Else, Catch, CatchAll, End, Delegate, control_of, Marked, with_control}
use Rattle.wasm_body.specs.SourceTree.{Sequence, Empty, Single, Wrapped, IfThen, IfElse, TryCatch, TryDelegate, Clauses, Ended, Catches, CatchesAll, construct_of, text, clauses_text, Body, body_text}
use Rattle.wasm_body.specs.TextLaws.{mark_named}
use Rattle.wasm_body.specs.Validity.{OperandRules}
use Rattle.wasm_body.specs.Flat.{Named}
use Rattle.wasm_insertion.specs.Insertion.{Origin, Own, Added, Inserted, empty, insert, single, wrapped, if_then, if_else, try_catch, try_delegate, ClausesInserted, ended, catches_one, catches_all, InsertedBody, without_origin}
use Rattle.wasm_insertion.specs.InsertedValidity.{Probed, done, same, probe, ProbedIsInserted}

abbrev own : {A P : Type 0} → Marked A → Marked (Origin A P)
own x = with_control (Own x.shown) x.control

abbrev added : {A P : Type 0} → P → Marked (Origin A P)
added p = with_control (Added p) (Does Plain)

-- before some operators of a list
data Flat {A P : Type 0} : List (Marked A) → List (Marked (Origin A P)) → Type 0 where
  flat_done : Flat [] []
  flat_own : {x : Marked A} {xs : List (Marked A)} {ys : List (Marked (Origin A P))} → Flat xs ys → Flat (x ∷ xs) (own x ∷ ys)
  flat_added : {p : P} {x : Marked A} {xs : List (Marked A)} {ys : List (Marked (Origin A P))} → Flat (x ∷ xs) ys → Flat (x ∷ xs) (added p ∷ ys)

module _ (A P : Type 0) where
  abbrev O : Type 0
  O = Origin A P

  -- those that are inserted before the first operator
  record Peeled (x : Marked A) (xs : List (Marked A)) (zs : List (Marked O)) : Type 0 where
    pub probes : List P
    pub rest : List (Marked O)
    pub is_list : zs ≡ map added probes ++ own x ∷ rest
    pub flat : Flat xs rest

  peel : {x : Marked A} {xs : List (Marked A)} {zs : List (Marked O)} → Flat (x ∷ xs) zs → Peeled x xs zs
  peel (flat_own {ys = ys} f) = record { probes = []; rest = ys; is_list = refl; flat = f }
  peel (flat_added {p = p} f) =
      let h = peel f in record { probes = p ∷ h.probes; rest = h.rest; is_list = ap (λ l. added p ∷ l) h.is_list; flat = h.flat }

  abbrev with_probes : List P → Sequence O → Sequence O
  with_probes [] t = t
  with_probes (p ∷ ps) t = Single (Added p) Plain (with_probes ps t)

  probes_inserted : (ps : List P) {s : Sequence A} {t : Sequence O} → Inserted s t → Inserted s (with_probes ps t)
  probes_inserted [] f = f
  probes_inserted (p ∷ ps) f = insert (probes_inserted ps f)

  probes_text : (ps : List P) (t : Sequence O) (k : List (Marked O)) → map added ps ++ text t k ≡ text (with_probes ps t) k
  probes_text [] t k = refl
  probes_text (p ∷ ps) t k = ap (λ l. added p ∷ l) (probes_text ps t k)

  -- a sequence, and the operator after it
  record Sequenced (s : Sequence A) (x : Marked A) (k : List (Marked A)) (zs : List (Marked O)) : Type 0 where
    pub tree : Sequence O
    pub after : List (Marked O)
    pub inserted : Inserted s tree
    pub flat : Flat k after
    pub is_list : zs ≡ text tree (own x ∷ after)

  -- the same with these before it
  later : (s s₀ : Sequence A) (x y : Marked A) (k xs : List (Marked A)) (zs : List (Marked O)) (h : Peeled y xs zs) (t : Sequence O) (after : List (Marked O))
      → Inserted s t → Flat k after → own y ∷ h.rest ≡ text t (own x ∷ after) → Sequenced s x k zs
  later s s₀ x y k xs zs h t after i f e = record {
    tree = with_probes h.probes t;
    after = after;
    inserted = probes_inserted h.probes i;
    flat = f;
    is_list = h.is_list ∙ (ap (λ l. map added h.probes ++ l) e ∙ probes_text h.probes t (own x ∷ after));
  }

  -- the operator that closes the sequence before these clauses, and what comes after it
  abbrev first_closer : Clauses A → Marked A
  first_closer (Ended e) = with_control e End
  first_closer (Catches a t b cs) = with_control a (Catch t)
  first_closer (CatchesAll a b e) = with_control a CatchAll

  abbrev after_first : Clauses A → List (Marked A) → List (Marked A)
  after_first (Ended e) k = k
  after_first (Catches a t b cs) k = text b (clauses_text cs k)
  after_first (CatchesAll a b e) k = text b (with_control e End ∷ k)

  clauses_parted : (cs : Clauses A) (k : List (Marked A)) → clauses_text cs k ≡ first_closer cs ∷ after_first cs k
  clauses_parted (Ended e) k = refl
  clauses_parted (Catches a t b cs) k = refl
  clauses_parted (CatchesAll a b e) k = refl

  record Caught (cs : Clauses A) (k : List (Marked A)) (zs : List (Marked O)) : Type 0 where
    pub tree : Clauses O
    pub after : List (Marked O)
    pub inserted : ClausesInserted cs tree
    pub flat : Flat k after
    pub is_list : own (first_closer cs) ∷ zs ≡ clauses_text tree after

  -- an opener, the parts of its construct, each with the operator after it, and what comes after the construct
  one_part : (y e x : Marked A) {b r : Sequence A} {k k' : List (Marked A)} {zs : List (Marked O)} (i : Sequenced b e k zs) (g : Sequenced r x k' i.after)
      → own y ∷ zs ≡ own y ∷ text i.tree (own e ∷ text g.tree (own x ∷ g.after))
  one_part y e x i g = ap (λ z. own y ∷ z) (i.is_list ∙ ap (λ z. text i.tree (own e ∷ z)) g.is_list)

  two_parts : (y l e x : Marked A) {b c r : Sequence A} {k k' k'' : List (Marked A)} {zs : List (Marked O)} (i : Sequenced b l k zs) (j : Sequenced c e k' i.after)
      (g : Sequenced r x k'' j.after)
      → own y ∷ zs ≡ own y ∷ text i.tree (own l ∷ text j.tree (own e ∷ text g.tree (own x ∷ g.after)))
  two_parts y l e x i j g =
      ap (λ z. own y ∷ z) (i.is_list ∙ ap (λ z. text i.tree (own l ∷ z)) (j.is_list ∙ ap (λ z. text j.tree (own e ∷ z)) g.is_list))

  clauses_parts : (y x : Marked A) {b r : Sequence A} (cs : Clauses A) {k k' k'' : List (Marked A)} {zs : List (Marked O)} (i : Sequenced b (first_closer cs) k zs)
      (j : Caught cs k' i.after) (g : Sequenced r x k'' j.after)
      → own y ∷ zs ≡ own y ∷ text i.tree (clauses_text j.tree (text g.tree (own x ∷ g.after)))
  clauses_parts y x cs i j g =
      ap (λ z. own y ∷ z) (i.is_list ∙ ap (λ z. text i.tree z) (j.is_list ∙ ap (λ z. clauses_text j.tree z) g.is_list))

  mutual
    sequenced : (s : Sequence A) (x : Marked A) (k : List (Marked A)) (zs : List (Marked O)) → Flat (text s (x ∷ k)) zs → Sequenced s x k zs
    sequenced Empty x k zs f = let h = peel f in later Empty Empty x x k k zs h Empty h.rest empty h.flat refl
    sequenced (Single a action r) x k zs f =
        let h = peel f in
        let g = sequenced r x k h.rest h.flat in
        let y = with_control a (Does action) in
        later (Single a action r) r x y k (text r (x ∷ k)) zs h (Single (Own a) action g.tree) g.after (single g.inserted) g.flat (ap (λ l. own y ∷ l) g.is_list)
    sequenced (Wrapped a w b e r) x k zs f =
        let h = peel f in
        let y = with_control a (Opens (construct_of w)) in
        let i = sequenced b (with_control e End) (text r (x ∷ k)) h.rest h.flat in
        let g = sequenced r x k i.after i.flat in
        later (Wrapped a w b e r) r x y k (text b (with_control e End ∷ text r (x ∷ k))) zs h (Wrapped (Own a) w i.tree (Own e) g.tree) g.after
        (wrapped i.inserted g.inserted) g.flat
        (one_part y (with_control e End) x i g)
    sequenced (IfThen a b e r) x k zs f =
        let h = peel f in
        let y = with_control a (Opens If) in
        let i = sequenced b (with_control e End) (text r (x ∷ k)) h.rest h.flat in
        let g = sequenced r x k i.after i.flat in
        later (IfThen a b e r) r x y k (text b (with_control e End ∷ text r (x ∷ k))) zs h (IfThen (Own a) i.tree (Own e) g.tree) g.after
        (if_then i.inserted g.inserted) g.flat
        (one_part y (with_control e End) x i g)
    sequenced (IfElse a b l c e r) x k zs f =
        let h = peel f in
        let y = with_control a (Opens If) in
        let i = sequenced b (with_control l Else) (text c (with_control e End ∷ text r (x ∷ k))) h.rest h.flat in
        let j = sequenced c (with_control e End) (text r (x ∷ k)) i.after i.flat in
        let g = sequenced r x k j.after j.flat in
        later (IfElse a b l c e r) r x y k (text b (with_control l Else ∷ text c (with_control e End ∷ text r (x ∷ k)))) zs h
        (IfElse (Own a) i.tree (Own l) j.tree (Own e) g.tree) g.after
        (if_else i.inserted j.inserted g.inserted) g.flat
        (two_parts y (with_control l Else) (with_control e End) x i j g)
    sequenced (TryCatch a b cs r) x k zs f =
        let h = peel f in
        let y = with_control a (Opens Try) in
        let i = sequenced b (first_closer cs) (after_first cs (text r (x ∷ k))) h.rest (subst (λ l. Flat (text b l) h.rest) (clauses_parted cs (text r (x ∷ k))) h.flat) in
        let j = caught cs (text r (x ∷ k)) i.after i.flat in
        let g = sequenced r x k j.after j.flat in
        later (TryCatch a b cs r) r x y k (text b (clauses_text cs (text r (x ∷ k)))) zs h (TryCatch (Own a) i.tree j.tree g.tree) g.after
        (try_catch i.inserted j.inserted g.inserted) g.flat
        (clauses_parts y x cs i j g)
    sequenced (TryDelegate a b e n r) x k zs f =
        let h = peel f in
        let y = with_control a (Opens Try) in
        let i = sequenced b (with_control e (Delegate n)) (text r (x ∷ k)) h.rest h.flat in
        let g = sequenced r x k i.after i.flat in
        later (TryDelegate a b e n r) r x y k (text b (with_control e (Delegate n) ∷ text r (x ∷ k))) zs h (TryDelegate (Own a) i.tree (Own e) n g.tree) g.after
        (try_delegate i.inserted g.inserted) g.flat
        (one_part y (with_control e (Delegate n)) x i g)

    caught : (cs : Clauses A) (k : List (Marked A)) (zs : List (Marked O)) → Flat (after_first cs k) zs → Caught cs k zs
    caught (Ended e) k zs f = record { tree = Ended (Own e); after = zs; inserted = ended; flat = f; is_list = refl }
    caught (Catches a t b cs) k zs f =
        let i = sequenced b (first_closer cs) (after_first cs k) zs (subst (λ l. Flat (text b l) zs) (clauses_parted cs k) f) in
        let j = caught cs k i.after i.flat in
        record {
          tree = Catches (Own a) t i.tree j.tree;
          after = j.after;
          inserted = catches_one i.inserted j.inserted;
          flat = j.flat;
          is_list = ap (λ z. with_control (Own a) (Catch t) ∷ z) (i.is_list ∙ ap (λ z. text i.tree z) j.is_list);
        }
    caught (CatchesAll a b e) k zs f =
        let i = sequenced b (with_control e End) k zs f in
        record {
          tree = CatchesAll (Own a) i.tree (Own e);
          after = i.after;
          inserted = catches_all i.inserted;
          flat = i.flat;
          is_list = ap (λ z. with_control (Own a) CatchAll ∷ z) i.is_list;
        }

  none_left : {ys : List (Marked O)} → Flat [] ys → ys ≡ []
  none_left flat_done = refl

  flat_body : (b : Body A) (zs : List (Marked O)) → Flat (body_text b) zs → (c : Body O) × InsertedBody b c × (zs ≡ body_text c)
  flat_body b zs f =
      let h = sequenced b.sequence (with_control b.close End) [] zs f in (
        record { sequence = h.tree; close = Own b.close },
        record { sequence = h.inserted; close = refl },
        h.is_list ∙ ap (λ l. text h.tree (with_control (Own b.close) End ∷ l)) (none_left h.flat),
      )

-- ---- lists with probes

abbrev shown : List (Marked (Origin Named Named)) → List (Marked Named)
shown zs = map (λ x. with_control (without_origin x.shown) x.control) zs

record IsFlat (xs ys : List Named) : Type 0 where
  pub marked : List (Marked (Origin Named Named))
  pub flat : Flat (map mark_named xs) marked
  pub is_list : map mark_named ys ≡ shown marked

probe_flat : (ps : List Named) → AllByRecursion (λ x. control_of x.op ≡ Does Plain) ps → (x : Named) (xs ys : List Named) → IsFlat (x ∷ xs) ys → IsFlat (x ∷ xs) (ps ++ ys)
probe_flat [] a x xs ys h = h
probe_flat (p ∷ ps) a x xs ys h =
    let g = probe_flat ps a.1 x xs ys h in
    record {
      marked = added p ∷ g.marked;
      flat = flat_added g.flat;
      is_list = ap (λ c. with_control p c ∷ map mark_named (ps ++ ys)) a.0 ∙ ap (λ l. with_control p (Does Plain) ∷ l) g.is_list;
    }

probed_flat : {T : Type 0} (r : OperandRules T) {xs ys : List Named} → Probed r xs ys → IsFlat xs ys
probed_flat r done = record { marked = []; flat = flat_done; is_list = refl }
probed_flat r (same {x = x} f) =
    let g = probed_flat r f in
    record { marked = own (mark_named x) ∷ g.marked; flat = flat_own g.flat; is_list = ap (λ l. mark_named x ∷ l) g.is_list }
probed_flat r (probe {ps = ps} {x = x} {xs = xs} {ys = ys} p f) = probe_flat ps p.plain x xs ys (probed_flat r f)

pub probed_is_inserted : (T : Type 0) → ProbedIsInserted T
probed_is_inserted T r xs ys b hx f =
    let g = probed_flat r f in
    let h = flat_body Named Named b g.marked (subst (λ l. Flat l g.marked) hx g.flat) in
    record { body = h.0; inserted = h.1; is_text = g.is_list ∙ ap shown h.2 }
