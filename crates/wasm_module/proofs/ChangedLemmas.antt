-- Functions that are changed one after the other, whose bodies are kept, and then written.
use Rattle.std.proofs.Common.{◌≡◌, ℕ, zero, ◌+◌, ◌<◌, List, [], ◌∷◌, ◌++◌, length, slice_get, Option, Some, None, refl, sym, ap, subst, ◌∙◌, suc, arith}
use Rattle.std.proofs.lemmas.Option.{same_Some}
use Rattle.wasm_types.specs.declared.val_type.ValType.{ValType}
use Rattle.location_pairs.specs.PackedPairs.{ArePackable, packed_pairs}
use Rattle.location_pairs.proofs.PackedPairs.{packed_once}
use Rattle.wasm_body.specs.Pairs.{Pair}
use Rattle.walrus_body.specs.FunctionParts.{FunctionParts}
use Rattle.wasm_sections.specs.declared.changes.Changes.{Changes as NewSections}
use Rattle.wasm_sections.specs.declared.omissions.OmittedSections.{OmittedSections}
use Rattle.wasm_sections.specs.declared.code.Bodies.{Bodies}
use Rattle.wasm_sections.specs.declared.code.Body.{Body}
use Rattle.wasm_module.specs.declared.changing.kept_bodies.KeptBodies.{KeptBodies}
use Rattle.wasm_module.specs.declared.changing.kept_bodies.KeptBody.{KeptBody}
use Rattle.wasm_module.specs.declared.parsed.ParsedModule.{ParsedModule}
use Rattle.wasm_sections.specs.CodeSections.{BodyAt, IsCode, code_section, body_at, TakesBody}
use Rattle.wasm_sections.specs.Sections.{SectionAt}
use Rattle.wasm_module.specs.ChangedModules.{IsChangedCode, IsOneOf, IsChangedModule}
use Rattle.wasm_module.specs.KeptCode.{bodies_in, raws_in, packs_in, IsKeptWith, ArePacksOf, AreKept, AreKeptBodies, KeepsChanged}
use Rattle.wasm_module.specs.RewrittenCode.{Extends, OneChange, FunctionChange, IsChangedWith, keeps_locals, alike, AreChanged}
use Rattle.wasm_module.specs.ToldModules.{module_told}
use Rattle.wasm_module.specs.WrittenModules.{BodyWriting, AreWritten, IsWrittenCode, IsWrittenModule, count_bodies}
use Rattle.wasm_module.proofs.CodeLemmas.{same_count}
use Rattle.wasm_module.proofs.KeptLemmas.{bodies_len, raws_len}
use Rattle.wasm_module.proofs.WriterLemmas.{code_as, module_with}

-- ---- packed pairs, one body after the other

packs_of_more : (packs : List (List ℕ)) (pss : List (List Pair)) (pack : List ℕ) (ps : List Pair) → ArePacksOf packs pss → ArePackable ps → pack ≡ packed_pairs ps
    → ArePacksOf (packs ++ pack ∷ []) (pss ++ ps ∷ [])
packs_of_more [] [] pack ps h fit e = (fit, e, tt)
packs_of_more [] (x ∷ pss) pack ps h fit e = absurd h
packs_of_more (x ∷ packs) [] pack ps h fit e = absurd h
packs_of_more (x ∷ packs) (y ∷ pss) pack ps h fit e = (h.0, h.1, packs_of_more packs pss pack ps h.2 fit e)

-- pairs are packed in one way
pairs_at : (packs : List (List ℕ)) (pss : List (List Pair)) (n : ℕ) (ps : List Pair) → ArePacksOf packs pss → ArePackable ps → slice_get packs n ≡ Some (packed_pairs ps)
    → slice_get pss n ≡ Some ps
pairs_at [] [] n ps h fit e = let no : None ≡ Some (packed_pairs ps) = e in absurd cc
pairs_at [] (y ∷ pss) n ps h fit e = absurd h
pairs_at (x ∷ packs) [] n ps h fit e = absurd h
pairs_at (x ∷ packs) (y ∷ pss) zero ps h fit e = ap (λ (qs : List Pair). Some qs) (packed_once y ps h.0 fit (sym h.1 ∙ same_Some x (packed_pairs ps) e))
pairs_at (x ∷ packs) (y ∷ pss) (suc n) ps h fit e = pairs_at packs pss n ps h.2 fit e

-- ---- one function after the other

module _ {State : Type 0} (changes : FunctionChange State) (source : ParsedModule) where
  changed_more :
      (before middle after : State) (f : ℕ) (bs : List BodyAt) (raws : List (List ℕ)) (pss : List (List Pair)) (n : ℕ) (b : BodyAt) (raw : List ℕ) (ps : List Pair) →
      AreChanged changes source before f bs raws pss middle → n ≡ f + length bs → IsChangedWith (changes middle after) source n b raw ps →
      AreChanged changes source before f (bs ++ b ∷ []) (raws ++ raw ∷ []) (pss ++ ps ∷ []) after
  changed_more before middle after f [] [] [] n b raw ps h e r =
      let same : n ≡ f = omega arith in
      let there = subst (λ (k : ℕ). IsChangedWith (changes middle after) source k b raw ps) same r in
      (after, subst (λ (s : State). IsChangedWith (changes s after) source f b raw ps) (sym h) there, refl)
  changed_more before middle after f [] [] (p ∷ pss) n b raw ps h e r = absurd h
  changed_more before middle after f [] (w ∷ raws) pss n b raw ps h e r = absurd h
  changed_more before middle after f (a ∷ bs) [] pss n b raw ps h e r = absurd h
  changed_more before middle after f (a ∷ bs) (w ∷ raws) [] n b raw ps h e r = absurd h
  changed_more before middle after f (a ∷ bs) (w ∷ raws) (p ∷ pss) n b raw ps h e r =
      let next : n ≡ f + 1 + length bs = omega arith in
      (h.0, h.1, changed_more h.0 middle after (f + 1) bs raws pss n b raw ps h.2 next r)

  -- ---- that are kept

  -- The bodies before the next one are changed, and kept.
  pub record KeptSoFar (before : State) (kept : KeptBodies) (next : ℕ) (now : State) : Type 0 where
    pub first_is : kept.first ≡ source.imported
    pub next_is : next ≡ source.imported + length kept.bodies.items
    pub pairs : List (List Pair)
    pub packs_are : ArePacksOf (packs_in kept.pairs.items kept.bodies.items) pairs
    pub are_changed : AreChanged changes source before source.imported (bodies_in kept.bodies.items) (raws_in kept.raws.items kept.bodies.items) pairs now

  pub none_kept :
      (before : State) (kept : KeptBodies) (next : ℕ) → kept.first ≡ source.imported → kept.bodies.items ≡ [] → next ≡ source.imported → KeptSoFar before kept next before
  none_kept before kept next f none n = record {
    first_is = f;
    next_is = let len : length kept.bodies.items ≡ 0 = ap (λ (ks : List KeptBody). length ks) none in omega arith;
    pairs = [];
    packs_are = subst (λ (ks : List KeptBody). ArePacksOf (packs_in kept.pairs.items ks) []) (sym none) tt;
    are_changed =
        subst (λ (ks : List KeptBody). AreChanged changes source before source.imported (bodies_in ks) (raws_in kept.raws.items ks) [] before) (sym none) refl;
  }

  pub one_kept :
      (before middle after : State) (s t : Bodies) (r : Option Body) (b : Body) (old new : KeptBodies) → KeptSoFar before old s.next middle → r ≡ Some b → TakesBody s r t →
      KeepsChanged (changes middle after) source b old new → KeptSoFar before new t.next after
  one_kept before middle after s t r b old new p i takes k =
      let taken : TakesBody s (Some b) t = subst (λ (o : Option Body). TakesBody s o t) i takes in
      let bs = bodies_in old.bodies.items in
      let raws = raws_in old.raws.items old.bodies.items in
      let packs = packs_in old.pairs.items old.bodies.items in
      let pss = p.pairs ++ k.pairs ∷ [] in
      let place : b.func ≡ source.imported + length bs =
      let f = taken.0 in let n = p.next_is in let len = bodies_len old.bodies.items in omega arith in
      let more = changed_more before middle after source.imported bs raws p.pairs b.func (body_at b) k.raw k.pairs p.are_changed place k.is_changed in
      let with_bodies =
      subst (λ (l : List BodyAt). AreChanged changes source before source.imported l (raws ++ k.raw ∷ []) pss after) (sym k.bodies) more in
      record {
        first_is = k.first ∙ p.first_is;
        next_is = let n = p.next_is in let m = taken.1 in let len = k.len in omega arith;
        pairs = pss;
        packs_are =
            subst (λ (l : List (List ℕ)). ArePacksOf l pss) (sym k.packs) (packs_of_more packs p.pairs (packed_pairs k.pairs) k.pairs p.packs_are k.fit refl);
        are_changed =
            subst (λ (l : List (List ℕ)). AreChanged changes source before source.imported (bodies_in new.bodies.items) l pss after) (sym k.raws) with_bodies;
      }

  pub all_kept :
      (before : State) (kept : KeptBodies) (next : ℕ) (after : State) → length kept.bodies.items ≡ count_bodies source → KeptSoFar before kept next after →
      AreKept changes source before kept after
  all_kept before kept next after n p = record {
    first_is = p.first_is;
    are_all = n;
    pairs = p.pairs;
    packs_are = p.packs_are;
    are_changed = p.are_changed;
  }

-- ---- functions that are all changed alike

changed_as :
    (c d : OneChange) (source : ParsedModule) (f : ℕ) (b : BodyAt) (raw : List ℕ) (ps : List Pair) →
    ((old new : FunctionParts) (old_locals new_locals : List (ValType ℕ)) → c f old new old_locals new_locals → d f old new old_locals new_locals) →
    IsChangedWith c source f b raw ps → IsChangedWith d source f b raw ps
changed_as c d source f b raw ps each h = record {
  now = h.now;
  parsed = h.parsed;
  is_parsed = h.is_parsed;
  changed = h.changed;
  locals = h.locals;
  is_changed = each h.parsed h.changed h.now.module.locals h.locals h.is_changed;
  is_raw_body = h.is_raw_body;
}

-- the same body
changed_same :
    (c : OneChange) (source : ParsedModule) (f : ℕ) (a b : BodyAt) (r raw : List ℕ) (ps qs : List Pair) → a ≡ b → r ≡ raw → ps ≡ qs → IsChangedWith c source f a r ps →
    IsChangedWith c source f b raw qs
changed_same c source f a b r raw ps qs body bytes pairs h =
    subst (λ (x : BodyAt). IsChangedWith c source f x raw qs) body
    (subst (λ (x : List ℕ). IsChangedWith c source f a x qs) bytes (subst (λ (x : List Pair). IsChangedWith c source f a r x) pairs h))

module _ {State : Type 0} (changes : State → (function : ℕ) → (old new : FunctionParts) → Type 0) (source : ParsedModule) where
  changed_alike :
      (before after : State) (f : ℕ) (bs : List BodyAt) (raws : List (List ℕ)) (pss : List (List Pair)) (n k : ℕ) (b : BodyAt) (raw : List ℕ) →
      AreChanged (alike changes) source before f bs raws pss after → k ≡ f + n → slice_get bs n ≡ Some b → slice_get raws n ≡ Some raw →
      (ps : List Pair) × (slice_get pss n ≡ Some ps) × IsChangedWith (keeps_locals (changes before)) source k b raw ps
  changed_alike before after f [] [] [] n k b raw h e i j = let no : None ≡ Some b = i in absurd cc
  changed_alike before after f [] [] (p ∷ pss) n k b raw h e i j = absurd h
  changed_alike before after f [] (r ∷ raws) pss n k b raw h e i j = absurd h
  changed_alike before after f (a ∷ bs) [] pss n k b raw h e i j = absurd h
  changed_alike before after f (a ∷ bs) (r ∷ raws) [] n k b raw h e i j = absurd h
  changed_alike before after f (a ∷ bs) (r ∷ raws) (p ∷ pss) zero k b raw h e i j =
      let here =
      changed_as (alike changes before h.0) (keeps_locals (changes before)) source f a r p (λ old new old_locals new_locals c. c.0) h.1 in
      let same : f ≡ k = omega arith in
      let there = changed_same (keeps_locals (changes before)) source f a b r raw p p (same_Some a b i) (same_Some r raw j) refl here in
      (p, refl, subst (λ (x : ℕ). IsChangedWith (keeps_locals (changes before)) source x b raw p) same there)
  changed_alike before after f (a ∷ bs) (r ∷ raws) (p ∷ pss) (suc n) k b raw h e i j =
      let next : k ≡ f + 1 + n = omega arith in
      let there = changed_alike h.0 after (f + 1) bs raws pss n k b raw h.2 next i j in
      (there.0, there.1, subst (λ (s : State). IsChangedWith (keeps_locals (changes s)) source k b raw there.0) h.1.is_changed.1 there.2)

  -- Each body that is kept is that of its function as it is changed in the one state that there is, with the pairs of this.
  pub kept_alike : (before after : State) (kept : KeptBodies) → AreKept (alike changes) source before kept after → AreKeptBodies (IsChangedWith (keeps_locals (changes before))) source kept
  kept_alike before after kept h =
      let change = keeps_locals (changes before) in
      let bs = bodies_in kept.bodies.items in
      let raws = raws_in kept.raws.items kept.bodies.items in
      let place : (f at : ℕ) → f ≡ kept.first + at → f ≡ source.imported + at = λ f at e. let j = h.first_is in omega arith in
      record {
        raws = λ f b raw k.
            let found = changed_alike before after source.imported bs raws h.pairs k.at f b raw h.are_changed (place f k.at k.function_is) k.body_is k.raw_is in
            (found.0, found.2);
        pairs = λ f b raw ps k.
            let found = changed_alike before after source.imported bs raws h.pairs k.at f b raw h.are_changed (place f k.at k.function_is) k.body_is k.raw_is in
            let kept_there = pairs_at (packs_in kept.pairs.items kept.bodies.items) h.pairs k.at ps h.packs_are k.fit k.pairs_are in
            let same : found.0 ≡ ps = same_Some found.0 ps (sym found.1 ∙ kept_there) in
            subst (λ (x : List Pair). IsChangedWith change source f b raw x) same found.2;
      }

-- ---- all that is kept is written, in order

same_items :
    {A : Type 0} (xs ys : List A) → length xs ≡ length ys → ((n : ℕ) → n < length xs → (x : A) × (slice_get xs n ≡ Some x) × (slice_get ys n ≡ Some x)) → xs ≡ ys
same_items [] [] e h = refl
same_items [] (y ∷ ys) e h = let no : 0 ≡ suc (length ys) = e in absurd (omega arith)
same_items (x ∷ xs) [] e h = let no : suc (length xs) ≡ 0 = e in absurd (omega arith)
same_items (x ∷ xs) (y ∷ ys) e h =
    let len : length xs ≡ length ys = omega (arith, e) in
    let found = h zero (omega arith) in
    let first : x ≡ y = same_Some x found.0 found.1 ∙ sym (same_Some y found.0 found.2) in
    let others = same_items xs ys len (λ n le. h (suc n) (omega (arith, le))) in
    λ i. first i ∷ others i

module _ (writes : BodyWriting) (now : ParsedModule) where
  -- what is written for the body at a position
  record IsAt (f : ℕ) (bs : List BodyAt) (raws : List (List ℕ)) (n : ℕ) : Type 0 where
    body : BodyAt
    raw : List ℕ
    pairs : List Pair
    body_is : slice_get bs n ≡ Some body
    raw_is : slice_get raws n ≡ Some raw
    is_written : writes now (f + n) body raw pairs

  written_at :
      (f : ℕ) (bs : List BodyAt) (raws : List (List ℕ)) (pss : List (List Pair)) (n : ℕ) → AreWritten writes now f bs raws pss → n < length bs → IsAt f bs raws n
  written_at f [] raws pss n h le = absurd (omega (arith, le))
  written_at f (b ∷ bs) [] pss n h le = absurd h
  written_at f (b ∷ bs) (r ∷ raws) [] n h le = absurd h
  written_at f (b ∷ bs) (r ∷ raws) (ps ∷ pss) zero h le =
      let same : f ≡ f + 0 = omega arith in
      record { body = b; raw = r; pairs = ps; body_is = refl; raw_is = refl; is_written = subst (λ (k : ℕ). writes now k b r ps) same h.0 }
  written_at f (b ∷ bs) (r ∷ raws) (ps ∷ pss) (suc n) h le =
      let w = written_at (f + 1) bs raws pss n h.1 (omega (arith, le)) in
      let same : f + 1 + n ≡ f + suc n = omega arith in
      record {
        body = w.body;
        raw = w.raw;
        pairs = w.pairs;
        body_is = w.body_is;
        raw_is = w.raw_is;
        is_written = subst (λ (k : ℕ). writes now k w.body w.raw w.pairs) same w.is_written;
      }

-- if each body that is written is one of these, and they are as many, all are these
module _ (bs : List BodyAt) (raws : List (List ℕ)) (pss : List (List Pair)) (source : ParsedModule) (as_many : length bs ≡ length raws) where
  pub all_of :
      (cs : List BodyAt) (rs : List (List ℕ)) (qss : List (List Pair)) → AreWritten (IsOneOf bs raws pss) source source.imported cs rs qss → length cs ≡ length bs →
      (cs ≡ bs) × (rs ≡ raws)
  all_of cs rs qss h len =
      let writes = IsOneOf bs raws pss in
      let count : length cs ≡ length rs = same_count writes source source.imported cs rs qss h in
      let there : (n : ℕ) → n < length cs → IsAt writes source source.imported cs rs n = λ n le. written_at writes source source.imported cs rs qss n h le in
      let place : (n at : ℕ) → source.imported + n ≡ source.imported + at → at ≡ n = λ n at e. omega (arith, e) in (
        same_items cs bs len (λ n le.
            let w = there n le in
            let one = w.is_written in
            (w.body, w.body_is, subst (λ (m : ℕ). slice_get bs m ≡ Some w.body) (place n one.at one.function_is) one.body_is)),
        same_items rs raws (omega (arith, len, as_many, count)) (λ n le.
            let w = there n (omega (arith, le, count)) in
            let one = w.is_written in
            (w.raw, w.raw_is, subst (λ (m : ℕ). slice_get raws m ≡ Some w.raw) (place n one.at one.function_is) one.raw_is)),
      )

module _ {State : Type 0} (changes : FunctionChange State) (source : ParsedModule) (before after : State) (now : ParsedModule) (kept : KeptBodies) (x : Extends source now)
    (k : AreKept changes source before kept after) where
  -- what is written is one of the bodies that were changed
  one_of :
      (f : ℕ) (b : BodyAt) (raw : List ℕ) (ps : List Pair) → IsKeptWith kept now f b raw ps →
      IsOneOf (bodies_in kept.bodies.items) (raws_in kept.raws.items kept.bodies.items) k.pairs source f b raw ps
  one_of f b raw ps h = record {
    at = h.at;
    function_is = h.function_is ∙ ap (λ (n : ℕ). n + h.at) k.first_is;
    body_is = h.body_is;
    raw_is = h.raw_is;
    pairs_are = pairs_at (packs_in kept.pairs.items kept.bodies.items) k.pairs h.at ps k.packs_are h.fit h.pairs_are;
  }

  pub changed_code : (s : SectionAt) (text : List ℕ) → IsWrittenCode (IsKeptWith kept) now s text → IsChangedCode changes source before s text after
  changed_code s text h =
      let ks = kept.bodies.items in
      let bs = bodies_in ks in
      let raws = raws_in kept.raws.items ks in
      let w = code_as (IsKeptWith kept) (IsOneOf bs raws k.pairs) source now x one_of s text h in
      let as_many : length bs ≡ length raws = bodies_len ks ∙ sym (raws_len kept.raws.items ks) in
      let all : length bs ≡ count_bodies source = bodies_len ks ∙ k.are_all in
      let same = all_of bs raws k.pairs source as_many w.bodies w.raws w.pairs w.are_written (w.are_all ∙ sym all) in
      record {
        bodies = bs;
        are_bodies = subst (λ (l : List BodyAt). IsCode s.end s.contents l) same.0 w.are_bodies;
        are_all = all;
        raws = raws;
        pairs = k.pairs;
        are_changed = k.are_changed;
        code_is = w.code_is ∙ ap code_section same.1;
      }

  pub changed_module :
      (sections : NewSections) (left_out : OmittedSections) (new : List ℕ) (h : IsWrittenModule (IsKeptWith kept) now sections left_out new) →
      IsChangedModule changes source before sections left_out new (module_told (IsKeptWith kept) now sections left_out new h) after
  changed_module sections left_out new h =
      let ks = kept.bodies.items in
      let bs = bodies_in ks in
      let raws = raws_in kept.raws.items ks in
      let w = module_with (IsKeptWith kept) (IsOneOf bs raws k.pairs) source now x one_of sections left_out new h in
      record {
        bodies = bs;
        are_all = bodies_len ks ∙ k.are_all;
        raws = raws;
        pairs = k.pairs;
        are_changed = k.are_changed;
        is_written = w.0;
        told_are = sym w.1;
      }
