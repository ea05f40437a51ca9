-- Segments.
use Rattle.std.proofs.Common.{◌≡◌, ℕ, false, eqb, List, [], ◌∷◌, ◌++◌, Option, Some, None, Ok, refl, sym, ap, subst, ◌∙◌}
use Rattle.std.specs.List.{AllByRecursion}
use Rattle.std.proofs.lemmas.List.{append-nil}
use Rattle.source_map.specs.declared.mapping.Original.{Original}
use Rattle.source_map.specs.declared.mapping.Mapping.{Mapping}
use Rattle.source_map.specs.declared.fields.Fields.{Fields}
use Rattle.source_map.specs.Vlq.{IsField}
use Rattle.source_map.specs.Spelling.{fields_after, IsName, IsOriginal, IsOriginalOrNone, IsSegment, AreSegments}
use Rattle.wasm_numbers.specs.Results.{◌>>=◌}
use Rattle.source_map.specs.Reading.{field_at, column_at, last_field, original_name_at, original_at, original_or_none_at, segment_at, segments_at}
use Rattle.source_map.proofs.Steps.{bind_ok, ok_is}
use Rattle.source_map.proofs.FieldLaws.{field_taken, field_again, field_lacks, column_taken, column_again}

abbrev Lacks : List ℕ → Type 0
Lacks text = AllByRecursion (λ x. eqb x 44 ≡ false) text

lacks_append : (a b : List ℕ) → Lacks a → Lacks b → Lacks (a ++ b)
lacks_append [] b p q = q
lacks_append (c ∷ a) b p q = (p.0, lacks_append a b p.1 q)

-- ---- the name

last_ok : (v : ℕ) (rest : List ℕ) (o : Option ℕ) → last_field (v, rest) ≡ Ok o → (rest ≡ []) × (Some v ≡ o)
last_ok v [] o e = (refl, ok_is (Some v) o e)
last_ok v (c ∷ cs) o e = absurd cc

name_taken : (before : ℕ) (text : List ℕ) (o : Option ℕ) → original_name_at before text ≡ Ok o → IsName before o text
unfolding original_name_at
name_taken before [] o e = subst (λ (x : Option ℕ). IsName before x []) (ok_is None o e) (refl {a = []})
name_taken before (c ∷ cs) o e =
    let f = bind_ok (field_at before (c ∷ cs)) last_field o e in
    let l = last_ok f.0.0 f.0.1 o f.2 in
    let t = field_taken before (c ∷ cs) f.0.0 f.0.1 f.1 in
    let whole : c ∷ cs ≡ t.front = t.parts ∙ ap (λ (x : List ℕ). t.front ++ x) l.0 ∙ append-nil t.front in
    subst (λ (x : Option ℕ). IsName before x (c ∷ cs)) l.1 (subst (IsField before f.0.0) (sym whole) t.is)

name_again : (before : ℕ) (o : Option ℕ) (text : List ℕ) → IsName before o text → original_name_at before text ≡ Ok o
unfolding original_name_at
name_again before None text h = ap (original_name_at before) h
name_again before (Some v) [] h = absurd h.2
name_again before (Some v) (c ∷ cs) h =
    let again = field_again before v (c ∷ cs) [] h in
    let whole = subst (λ (x : List ℕ). field_at before x ≡ Ok (v, [])) (append-nil (c ∷ cs)) again in
    rw whole refl

name_lacks : (before : ℕ) (o : Option ℕ) (text : List ℕ) → IsName before o text → Lacks text
name_lacks before None text h = subst Lacks (sym h) tt
name_lacks before (Some v) text h = field_lacks before v text h

-- ---- the position in a source

original_taken : (s : Fields) (text : List ℕ) (o : Original) → original_at s text ≡ Ok o → IsOriginal s o text
unfolding original_at
original_taken s text o e =
    let a = bind_ok (field_at s.source text) (λ source. field_at s.line source.1 >>= λ line. field_at s.column line.1 >>= λ column. original_name_at s.name column.1 >>= λ name. Ok (record { source = source.0; line = line.0; column = column.0; name = name })) o e in
    let b = bind_ok (field_at s.line a.0.1) (λ line. field_at s.column line.1 >>= λ column. original_name_at s.name column.1 >>= λ name. Ok (record { source = a.0.0; line = line.0; column = column.0; name = name })) o a.2 in
    let c = bind_ok (field_at s.column b.0.1) (λ column. original_name_at s.name column.1 >>= λ name. Ok (record { source = a.0.0; line = b.0.0; column = column.0; name = name })) o b.2 in
    let d = bind_ok (original_name_at s.name c.0.1) (λ name. Ok (record { source = a.0.0; line = b.0.0; column = c.0.0; name = name })) o c.2 in
    let p = field_taken s.source text a.0.0 a.0.1 a.1 in
    let q = field_taken s.line a.0.1 b.0.0 b.0.1 b.1 in
    let r = field_taken s.column b.0.1 c.0.0 c.0.1 c.1 in
    let n = name_taken s.name c.0.1 d.0 d.1 in
    let made : Original = record { source = a.0.0; line = b.0.0; column = c.0.0; name = d.0 } in
    let one : IsOriginal s made text = record {
      source = p.front;
      line = q.front;
      column = r.front;
      name = c.0.1;
      text_is = p.parts ∙ ap (λ (x : List ℕ). p.front ++ x) (q.parts ∙ ap (λ (x : List ℕ). q.front ++ x) r.parts);
      is_source = p.is;
      is_line = q.is;
      is_column = r.is;
      is_name = n;
    } in
    subst (λ (x : Original). IsOriginal s x text) (ok_is made o d.2) one

original_again : (s : Fields) (o : Original) (text : List ℕ) → IsOriginal s o text → original_at s text ≡ Ok o
unfolding original_at
original_again s o text h =
    ap (original_at s) h.text_is
    ∙ rw (field_again s.source o.source h.source (h.line ++ (h.column ++ h.name)) h.is_source, field_again s.line o.line h.line (h.column ++ h.name) h.is_line, field_again s.column o.column h.column h.name h.is_column, name_again s.name o.name h.name h.is_name) refl

original_lacks : (s : Fields) (o : Original) (text : List ℕ) → IsOriginal s o text → Lacks text
original_lacks s o text h =
    subst Lacks (sym h.text_is) (lacks_append h.source (h.line ++ (h.column ++ h.name)) (field_lacks s.source o.source h.source h.is_source) (lacks_append h.line (h.column ++ h.name) (field_lacks s.line o.line h.line h.is_line) (lacks_append h.column h.name (field_lacks s.column o.column h.column h.is_column) (name_lacks s.name o.name h.name h.is_name))))

-- a field is never empty
some_front : (front rest : List ℕ) (before v : ℕ) → [] ≡ front ++ rest → IsField before v front → ⊥
some_front [] rest before v e h = h.2
some_front (c ∷ front) rest before v e h = absurd cc

original_some : (s : Fields) (o : Original) → IsOriginal s o [] → ⊥
original_some s o h = some_front h.source (h.line ++ (h.column ++ h.name)) s.source o.source h.text_is h.is_source

original_or_none_taken : (s : Fields) (text : List ℕ) (o : Option Original) → original_or_none_at s text ≡ Ok o → IsOriginalOrNone s o text
unfolding original_or_none_at
original_or_none_taken s [] o e = subst (λ (x : Option Original). IsOriginalOrNone s x []) (ok_is None o e) (refl {a = []})
original_or_none_taken s (c ∷ cs) o e =
    let a = bind_ok (original_at s (c ∷ cs)) (λ o. Ok (Some o)) o e in
    subst (λ (x : Option Original). IsOriginalOrNone s x (c ∷ cs)) (ok_is (Some a.0) o a.2) (original_taken s (c ∷ cs) a.0 a.1)

original_or_none_again : (s : Fields) (o : Option Original) (text : List ℕ) → IsOriginalOrNone s o text → original_or_none_at s text ≡ Ok o
unfolding original_or_none_at
original_or_none_again s None text h = ap (original_or_none_at s) h
original_or_none_again s (Some o) [] h = absurd (original_some s o h)
original_or_none_again s (Some o) (c ∷ cs) h = rw (original_again s o (c ∷ cs) h) refl

original_or_none_lacks : (s : Fields) (o : Option Original) (text : List ℕ) → IsOriginalOrNone s o text → Lacks text
original_or_none_lacks s None text h = subst Lacks (sym h) tt
original_or_none_lacks s (Some o) text h = original_lacks s o text h

-- ---- segments

segment_taken : (s : Fields) (text : List ℕ) (m : Mapping) → segment_at s text ≡ Ok m → IsSegment s m text
unfolding segment_at
segment_taken s text m e =
    let a = bind_ok (column_at s.generated text) (λ column. original_or_none_at s column.1 >>= λ original. Ok (record { generated = column.0; original = original })) m e in
    let b = bind_ok (original_or_none_at s a.0.1) (λ original. Ok (record { generated = a.0.0; original = original })) m a.2 in
    let p = column_taken s.generated text a.0.0 a.0.1 a.1 in
    let made : Mapping = record { generated = a.0.0; original = b.0 } in
    let one : IsSegment s made text = record {
      generated = p.front;
      original = a.0.1;
      text_is = p.parts;
      ascends = p.is.0;
      is_generated = p.is.1;
      is_original = original_or_none_taken s a.0.1 b.0 b.1;
    } in
    subst (λ (x : Mapping). IsSegment s x text) (ok_is made m b.2) one

segment_again : (s : Fields) (m : Mapping) (text : List ℕ) → IsSegment s m text → segment_at s text ≡ Ok m
unfolding segment_at
segment_again s m text h =
    ap (segment_at s) h.text_is
    ∙ rw (column_again s.generated m.generated h.generated h.original h.ascends h.is_generated, original_or_none_again s m.original h.original h.is_original) refl

pub segment_lacks : (s : Fields) (m : Mapping) (text : List ℕ) → IsSegment s m text → Lacks text
segment_lacks s m text h =
    subst Lacks (sym h.text_is) (lacks_append h.generated h.original (field_lacks s.generated m.generated h.generated h.is_generated) (original_or_none_lacks s m.original h.original h.is_original))

pub segment_some : (s : Fields) (m : Mapping) → IsSegment s m [] → ⊥
segment_some s m h = some_front h.generated h.original s.generated m.generated h.text_is h.is_generated

pub segments_taken : (s : Fields) (ts : List (List ℕ)) (ms : List Mapping) → segments_at s ts ≡ Ok ms → AreSegments s ms ts
unfolding segments_at
segments_taken s [] ms e = subst (λ (x : List Mapping). AreSegments s x []) (ok_is [] ms e) tt
segments_taken s (t ∷ ts) ms e =
    let a = bind_ok (segment_at s t) (λ m. segments_at (fields_after s m) ts >>= λ ms. Ok (m ∷ ms)) ms e in
    let b = bind_ok (segments_at (fields_after s a.0) ts) (λ ms. Ok (a.0 ∷ ms)) ms a.2 in
    subst (λ (x : List Mapping). AreSegments s x (t ∷ ts)) (ok_is (a.0 ∷ b.0) ms b.2) (segment_taken s t a.0 a.1, segments_taken (fields_after s a.0) ts b.0 b.1)

pub segments_again : (s : Fields) (ms : List Mapping) (ts : List (List ℕ)) → AreSegments s ms ts → segments_at s ts ≡ Ok ms
unfolding segments_at
segments_again s [] [] h = refl
segments_again s [] (t ∷ ts) h = absurd h
segments_again s (m ∷ ms) [] h = absurd h
segments_again s (m ∷ ms) (t ∷ ts) h = rw (segment_again s m t h.0, segments_again (fields_after s m) ms ts h.1) refl
