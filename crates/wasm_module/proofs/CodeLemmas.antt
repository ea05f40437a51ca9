-- The code section that is written, one body after the other.
use Rattle.std.proofs.Common.{◌≡◌, ℕ, ◌+◌, ◌-◌, ◌<◌, Bool, List, [], ◌∷◌, ◌++◌, length, Option, Some, Ok, refl, sym, ap, subst, ◌∙◌, append_assoc, length-append, suc, arith}
use Rattle.std.proofs.lemmas.List.{append-nil}
use Rattle.std.specs.Prelude.{◌^◌}
use Rattle.std.specs.List.{AllByRecursion}
use Rattle.wasm_numbers.specs.Numbers.{u32}
use Rattle.wasm_operators.specs.Shortest.{short_number}
use Rattle.wasm_body.specs.Pairs.{Pair}
use Rattle.wasm_sections.specs.declared.code.Bodies.{Bodies}
use Rattle.wasm_sections.specs.declared.code.Body.{Body}
use Rattle.wasm_module.specs.declared.parsed.ParsedModule.{ParsedModule}
use Rattle.wasm_sections.specs.CodeSections.{entry, entries, code_section, BodyAt, AreBodies, body_at, body_bytes, place_of, TakesBody}
use Rattle.wasm_module.specs.RewrittenCode.{Extends}
use Rattle.wasm_sections.specs.Sections.{SectionAt}
use Rattle.wasm_sections.proofs.NumberLemmas.{short_read}
use Rattle.wasm_module.specs.ToldBodies.{ToldBody, told_of, told_entries, TellsOf, IsTold}
use Rattle.wasm_module.specs.ToldModules.{PutsCode}
use Rattle.wasm_module.specs.WrittenModules.{Puts, FitsSize, BodyWriting, AreWritten, count_bodies}
use Rattle.wasm_module.proofs.ToldLemmas.{told_then}
use Rattle.wasm_module.proofs.WritingLemmas.{puts_then, puts_same}

-- ---- one more after others

entries_more : (raws : List (List ℕ)) (raw : List ℕ) → entries (raws ++ raw ∷ []) ≡ entries raws ++ entry raw
entries_more [] raw = append-nil (entry raw)
entries_more (r ∷ raws) raw = ap (λ (x : List ℕ). entry r ++ x) (entries_more raws raw) ∙ sym (append_assoc (entry r) (entries raws) (entry raw))

fit_more : (raws : List (List ℕ)) (raw : List ℕ) → AllByRecursion FitsSize raws → FitsSize raw → AllByRecursion FitsSize (raws ++ raw ∷ [])
fit_more [] raw h f = (f, tt)
fit_more (r ∷ raws) raw h f = (h.0, fit_more raws raw h.1 f)

-- these bodies come first, and then the bytes that are left
abbrev pub ComeFirst : (end : ℕ) → (text : List ℕ) → List BodyAt → (left : List ℕ) → Type 0
ComeFirst end text [] left = text ≡ left
ComeFirst end text (b ∷ bs) left =
    (following : List ℕ) × (u32 text ≡ Ok (length b.bytes, b.bytes ++ following)) × (b.start ≡ end - length (b.bytes ++ following))
    × ComeFirst end following bs left

come_more :
    (end : ℕ) (text : List ℕ) (bs : List BodyAt) (left : List ℕ) (b : BodyAt) (following : List ℕ) → ComeFirst end text bs left →
    u32 left ≡ Ok (length b.bytes, b.bytes ++ following) → b.start ≡ end - length (b.bytes ++ following) → ComeFirst end text (bs ++ b ∷ []) following
come_more end text [] left b following h e p = (following, ap u32 h ∙ e, p, refl)
come_more end text (a ∷ bs) left b following h e p = (h.0, h.1, h.2, come_more end h.0 bs left b following h.3 e p)

come_alone : (end : ℕ) (text : List ℕ) (bs : List BodyAt) (left : List ℕ) → ComeFirst end text bs left → left ≡ [] → AreBodies end text bs
come_alone end text [] left h e = h ∙ e
come_alone end text (b ∷ bs) left h e = (h.0, h.1, h.2, come_alone end h.0 bs left h.3 e)

-- the number of functions with a body is that of the source
pub same_bodies : (source now : ParsedModule) → Extends source now → count_bodies now ≡ count_bodies source
same_bodies source now x = ap (λ ts. length ts.items - now.imported) x.func_types ∙ ap (λ (n : ℕ). length source.func_types.items - n) x.imported

module _ (writes : BodyWriting) (source : ParsedModule) where
  written_more :
      (f : ℕ) (bs : List BodyAt) (raws : List (List ℕ)) (pss : List (List Pair)) (b : BodyAt) (raw : List ℕ) (ps : List Pair) → AreWritten writes source f bs raws pss →
      (n : ℕ) → n ≡ f + length bs → writes source n b raw ps → AreWritten writes source f (bs ++ b ∷ []) (raws ++ raw ∷ []) (pss ++ ps ∷ [])
  written_more f [] [] [] b raw ps h n e r = let same : n ≡ f = omega arith in (subst (λ (k : ℕ). writes source k b raw ps) same r, tt)
  written_more f (a ∷ bs) (w ∷ raws) (p ∷ pss) b raw ps h n e r =
      let next : n ≡ f + 1 + length bs = omega arith in
      (h.0, written_more (f + 1) bs raws pss b raw ps h.1 n next r)
  written_more f [] [] (p ∷ pss) b raw ps h n e r = absurd h
  written_more f [] (w ∷ raws) pss b raw ps h n e r = absurd h
  written_more f (a ∷ bs) [] pss b raw ps h n e r = absurd h
  written_more f (a ∷ bs) (w ∷ raws) [] b raw ps h n e r = absurd h

  pub same_count : (f : ℕ) (bs : List BodyAt) (raws : List (List ℕ)) (pss : List (List Pair)) → AreWritten writes source f bs raws pss → length bs ≡ length raws
  same_count f [] [] [] h = refl
  same_count f (a ∷ bs) (w ∷ raws) (p ∷ pss) h = ap (λ (n : ℕ). suc n) (same_count (f + 1) bs raws pss h.1)
  same_count f [] [] (p ∷ pss) h = absurd h
  same_count f [] (w ∷ raws) pss h = absurd h
  same_count f (a ∷ bs) [] pss h = absurd h
  same_count f (a ∷ bs) (w ∷ raws) [] h = absurd h

  -- the last body begins where the others end
  told_more :
      (f place at : ℕ) (bs : List BodyAt) (raws : List (List ℕ)) (pss : List (List Pair)) (b : BodyAt) (raw : List ℕ) (ps : List Pair) → AreWritten writes source f bs raws pss →
      at ≡ place + length (entries raws) →
      told_entries place (bs ++ b ∷ []) (raws ++ raw ∷ []) (pss ++ ps ∷ []) ≡ told_entries place bs raws pss ++ told_of b at raw ps ∷ []
  told_more f place at [] [] [] b raw ps h e = let same : place ≡ at = omega arith in ap (λ (k : ℕ). told_of b k raw ps ∷ []) same
  told_more f place at (a ∷ bs) (w ∷ raws) (p ∷ pss) b raw ps h e =
      let next : at ≡ place + length (entry w) + length (entries raws) = let len = length-append (entry w) (entries raws) in omega arith in
      ap (λ (l : List ToldBody). told_of a place w p ∷ l) (told_more (f + 1) (place + length (entry w)) at bs raws pss b raw ps h.1 next)
  told_more f place at [] [] (p ∷ pss) b raw ps h e = absurd h
  told_more f place at [] (w ∷ raws) pss b raw ps h e = absurd h
  told_more f place at (a ∷ bs) [] pss b raw ps h e = absurd h
  told_more f place at (a ∷ bs) (w ∷ raws) [] b raw ps h e = absurd h

  -- ---- the first bodies are written

  module _ {L : Type 0} (records : L → L → ToldBody → Type 0) (needs : L → Bool) where
    -- Of the text after the number of bodies, which ends at this place, the first bodies are written after the number, and a listener
    -- was told of them.
    pub record CodeSoFar (stop : ℕ) (text : List ℕ) (left : Bodies) (counter count : ℕ) (old now : Option (List ℕ)) (at end : ℕ) (before after : L) : Type 0 where
      pub bodies : List BodyAt
      pub come_first : ComeFirst stop text bodies left.left.rest.now
      pub stop_is : left.left.end ≡ stop
      pub next_is : left.next ≡ source.imported + length bodies
      pub count_is : length bodies ≡ counter
      pub raws : List (List ℕ)
      pub pairs : List (List Pair)
      pub are_written : AreWritten writes source source.imported bodies raws pairs
      pub fit : AllByRecursion FitsSize raws
      pub puts : Puts old now at end (short_number count ++ entries raws)
      pub told : IsTold records needs before (told_entries (at + length (short_number count)) bodies raws pairs) after

    pub no_bodies :
        (now : ParsedModule) (left : Bodies) (count : ℕ) (old new : Option (List ℕ)) (at end stop : ℕ) (text : List ℕ) (s : L) → Extends source now → left.left.rest.now ≡ text →
        left.left.end ≡ stop → left.next ≡ now.imported → Puts old new at end (short_number count) → CodeSoFar stop text left 0 count old new at end s s
    no_bodies now left count old new at end stop text s x t e n p = record {
      bodies = [];
      come_first = sym t;
      stop_is = e;
      next_is = let same = x.imported in omega arith;
      count_is = refl;
      raws = [];
      pairs = [];
      are_written = tt;
      fit = tt;
      puts = puts_same old new at end (short_number count) (short_number count ++ []) (sym (append-nil (short_number count))) p;
      told = refl;
    }

    pub one_more_body :
        (stop : ℕ) (text : List ℕ) (s t : Bodies) (r : Option Body) (b : Body) (counter count : ℕ) (old now later : Option (List ℕ)) (at middle end : ℕ) (raw : List ℕ) (ps : List Pair)
        (before between after : L) → CodeSoFar stop text s counter count old now at middle before between → r ≡ Some b → TakesBody s r t → writes source b.func (body_at b) raw ps →
        FitsSize raw → Puts now later middle end (entry raw) → TellsOf records needs between (told_of (body_at b) middle raw ps) after →
        CodeSoFar stop text t (counter + 1) count old later at end before after
    one_more_body stop text s t r b counter count old now later at middle end raw ps before between after p i takes w f q tells =
        let taken : TakesBody s (Some b) t = subst (λ (o : Option Body). TakesBody s o t) i takes in
        let following = t.left.rest.now in
        let start : place_of b ≡ stop - length (body_bytes b ++ following) =
        let e = taken.3 in let f = p.stop_is in let len = length-append (body_bytes b) following in let n = length (body_bytes b) in let m = length following in omega arith in
        let first = at + length (short_number count) in
        let here : middle ≡ first + length (entries p.raws) =
        let e = p.puts.end_is in let len = length-append (short_number count) (entries p.raws) in omega arith in
        let list = told_more source.imported first middle p.bodies p.raws p.pairs (body_at b) raw ps p.are_written here in
        record {
          bodies = p.bodies ++ body_at b ∷ [];
          come_first = come_more stop text p.bodies s.left.rest.now (body_at b) following p.come_first taken.4 start;
          stop_is = taken.2 ∙ p.stop_is;
          next_is = let len = length-append p.bodies (body_at b ∷ []) in let n = p.next_is in let k = taken.1 in omega arith;
          count_is = let len = length-append p.bodies (body_at b ∷ []) in let n = p.count_is in omega arith;
          raws = p.raws ++ raw ∷ [];
          pairs = p.pairs ++ ps ∷ [];
          are_written = written_more source.imported p.bodies p.raws p.pairs (body_at b) raw ps p.are_written b.func (taken.0 ∙ p.next_is) w;
          fit = fit_more p.raws raw p.fit f;
          puts = puts_same old later at end ((short_number count ++ entries p.raws) ++ entry raw) (short_number count ++ entries (p.raws ++ raw ∷ []))
              (append_assoc (short_number count) (entries p.raws) (entry raw) ∙ ap (λ (l : List ℕ). short_number count ++ l) (sym (entries_more p.raws raw)))
              (puts_then old now later at middle end (short_number count ++ entries p.raws) (entry raw) p.puts q);
          told = subst (λ (l : List ToldBody). IsTold records needs before l after) (sym list)
              (told_then records needs before (told_entries first p.bodies p.raws p.pairs) between (told_of (body_at b) middle raw ps ∷ []) after p.told (after, tells, refl));
        }

    -- All bodies are written, with a greater count, and then those that are added.
    pub all_bodies :
        (now : ParsedModule) (s : SectionAt) (text : List ℕ) (left : Bodies) (count more : ℕ) (given added : List ℕ) (old middle new : Option (List ℕ)) (at between end : ℕ) (before after : L) →
        Extends source now → u32 s.contents ≡ Ok (count, text) → count ≡ count_bodies now → count + more < 2 ^ 32 →
        CodeSoFar s.end text left count (count + more) old middle at between before after → left.left.rest.now ≡ [] → u32 given ≡ Ok (more, added) → Puts middle new between end added →
        PutsCode writes source records needs s given old new at end before after
    all_bodies now s text left count more given added old middle new at between end before after x e n small p done g q =
        let all : length p.bodies ≡ count = p.count_is in
        let as_many : count ≡ length p.raws = sym all ∙ same_count source.imported p.bodies p.raws p.pairs p.are_written in
        let code_is : short_number count ++ entries p.raws ≡ code_section p.raws =
        ap (λ (n : ℕ). short_number n ++ entries p.raws) as_many in
        let front = short_number (count + more) in
        record {
          code = short_number count ++ entries p.raws;
          is_written = record {
            bodies = p.bodies;
            are_bodies = (text, e ∙ ap (λ (n : ℕ). Ok (n, text)) (sym all), come_alone s.end text p.bodies left.left.rest.now p.come_first done);
            are_all = all ∙ n ∙ same_bodies source now x;
            raws = p.raws;
            pairs = p.pairs;
            are_written = p.are_written;
            few = omega (arith, as_many);
            fit = p.fit;
            code_is = code_is;
          };
          contents = front ++ (entries p.raws ++ added);
          has_items = record {
            count = count;
            items = entries p.raws;
            first_is = short_read count (entries p.raws) (omega arith);
            more = more;
            others = added;
            second_is = g;
            few = small;
            contents_are = refl;
          };
          puts = puts_same old new at end ((front ++ entries p.raws) ++ added) (front ++ (entries p.raws ++ added)) (append_assoc front (entries p.raws) added)
              (puts_then old middle new at between end (front ++ entries p.raws) added p.puts q);
          told = p.told;
        }
