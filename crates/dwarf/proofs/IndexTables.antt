-- Abbreviations of an index in memory, as they are read.
use Rattle.std.proofs.Common.{◌≡◌, ℕ, zero, suc, ◌<◌, ◌≤◌, cond, eqb, ◌&&◌, List, [], ◌∷◌, ◌++◌, length, map, slice_range, Option, Some, None, option_map, Result, Ok, Err, refl, sym, ap, subst, ◌∙◌, append_assoc, length-append, arith}
use Rattle.std.specs.List.{AllByRecursion, find}
use Rattle.std.proofs.lemmas.Bool.{ne_eqb}
use Rattle.std.proofs.lemmas.List.{append-nil, map-append}
use Rattle.wasm_numbers.specs.Results.{◌>>=◌, some_or}
use Rattle.dwarf_bytes.specs.declared.fault.DebugFault.{DebugFault}
use Rattle.dwarf_bytes.specs.declared.fault.DebugFault.TheVariants.{BadNumber}
use Rattle.dwarf_bytes.specs.Numbers.{unsigned_leb}
use Rattle.dwarf_info.proofs.Lengths.{LeavesLess, less_no_more, then_no_more, then_less, just_no_more, cond_no_more, given_no_more, unsigned_less, none_unsigned}
use Rattle.dwarf_info.proofs.Reading.{TakesBytes, ReadSoFar, read_none, read_one_more, read_ended, read_refused}
use Rattle.dwarf_info.proofs.Search.{all_append, all_implied, find_mapped}
use Rattle.dwarf_info.proofs.Tables.{range_kept, range_added}
use Rattle.dwarf.specs.declared.index_abbreviations.IndexAbbreviation.{IndexAbbreviation}
use Rattle.dwarf.specs.declared.index_abbreviations.IndexAttribute.{IndexAttribute}
use Rattle.dwarf.specs.IndexEntries.{index_attribute, index_specification, kept_attributes, index_attributes, IndexDeclaration, index_declaration, and_others, declarations_at_most, attributes_with}
use Rattle.dwarf.specs.IndexInMemory.{index_declaration_of, ReadsIndexDeclaration, ReadsIndexTable}
use Rattle.dwarf.specs.IndexSound.{HasIndexAttributes}
use Rattle.dwarf.specs.NameIndex.{index_meaning, index_form}

-- ---- attributes

specification_less : LeavesLess index_specification
specification_less =
    then_less unsigned_leb (λ name bytes. unsigned_leb bytes >>= λ form. cond (eqb name 0 && eqb form.0 0) (Ok (None, form.1)) (index_meaning name >>= λ m. index_form form.0 >>= λ f. index_attribute m f >>= λ a. Ok (Some a, form.1))) unsigned_less
    (λ name. then_no_more unsigned_leb (λ form bytes. cond (eqb name 0 && eqb form 0) (Ok (None, bytes)) (index_meaning name >>= λ m. index_form form >>= λ f. index_attribute m f >>= λ a. Ok (Some a, bytes))) (less_no_more unsigned_leb unsigned_less)
    (λ form. cond_no_more (eqb name 0 && eqb form 0) (λ bytes. Ok (None, bytes)) (λ bytes. index_meaning name >>= λ m. index_form form >>= λ f. index_attribute m f >>= λ a. Ok (Some a, bytes))
    (just_no_more None)
    (given_no_more (index_meaning name) (λ m bytes. index_form form >>= λ f. index_attribute m f >>= λ a. Ok (Some a, bytes))
    (λ m. given_no_more (index_form form) (λ f bytes. index_attribute m f >>= λ a. Ok (Some a, bytes))
    (λ f. given_no_more (index_attribute m f) (λ a bytes. Ok (Some a, bytes)) (λ a. just_no_more (Some a)))))))

specification_takes : TakesBytes (λ (before : Option (Option IndexAttribute)). index_specification)
specification_takes = record {
  shorter = λ before bytes x rest e. specification_less.at bytes x rest e;
  none = λ before. rw none_unsigned refl;
}

pub record KeptSoFar (all rest : List ℕ) (old now : List IndexAttribute) : Type 0 where
  pub done : List (Option IndexAttribute)
  pub before : Option (Option IndexAttribute)
  pub read : ReadSoFar (λ (before : Option (Option IndexAttribute)). index_specification) all done before rest
  pub now_is : now ≡ old ++ kept_attributes done
  pub fits : length rest ≤ length all

pub kept_none : (all : List ℕ) (old : List IndexAttribute) → KeptSoFar all all old old
kept_none all old = record {
  done = [];
  before = None;
  read = read_none (λ (before : Option (Option IndexAttribute)). index_specification) all;
  now_is = sym (append-nil old);
  fits = omega arith;
}

with_more : (done : List (Option IndexAttribute)) (one : Option IndexAttribute) → kept_attributes (done ++ one ∷ []) ≡ kept_attributes done ++ kept_attributes (one ∷ [])
with_more [] one = refl
with_more (None ∷ done) one = with_more done one
with_more (Some a ∷ done) one = ap (λ (xs : List IndexAttribute). a ∷ xs) (with_more done one)

module _ (all rest : List ℕ) (old now : List IndexAttribute) (s : KeptSoFar all rest old now) where
  pub kept_more : (after : List ℕ) (one : Option IndexAttribute) (new : List IndexAttribute) → index_specification rest ≡ Ok (Some one, after) → length after < length rest
      → new ≡ now ++ kept_attributes (one ∷ []) → KeptSoFar all after old new
  kept_more after one new e less new_is = record {
    done = s.done ++ one ∷ [];
    before = Some one;
    read = read_one_more (λ (before : Option (Option IndexAttribute)). index_specification) specification_takes all s.done s.before rest s.read one after e;
    now_is = new_is ∙ (ap (λ (xs : List IndexAttribute). xs ++ kept_attributes (one ∷ [])) s.now_is
        ∙ (append_assoc old (kept_attributes s.done) (kept_attributes (one ∷ [])) ∙ ap (λ (xs : List IndexAttribute). old ++ xs) (sym (with_more s.done one))));
    fits = let k = s.fits in omega arith;
  }

  abbrev attributes_kept : Result (List (Option IndexAttribute) × List ℕ) DebugFault → Result (List IndexAttribute × List ℕ) DebugFault
  attributes_kept r = r >>= λ each. Ok (kept_attributes each.0, each.1)

  pub kept_ended : (after : List ℕ) → index_specification rest ≡ Ok (None, after) → index_attributes all ≡ Ok (kept_attributes s.done, after)
  kept_ended after e =
      ap attributes_kept (read_ended (λ (before : Option (Option IndexAttribute)). index_specification) specification_takes all s.done s.before rest s.read after e)
      ∙ ap (λ (xs : List (Option IndexAttribute)). Ok (kept_attributes xs, after)) (append-nil s.done)

  pub kept_refused : (fault : DebugFault) → index_specification rest ≡ Err fault → index_attributes all ≡ Err fault
  kept_refused fault e = ap attributes_kept (read_refused (λ (before : Option (Option IndexAttribute)). index_specification) specification_takes all s.done s.before rest s.read fault e)

-- ---- a declaration

pub declaration_read : (bytes b1 b2 rest : List ℕ) (code tag : ℕ) (old added new : List IndexAttribute) (a : IndexAbbreviation)
    → unsigned_leb bytes ≡ Ok (code, b1) → (code ≡ 0 → ⊥) → unsigned_leb b1 ≡ Ok (tag, b2) → index_attributes b2 ≡ Ok (added, rest) → new ≡ old ++ added
    → a.code ≡ code → a.first ≡ length old → a.end ≡ length new → ReadsIndexDeclaration bytes rest old new (Some a)
declaration_read bytes b1 b2 rest code tag old added new a e some f g new_is code_is first end = record {
  added = added;
  new_is = new_is;
  within = (omega (arith, ap length new_is, length-append old added, first, end), omega (arith, end));
  reads =
      let mine : slice_range new a.first a.end ≡ added = rw (first, end, new_is) (range_added old added) in
      rw (e, ne_eqb code 0 some, f, g, mine, code_is) refl;
}

-- ---- a table

declared_same : (xs ys : List IndexAttribute) (a : IndexAbbreviation) → HasIndexAttributes (length xs) a → index_declaration_of (xs ++ ys) a ≡ index_declaration_of xs a
declared_same xs ys a h =
    ap (λ (l : List IndexAttribute). let d : IndexDeclaration = record { code = a.code; attributes = l } in d) (range_kept xs ys a.first a.end h.0 h.1)

declared_all : (xs ys : List IndexAttribute) (bs : List IndexAbbreviation) → AllByRecursion (HasIndexAttributes (length xs)) bs → map (index_declaration_of (xs ++ ys)) bs ≡ map (index_declaration_of xs) bs
declared_all xs ys [] h = refl
declared_all xs ys (a ∷ bs) h =
    ap (λ (d : IndexDeclaration). d ∷ map (index_declaration_of (xs ++ ys)) bs) (declared_same xs ys a h.0) ∙ ap (λ (ds : List IndexDeclaration). index_declaration_of xs a ∷ ds) (declared_all xs ys bs h.1)

-- some declarations, and then those of these bytes
abbrev and_then : List IndexDeclaration → Result (List IndexDeclaration) DebugFault → Result (List IndexDeclaration) DebugFault
and_then ds r = r >>= λ others. Ok (ds ++ others)

and_then_more : (ds : List IndexDeclaration) (d : IndexDeclaration) (r : Result (List IndexDeclaration) DebugFault) → and_then ds (and_others (Some d) r) ≡ and_then (ds ++ d ∷ []) r
and_then_more ds d (Ok others) = ap (λ (l : List IndexDeclaration). Ok l) (sym (append_assoc ds (d ∷ []) others))
and_then_more ds d (Err f) = refl

and_then_none : (r : Result (List IndexDeclaration) DebugFault) → r ≡ and_then [] r
and_then_none (Ok others) = refl
and_then_none (Err f) = refl

pub record TableSoFar (all rest : List ℕ) (abbreviations : List IndexAbbreviation) (attributes : List IndexAttribute) : Type 0 where
  pub most : ℕ
  pub enough : length rest ≤ most
  pub within : AllByRecursion (HasIndexAttributes (length attributes)) abbreviations
  pub same : declarations_at_most (length all) all ≡ and_then (map (index_declaration_of attributes) abbreviations) (declarations_at_most most rest)

pub table_none : (all : List ℕ) (abbreviations : List IndexAbbreviation) (attributes : List IndexAttribute) → abbreviations ≡ [] → attributes ≡ [] → TableSoFar all all abbreviations attributes
table_none all abbreviations attributes none empty =
    rw (none, empty) (record { most = length all; enough = omega arith; within = tt; same = and_then_none (declarations_at_most (length all) all) })

record NextDeclaration (most : ℕ) (rest : List ℕ) : Type 0 where
  n : ℕ
  enough : length rest ≤ suc n
  is : declarations_at_most most rest ≡ (index_declaration rest >>= λ d. and_others d.0 (declarations_at_most n d.1))

next_declaration : (most : ℕ) (rest : List ℕ) → (rest ≡ [] → ⊥) → length rest ≤ most → NextDeclaration most rest
unfolding declarations_at_most
next_declaration most [] some enough = absurd (some refl)
next_declaration zero (b ∷ bytes) some enough = absurd (omega arith)
next_declaration (suc n) (b ∷ bytes) some enough = record { n = n; enough = enough; is = refl }

no_declarations : (most : ℕ) (rest : List ℕ) → rest ≡ [] → declarations_at_most most rest ≡ Ok []
unfolding declarations_at_most
no_declarations most rest none = rw none refl

module _ (all rest : List ℕ) (abbreviations : List IndexAbbreviation) (attributes : List IndexAttribute) (so : TableSoFar all rest abbreviations attributes) where
  pub table_ended : rest ≡ [] → ReadsIndexTable all abbreviations attributes
  table_ended none = record {
    within = so.within;
    reads = so.same ∙ ap (and_then (map (index_declaration_of attributes) abbreviations)) (no_declarations so.most rest none) ∙ ap (λ (l : List IndexDeclaration). Ok l) (append-nil (map (index_declaration_of attributes) abbreviations));
  }

  module _ (some : rest ≡ [] → ⊥) where
    next : NextDeclaration so.most rest
    next = next_declaration so.most rest some so.enough

    pub table_refused : (fault : DebugFault) → index_declaration rest ≡ Err fault → declarations_at_most (length all) all ≡ Err fault
    table_refused fault e =
        let first : (index_declaration rest >>= λ d. and_others d.0 (declarations_at_most next.n d.1)) ≡ Err fault = rw e refl in
        so.same ∙ ap (and_then (map (index_declaration_of attributes) abbreviations)) (next.is ∙ first)

    module _ (after : List ℕ) (new : List IndexAttribute) where
      within_new : {found : Option IndexAbbreviation} (r : ReadsIndexDeclaration rest after attributes new found) → AllByRecursion (HasIndexAttributes (length new)) abbreviations
      within_new r =
          all_implied (HasIndexAttributes (length attributes)) (HasIndexAttributes (length new))
          (λ a h. let first = h.0 in let end = h.1 in (omega arith, omega (arith, end, ap length r.new_is, length-append attributes r.added))) abbreviations so.within

      declared_new : {found : Option IndexAbbreviation} (r : ReadsIndexDeclaration rest after attributes new found) → map (index_declaration_of attributes) abbreviations ≡ map (index_declaration_of new) abbreviations
      declared_new r = sym (rw r.new_is (declared_all attributes r.added abbreviations so.within))

      pub table_zero : ReadsIndexDeclaration rest after attributes new None → ReadsIndexTable all abbreviations new
      table_zero r = record {
        within = within_new r;
        reads = so.same
            ∙ ap (and_then (map (index_declaration_of attributes) abbreviations)) (next.is ∙ (let first : (index_declaration rest >>= λ d. and_others d.0 (declarations_at_most next.n d.1)) ≡ Ok [] = rw r.reads refl in first))
            ∙ ap (λ (l : List IndexDeclaration). Ok l) (append-nil (map (index_declaration_of attributes) abbreviations) ∙ declared_new r);
      }

      pub table_more : (a : IndexAbbreviation) (with_it : List IndexAbbreviation) → ReadsIndexDeclaration rest after attributes new (Some a) → length after < length rest → with_it ≡ abbreviations ++ a ∷ []
          → TableSoFar all after with_it new
      table_more a with_it r less is =
          let d = index_declaration_of new a in
          let before = map (index_declaration_of new) abbreviations in
          subst (λ (l : List IndexAbbreviation). TableSoFar all after l new) (sym is)
          (record {
            most = next.n;
            enough = let k = next.enough in omega arith;
            within = all_append (HasIndexAttributes (length new)) abbreviations (a ∷ []) (within_new r) (r.within, tt);
            same = so.same
                ∙ ap (and_then (map (index_declaration_of attributes) abbreviations))
                (next.is
                ∙ (let first : (index_declaration rest >>= λ d. and_others d.0 (declarations_at_most next.n d.1)) ≡ and_others (Some d) (declarations_at_most next.n after) = rw r.reads refl in first))
                ∙ ap (λ (ds : List IndexDeclaration). and_then ds (and_others (Some d) (declarations_at_most next.n after))) (declared_new r)
                ∙ and_then_more before d (declarations_at_most next.n after)
                ∙ ap (λ (ds : List IndexDeclaration). and_then ds (declarations_at_most next.n after)) (sym (map-append (index_declaration_of new) abbreviations (a ∷ [])));
          })

-- ---- looking up

pub attributes_found : (attributes : List IndexAttribute) (xs : List IndexAbbreviation) (code : ℕ)
    → attributes_with (map (index_declaration_of attributes) xs) code ≡ some_or (option_map (λ (a : IndexAbbreviation). slice_range attributes a.first a.end) (find (λ (a : IndexAbbreviation). eqb a.code code) xs)) BadNumber
attributes_found attributes xs code =
    ap (λ (o : Option IndexDeclaration). some_or (option_map (λ (d : IndexDeclaration). d.attributes) o) BadNumber)
    (find_mapped (λ (a : IndexAbbreviation). a.code) (λ (d : IndexDeclaration). d.code) (index_declaration_of attributes) (λ a. refl) code xs)
    ∙ twice (find (λ (a : IndexAbbreviation). eqb a.code code) xs)
  where
    twice : (o : Option IndexAbbreviation) → some_or (option_map (λ (d : IndexDeclaration). d.attributes) (option_map (index_declaration_of attributes) o)) BadNumber
        ≡ some_or (option_map (λ (a : IndexAbbreviation). slice_range attributes a.first a.end) o) BadNumber
    twice None = refl
    twice (Some a) = refl
