-- Abbreviations in memory, bs they are read.
use Rattle.std.proofs.Common.{◌≡◌, ℕ, zero, suc, ◌-◌, ◌<◌, ◌≤◌, not, eqb, List, [], ◌∷◌, ◌++◌, length, map, take, drop, slice_range, Option, Some, None, option_map, Result, Ok, Err, refl, sym, ap, subst, ◌∙◌, append_assoc, length-append, arith}
use Rattle.std.specs.List.{AllByRecursion, find}
use Rattle.std.proofs.lemmas.Bool.{lt-ltb, ne_eqb}
use Rattle.std.proofs.lemmas.List.{append-nil, drop-append-le, take-append-le, drop_at, take_all, length-drop, map-append}
use Rattle.wasm_numbers.specs.Results.{◌>>=◌, some_or}
use Rattle.dwarf_bytes.specs.declared.fault.DebugFault.{DebugFault}
use Rattle.dwarf_bytes.specs.declared.fault.DebugFault.TheVariants.{BadNumber, BadOffset}
use Rattle.dwarf_bytes.specs.Numbers.{fixed_number, unsigned_leb}
use Rattle.dwarf_line.specs.Repeated.{at_most, Begin}
use Rattle.dwarf_line.proofs.RepeatedLemmas.{begin-append, begin_one, IsShortening, all_fails}
use Rattle.dwarf_info.specs.declared.abbreviations.Attribute.{Attribute}
use Rattle.dwarf_info.specs.declared.abbreviations.Abbreviation.{Abbreviation}
use Rattle.dwarf_info.specs.declared.abbreviations.Table.{Table}
use Rattle.dwarf_info.specs.Abbreviations.{Declaration, specification, specifications, taking_bytes, next_declaration, code_of, table_declarations, AbbreviationsAt, abbreviations_at, abbreviation_tables, table_at, declaration_with}
use Rattle.dwarf_info.specs.InMemory.{declaration_of, table_in_memory, ReadsDeclaration, ReadsDeclarations}
use Rattle.dwarf_info.specs.Sound.{HasAttributes, AreAbbreviations, IsSoundTable, AreTables}
use Rattle.dwarf_info.proofs.Reading.{ReadSoFar, read_none, read_one_more, read_ended, read_refused}
use Rattle.dwarf_info.proofs.Search.{ascend_lower, ascend_more, ascend_mapped, all_append, all_implied, find_mapped}
use Rattle.dwarf_info.proofs.Declarations.{specification_takes, declaration_takes, table_less, codes_ascend}

-- ---- parts of lists

pub range_kept : {X : Type 0} (xs ys : List X) (i j : ℕ) → i ≤ j → j ≤ length xs → slice_range (xs ++ ys) i j ≡ slice_range xs i j
range_kept xs ys i j le within =
    ap (take (j - i)) (drop-append-le i xs ys (omega arith)) ∙ take-append-le (j - i) (drop i xs) ys (omega (arith, length-drop i xs))

pub range_added : {X : Type 0} (xs ys : List X) → slice_range (xs ++ ys) (length xs) (length (xs ++ ys)) ≡ ys
range_added xs ys =
    ap (take (length (xs ++ ys) - length xs)) (drop_at xs ys (length xs) refl) ∙ take_all (length (xs ++ ys) - length xs) ys (omega (arith, length-append xs ys))

-- ---- attributes

pub record AttributesSoFar (all rest : List ℕ) (old now : List Attribute) : Type 0 where
  pub done : List (Option Attribute)
  pub before : Option (Option Attribute)
  pub read : ReadSoFar (λ (before : Option (Option Attribute)). specification) all done before rest
  pub now_is : now ≡ old ++ taking_bytes done
  pub fits : length rest ≤ length all

pub attributes_none : (all : List ℕ) (old : List Attribute) → AttributesSoFar all all old old
attributes_none all old = record {
  done = [];
  before = None;
  read = read_none (λ (before : Option (Option Attribute)). specification) all;
  now_is = sym (append-nil old);
  fits = omega arith;
}

with_more : (done : List (Option Attribute)) (one : Option Attribute) → taking_bytes (done ++ one ∷ []) ≡ taking_bytes done ++ taking_bytes (one ∷ [])
with_more [] one = refl
with_more (None ∷ done) one = with_more done one
with_more (Some a ∷ done) one = ap (λ (xs : List Attribute). a ∷ xs) (with_more done one)

module _ (all rest after : List ℕ) (old now : List Attribute) (s : AttributesSoFar all rest old now) where
  pub attributes_more : (one : Option Attribute) (new : List Attribute) → specification rest ≡ Ok (Some one, after) → length after < length rest → new ≡ now ++ taking_bytes (one ∷ []) → AttributesSoFar all after old new
  attributes_more one new e less new_is = record {
    done = s.done ++ one ∷ [];
    before = Some one;
    read = read_one_more (λ (before : Option (Option Attribute)). specification) specification_takes all s.done s.before rest s.read one after e;
    now_is = new_is ∙ (ap (λ (xs : List Attribute). xs ++ taking_bytes (one ∷ [])) s.now_is
        ∙ (append_assoc old (taking_bytes s.done) (taking_bytes (one ∷ [])) ∙ ap (λ (xs : List Attribute). old ++ xs) (sym (with_more s.done one))));
    fits = let k = s.fits in omega arith;
  }

  pub attributes_ended : specification rest ≡ Ok (None, after) → specifications all ≡ Ok (taking_bytes s.done, after)
  attributes_ended e =
      let whole = read_ended (λ (before : Option (Option Attribute)). specification) specification_takes all s.done s.before rest s.read after e in
      ap (λ (r : Result (List (Option Attribute) × List ℕ) DebugFault). r >>= λ each. Ok (taking_bytes each.0, each.1)) whole
      ∙ ap (λ (xs : List (Option Attribute)). Ok (taking_bytes xs, after)) (append-nil s.done)

pub attributes_refused : (all rest : List ℕ) (old now : List Attribute) → AttributesSoFar all rest old now → (fault : DebugFault) → specification rest ≡ Err fault → specifications all ≡ Err fault
attributes_refused all rest old now s fault e =
    ap (λ (r : Result (List (Option Attribute) × List ℕ) DebugFault). r >>= λ each. Ok (taking_bytes each.0, each.1))
    (read_refused (λ (before : Option (Option Attribute)). specification) specification_takes all s.done s.before rest s.read fault e)

-- ---- a declaration

pub declaration_read : (last : ℕ) (bytes b1 b2 b3 rest : List ℕ) (code tag children : ℕ) (old added new : List Attribute) (a : Abbreviation)
    → unsigned_leb bytes ≡ Ok (code, b1) → (code ≡ 0 → ⊥) → last < code → unsigned_leb b1 ≡ Ok (tag, b2) → fixed_number 1 b2 ≡ Ok (children, b3)
    → specifications b3 ≡ Ok (added, rest) → new ≡ old ++ added
    → a.code ≡ code → a.tag ≡ tag → a.has_children ≡ not (eqb children 0) → a.first ≡ length old → a.end ≡ length new
    → ReadsDeclaration last bytes rest old new (Some a)
declaration_read last bytes b1 b2 b3 rest code tag children old added new a e some up f g h new_is code_is tag_is has first end = record {
  added = added;
  new_is = new_is;
  within = (omega (arith, ap length new_is, length-append old added, first, end), omega (arith, end));
  reads =
      let mine : slice_range new a.first a.end ≡ added = rw (first, end, new_is) (range_added old added) in
      rw (e, ne_eqb code 0 some, lt-ltb last code up, f, g, h, mine, code_is, tag_is, has) refl;
}

-- ---- the declarations of a table

declared_same : (xs ys : List Attribute) (a : Abbreviation) → HasAttributes (length xs) a → declaration_of (xs ++ ys) a ≡ declaration_of xs a
declared_same xs ys a h =
    ap (λ (l : List Attribute). let d : Declaration = record { code = a.code; tag = a.tag; has_children = a.has_children; attributes = l } in d) (range_kept xs ys a.first a.end h.0 h.1)

pub declared_all : (xs ys : List Attribute) (bs : List Abbreviation) → AllByRecursion (HasAttributes (length xs)) bs → map (declaration_of (xs ++ ys)) bs ≡ map (declaration_of xs) bs
declared_all xs ys [] h = refl
declared_all xs ys (a ∷ bs) h =
    ap (λ (d : Declaration). d ∷ map (declaration_of (xs ++ ys)) bs) (declared_same xs ys a h.0) ∙ ap (λ (ds : List Declaration). declaration_of xs a ∷ ds) (declared_all xs ys bs h.1)

within_more : (m n : ℕ) → m ≤ n → (bs : List Abbreviation) → AllByRecursion (HasAttributes m) bs → AllByRecursion (HasAttributes n) bs
within_more m n le bs = all_implied (HasAttributes m) (HasAttributes n) (λ a h. let first = h.0 in let end = h.1 in (omega arith, omega arith)) bs

pub record DeclarationsSoFar (all rest : List ℕ) (last : ℕ) (old now : List Abbreviation) (old_attributes attributes : List Attribute) : Type 0 where
  pub added : List Abbreviation
  pub now_is : now ≡ old ++ added
  pub more : List Attribute
  pub attributes_are : attributes ≡ old_attributes ++ more
  pub within : AllByRecursion (HasAttributes (length attributes)) added
  pub before : Option Declaration
  pub last_is : last ≡ code_of before
  pub read : ReadSoFar (λ before. next_declaration (code_of before)) all (map (declaration_of attributes) added) before rest
  pub fits : length rest ≤ length all

pub declarations_none : (all : List ℕ) (old : List Abbreviation) (attributes : List Attribute) → DeclarationsSoFar all all 0 old old attributes attributes
declarations_none all old attributes = record {
  added = [];
  now_is = sym (append-nil old);
  more = [];
  attributes_are = sym (append-nil attributes);
  within = tt;
  before = None;
  last_is = refl;
  read = read_none (λ before. next_declaration (code_of before)) all;
  fits = omega arith;
}

module _ (all rest after : List ℕ) (last : ℕ) (old now : List Abbreviation) (old_attributes attributes new_attributes : List Attribute)
    (s : DeclarationsSoFar all rest last old now old_attributes attributes) where
  attributes_grow : (more : List Attribute) → new_attributes ≡ attributes ++ more → length attributes ≤ length new_attributes
  attributes_grow more e = omega (arith, ap length e, length-append attributes more)

  still_declared : (more : List Attribute) → new_attributes ≡ attributes ++ more → map (declaration_of attributes) s.added ≡ map (declaration_of new_attributes) s.added
  still_declared more e = sym (rw e (declared_all attributes more s.added s.within))

  all_attributes : (more : List Attribute) → new_attributes ≡ attributes ++ more → new_attributes ≡ old_attributes ++ (s.more ++ more)
  all_attributes more e = e ∙ (ap (λ (xs : List Attribute). xs ++ more) s.attributes_are ∙ append_assoc old_attributes s.more more)

  pub declarations_more : (a : Abbreviation) (new : List Abbreviation) → ReadsDeclaration last rest after attributes new_attributes (Some a) → length after < length rest → new ≡ now ++ a ∷ []
      → DeclarationsSoFar all after a.code old new old_attributes new_attributes
  declarations_more a new r less new_is = record {
    added = s.added ++ a ∷ [];
    now_is = new_is ∙ (ap (λ (xs : List Abbreviation). xs ++ a ∷ []) s.now_is ∙ append_assoc old s.added (a ∷ []));
    more = s.more ++ r.added;
    attributes_are = all_attributes r.added r.new_is;
    within = all_append (HasAttributes (length new_attributes)) s.added (a ∷ []) (within_more (length attributes) (length new_attributes) (attributes_grow r.added r.new_is) s.added s.within) (r.within, tt);
    before = Some (declaration_of new_attributes a);
    last_is = refl;
    read =
        let d = declaration_of new_attributes a in
        let e : next_declaration (code_of s.before) rest ≡ Ok (Some d, after) = subst (λ n. next_declaration n rest ≡ Ok (Some d, after)) s.last_is r.reads in
        let more = read_one_more (λ before. next_declaration (code_of before)) declaration_takes all (map (declaration_of attributes) s.added) s.before rest s.read d after e in
        let done : map (declaration_of attributes) s.added ++ d ∷ [] ≡ map (declaration_of new_attributes) (s.added ++ a ∷ []) =
        ap (λ (ds : List Declaration). ds ++ d ∷ []) (still_declared r.added r.new_is) ∙ sym (map-append (declaration_of new_attributes) s.added (a ∷ [])) in
        subst (λ (ds : List Declaration). ReadSoFar (λ before. next_declaration (code_of before)) all ds (Some d) after) done more;
    fits = let k = s.fits in omega arith;
  }

  pub declarations_ended : ReadsDeclaration last rest after attributes new_attributes None → ReadsDeclarations all after old now old_attributes new_attributes
  declarations_ended r = record {
    added = s.added;
    new_is = s.now_is;
    added_attributes = s.more ++ r.added;
    new_attributes_are = all_attributes r.added r.new_is;
    within = within_more (length attributes) (length new_attributes) (attributes_grow r.added r.new_is) s.added s.within;
    reads =
        let e : next_declaration (code_of s.before) rest ≡ Ok (None, after) = subst (λ n. next_declaration n rest ≡ Ok (None, after)) s.last_is r.reads in
        read_ended (λ before. next_declaration (code_of before)) declaration_takes all (map (declaration_of attributes) s.added) s.before rest s.read after e
        ∙ ap (λ (ds : List Declaration). Ok (ds, after)) (append-nil (map (declaration_of attributes) s.added) ∙ still_declared r.added r.new_is);
  }

pub declarations_refused : (all rest : List ℕ) (last : ℕ) (old now : List Abbreviation) (old_attributes attributes : List Attribute) → DeclarationsSoFar all rest last old now old_attributes attributes
    → (fault : DebugFault) → next_declaration last rest ≡ Err fault → table_declarations all ≡ Err fault
declarations_refused all rest last old now old_attributes attributes s fault e =
    read_refused (λ before. next_declaration (code_of before)) declaration_takes all (map (declaration_of attributes) s.added) s.before rest s.read fault
    (subst (λ n. next_declaration n rest ≡ Err fault) s.last_is e)

-- ---- the tables of a section

table_kept : (xs ys : List Abbreviation) (m n : ℕ) → m ≤ n → (t : Table) → IsSoundTable xs m t → IsSoundTable (xs ++ ys) n t
table_kept xs ys m n le t h =
    let end = h.1.0 in
    let same = range_kept xs ys t.first t.end h.0 h.1.0 in (
      h.0,
      (
        omega (arith, length-append xs ys),
        subst (λ (l : List Abbreviation). AreAbbreviations l n) (sym same) (h.1.1.0, within_more m n le (slice_range xs t.first t.end) h.1.1.1),
      ),
    )

within_part : (n : ℕ) (xs : List Abbreviation) (t : Table) → IsSoundTable xs n t → AllByRecursion (HasAttributes n) (slice_range xs t.first t.end)
within_part n xs t h = h.1.1.1

pub tables_same : (attributes more : List Attribute) (xs ys : List Abbreviation) (ts : List Table) → AllByRecursion (IsSoundTable xs (length attributes)) ts
    → map (table_in_memory (attributes ++ more) (xs ++ ys)) ts ≡ map (table_in_memory attributes xs) ts
tables_same attributes more xs ys [] h = refl
tables_same attributes more xs ys (t ∷ ts) h =
    let part = range_kept xs ys t.first t.end h.0.0 h.0.1.0 in
    let declared : map (declaration_of (attributes ++ more)) (slice_range (xs ++ ys) t.first t.end) ≡ map (declaration_of attributes) (slice_range xs t.first t.end) =
    ap (map (declaration_of (attributes ++ more))) part ∙ declared_all attributes more (slice_range xs t.first t.end) (within_part (length attributes) xs t h.0) in
    ap (λ (ds : List Declaration). let v : AbbreviationsAt = record { offset = t.offset; declarations = ds } in v ∷ map (table_in_memory (attributes ++ more) (xs ++ ys)) ts) declared
    ∙ ap (λ (vs : List AbbreviationsAt). table_in_memory attributes xs t ∷ vs) (tables_same attributes more xs ys ts h.1)

pub record TablesSoFar (section rest : List ℕ) (ts : List Table) (xs : List Abbreviation) (attributes : List Attribute) : Type 0 where
  pub sound : AreTables ts xs (length attributes)
  pub below : AllByRecursion (λ (t : Table). t.offset < length section - length rest) ts
  pub fits : length rest ≤ length section
  pub reads : Begin (abbreviations_at (length section)) (map (table_in_memory attributes xs) ts) section rest

pub tables_none : (section : List ℕ) → TablesSoFar section section [] [] []
tables_none section = record { sound = (tt, tt); below = tt; fits = omega arith; reads = refl }

module _ (section rest after : List ℕ) (ts : List Table) (xs new_xs : List Abbreviation) (attributes new_attributes : List Attribute)
    (s : TablesSoFar section rest ts xs attributes) (r : ReadsDeclarations rest after xs new_xs attributes new_attributes) (less : length after < length rest) where
  new_table : Table
  new_table = record { offset = length section - length rest; first = length xs; end = length new_xs }

  grown : length attributes ≤ length new_attributes
  grown = omega (arith, ap length r.new_attributes_are, length-append attributes r.added_attributes)

  part_is : slice_range new_xs (length xs) (length new_xs) ≡ r.added
  part_is = rw r.new_is (range_added xs r.added)

  added_sound : AreAbbreviations r.added (length new_attributes)
  added_sound =
      let up = codes_ascend (length rest) None rest (map (declaration_of new_attributes) r.added) after r.reads in
      let mine = ascend_mapped (λ (a : Abbreviation). a.code) (λ (d : Declaration). d.code) (declaration_of new_attributes) (λ a. refl) 1 r.added up in
      (ascend_lower (λ (a : Abbreviation). a.code) 0 1 r.added mine (omega arith), r.within)

  table_sound : IsSoundTable new_xs (length new_attributes) new_table
  unfolding new_table
  table_sound = (
    omega (arith, ap length r.new_is, length-append xs r.added),
    (
      omega arith,
      subst (λ (l : List Abbreviation). AreAbbreviations l (length new_attributes)) (sym part_is) added_sound,
    ),
  )

  others_sound : AllByRecursion (IsSoundTable new_xs (length new_attributes)) ts
  others_sound =
      all_implied (IsSoundTable xs (length attributes)) (IsSoundTable new_xs (length new_attributes))
      (λ t h. subst (λ (l : List Abbreviation). IsSoundTable l (length new_attributes) t) (sym r.new_is) (table_kept xs r.added (length attributes) (length new_attributes) grown t h)) ts s.sound.1

  same_tables : map (table_in_memory attributes xs) ts ≡ map (table_in_memory new_attributes new_xs) ts
  same_tables = sym (rw (r.new_is, r.new_attributes_are) (tables_same attributes r.added_attributes xs r.added ts s.sound.1))

  one_read : abbreviations_at (length section) rest ≡ Ok (table_in_memory new_attributes new_xs new_table, after)
  unfolding new_table
  one_read =
      rw r.reads
      (ap (λ (l : List Abbreviation). Ok (let v : AbbreviationsAt = record { offset = length section - length rest; declarations = map (declaration_of new_attributes) l } in v, after)) (sym part_is))

  pub tables_more : (t : Table) (new : List Table) → t.offset ≡ length section - length rest → t.first ≡ length xs → t.end ≡ length new_xs → new ≡ ts ++ t ∷ [] → TablesSoFar section after new new_xs new_attributes
  unfolding new_table
  tables_more t new offset_is first_is end_is new_is =
      let is : new_table ≡ t = ap (λ n. let u : Table = record { offset = n; first = length xs; end = length new_xs } in u) (sym offset_is)
      ∙ (ap (λ n. let u : Table = record { offset = t.offset; first = n; end = length new_xs } in u) (sym first_is)
      ∙ ap (λ n. let u : Table = record { offset = t.offset; first = t.first; end = n } in u) (sym end_is)) in
      let fits = s.fits in
      subst (λ (us : List Table). TablesSoFar section after us new_xs new_attributes) (ap (λ (u : Table). ts ++ u ∷ []) is ∙ sym new_is)
      (record {
        sound = (
          ascend_more (λ (t : Table). t.offset) 0 ts new_table s.sound.0 s.below (omega arith),
          all_append (IsSoundTable new_xs (length new_attributes)) ts (new_table ∷ []) others_sound (table_sound, tt),
        );
        below = all_append (λ (t : Table). t.offset < length section - length after) ts (new_table ∷ [])
            (all_implied (λ (t : Table). t.offset < length section - length rest) (λ (t : Table). t.offset < length section - length after) (λ t h. omega arith) ts s.below) (omega arith, tt);
        fits = omega arith;
        reads =
            let one : Begin (abbreviations_at (length section)) (table_in_memory new_attributes new_xs new_table ∷ []) rest after = begin_one (abbreviations_at (length section)) (table_in_memory new_attributes new_xs new_table) rest after one_read in
            let all = begin-append (abbreviations_at (length section)) (map (table_in_memory attributes xs) ts) (table_in_memory new_attributes new_xs new_table ∷ []) section rest after s.reads one in
            subst (λ (vs : List AbbreviationsAt). Begin (abbreviations_at (length section)) vs section after)
            (ap (λ (vs : List AbbreviationsAt). vs ++ table_in_memory new_attributes new_xs new_table ∷ []) same_tables ∙ sym (map-append (table_in_memory new_attributes new_xs) ts (new_table ∷ []))) all;
      })

-- ---- the whole section

most_done : {A : Type 0} (one : List ℕ → Result (A × List ℕ) DebugFault) (most : ℕ) (xs : List A) (bytes : List ℕ) → IsShortening one → length bytes ≤ most → Begin one xs bytes [] → at_most most one bytes ≡ Ok xs
unfolding at_most
most_done one most [] bytes h fits p = rw p refl
most_done one most (x ∷ xs) [] h fits p = absurd (let less = h [] x p.0 p.1 in omega arith)
most_done one zero (x ∷ xs) (b ∷ bytes) h fits p = absurd (omega arith)
most_done one (suc most) (x ∷ xs) (b ∷ bytes) h fits p =
    let less = h (b ∷ bytes) x p.0 p.1 in
    rw (p.1, most_done one most xs p.0 h (omega arith) p.2) refl

pub tables_done : (section rest : List ℕ) (ts : List Table) (xs : List Abbreviation) (attributes : List Attribute) → TablesSoFar section rest ts xs attributes → rest ≡ []
    → abbreviation_tables section ≡ Ok (map (table_in_memory attributes xs) ts)
tables_done section rest ts xs attributes s none =
    most_done (abbreviations_at (length section)) (length section) (map (table_in_memory attributes xs) ts) section (table_less (length section)).at (omega arith)
    (subst (λ (l : List ℕ). Begin (abbreviations_at (length section)) (map (table_in_memory attributes xs) ts) section l) none s.reads)

pub tables_refused : (section rest : List ℕ) (ts : List Table) (xs : List Abbreviation) (attributes : List Attribute) → TablesSoFar section rest ts xs attributes → (rest ≡ [] → ⊥)
    → (fault : DebugFault) → table_declarations rest ≡ Err fault → abbreviation_tables section ≡ Err fault
tables_refused section rest ts xs attributes s some fault e =
    all_fails (abbreviations_at (length section)) fault (map (table_in_memory attributes xs) ts) section rest (table_less (length section)).at s.reads some (rw e refl)

-- ---- looking up

pub table_found : (attributes : List Attribute) (xs : List Abbreviation) (ts : List Table) (offset : ℕ)
    → table_at (map (table_in_memory attributes xs) ts) offset ≡ some_or (option_map (λ (t : Table). map (declaration_of attributes) (slice_range xs t.first t.end)) (find (λ (t : Table). eqb t.offset offset) ts)) BadOffset
table_found attributes xs ts offset =
    ap (λ (o : Option AbbreviationsAt). some_or (option_map (λ (t : AbbreviationsAt). t.declarations) o) BadOffset)
    (find_mapped (λ (t : Table). t.offset) (λ (t : AbbreviationsAt). t.offset) (table_in_memory attributes xs) (λ t. refl) offset ts)
    ∙ twice (find (λ (t : Table). eqb t.offset offset) ts)
  where
    twice : (o : Option Table) → some_or (option_map (λ (t : AbbreviationsAt). t.declarations) (option_map (table_in_memory attributes xs) o)) BadOffset
        ≡ some_or (option_map (λ (t : Table). map (declaration_of attributes) (slice_range xs t.first t.end)) o) BadOffset
    twice None = refl
    twice (Some t) = refl

pub declaration_found : (attributes : List Attribute) (xs : List Abbreviation) (code : ℕ)
    → declaration_with (map (declaration_of attributes) xs) code ≡ some_or (option_map (declaration_of attributes) (find (λ (a : Abbreviation). eqb a.code code) xs)) BadNumber
declaration_found attributes xs code =
    ap (λ (o : Option Declaration). some_or o BadNumber)
    (find_mapped (λ (a : Abbreviation). a.code) (λ (d : Declaration). d.code) (declaration_of attributes) (λ a. refl) code xs)
