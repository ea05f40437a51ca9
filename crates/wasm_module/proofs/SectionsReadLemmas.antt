-- The sections of a module are read, one after the other.
use Rattle.std.proofs.Common.{◌≡◌, ◌==◌, ◌≢◌, ℕ, zero, suc, ◌-◌, ◌<◌, ◌≤◌, nat_lt, if◌then◌else◌, List, [], ◌∷◌, ◌++◌, length, Some, None, Result, Ok, Err, refl, sym, ap, ◌∙◌, subst, inl, inr, arith, length-append}
use Rattle.std.proofs.lemmas.Bool.Decides.{nat_tests}
use Rattle.std.specs.FinMap.{empty}
use Rattle.wasm_numbers.specs.Numbers.{unsigned}
use Rattle.wasm_numbers.specs.Results.{◌>>=◌, with_fault}
use Rattle.wasm_numbers.proofs.Agreement.{chosen}
use Rattle.wasm_numbers.proofs.ResultLemmas.{bind_ok, ok_same, with_fault_ok}
use Rattle.wasm_operators.specs.declared.types.Space.{Space}
use Rattle.wasm_operators.specs.declared.types.Space.TheVariants as spaces
use Rattle.walrus_maps.specs.declared.indices_to_ids.IndicesToIds.{IndicesToIds}
use Rattle.walrus_maps.specs.IndexMaps.{no_ids, ids_in, numbers_in}
use Rattle.wasm_sections.specs.declared.fault.ModuleError.{ModuleError}
use Rattle.wasm_sections.specs.declared.fault.ModuleFault.{ModuleFault}
use Rattle.wasm_sections.specs.declared.fault.ModuleFault.TheVariants as fault
use Rattle.wasm_sections.specs.declared.sections.Section.{Section}
use Rattle.wasm_sections.specs.declared.sections.Sections.{Sections}
use Rattle.walrus_ir.specs.Types.{ModuleType}
use Rattle.wasm_sections.specs.declared.spaces.Counts.{Counts}
use Rattle.wasm_sections.specs.declared.spaces.Spaces.{Spaces}
use Rattle.wasm_sections.specs.Components.{Components, no_components, count_in, contents_of, sections_from, counts_agree}
use Rattle.wasm_sections.specs.Declarations.{first_numbers}
use Rattle.wasm_sections.specs.Format.{name_part}
use Rattle.wasm_sections.specs.NextItems.{no_counts, own_numbers}
use Rattle.wasm_sections.specs.Parts.{fault_here}
use Rattle.wasm_sections.specs.Sections.{section_id, rank, section_part, rank_with, next_section, TakesSection}
use Rattle.wasm_sections.proofs.NumberLemmas.{number_takes, is_shorter}
use Rattle.wasm_sections.proofs.TypeReadingLemmas.{first_gives, first_fails}
use Rattle.wasm_module.specs.ReadModules.{IsReadSoFar}
use Rattle.wasm_module.proofs.ReadingLemmas.{SectionsLeft}

-- ---- before anything is read

abbrev empty_with : (types : List ModuleType) → (tags functions : List ℕ) → (c : Counts) → Components
empty_with types tags functions c = record {
  types = types;
  functions = functions;
  imported = 0;
  tags = tags;
  tables = c.tables;
  memories = c.memories;
  globals = c.globals;
  elements = c.elements;
  datas = c.«data»;
  data_count = None;
  code = None;
}

pub unread_is : (types : List ModuleType) (tags functions : List ℕ) (c : Counts) → types ≡ [] → tags ≡ [] → functions ≡ [] → c ≡ no_counts → empty_with types tags functions c ≡ no_components
unread_is types tags functions c a b f e =
    ap (λ (l : List ModuleType). empty_with l tags functions c) a ∙ ap (λ (l : List ℕ). empty_with [] l functions c) b
    ∙ ap (λ (l : List ℕ). empty_with [] [] l c) f ∙ ap (λ (x : Counts). empty_with [] [] [] x) e

pub nothing_read : (m : Components) (s : Spaces) → m ≡ no_components → s.indices ≡ no_ids → ((space : Space) → numbers_in s.numbers space ≡ empty) → s.counts ≡ no_counts → s.more_imports ≡ 0 → s.more_functions ≡ 0 → IsReadSoFar m s
unfolding own_numbers
nothing_read m s is ids numbers counts imports functions =
    let read : IsReadSoFar no_components s = record {
      indices = record {
        ids = λ space.
            ap (λ (x : IndicesToIds). ids_in x space) ids
            ∙ elim space as (λ o. ids_in no_ids o ≡ first_numbers (count_in no_components o)) [ spaces.Tables ↦ refl | _ ↦ refl ];
        numbers = λ space.
            numbers space ∙ elim space as (λ o. empty ≡ own_numbers (count_in no_components o)) [ spaces.Tables ↦ refl | _ ↦ refl ];
        more_imports = imports;
        more_functions = functions;
      };
      types = tt;
      tags = ap (λ (c : Counts). c.tags) counts;
    } in
    subst (λ (c : Components). IsReadSoFar c s) (sym is) read

-- ---- a section, its rank and its contents

-- what is read of the next section
pub record NextRead (r end : ℕ) (text : List ℕ) (id : ℕ) (contents : List ℕ) (next : ℕ) (rest : List ℕ) : Type 0 where
  pub section_is : section_part end text ≡ Ok ((id, contents), rest)
  pub rank_is : with_fault (fault_here end text) (rank_with r id) ≡ Ok next

pub next_read :
    (r end : ℕ) (text : List ℕ) (id : ℕ) (contents : List ℕ) (next : ℕ) (rest : List ℕ) → next_section r end text ≡ Ok (((id, contents), next), rest) →
    NextRead r end text id contents next rest
next_read r end text id contents next rest e =
    let check : ℕ × List ℕ → Result ((ℕ × List ℕ) × ℕ) ModuleFault = λ x. rank_with r x.0 >>= λ n. Ok (x, n) in
    let a = bind_ok (section_part end text) (λ x. with_fault (fault_here end text) (check x.0) >>= λ v. Ok (v, x.1)) (((id, contents), next), rest) e in
    let b = bind_ok (with_fault (fault_here end text) (check a.0.0)) (λ v. Ok (v, a.0.1)) (((id, contents), next), rest) a.2 in
    let c = bind_ok (rank_with r a.0.0.0) (λ n. Ok (a.0.0, n)) b.0 (with_fault_ok (fault_here end text) (check a.0.0) b.0 b.1) in
    let all = ok_same (b.0, a.0.1) (((id, contents), next), rest) b.2 in
    let checked_is = ok_same (a.0.0, c.0) b.0 c.2 in
    let both : (a.0.0, c.0) ≡ ((id, contents), next) = checked_is ∙ ap (λ (p : ((ℕ × List ℕ) × ℕ) × List ℕ). p.0) all in
    let section : a.0.0 ≡ (id, contents) = ap (λ (p : (ℕ × List ℕ) × ℕ). p.0) both in
    let after : a.0.1 ≡ rest = ap (λ (p : ((ℕ × List ℕ) × ℕ) × List ℕ). p.1) all in
    record {
      section_is = a.1 ∙ ap (λ (p : ℕ × List ℕ). Ok (p, a.0.1)) section ∙ ap (λ (l : List ℕ). Ok ((id, contents), l)) after;
      rank_is =
          ap (λ (r : Result ℕ ModuleFault). with_fault (fault_here end text) r)
          (ap (λ (p : ℕ × List ℕ). rank_with r p.0) (sym section) ∙ c.1 ∙ ap (λ (p : (ℕ × List ℕ) × ℕ). Ok p.1) both);
    }

rank_first :
    {Y : Type 0} (rank : Result ℕ ModuleFault) (here : ModuleFault → ModuleError) (Z : Type 0) (pair : ℕ → Z) (W : Type 0) (put : Z → W) (after : ℕ → Result Y ModuleError)
    (e : ModuleError) → (with_fault here (rank >>= λ n. Ok (pair n)) >>= λ v. Ok (put v)) ≡ Err e → (with_fault here rank >>= after) ≡ Err e
rank_first (Ok n) here Z pair W put after e h = absurd cc
rank_first (Err f) here Z pair W put after e h = let same : here f ≡ e = cc in ap (λ (x : ModuleError). Err x) same

-- a fault of the section or of its rank is a fault before its contents
pub fault_first :
    {X Y : Type 0} (part : Result X ModuleError) (rank : X → Result ℕ ModuleFault) (here : ModuleFault → ModuleError) (Z : Type 0) (pair : X → ℕ → Z) (W : Type 0) (put : X → Z → W)
    (after : X → ℕ → Result Y ModuleError) (e : ModuleError) → (part >>= λ x. with_fault here (rank x >>= λ n. Ok (pair x n)) >>= λ v. Ok (put x v)) ≡ Err e →
    (part >>= λ x. with_fault here (rank x) >>= λ n. after x n) ≡ Err e
fault_first {X} {Y} (Err d) rank here Z pair W put after e h = let same : d ≡ e = cc in ap (λ (x : ModuleError). Err x) same
fault_first {X} {Y} (Ok x) rank here Z pair W put after e h = rank_first (rank x) here Z (pair x) W (put x) (after x) e h

-- a custom section adds no types, and after any other the rank isn't 0
custom_same : (m n : Components) (r : Result (List ℕ × List ℕ) ModuleError) → (r >>= λ x. Ok m) ≡ Ok n → m ≡ n
custom_same m n (Ok x) e = ok_same m n e
custom_same m n (Err f) e = absurd cc

no_types_after :
    (before next id : ℕ) (m n : Components) (end : ℕ) (text : List ℕ) → rank_with before id ≡ Ok next → next ≡ 0 → (before ≡ 0 → m.types ≡ []) → contents_of id m end text ≡ Ok n →
    n.types ≡ []
no_types_after before next id m n end text ranked is_zero none read =
    elim (chosen (id == 0) (Ok before) (if nat_lt before (rank id) then Ok (rank id) else Err fault.SectionOutOfOrder) (Ok next) ranked) [
      | inl x ↦
          let custom : id ≡ 0 = let h = x.0 in grind (arith, nat_tests) in
          let same : m ≡ n = custom_same m n (name_part end text) (ap (λ (k : ℕ). contents_of k m end text) (sym custom) ∙ read) in
          ap (λ (c : Components). c.types) (sym same) ∙ none (ok_same before next x.1 ∙ is_zero)
      | inr x ↦
          elim (chosen (nat_lt before (rank id)) (Ok (rank id)) (Err fault.SectionOutOfOrder) (Ok next) x.1) [
            | inl y ↦ absurd (let h = y.0 in let same : rank id ≡ next = ok_same (rank id) next y.1 in grind (arith, nat_tests))
            | inr y ↦ absurd (let h = y.1 in cc)
          ]
    ]

-- ---- the sections that are left

ended : (most r : ℕ) (m : Components) (end : ℕ) → sections_from most r m end [] ≡ Ok m
unfolding sections_from
ended zero r m end = refl
ended (suc most) r m end = refl

abbrev pub rest_of : (most : ℕ) → (m : Components) → (end : ℕ) → (x : (ℕ × List ℕ) × List ℕ) → (next : ℕ) → Result Components ModuleError
rest_of most m end x next = contents_of x.0.0 m (end - length x.1) x.0.1 >>= λ n. sections_from most next n end x.1

begun : (most r : ℕ) (m : Components) (end b : ℕ) (bytes : List ℕ) → sections_from (suc most) r m end (b ∷ bytes) ≡ (section_part end (b ∷ bytes) >>= λ x. with_fault (fault_here end (b ∷ bytes)) (rank_with r x.0.0) >>= λ next. rest_of most m end x next)
unfolding sections_from
begun most r m end b bytes = refl

-- with bytes that are left there is fuel
pub left_over : (most r : ℕ) (m : Components) (end : ℕ) (text : List ℕ) → text ≢ [] → length text ≤ most → (k : ℕ) × (most ≡ suc k) × (sections_from most r m end text ≡ (section_part end text >>= λ x. with_fault (fault_here end text) (rank_with r x.0.0) >>= λ next. rest_of k m end x next))
left_over most r m end [] some enough = absurd (some refl)
left_over zero r m end (b ∷ bytes) some enough = absurd (omega arith)
left_over (suc k) r m end (b ∷ bytes) some enough = (k, refl, begun k r m end b bytes)

pub sections_end :
    (whole : Result Components ModuleError) (end : ℕ) (left : Sections) (n : Components) (t : Spaces) → left.left.rest.now ≡ [] → SectionsLeft whole end left n t →
    whole ≡ counts_agree n end
sections_end whole end left n t none so =
    so.whole_is ∙ ap (λ (l : List ℕ). sections_from so.most left.rank n end l >>= λ m. counts_agree m end) none
    ∙ ap (λ (r : Result Components ModuleError). r >>= λ m. counts_agree m end) (ended so.most left.rank n end)

pub section_fails :
    (whole : Result Components ModuleError) (end : ℕ) (a b : Sections) (m : Components) (s : Spaces) (e : ModuleError) → SectionsLeft whole end a m s →
    TakesSection a (Some (Err e)) b → whole ≡ Err e
section_fails whole end a b m s e so takes =
    let text : List ℕ = a.left.rest.now in
    let over = left_over so.most a.rank m end text takes.0 so.enough in
    let next : next_section a.rank end text ≡ Err e = ap (λ (k : ℕ). next_section a.rank k text) (sym so.end_is) ∙ takes.1 in
    let failed = fault_first (section_part end text) (λ x. rank_with a.rank x.0.0) (fault_here end text) ((ℕ × List ℕ) × ℕ) (λ x n. (x.0, n)) (((ℕ × List ℕ) × ℕ) × List ℕ) (λ x v. (v, x.1))
    (rest_of over.0 m end) e next in
    so.whole_is ∙ first_fails (sections_from so.most a.rank m end text) (λ c. counts_agree c end) e (over.2 ∙ failed)

-- a section that is there
module _
    (whole : Result Components ModuleError) (end : ℕ) (a b : Sections) (section : Section) (m : Components) (s : Spaces) (so : SectionsLeft whole end a m s)
    (takes : TakesSection a (Some (Ok section)) b) where
  taken : NextRead a.rank end a.left.rest.now (section_id section.kind) section.contents.rest.now b.rank b.left.rest.now
  taken = next_read a.rank end a.left.rest.now (section_id section.kind) section.contents.rest.now b.rank b.left.rest.now
      (ap (λ (k : ℕ). next_section a.rank k a.left.rest.now) (sym so.end_is) ∙ takes.2)

  some : a.left.rest.now ≢ []
  some = λ none. let e : section_id section.kind ∷ takes.0.sized ≡ [] = sym takes.0.id_is ∙ none in absurd cc

  shorter : length b.left.rest.now < length a.left.rest.now
  shorter =
      let contents : List ℕ = section.contents.rest.now in
      let front = number_takes unsigned 32 takes.0.sized (length contents) (contents ++ b.left.rest.now) takes.0.size_is in
      let less = is_shorter takes.0.sized (contents ++ b.left.rest.now) front in
      let both = length-append contents b.left.rest.now in
      let all : length a.left.rest.now ≡ suc (length takes.0.sized) = ap length takes.0.id_is in
      omega arith

  ends : section.contents.end ≡ end - length b.left.rest.now
  ends = takes.0.end_is ∙ ap (λ (k : ℕ). k - length b.left.rest.now) so.end_is

  over : (k : ℕ) × (so.most ≡ suc k) × (sections_from so.most a.rank m end a.left.rest.now ≡ (section_part end a.left.rest.now >>= λ x. with_fault (fault_here end a.left.rest.now) (rank_with a.rank x.0.0) >>= λ next. rest_of k m end x next))
  over = left_over so.most a.rank m end a.left.rest.now some so.enough

  passed_on : sections_from so.most a.rank m end a.left.rest.now ≡ (contents_of (section_id section.kind) m section.contents.end section.contents.rest.now >>= λ n. sections_from over.0 b.rank n end b.left.rest.now)
  passed_on =
      over.2
      ∙ first_gives (section_part end a.left.rest.now) (λ x. with_fault (fault_here end a.left.rest.now) (rank_with a.rank x.0.0) >>= λ next. rest_of over.0 m end x next)
      ((section_id section.kind, section.contents.rest.now), b.left.rest.now) taken.section_is
      ∙ first_gives (with_fault (fault_here end a.left.rest.now) (rank_with a.rank (section_id section.kind)))
      (λ next. rest_of over.0 m end ((section_id section.kind, section.contents.rest.now), b.left.rest.now) next) b.rank taken.rank_is
      ∙ ap (λ (k : ℕ). contents_of (section_id section.kind) m k section.contents.rest.now >>= λ n. sections_from over.0 b.rank n end b.left.rest.now) (sym ends)

  ranked : rank_with a.rank (section_id section.kind) ≡ Ok b.rank
  ranked = with_fault_ok (fault_here end a.left.rest.now) (rank_with a.rank (section_id section.kind)) b.rank taken.rank_is

  -- there is no type before the type section
  pub none_before : section_id section.kind ≡ 1 → m.types ≡ []
  none_before is =
      let first : rank_with a.rank 1 ≡ Ok b.rank = ap (λ (k : ℕ). rank_with a.rank k) (sym is) ∙ ranked in
      elim (chosen (nat_lt a.rank 1) (Ok 1) (Err fault.SectionOutOfOrder) (Ok b.rank) first) [
        | inl x ↦ so.no_types (let less = x.0 in grind (arith, nat_tests))
        | inr x ↦ absurd (let e = x.1 in cc)
      ]

  pub contents_fail : (e : ModuleError) → contents_of (section_id section.kind) m section.contents.end section.contents.rest.now ≡ Err e → whole ≡ Err e
  contents_fail e failed =
      so.whole_is
      ∙ first_fails (sections_from so.most a.rank m end a.left.rest.now) (λ c. counts_agree c end) e
      (passed_on ∙ first_fails (contents_of (section_id section.kind) m section.contents.end section.contents.rest.now) (λ n. sections_from over.0 b.rank n end b.left.rest.now) e failed)

  pub section_done :
      (n : Components) (t : Spaces) → contents_of (section_id section.kind) m section.contents.end section.contents.rest.now ≡ Ok n → IsReadSoFar n t → SectionsLeft whole end b n t
  section_done n t read after =
      record {
        most = over.0;
        enough = let short = shorter in let fuel = over.1 in let enough = so.enough in omega arith;
        end_is = takes.1 ∙ so.end_is;
        whole_is =
            so.whole_is
            ∙ ap (λ (r : Result Components ModuleError). r >>= λ c. counts_agree c end)
            (passed_on ∙ first_gives (contents_of (section_id section.kind) m section.contents.end section.contents.rest.now) (λ c. sections_from over.0 b.rank c end b.left.rest.now) n read);
        so_far = after;
        no_types = λ is_zero. no_types_after a.rank b.rank (section_id section.kind) m n section.contents.end section.contents.rest.now ranked is_zero so.no_types read;
      }
