-- One more item of a module that is read: each id stays the index of its item, and its number.
use Rattle.std.proofs.Common.{◌≡◌, ◌⊎◌, ◌==◌, ℕ, zero, suc, ◌+◌, ◌-◌, ◌<◌, ◌≤◌, ◌^◌, nat_lt, Bool, true, false, cond, if◌then◌else◌, List, [], ◌∷◌, ◌++◌, length, slice_get, Option, Some, None, is_some, option_and_then, Result, Ok, Err, IsErr, OnOk, IfErr, refl, sym, ap, ◌∙◌, subst, inl, inr, arith, add-one, replicate}
use Rattle.std.specs.List.{AllByRecursion}
use Rattle.std.proofs.lemmas.List.{length-replicate}
use Rattle.std.specs.Ordering.{nat_cmp}
use Rattle.std.specs.Cmp.{nat_cmp_total}
use Rattle.std.specs.FinMap.{FinMap, get, len, get-empty, len-insert, len-empty}
use Rattle.std.proofs.lemmas.Bool.Decides.{nat_tests}
use Rattle.std.proofs.lemmas.Option.{slice_get_cases, slice_get_past}
use Rattle.wasm_operators.specs.declared.types.Space.{Space}
use Rattle.wasm_operators.specs.declared.types.Space.TheVariants as spaces
use Rattle.wasm_body.specs.declared.error.IndexError.{IndexError}
use Rattle.wasm_body.specs.declared.error.IndexError.TheVariants as index_error
use Rattle.walrus_maps.specs.declared.indices_to_ids.IndicesToIds.{IndicesToIds}
use Rattle.walrus_maps.specs.declared.ids_to_indices.IdsToIndices.{IdsToIndices}
use Rattle.walrus_maps.specs.IndexMaps.{id_of, ids_in, with_ids_in, numbers_in, with_numbers, with_number, with_next_number, numbered}
use Rattle.walrus_maps.proofs.NumberingLemmas.{get-numbered}
use Rattle.walrus_ir.specs.Types.{ModuleType, Func, Entry, Other, signature_in, signature_of}
use Rattle.wasm_body.specs.declared.error.ParseError.TheVariants as parse
use Rattle.wasm_numbers.proofs.ResultLemmas.{ok_same}
use Rattle.wasm_numbers.specs.Results.{◌>>=◌, with_fault, some_or, Gives}
use Rattle.wasm_sections.specs.declared.fault.ModuleError.{ModuleError}
use Rattle.wasm_sections.specs.declared.fault.ModuleFault.{ModuleFault}
use Rattle.wasm_sections.specs.declared.fault.ModuleFault.TheVariants as fault
use Rattle.wasm_sections.specs.declared.sections.SectionKind.{SectionKind}
use Rattle.wasm_sections.specs.declared.sections.SectionKind.TheVariants as kinds
use Rattle.wasm_sections.specs.declared.sections.Sections.{Sections}
use Rattle.wasm_sections.specs.Parts.{Part, repeated, no_more, whole_part}
use Rattle.wasm_sections.specs.Sections.{section_id}
use Rattle.wasm_sections.specs.declared.spaces.Counts.{Counts}
use Rattle.wasm_sections.specs.declared.spaces.Spaces.{Spaces}
use Rattle.wasm_sections.specs.Components.{Components, item_step, start_part, sections_from, counts_agree, count_in, one_more_in, with_one_table, with_one_memory, with_one_global, with_one_element, with_one_data, function_type_at, function_type_of}
use Rattle.wasm_sections.specs.Declarations.{first_numbers}
use Rattle.wasm_sections.specs.Faults.{section_index_fault}
use Rattle.wasm_sections.specs.NextItems.{with_count, HasNextIndex, HasNextNumber, NoNextItem, own_numbers, AreIndices}
use Rattle.wasm_sections.proofs.SpaceLemmas.{first_numbers_length, number_in}
use Rattle.wasm_sections.specs.Format.{index_part}
use Rattle.wasm_sections.proofs.TypeReadingLemmas.{first_gives, first_fails, FailsUnlessMemory, unless_memory_first, repeated_none, repeated_step, repeated_fault}
use Rattle.wasm_module.specs.ReadModules.{IsOfSection, IsReadSoFar, StepsTo, AddsTo, IndexesTypes, fault_at, with_counted}

-- ---- the first numbers, and maps in which each number is its own

own_are_below : (n k : ℕ) → n ≤ k → get (own_numbers n) k ≡ None
unfolding own_numbers
own_are_below zero k h = get-empty nat_cmp k
own_are_below (suc n) k h = let after = get-numbered (own_numbers n) n k in let before = own_are_below n k (omega arith) in grind (arith, nat_tests)

own_count : (n : ℕ) → len (own_numbers n) ≡ n
unfolding own_numbers
own_count zero = len-empty nat_cmp ℕ
own_count (suc n) =
    let none = own_are_below n n (omega arith) in
    let before = own_count n in
    len-insert nat_cmp_total (own_numbers n) n (len (own_numbers n)) ∙ grind arith

-- a number in such a map is the id's own, and below the limit
pub own_is : (limit id n : ℕ) → get (own_numbers limit) id ≡ Some n → (n ≡ id) × (id < limit)
unfolding own_numbers
own_is zero id n e = absurd (let none = get-empty {X = ℕ} nat_cmp id in cc)
own_is (suc limit) id n e =
    let after = get-numbered (own_numbers limit) limit id in
    let count = own_count limit in
    elim (id == limit) as (λ b. (id == limit) ≡ b → get (numbered (own_numbers limit) limit) id ≡ cond b (Some (len (own_numbers limit))) (get (own_numbers limit) id) → (n ≡ id) × (id < suc limit)) [
      | true ↦ λ is found. let own : len (own_numbers limit) ≡ n = cc (found, e) in let same : id ≡ limit = grind (arith, nat_tests) in (omega arith, omega arith)
      | false ↦ λ other found. let before = own_is limit id n (sym found ∙ e) in (before.0, omega (arith, before.1))
    ] refl after

-- ---- which space it is

abbrev pub space_rank : Space → ℕ
space_rank spaces.Tables = 0
space_rank spaces.Types = 1
space_rank spaces.Funcs = 2
space_rank spaces.Globals = 3
space_rank spaces.Memories = 4
space_rank spaces.Elements = 5
space_rank spaces.Data = 6
space_rank spaces.Tags = 7

abbrev pub same_space : Space → Space → Bool
same_space a b = space_rank a == space_rank b

ids_after : (space other : Space) (ids : List ℕ) (m : IndicesToIds) → ids_in (with_ids_in space ids m) other ≡ cond (same_space space other) ids (ids_in m other)
ids_after spaces.Tables other ids m = elim other as (λ o. ids_in (with_ids_in spaces.Tables ids m) o ≡ cond (same_space spaces.Tables o) ids (ids_in m o)) [ spaces.Tables ↦ refl | _ ↦ refl ]
ids_after spaces.Types other ids m = elim other as (λ o. ids_in (with_ids_in spaces.Types ids m) o ≡ cond (same_space spaces.Types o) ids (ids_in m o)) [ spaces.Tables ↦ refl | _ ↦ refl ]
ids_after spaces.Funcs other ids m = elim other as (λ o. ids_in (with_ids_in spaces.Funcs ids m) o ≡ cond (same_space spaces.Funcs o) ids (ids_in m o)) [ spaces.Tables ↦ refl | _ ↦ refl ]
ids_after spaces.Globals other ids m = elim other as (λ o. ids_in (with_ids_in spaces.Globals ids m) o ≡ cond (same_space spaces.Globals o) ids (ids_in m o)) [ spaces.Tables ↦ refl | _ ↦ refl ]
ids_after spaces.Memories other ids m = elim other as (λ o. ids_in (with_ids_in spaces.Memories ids m) o ≡ cond (same_space spaces.Memories o) ids (ids_in m o)) [ spaces.Tables ↦ refl | _ ↦ refl ]
ids_after spaces.Elements other ids m = elim other as (λ o. ids_in (with_ids_in spaces.Elements ids m) o ≡ cond (same_space spaces.Elements o) ids (ids_in m o)) [ spaces.Tables ↦ refl | _ ↦ refl ]
ids_after spaces.Data other ids m = elim other as (λ o. ids_in (with_ids_in spaces.Data ids m) o ≡ cond (same_space spaces.Data o) ids (ids_in m o)) [ spaces.Tables ↦ refl | _ ↦ refl ]
ids_after spaces.Tags other ids m = elim other as (λ o. ids_in (with_ids_in spaces.Tags ids m) o ≡ cond (same_space spaces.Tags o) ids (ids_in m o)) [ spaces.Tables ↦ refl | _ ↦ refl ]

numbers_after :
    (space other : Space) (ns : FinMap nat_cmp ℕ) (m : IdsToIndices) → numbers_in (with_numbers space ns m) other ≡ cond (same_space space other) ns (numbers_in m other)
numbers_after spaces.Tables other ns m =
    elim other as (λ o. numbers_in (with_numbers spaces.Tables ns m) o ≡ cond (same_space spaces.Tables o) ns (numbers_in m o)) [ spaces.Tables ↦ refl | _ ↦ refl ]
numbers_after spaces.Types other ns m =
    elim other as (λ o. numbers_in (with_numbers spaces.Types ns m) o ≡ cond (same_space spaces.Types o) ns (numbers_in m o)) [ spaces.Tables ↦ refl | _ ↦ refl ]
numbers_after spaces.Funcs other ns m =
    elim other as (λ o. numbers_in (with_numbers spaces.Funcs ns m) o ≡ cond (same_space spaces.Funcs o) ns (numbers_in m o)) [ spaces.Tables ↦ refl | _ ↦ refl ]
numbers_after spaces.Globals other ns m =
    elim other as (λ o. numbers_in (with_numbers spaces.Globals ns m) o ≡ cond (same_space spaces.Globals o) ns (numbers_in m o)) [ spaces.Tables ↦ refl | _ ↦ refl ]
numbers_after spaces.Memories other ns m =
    elim other as (λ o. numbers_in (with_numbers spaces.Memories ns m) o ≡ cond (same_space spaces.Memories o) ns (numbers_in m o)) [ spaces.Tables ↦ refl | _ ↦ refl ]
numbers_after spaces.Elements other ns m =
    elim other as (λ o. numbers_in (with_numbers spaces.Elements ns m) o ≡ cond (same_space spaces.Elements o) ns (numbers_in m o)) [ spaces.Tables ↦ refl | _ ↦ refl ]
numbers_after spaces.Data other ns m =
    elim other as (λ o. numbers_in (with_numbers spaces.Data ns m) o ≡ cond (same_space spaces.Data o) ns (numbers_in m o)) [ spaces.Tables ↦ refl | _ ↦ refl ]
numbers_after spaces.Tags other ns m =
    elim other as (λ o. numbers_in (with_numbers spaces.Tags ns m) o ≡ cond (same_space spaces.Tags o) ns (numbers_in m o)) [ spaces.Tables ↦ refl | _ ↦ refl ]

-- ---- one more item of a space

next_first : (xs : List ℕ) (id k : ℕ) → xs ≡ first_numbers k → id ≡ k → xs ++ id ∷ [] ≡ first_numbers (k + 1)
next_first xs id k e i = rw add-one (ap (λ (l : List ℕ). l ++ id ∷ []) e ∙ ap (λ (j : ℕ). first_numbers k ++ j ∷ []) i)

next_own : (f : FinMap nat_cmp ℕ) (id k : ℕ) → f ≡ own_numbers k → id ≡ k → numbered f id ≡ own_numbers (k + 1)
unfolding own_numbers
next_own f id k e i = rw add-one (ap (λ (g : FinMap nat_cmp ℕ). numbered g id) e ∙ ap (λ (j : ℕ). numbered (own_numbers k) j) i)

first_of : (b : Bool) (xs ys : List ℕ) (k l : ℕ) → xs ≡ first_numbers k → ys ≡ first_numbers l → cond b xs ys ≡ first_numbers (cond b k l)
first_of true xs ys k l e f = e
first_of false xs ys k l e f = f

own_of : (b : Bool) (xs ys : FinMap nat_cmp ℕ) (k l : ℕ) → xs ≡ own_numbers k → ys ≡ own_numbers l → cond b xs ys ≡ own_numbers (cond b k l)
own_of true xs ys k l e f = e
own_of false xs ys k l e f = f

pub next_item :
    (m n : Components) (space : Space) (id : ℕ) (s t : Spaces) → AreIndices m s → id ≡ count_in m space → HasNextIndex space id s t →
    t.numbers ≡ with_next_number space id s.numbers → ((other : Space) → count_in n other ≡ cond (same_space space other) (count_in m space + 1) (count_in m other)) → AreIndices n t
next_item m n space id s t a i h g items = record {
  ids = λ other.
      ap (λ (x : IndicesToIds). ids_in x other) h.indices ∙ ids_after space other (ids_in s.indices space ++ id ∷ []) s.indices
      ∙ first_of (same_space space other) (ids_in s.indices space ++ id ∷ []) (ids_in s.indices other) (count_in m space + 1) (count_in m other)
      (next_first (ids_in s.indices space) id (count_in m space) (a.ids space) i) (a.ids other)
      ∙ ap first_numbers (sym (items other));
  numbers = λ other.
      ap (λ (x : IdsToIndices). numbers_in x other) g ∙ numbers_after space other (numbered (numbers_in s.numbers space) id) s.numbers
      ∙ own_of (same_space space other) (numbered (numbers_in s.numbers space) id) (numbers_in s.numbers other) (count_in m space + 1) (count_in m other)
      (next_own (numbers_in s.numbers space) id (count_in m space) (a.numbers space) i) (a.numbers other)
      ∙ ap own_numbers (sym (items other));
  more_imports = h.more_imports ∙ a.more_imports;
  more_functions = h.more_functions ∙ a.more_functions;
}

-- the next id has no number yet
pub numbered_next :
    (m : Components) (space : Space) (id : ℕ) (s t : Spaces) → AreIndices m s → id ≡ count_in m space → HasNextNumber space id s t →
    t.numbers ≡ with_next_number space id s.numbers
numbered_next m space id s t a i h =
    let none : get (numbers_in s.numbers space) id ≡ None =
    ap (λ (f : FinMap nat_cmp ℕ). get f id) (a.numbers space) ∙ own_are_below (count_in m space) id (omega arith) in
    h.numbers (subst (λ (o : Option ℕ). IsErr (some_or o (index_error.Unnumbered space))) (sym none) refl)

pub ids_count : (m : Components) (space : Space) (s : Spaces) → AreIndices m s → length (ids_in s.indices space) ≡ count_in m space
ids_count m space s a = ap length (a.ids space) ∙ first_numbers_length (count_in m space)

-- a data segment gets its index as its number
pub data_numbered :
    (m : Components) (id : ℕ) (s t : Spaces) → AreIndices m s → t.numbers ≡ with_number spaces.Data id (length (ids_in s.indices spaces.Data)) s.numbers →
    t.numbers ≡ with_next_number spaces.Data id s.numbers
data_numbered m id s t a g =
    let count : length (ids_in s.indices spaces.Data) ≡ len (numbers_in s.numbers spaces.Data) =
    ids_count m spaces.Data s a ∙ sym (ap (λ (f : FinMap nat_cmp ℕ). len f) (a.numbers spaces.Data) ∙ own_count (count_in m spaces.Data)) in
    g ∙ ap (λ (k : ℕ). with_number spaces.Data id k s.numbers) count

-- there is room for it
pub one_more_given : (m more : Components) (space : Space) (s : Spaces) → AreIndices m s → length (ids_in s.indices space) < 2 ^ 32 → one_more_in space m more ≡ Ok more
one_more_given m more space s a few =
    let count = ids_count m space s a in
    let is_less : nat_lt (count_in m space) (2 ^ 32) ≡ true = grind arith in
    ap (λ (b : Bool). if b then Ok more else Err fault.TooGreat) is_less

-- or there is none
pub no_more_given :
    (m more : Components) (space : Space) (s : Spaces) (e : IndexError) → AreIndices m s → NoNextItem space s e →
    (e ≡ index_error.Memory) ⊎ (one_more_in space m more ≡ Err (section_index_fault e))
no_more_given m more space s e a (inl memory) = inl memory
no_more_given m more space s e a (inr (too_many, full)) =
    let count = ids_count m space s a in
    let numbers = ap (λ (f : FinMap nat_cmp ℕ). len f) (a.numbers space) ∙ own_count (count_in m space) in
    let at_least : 2 ^ 32 ≤ count_in m space = elim full [ inl ids ↦ omega arith | inr ns ↦ omega arith ] in
    let is_less : nat_lt (count_in m space) (2 ^ 32) ≡ false = grind arith in
    inr (ap (λ (b : Bool). if b then Ok more else Err fault.TooGreat) is_less ∙ ap (λ (x : IndexError). Err (section_index_fault x)) (sym too_many))

-- ---- items that are only counted

-- the components with these counts
abbrev pub with_counts : Counts → Components → Components
with_counts c m = record m { tables = c.tables; memories = c.memories; globals = c.globals; elements = c.elements; datas = c.«data» }

pub counted_item :
    (m0 more : Components) (space : Space) (id : ℕ) (s t : Spaces) → IsReadSoFar (with_counts s.counts m0) s → id ≡ count_in (with_counts s.counts m0) space →
    HasNextIndex space id s t → t.numbers ≡ with_next_number space id s.numbers →
    with_counts (with_count space (count_in (with_counts s.counts m0) space + 1) s.counts) m0 ≡ more → more.types ≡ m0.types → more.tags ≡ m0.tags →
    ((k : ℕ) → (with_count space k s.counts).tags ≡ s.counts.tags) →
    ((other : Space) → count_in more other ≡ cond (same_space space other) (count_in (with_counts s.counts m0) space + 1) (count_in (with_counts s.counts m0) other)) →
    (one_more_in space (with_counts s.counts m0) more ≡ Ok (with_counts t.counts m0)) × IsReadSoFar (with_counts t.counts m0) t
counted_item m0 more space id s t so i h g more_is same_types same_tags kept items =
    let m : Components = with_counts s.counts m0 in
    let count = ids_count m space s so.indices in
    let is : with_counts t.counts m0 ≡ more =
    ap (λ (c : Counts). with_counts c m0) h.counts ∙ ap (λ (k : ℕ). with_counts (with_count space (k + 1) s.counts) m0) count ∙ more_is in
    let read : IsReadSoFar more t = record {
      indices = next_item m more space id s t so.indices i h g items;
      types = subst (λ (l : List ModuleType). AllByRecursion IsOfSection l) (sym same_types) so.types;
      tags =
          ap (λ (c : Counts). c.tags) h.counts ∙ kept (length (ids_in s.indices space) + 1) ∙ so.tags ∙ ap length (sym same_tags);
    } in
    (one_more_given m more space s so.indices h.few ∙ ap (λ (x : Components). Ok x) (sym is), subst (λ (x : Components). IsReadSoFar x t) (sym is) read)

pub table_counted :
    (m0 : Components) (s t : Spaces) (result : Result (Unit {0}) IndexError) → OnOk result (HasNextIndex spaces.Tables s.counts.tables s t) →
    OnOk result (HasNextNumber spaces.Tables s.counts.tables s t) → IfErr result (NoNextItem spaces.Tables s) →
    AddsTo (with_counts s.counts m0) s result (with_one_table (with_counts s.counts m0)) (with_counts t.counts m0) t
table_counted m0 s t (Ok u) h g none = λ so.
    let m : Components = with_counts s.counts m0 in
    counted_item m0 (record m { tables = m.tables + 1 }) spaces.Tables s.counts.tables s t so refl h
    (numbered_next m spaces.Tables s.counts.tables s t so.indices refl g) refl refl refl (λ k. refl)
    (λ other. elim other as (λ o. count_in (record m { tables = m.tables + 1 }) o ≡ cond (same_space spaces.Tables o) (m.tables + 1) (count_in m o)) [ spaces.Tables ↦ refl | _ ↦ refl ])
table_counted m0 s t (Err e) h g none = λ so.
    let m : Components = with_counts s.counts m0 in
    no_more_given m (record m { tables = m.tables + 1 }) spaces.Tables s e so.indices none

pub memory_counted :
    (m0 : Components) (s t : Spaces) (result : Result (Unit {0}) IndexError) → OnOk result (HasNextIndex spaces.Memories s.counts.memories s t) →
    OnOk result (HasNextNumber spaces.Memories s.counts.memories s t) → IfErr result (NoNextItem spaces.Memories s) →
    AddsTo (with_counts s.counts m0) s result (with_one_memory (with_counts s.counts m0)) (with_counts t.counts m0) t
memory_counted m0 s t (Ok u) h g none = λ so.
    let m : Components = with_counts s.counts m0 in
    counted_item m0 (record m { memories = m.memories + 1 }) spaces.Memories s.counts.memories s t so refl h
    (numbered_next m spaces.Memories s.counts.memories s t so.indices refl g) refl refl refl (λ k. refl)
    (λ other. elim other as (λ o. count_in (record m { memories = m.memories + 1 }) o ≡ cond (same_space spaces.Memories o) (m.memories + 1) (count_in m o)) [ spaces.Tables ↦ refl | _ ↦ refl ])
memory_counted m0 s t (Err e) h g none = λ so.
    let m : Components = with_counts s.counts m0 in
    no_more_given m (record m { memories = m.memories + 1 }) spaces.Memories s e so.indices none

pub global_counted :
    (m0 : Components) (s t : Spaces) (result : Result (Unit {0}) IndexError) → OnOk result (HasNextIndex spaces.Globals s.counts.globals s t) →
    OnOk result (HasNextNumber spaces.Globals s.counts.globals s t) → IfErr result (NoNextItem spaces.Globals s) →
    AddsTo (with_counts s.counts m0) s result (with_one_global (with_counts s.counts m0)) (with_counts t.counts m0) t
global_counted m0 s t (Ok u) h g none = λ so.
    let m : Components = with_counts s.counts m0 in
    counted_item m0 (record m { globals = m.globals + 1 }) spaces.Globals s.counts.globals s t so refl h
    (numbered_next m spaces.Globals s.counts.globals s t so.indices refl g) refl refl refl (λ k. refl)
    (λ other. elim other as (λ o. count_in (record m { globals = m.globals + 1 }) o ≡ cond (same_space spaces.Globals o) (m.globals + 1) (count_in m o)) [ spaces.Tables ↦ refl | _ ↦ refl ])
global_counted m0 s t (Err e) h g none = λ so.
    let m : Components = with_counts s.counts m0 in
    no_more_given m (record m { globals = m.globals + 1 }) spaces.Globals s e so.indices none

pub element_counted :
    (m0 : Components) (s t : Spaces) (result : Result (Unit {0}) IndexError) → OnOk result (HasNextIndex spaces.Elements s.counts.elements s t) →
    OnOk result (HasNextNumber spaces.Elements s.counts.elements s t) → IfErr result (NoNextItem spaces.Elements s) →
    AddsTo (with_counts s.counts m0) s result (with_one_element (with_counts s.counts m0)) (with_counts t.counts m0) t
element_counted m0 s t (Ok u) h g none = λ so.
    let m : Components = with_counts s.counts m0 in
    counted_item m0 (record m { elements = m.elements + 1 }) spaces.Elements s.counts.elements s t so refl h
    (numbered_next m spaces.Elements s.counts.elements s t so.indices refl g) refl refl refl (λ k. refl)
    (λ other. elim other as (λ o. count_in (record m { elements = m.elements + 1 }) o ≡ cond (same_space spaces.Elements o) (m.elements + 1) (count_in m o)) [ spaces.Tables ↦ refl | _ ↦ refl ])
element_counted m0 s t (Err e) h g none = λ so.
    let m : Components = with_counts s.counts m0 in
    no_more_given m (record m { elements = m.elements + 1 }) spaces.Elements s e so.indices none

-- with a data count section
pub data_counted :
    (m0 : Components) (s t : Spaces) (result : Result (Unit {0}) IndexError) → is_some m0.data_count ≡ true → OnOk result (HasNextIndex spaces.Data s.counts.«data» s t) →
    OnOk result (t.numbers ≡ with_number spaces.Data s.counts.«data» (length (ids_in s.indices spaces.Data)) s.numbers) → IfErr result (NoNextItem spaces.Data s) →
    AddsTo (with_counts s.counts m0) s result (with_one_data (with_counts s.counts m0)) (with_counts t.counts m0) t
data_counted m0 s t (Ok u) some h g none = λ so.
    let m : Components = with_counts s.counts m0 in
    let more : Components = record m { datas = m.datas + 1 } in
    let got = counted_item m0 more spaces.Data s.counts.«data» s t so refl h (data_numbered m s.counts.«data» s t so.indices g) refl refl refl (λ k. refl)
    (λ other. elim other as (λ o. count_in (record m { datas = m.datas + 1 }) o ≡ cond (same_space spaces.Data o) (m.datas + 1) (count_in m o)) [ spaces.Tables ↦ refl | _ ↦ refl ]) in
    (ap (λ (b : Bool). if b then one_more_in spaces.Data m more else Ok m) some ∙ got.0, got.1)
data_counted m0 s t (Err e) some h g none = λ so.
    let m : Components = with_counts s.counts m0 in
    let more : Components = record m { datas = m.datas + 1 } in
    elim (no_more_given m more spaces.Data s e so.indices none) [
      | inl memory ↦ inl memory
      | inr given ↦ inr (ap (λ (b : Bool). if b then one_more_in spaces.Data m more else Ok m) some ∙ given)
    ]

-- ---- by the kind of section

pub for_kind :
    (kind one : SectionKind) (m : Components) (s : Spaces) (result : Result (Unit {0}) IndexError) (n : Components) (t : Spaces) → kind ≡ one →
    AddsTo m s result (with_counted (section_id one) m) n t → AddsTo m s result (with_counted (section_id kind) m) n t
for_kind kind one m s result n t is h = subst (λ (k : SectionKind). AddsTo m s result (with_counted (section_id k) m) n t) (sym is) h

other_kind :
    (kind : SectionKind) (m : Components) → (kind ≡ kinds.Table → ⊥) → (kind ≡ kinds.Memory → ⊥) → (kind ≡ kinds.Global → ⊥) → (kind ≡ kinds.Element → ⊥) →
    with_counted (section_id kind) m ≡ with_one_data m
other_kind kinds.Table m a b c d = absurd (a refl)
other_kind kinds.Memory m a b c d = absurd (b refl)
other_kind kinds.Global m a b c d = absurd (c refl)
other_kind kinds.Element m a b c d = absurd (d refl)
other_kind _ m a b c d = refl

pub for_other_kind :
    (kind : SectionKind) (m : Components) (s : Spaces) (result : Result (Unit {0}) IndexError) (n : Components) (t : Spaces) →
    (kind ≡ kinds.Table → ⊥) → (kind ≡ kinds.Memory → ⊥) → (kind ≡ kinds.Global → ⊥) → (kind ≡ kinds.Element → ⊥) →
    AddsTo m s result (with_one_data m) n t → AddsTo m s result (with_counted (section_id kind) m) n t
for_other_kind kind m s result n t a b c d h =
    subst (λ (r : Result Components ModuleFault). AddsTo m s result r n t) (sym (other_kind kind m a b c d)) h

-- ---- the type of a function

pub each_at : {A : Type 0} (P : A → Type 0) (xs : List A) (k : ℕ) (x : A) → AllByRecursion P xs → slice_get xs k ≡ Some x → P x
each_at P [] k x all e = absurd cc
each_at P (y ∷ ys) zero x all e = let same : y ≡ x = cc in subst P same all.0
each_at P (y ∷ ys) (suc k) x all e = each_at P ys k x all.1 e

is_function_type : (type : ModuleType) (index : ℕ) → IsOfSection type → is_some (signature_in type) ≡ true → function_type_at (Some type) index ≡ Ok index
is_function_type (Func ps rs) index is some = refl
is_function_type (Entry rs) index is some = absurd is
is_function_type Other index is some = absurd cc

is_other_type : (type : ModuleType) (index : ℕ) → is_some (signature_in type) ≡ false → function_type_at (Some type) index ≡ Err (fault.Parse parse.NotAFunctionType)
is_other_type (Func ps rs) index none = absurd cc
is_other_type (Entry rs) index none = refl
is_other_type Other index none = refl

err_same : {A E : Type 0} (x y : E) → (let r : Result A E = Err x in r) ≡ Err y → x ≡ y
err_same x y e = cc

-- what a type index is the index of
types_at :
    (m : Components) (s : Spaces) (index : ℕ) → IsReadSoFar m s →
    ((type : ModuleType) × (id_of s.indices spaces.Types index ≡ Ok index) × (slice_get m.types index ≡ Some type) × IsOfSection type)
    ⊎ ((id_of s.indices spaces.Types index ≡ Err (index_error.OutOfRange spaces.Types index)) × (slice_get m.types index ≡ None))
types_at m s index so =
    let ids = so.indices.ids spaces.Types in
    let other : IndexError = index_error.OutOfRange spaces.Types index in
    elim ((slice_get_cases m.types index).1) [
      | inl p ↦
          inl (
            p.0,
            ap (λ (o : Option ℕ). some_or o other) (number_in (ids_in s.indices spaces.Types) (length m.types) index ids p.1),
            p.2,
            each_at IsOfSection m.types index p.0 so.types p.2,
          )
      | inr p ↦
          let past : length (ids_in s.indices spaces.Types) ≤ index = let count = ids_count m spaces.Types s so.indices in omega (arith, p.0) in
          inr (ap (λ (o : Option ℕ). some_or o other) (slice_get_past (ids_in s.indices spaces.Types) index past), p.1)
    ]

-- it is a function type, or another one, or there is none
pub function_type_found :
    (m : Components) (s : Spaces) (index id : ℕ) → IsReadSoFar m s → id_of s.indices spaces.Types index ≡ Ok id → is_some (signature_of m.types id) ≡ true →
    function_type_of m index ≡ Ok id
function_type_found m s index id so found some =
    elim (types_at m s index so) [
      | inl p ↦
          let same : index ≡ id = ok_same index id (sym p.1 ∙ found) in
          let signed : is_some (signature_of m.types index) ≡ true = ap (λ (k : ℕ). is_some (signature_of m.types k)) same ∙ some in
          ap (λ (o : Option ModuleType). function_type_at o index) p.2
          ∙ is_function_type p.0 index p.3 (sym (ap (λ (o : Option ModuleType). is_some (option_and_then signature_in o)) p.2) ∙ signed) ∙ ap (λ (k : ℕ). Ok k) same
      | inr p ↦ absurd (let e : Err (index_error.OutOfRange spaces.Types index) ≡ Ok id = sym p.0 ∙ found in cc)
    ]

pub function_type_other :
    (m : Components) (s : Spaces) (index id : ℕ) → IsReadSoFar m s → id_of s.indices spaces.Types index ≡ Ok id → is_some (signature_of m.types id) ≡ false →
    function_type_of m index ≡ Err (fault.Parse parse.NotAFunctionType)
function_type_other m s index id so found none =
    elim (types_at m s index so) [
      | inl p ↦
          let same : index ≡ id = ok_same index id (sym p.1 ∙ found) in
          let unsigned : is_some (signature_of m.types index) ≡ false = ap (λ (k : ℕ). is_some (signature_of m.types k)) same ∙ none in
          ap (λ (o : Option ModuleType). function_type_at o index) p.2
          ∙ is_other_type p.0 index (sym (ap (λ (o : Option ModuleType). is_some (option_and_then signature_in o)) p.2) ∙ unsigned)
      | inr p ↦ absurd (let e : Err (index_error.OutOfRange spaces.Types index) ≡ Ok id = sym p.0 ∙ found in cc)
    ]

pub function_type_missing :
    (m : Components) (s : Spaces) (index : ℕ) (e : IndexError) → IsReadSoFar m s → id_of s.indices spaces.Types index ≡ Err e →
    function_type_of m index ≡ Err (section_index_fault e)
function_type_missing m s index e so found =
    elim (types_at m s index so) [
      | inl p ↦ absurd (let f : Ok index ≡ Err e = sym p.1 ∙ found in cc)
      | inr p ↦
          ap (λ (o : Option ModuleType). function_type_at o index) p.1
          ∙ ap (λ (x : IndexError). Err (section_index_fault x)) (err_same (index_error.OutOfRange spaces.Types index) e (sym p.0 ∙ found))
    ]

-- ---- what is left to read

-- the items that are left of a section, after what was read so far
pub record ItemsLeft (whole : Result (Components × List ℕ) ModuleError) (id left : ℕ) (n : Components) (t : Spaces) (end : ℕ) (rest : List ℕ) : Type 0 where
  pub whole_is : whole ≡ repeated (item_step id) left n end rest
  pub so_far : IsReadSoFar n t

-- so many types have an index
pub record TypesIndexed (m : Components) (count : ℕ) (t : Spaces) : Type 0 where
  pub few : count ≤ 2 ^ 32
  pub indices : (types : List ModuleType) → length types ≡ count → AreIndices (record m { types = types }) t

-- the sections that are left; there are no types before the type section
pub record SectionsLeft (whole : Result Components ModuleError) (end : ℕ) (left : Sections) (n : Components) (t : Spaces) : Type 0 where
  pub most : ℕ
  pub enough : length left.left.rest.now ≤ most
  pub end_is : left.left.end ≡ end
  pub whole_is : whole ≡ (sections_from most left.rank n end left.left.rest.now >>= λ m. counts_agree m end)
  pub so_far : IsReadSoFar n t
  pub no_types : left.rank ≡ 0 → n.types ≡ []

-- ---- errors with their places

pub error_is : (error : ModuleError) (f : ModuleFault) (place : ℕ) → error.fault ≡ f → error.at ≡ place → fault_at place f ≡ error
error_is error f place e p = sym (ap (λ (x : ModuleFault). fault_at error.at x) e ∙ ap (λ (k : ℕ). fault_at k f) p)

pub missing_type_at :
    (m : Components) (s : Spaces) (index place : ℕ) (e : IndexError) (error : ModuleError) → Err e ≡ id_of s.indices spaces.Types index →
    error.fault ≡ section_index_fault e → error.at ≡ place → IsReadSoFar m s → with_fault (fault_at place) (function_type_of m index) ≡ Err error
missing_type_at m s index place e error found f p so =
    ap (λ (r : Result ℕ ModuleFault). with_fault (fault_at place) r) (function_type_missing m s index e so (sym found))
    ∙ ap (λ (x : ModuleError). Err x) (error_is error (section_index_fault e) place f p)

pub found_type_at :
    (m : Components) (s : Spaces) (index id place : ℕ) → Ok id ≡ id_of s.indices spaces.Types index → is_some (signature_of m.types id) ≡ true → IsReadSoFar m s →
    with_fault (fault_at place) (function_type_of m index) ≡ Ok id
found_type_at m s index id place found some so =
    ap (λ (r : Result ℕ ModuleFault). with_fault (fault_at place) r) (function_type_found m s index id so (sym found) some)

pub other_type_at :
    (m : Components) (s : Spaces) (index id place : ℕ) → Ok id ≡ id_of s.indices spaces.Types index → is_some (signature_of m.types id) ≡ false → IsReadSoFar m s →
    with_fault (fault_at place) (function_type_of m index) ≡ Err (fault_at place (fault.Parse parse.NotAFunctionType))
other_type_at m s index id place found none so =
    ap (λ (r : Result ℕ ModuleFault). with_fault (fault_at place) r) (function_type_other m s index id so (sym found) none)

-- ---- whole sections

pub whole_done :
    {A : Type 0} (part : Part A) (end at : ℕ) (text rest : List ℕ) (x : A) (result : Result (Unit {0}) ModuleError) → part end text ≡ Ok (x, rest) → at ≡ end →
    Gives (λ u. tt) result (no_more rest at) → Gives (λ u. x) result (whole_part part end text)
whole_done part end at text rest x (Ok u) e a h =
    first_gives (part end text) (λ y. no_more y.1 end >>= λ v. Ok y.0) (x, rest) e
    ∙ first_gives (no_more rest end) (λ v. Ok x) tt (ap (λ (k : ℕ). no_more rest k) (sym a) ∙ h)
whole_done part end at text rest x (Err f) e a h =
    first_gives (part end text) (λ y. no_more y.1 end >>= λ v. Ok y.0) (x, rest) e
    ∙ first_fails (no_more rest end) (λ v. Ok x) f (ap (λ (k : ℕ). no_more rest k) (sym a) ∙ h)

pub whole_failed : {A : Type 0} (part : Part A) (end : ℕ) (text : List ℕ) (e : ModuleError) → FailsUnlessMemory e (part end text) → FailsUnlessMemory e (whole_part part end text)
whole_failed part end text e h = unless_memory_first e (part end text) (λ x. no_more x.1 end >>= λ u. Ok x.0) h

pub steps_from_gives :
    (m : Components) (s : Spaces) (n : Components) (t : Spaces) (r : Result Components ModuleError) (result : Result (Unit {0}) ModuleError) → (IsReadSoFar m s → IsReadSoFar n t) →
    (IsReadSoFar m s → Gives (λ u. n) result r) → StepsTo (λ x. x) m s result r n t
steps_from_gives m s n t r (Ok u) keeps h = λ so. (h so, keeps so)
steps_from_gives m s n t r (Err e) keeps h = λ so. inr (h so)

pub steps_whole :
    (m : Components) (s : Spaces) (n : Components) (t : Spaces) (part : Part Components) (end at : ℕ) (text rest : List ℕ) (result : Result (Unit {0}) ModuleError) →
    (IsReadSoFar m s → (part end text ≡ Ok (n, rest)) × IsReadSoFar n t) → at ≡ end → Gives (λ u. tt) result (no_more rest at) →
    StepsTo (λ x. x) m s result (whole_part part end text) n t
steps_whole m s n t part end at text rest result done a h =
    steps_from_gives m s n t (whole_part part end text) result (λ so. (done so).1) (λ so. whole_done part end at text rest n result (done so).0 a h)

-- the start section
pub start_is : (m : Components) (s : Spaces) (end : ℕ) (text rest : List ℕ) → IsReadSoFar m s → index_part (length (ids_in s.indices spaces.Funcs)) spaces.Funcs end text ≡ Ok (tt, rest) → start_part m end text ≡ Ok (m, rest)
start_is m s end text rest so e =
    first_gives (index_part (count_in m spaces.Funcs) spaces.Funcs end text) (λ u. Ok (m, u.1)) (tt, rest)
    (ap (λ (k : ℕ). index_part k spaces.Funcs end text) (sym (ids_count m spaces.Funcs s so.indices)) ∙ e)

pub start_fails : (m : Components) (s : Spaces) (end : ℕ) (text : List ℕ) (f : ModuleError) → IsReadSoFar m s → index_part (length (ids_in s.indices spaces.Funcs)) spaces.Funcs end text ≡ Err f → whole_part (start_part m) end text ≡ Err f
start_fails m s end text f so e =
    first_fails (start_part m end text) (λ x. no_more x.1 end >>= λ u. Ok x.0) f
    (first_fails (index_part (count_in m spaces.Funcs) spaces.Funcs end text) (λ u. Ok (m, u.1)) f
    (ap (λ (k : ℕ). index_part k spaces.Funcs end text) (sym (ids_count m spaces.Funcs s so.indices)) ∙ e))

-- ---- items

pub items_next :
    (whole : Result (Components × List ℕ) ModuleError) (id n i : ℕ) (a b : Components) (s t : Spaces) (end other : ℕ) (text rest : List ℕ) → i < n →
    ItemsLeft whole id (n - i) a s end text → (IsReadSoFar a s → (item_step id a end text ≡ Ok (b, rest)) × IsReadSoFar b t) → other ≡ end →
    ItemsLeft whole id (n - (i + 1)) b t other rest
items_next whole id n i a b s t end other text rest less left step o =
    let done = step left.so_far in
    record {
      whole_is =
          left.whole_is ∙ repeated_step (item_step id) n i a b end text rest less done.0
          ∙ ap (λ (k : ℕ). repeated (item_step id) (n - (i + 1)) b k rest) (sym o);
      so_far = done.1;
    }

pub items_fail :
    (whole : Result (Components × List ℕ) ModuleError) (id n i : ℕ) (a : Components) (s : Spaces) (end : ℕ) (text : List ℕ) (e : ModuleError) → i < n →
    ItemsLeft whole id (n - i) a s end text → (IsReadSoFar a s → FailsUnlessMemory e (item_step id a end text)) → FailsUnlessMemory e whole
items_fail whole id n i a s end text e less left step =
    elim (step left.so_far) [ inl memory ↦ inl memory | inr failed ↦ inr (left.whole_is ∙ repeated_fault (item_step id) n i a end text e less failed) ]

pub items_done :
    (whole : Result (Components × List ℕ) ModuleError) (id n i : ℕ) (b : Components) (t : Spaces) (end : ℕ) (rest : List ℕ) → n ≤ i →
    ItemsLeft whole id (n - i) b t end rest → (whole ≡ Ok (b, rest)) × IsReadSoFar b t
items_done whole id n i b t end rest done left = (left.whole_is ∙ repeated_none (item_step id) n i b end rest done, left.so_far)

-- ---- indices of types

some_types : (n : ℕ) → List ModuleType
some_types n = replicate n Other

some_types_count : (n : ℕ) → length (some_types n) ≡ n
unfolding some_types
some_types_count n = length-replicate n Other

pub index_fails :
    (m : Components) (k count : ℕ) (s t : Spaces) (e : IndexError) (error : ModuleError) → TypesIndexed m k s → k < count → NoNextItem spaces.Types s e →
    error.fault ≡ section_index_fault e → error.at ≡ 0 → IndexesTypes m count (Err error) t
index_fails m k count s t e error so less (inl memory) f p = inl (f ∙ ap section_index_fault memory)
index_fails m k count s t e error so less (inr (too_many, full)) f p =
    let indices = so.indices (some_types k) (some_types_count k) in
    let long = some_types_count k in
    let ids = ids_count (record m { types = some_types k }) spaces.Types s indices in
    let numbers = ap (λ (x : FinMap nat_cmp ℕ). len x) (indices.numbers spaces.Types) ∙ own_count (length (some_types k)) in
    let many : 2 ^ 32 < count = elim full [ inl h ↦ omega arith | inr h ↦ omega arith ] in
    inr (many, sym (error_is error fault.TooGreat 0 (f ∙ ap section_index_fault too_many) p))

pub index_added :
    (m : Components) (k id : ℕ) (s t : Spaces) → TypesIndexed m k s → id ≡ k → HasNextIndex spaces.Types id s t → HasNextNumber spaces.Types id s t → TypesIndexed m (k + 1) t
index_added m k id s t so i h g =
    let indices = so.indices (some_types k) (some_types_count k) in
    let before : Components = record m { types = some_types k } in
    let long = some_types_count k in
    let ids = ids_count before spaces.Types s indices in
    record {
      few = let few = h.few in omega arith;
      indices = λ types count.
          let longer : length types ≡ length (some_types k) + 1 = omega arith in
          next_item before (record m { types = types }) spaces.Types id s t indices (i ∙ sym long) h (numbered_next before spaces.Types id s t indices (i ∙ sym long) g)
          (λ other. elim other as (λ o. count_in (record m { types = types }) o ≡ cond (same_space spaces.Types o) (length (some_types k) + 1) (count_in before o)) [ spaces.Types ↦ longer | _ ↦ refl ]);
    }
