-- The steps in which a module is read: items, imports, sections.
use Rattle.std.proofs.Common.{◌≡◌, ◌⊎◌, ℕ, ◌+◌, ◌-◌, ◌<◌, ◌^◌, cond, List, [], ◌∷◌, ◌++◌, length, Result, Ok, Err, IfOk, IfErr, refl, sym, ap, ◌∙◌, subst, inl, inr, length-append}
use Rattle.wasm_numbers.specs.Results.{◌>>=◌, with_fault, Gives}
use Rattle.wasm_numbers.proofs.ResultLemmas.{with_fault_ok}
use Rattle.wasm_operators.specs.declared.types.Space.{Space}
use Rattle.wasm_operators.specs.declared.types.Space.TheVariants as spaces
use Rattle.wasm_body.specs.declared.error.IndexError.{IndexError}
use Rattle.walrus_maps.specs.IndexMaps.{ids_in}
use Rattle.wasm_sections.specs.declared.fault.ModuleError.{ModuleError}
use Rattle.wasm_sections.specs.declared.fault.ModuleFault.{ModuleFault}
use Rattle.wasm_sections.specs.declared.fault.ModuleFault.TheVariants as fault
use Rattle.wasm_sections.specs.declared.imports.Imported.{Imported}
use Rattle.wasm_sections.specs.declared.sections.SectionKind.{SectionKind}
use Rattle.wasm_sections.specs.declared.sections.SectionKind.TheVariants as kinds
use Rattle.wasm_sections.specs.declared.spaces.Counts.{Counts}
use Rattle.wasm_sections.specs.declared.spaces.Spaces.{Spaces}
use Rattle.wasm_sections.specs.Components.{Components, count_in, one_more_in, function_type_of, with_one_function, with_one_tag, with_one_import, import_step, export_step, item_step}
use Rattle.wasm_sections.specs.Faults.{section_index_fault}
use Rattle.wasm_sections.specs.Format.{name_part, imported_part, at_place, placed_import_part, export_space, index_part, known_export_part, table_part, limits_part, global_part, element_segment_part, data_segment_part}
use Rattle.wasm_sections.specs.NextItems.{HasNextIndex, HasNextNumber, NoNextItem, AreIndices}
use Rattle.wasm_sections.specs.Parts.{Part, fault_here, passed, checked, one_byte, GivesUnlessMemory}
use Rattle.wasm_sections.specs.Sections.{section_id}
use Rattle.wasm_sections.proofs.TypeReadingLemmas.{first_gives, first_fails, FailsUnlessMemory}
use Rattle.wasm_module.specs.declared.parsed.ParsedModule.{ParsedModule}
use Rattle.wasm_module.specs.ReadModules.{components_of, with_value, IsReadSoFar, StepsTo, AddsTo, fault_at, index_error_at, counted_part, with_counted}
use Rattle.wasm_module.proofs.ReadingLemmas.{same_space, next_item, numbered_next, ids_count, one_more_given, no_more_given, error_is, with_counts}

-- ---- one step after the other

bind_assoc : {A B C E : Type 0} (r : Result A E) (f : A → Result B E) (g : B → Result C E) → ((r >>= f) >>= g) ≡ (r >>= λ x. f x >>= g)
bind_assoc (Ok x) f g = refl
bind_assoc (Err e) f g = refl

bind_same : {A B E : Type 0} (r : Result A E) (f g : A → Result B E) → ((x : A) → f x ≡ g x) → (r >>= f) ≡ (r >>= g)
bind_same (Ok x) f g h = h x
bind_same (Err e) f g h = refl

with_fault_then : {A B E F : Type 0} (g : E → F) (r : Result A E) (f : A → Result B E) (x : A) → with_fault g r ≡ Ok x → with_fault g (r >>= f) ≡ with_fault g (f x)
with_fault_then {A} {B} {E} g r f x e = ap (λ (q : Result A E). with_fault g (q >>= f)) (with_fault_ok g r x e)

-- a part, and a step with its value at its place
pub step_after :
    {X : Type 0} (m : Components) (s : Spaces) (result : Result (Unit {0}) ModuleError) (n : Components) (t : Spaces) (first : Result (X × List ℕ) ModuleError)
    (step : X → Result Components ModuleError) (x : X) (rest : List ℕ) (whole : Result (Components × List ℕ) ModuleError) →
    whole ≡ (first >>= λ y. step y.0 >>= λ v. Ok (v, y.1)) → first ≡ Ok (x, rest) → StepsTo (λ c. c) m s result (step x) n t → StepsTo (λ c. (c, rest)) m s result whole n t
step_after m s (Ok u) n t first step x rest whole w e st = λ so.
    let h = st so in
    (w ∙ first_gives first (λ y. step y.0 >>= λ v. Ok (v, y.1)) (x, rest) e ∙ first_gives (step x) (λ v. Ok (v, rest)) n h.0, h.1)
step_after m s (Err f) n t first step x rest whole w e st = λ so.
    elim (st so) [
      | inl memory ↦ inl memory
      | inr failed ↦ inr (w ∙ first_gives first (λ y. step y.0 >>= λ v. Ok (v, y.1)) (x, rest) e ∙ first_fails (step x) (λ v. Ok (v, rest)) f failed)
    ]

-- a part that fails
pub step_before :
    {X : Type 0} (first : Result (X × List ℕ) ModuleError) (step : X → Result Components ModuleError) (whole : Result (Components × List ℕ) ModuleError) (f : ModuleError) →
    whole ≡ (first >>= λ y. step y.0 >>= λ v. Ok (v, y.1)) → first ≡ Err f → whole ≡ Err f
step_before first step whole f w e = w ∙ first_fails first (λ y. step y.0 >>= λ v. Ok (v, y.1)) f e

-- an error of an index map gets its place
pub adds_at :
    (m : Components) (s : Spaces) (returned : Result (Unit {0}) IndexError) (result : Result (Unit {0}) ModuleError) (step : Result Components ModuleFault) (n : Components)
    (t : Spaces) (place : ℕ) → result ≡ with_fault (index_error_at place) returned → AddsTo m s returned step n t → StepsTo (λ c. c) m s result (with_fault (fault_at place) step) n t
adds_at m s (Ok u) result step n t place e h =
    subst (λ (r : Result (Unit {0}) ModuleError). StepsTo (λ c. c) m s r (with_fault (fault_at place) step) n t) (sym e)
    (λ so. let got = h so in (ap (λ (r : Result Components ModuleFault). with_fault (fault_at place) r) got.0, got.1))
adds_at m s (Err f) result step n t place e h =
    subst (λ (r : Result (Unit {0}) ModuleError). StepsTo (λ c. c) m s r (with_fault (fault_at place) step) n t) (sym e)
    (λ so. elim (h so) [
      | inl memory ↦ inl (ap section_index_fault memory)
      | inr failed ↦ inr (ap (λ (r : Result Components ModuleFault). with_fault (fault_at place) r) failed)
    ])

-- the place is that of the next byte
pub placed_here :
    (m : Components) (s : Spaces) (result : Result (Unit {0}) ModuleError) (n : Components) (t : Spaces) (step : Result Components ModuleFault) (place end : ℕ) (text : List ℕ) →
    place ≡ end - length text → StepsTo (λ c. c) m s result (with_fault (fault_at place) step) n t → StepsTo (λ c. c) m s result (with_fault (fault_here end text) step) n t
placed_here m s result n t step place end text p h = subst (λ (k : ℕ). StepsTo (λ c. c) m s result (with_fault (fault_at k) step) n t) p h

-- ---- functions and tags

-- an item with the type of a function
abbrev typed : (m : Components) (space : Space) (more : ℕ → Components) (index : ℕ) → Result Components ModuleFault
typed m space more index = function_type_of m index >>= λ type. one_more_in space m (more type)

typed_given :
    (m : Components) (s : Spaces) (space : Space) (more : ℕ → Components) (index type place : ℕ) → with_fault (fault_at place) (function_type_of m index) ≡ Ok type →
    length (ids_in s.indices space) < 2 ^ 32 → IsReadSoFar m s → with_fault (fault_at place) (typed m space more index) ≡ Ok (more type)
typed_given m s space more index type place found few so =
    with_fault_then (fault_at place) (function_type_of m index) (λ type. one_more_in space m (more type)) type found
    ∙ ap (λ (r : Result Components ModuleFault). with_fault (fault_at place) r) (one_more_given m (more type) space s so.indices few)

pub typed_refused :
    (m : Components) (s : Spaces) (space : Space) (more : ℕ → Components) (index type place : ℕ) (e : IndexError) (error : ModuleError) →
    (IsReadSoFar m s → with_fault (fault_at place) (function_type_of m index) ≡ Ok type) → NoNextItem space s e → error.fault ≡ section_index_fault e → error.at ≡ place →
    IsReadSoFar m s → FailsUnlessMemory error (with_fault (fault_at place) (typed m space more index))
typed_refused m s space more index type place e error found none f p so =
    elim (no_more_given m (more type) space s e so.indices none) [
      | inl memory ↦ inl (f ∙ ap section_index_fault memory)
      | inr refused ↦
          inr (with_fault_then (fault_at place) (function_type_of m index) (λ type. one_more_in space m (more type)) type (found so)
          ∙ ap (λ (r : Result Components ModuleFault). with_fault (fault_at place) r) refused ∙ ap (λ (x : ModuleError). Err x) (error_is error (section_index_fault e) place f p))
    ]

pub function_added :
    (m0 : Components) (s t : Spaces) (index type place id : ℕ) (functions : List ℕ) →
    (IsReadSoFar (with_counts s.counts m0) s → with_fault (fault_at place) (function_type_of (with_counts s.counts m0) index) ≡ Ok type) → id ≡ length m0.functions →
    HasNextIndex spaces.Funcs id s t → HasNextNumber spaces.Funcs id s t → functions ≡ m0.functions ++ type ∷ [] → IsReadSoFar (with_counts s.counts m0) s →
    (with_fault (fault_at place) (with_one_function (with_counts s.counts m0) index) ≡ Ok (with_counts t.counts (record m0 { functions = functions })))
    × IsReadSoFar (with_counts t.counts (record m0 { functions = functions })) t
function_added m0 s t index type place id functions found i h g fs so =
    let m : Components = with_counts s.counts m0 in
    let more : Components = record m { functions = m.functions ++ type ∷ [] } in
    let is : with_counts t.counts (record m0 { functions = functions }) ≡ more =
    ap (λ (c : Counts). with_counts c (record m0 { functions = functions })) h.counts ∙ ap (λ (l : List ℕ). record m { functions = l }) fs in
    let read : IsReadSoFar more t = record {
      indices =
          next_item m more spaces.Funcs id s t so.indices i h (numbered_next m spaces.Funcs id s t so.indices i g)
          (λ other. elim other as (λ o. count_in more o ≡ cond (same_space spaces.Funcs o) (length m.functions + 1) (count_in m o)) [
            | spaces.Funcs ↦ length-append m.functions (type ∷ [])
            | _ ↦ refl
          ]);
      types = so.types;
      tags = ap (λ (c : Counts). c.tags) h.counts ∙ so.tags;
    } in (
      typed_given m s spaces.Funcs (λ ty. record m { functions = m.functions ++ ty ∷ [] }) index type place (found so) h.few so ∙ ap (λ (x : Components). Ok x) (sym is),
      subst (λ (x : Components). IsReadSoFar x t) (sym is) read,
    )

pub tag_added :
    (m0 : Components) (s t : Spaces) (index type place : ℕ) (tags : List ℕ) →
    (IsReadSoFar (with_counts s.counts m0) s → with_fault (fault_at place) (function_type_of (with_counts s.counts m0) index) ≡ Ok type) →
    HasNextIndex spaces.Tags s.counts.tags s t → HasNextNumber spaces.Tags s.counts.tags s t → tags ≡ m0.tags ++ type ∷ [] → IsReadSoFar (with_counts s.counts m0) s →
    (with_fault (fault_at place) (with_one_tag (with_counts s.counts m0) index) ≡ Ok (with_counts t.counts (record m0 { tags = tags })))
    × IsReadSoFar (with_counts t.counts (record m0 { tags = tags })) t
tag_added m0 s t index type place tags found h g ts so =
    let id : ℕ = s.counts.tags in
    let i : id ≡ length m0.tags = so.tags in
    let m : Components = with_counts s.counts m0 in
    let more : Components = record m { tags = m.tags ++ type ∷ [] } in
    let is : with_counts t.counts (record m0 { tags = tags }) ≡ more =
    ap (λ (c : Counts). with_counts c (record m0 { tags = tags })) h.counts ∙ ap (λ (l : List ℕ). record m { tags = l }) ts in
    let read : IsReadSoFar more t = record {
      indices =
          next_item m more spaces.Tags id s t so.indices i h (numbered_next m spaces.Tags id s t so.indices i g)
          (λ other. elim other as (λ o. count_in more o ≡ cond (same_space spaces.Tags o) (length m.tags + 1) (count_in m o)) [
            | spaces.Tags ↦ length-append m.tags (type ∷ [])
            | _ ↦ refl
          ]);
      types = so.types;
      tags =
          ap (λ (c : Counts). c.tags) h.counts ∙ ap (λ (k : ℕ). k + 1) (ids_count m spaces.Tags s so.indices)
          ∙ sym (length-append m.tags (type ∷ []));
    } in (
      typed_given m s spaces.Tags (λ ty. record m { tags = m.tags ++ ty ∷ [] }) index type place (found so) h.few so ∙ ap (λ (x : Components). Ok x) (sym is),
      subst (λ (x : Components). IsReadSoFar x t) (sym is) read,
    )

-- ---- imports and exports

pub import_for :
    (m : Components) (s : Spaces) (result : Result (Unit {0}) ModuleError) (n : Components) (t : Spaces) (place : ℕ) (it one : Imported) → it ≡ one →
    StepsTo (λ c. c) m s result (with_fault (fault_at place) (with_one_import m one)) n t → StepsTo (λ c. c) m s result (with_fault (fault_at place) (with_one_import m it)) n t
import_for m s result n t place it one is h =
    subst (λ (x : Imported). StepsTo (λ c. c) m s result (with_fault (fault_at place) (with_one_import m x)) n t) (sym is) h

pub import_is :
    (m : Components) (end : ℕ) (text : List ℕ) →
    import_step m end text ≡ (placed_import_part end text >>= λ x. with_fault (fault_at x.0.1) (with_one_import m x.0.0) >>= λ v. Ok (v, x.1))
import_is m end text =
    let last : (Imported × ℕ) × List ℕ → Result (Components × List ℕ) ModuleError = λ x. with_fault (fault_at x.0.1) (with_one_import m x.0.0) >>= λ v. Ok (v, x.1) in
    sym (bind_assoc (name_part end text) (λ a. name_part end a.1 >>= λ b. at_place imported_part end b.1) last
    ∙ bind_same (name_part end text) (λ a. (name_part end a.1 >>= λ b. at_place imported_part end b.1) >>= last) (λ a. name_part end a.1 >>= λ b. checked imported_part (with_one_import m) end b.1)
    (λ a. bind_assoc (name_part end a.1) (λ b. at_place imported_part end b.1) last
    ∙ bind_same (name_part end a.1) (λ b. at_place imported_part end b.1 >>= last) (λ b. checked imported_part (with_one_import m) end b.1)
    (λ b. bind_assoc (imported_part end b.1) (λ x. Ok ((x.0, end - length b.1), x.1)) last)))

pub exports_same :
    (c d : Space → ℕ) (end : ℕ) (text : List ℕ) → ((space : Space) → c space ≡ d space) → known_export_part c end text ≡ known_export_part d end text
exports_same c d end text same =
    bind_same (name_part end text) (λ a. checked one_byte export_space end a.1 >>= λ b. index_part (c b.0) b.0 end b.1)
    (λ a. checked one_byte export_space end a.1 >>= λ b. index_part (d b.0) b.0 end b.1)
    (λ a. bind_same (checked one_byte export_space end a.1) (λ b. index_part (c b.0) b.0 end b.1) (λ b. index_part (d b.0) b.0 end b.1)
    (λ b. ap (λ (k : ℕ). index_part k b.0 end b.1) (same b.0)))

pub export_read :
    (m : Components) (s : Spaces) (result : Result (Unit {0}) ModuleError) (end : ℕ) (text rest : List ℕ) →
    Gives (λ u. (tt, rest)) result (known_export_part (λ space. length (ids_in s.indices space)) end text) → StepsTo (λ c. (c, rest)) m s result (export_step m end text) m s
export_read m s (Ok u) end text rest e = λ so. (
  first_gives (known_export_part (count_in m) end text) (λ u. Ok (m, u.1)) (tt, rest)
      (exports_same (count_in m) (λ space. length (ids_in s.indices space)) end text (λ space. sym (ids_count m space s so.indices)) ∙ e),
  so,
)
export_read m s (Err f) end text rest e = λ so.
    inr (first_fails (known_export_part (count_in m) end text) (λ u. Ok (m, u.1)) f
    (exports_same (count_in m) (λ space. length (ids_in s.indices space)) end text (λ space. sym (ids_count m space s so.indices)) ∙ e))

-- ---- items by the kind of their section

pub item_for_kind :
    (kind one : SectionKind) (m : Components) (s : Spaces) (result : Result (Unit {0}) ModuleError) (n : Components) (t : Spaces) (end : ℕ) (text rest : List ℕ) → kind ≡ one →
    StepsTo (λ c. (c, rest)) m s result (item_step (section_id one) m end text) n t → StepsTo (λ c. (c, rest)) m s result (item_step (section_id kind) m end text) n t
item_for_kind kind one m s result n t end text rest is h =
    subst (λ (k : SectionKind). StepsTo (λ c. (c, rest)) m s result (item_step (section_id k) m end text) n t) (sym is) h

counted_same : {X : Type 0} (part : Part X) (w : Result Components ModuleFault) (end : ℕ) (text : List ℕ) → checked part (λ x. w) end text ≡ (passed part end text >>= λ y. with_fault (fault_here end text) w >>= λ v. Ok (v, y.1))
counted_same part w end text = sym (bind_assoc (part end text) (λ x. Ok (tt, x.1)) (λ y. with_fault (fault_here end text) w >>= λ v. Ok (v, y.1)))

-- items that are only counted
pub counted_is :
    (kind : SectionKind) (m : Components) (end : ℕ) (text : List ℕ) → (kind ≡ kinds.Import → ⊥) → (kind ≡ kinds.Export → ⊥) → (kind ≡ kinds.Function → ⊥) → (kind ≡ kinds.Tag → ⊥) →
    item_step (section_id kind) m end text ≡ (counted_part (section_id kind) end text >>= λ y. with_fault (fault_here end text) (with_counted (section_id kind) m) >>= λ v. Ok (v, y.1))
counted_is kinds.Import m end text a b c d = absurd (a refl)
counted_is kinds.Export m end text a b c d = absurd (b refl)
counted_is kinds.Function m end text a b c d = absurd (c refl)
counted_is kinds.Tag m end text a b c d = absurd (d refl)
counted_is kinds.Table m end text a b c d = counted_same table_part (with_counted 4 m) end text
counted_is kinds.Memory m end text a b c d = counted_same limits_part (with_counted 5 m) end text
counted_is kinds.Global m end text a b c d = counted_same global_part (with_counted 6 m) end text
counted_is kinds.Element m end text a b c d = counted_same element_segment_part (with_counted 9 m) end text
counted_is _ m end text a b c d = counted_same data_segment_part (with_counted 11 m) end text

-- ---- the module that is read

pub read_given :
    (parsed : ParsedModule) (m : Components) (s : Spaces) (done : Result (Unit {0}) ModuleError) (whole : Result Components ModuleError) →
    StepsTo (λ c. c) m s done whole (components_of parsed) parsed.spaces → IsReadSoFar m s → GivesUnlessMemory components_of (with_value done parsed) whole
read_given parsed m s (Ok u) whole steps so = (steps so).0
read_given parsed m s (Err e) whole steps so = steps so

pub read_indices :
    (parsed : ParsedModule) (m : Components) (s : Spaces) (done : Result (Unit {0}) ModuleError) (whole : Result Components ModuleError) →
    StepsTo (λ c. c) m s done whole (components_of parsed) parsed.spaces → IsReadSoFar m s →
    IfOk (with_value done parsed) (λ p. AreIndices (components_of p) p.spaces)
read_indices parsed m s (Ok u) whole steps so = (steps so).1.indices
read_indices parsed m s (Err e) whole steps so = tt

pub value_holds : {A : Type 0} (P : A → Type 0) (done : Result (Unit {0}) ModuleError) (x : A) → P x → IfOk (with_value done x) P
value_holds P (Ok u) x p = p
value_holds P (Err e) x p = tt

-- the same in a box
pub boxed_given :
    {A B C : Type 0} (view : A → C) (value : B → A) (made : Result A ModuleError) (result : Result B ModuleError) (whole : Result C ModuleError) →
    IfOk result (λ b. made ≡ Ok (value b)) → IfErr result (λ e. (e.fault ≡ fault.Memory) ⊎ (made ≡ Err e)) → GivesUnlessMemory view made whole →
    GivesUnlessMemory (λ b. view (value b)) result whole
boxed_given {A} view value made (Ok b) whole same failed gives = subst (λ (r : Result A ModuleError). GivesUnlessMemory view r whole) same gives
boxed_given view value made (Err e) whole same (inl memory) gives = inl memory
boxed_given {A} view value made (Err e) whole same (inr is) gives = subst (λ (r : Result A ModuleError). GivesUnlessMemory view r whole) is gives
