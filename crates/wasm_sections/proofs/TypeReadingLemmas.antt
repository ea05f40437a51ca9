-- The types of a section, item by item.
use Rattle.std.proofs.Common.{◌≡◌, ◌⊎◌, ℕ, ◌+◌, ◌-◌, ◌<◌, ◌≤◌, ◌^◌, List, [], ◌∷◌, ◌++◌, length, Result, Ok, Err, refl, sym, ap, ◌∙◌, inl, inr, arith, length-append}
use Rattle.wasm_numbers.specs.Results.{◌>>=◌, with_fault}
use Rattle.walrus_ir.specs.Types.{ModuleType, Func}
use Rattle.wasm_types.specs.declared.val_type.ValType.{ValType}
use Rattle.wasm_operators.specs.Types.{value_type}
use Rattle.wasm_sections.specs.declared.fault.ModuleError.{ModuleError}
use Rattle.wasm_sections.specs.declared.fault.ModuleFault.{ModuleFault}
use Rattle.wasm_sections.specs.declared.fault.ModuleFault.TheVariants as fault
use Rattle.wasm_sections.specs.Format.{value_below, composite_byte, composite_after, composite_part, subtype_part, next_type, next_group, types_part}
use Rattle.wasm_sections.specs.Parts.{Part, fault_here, just, ◌>=>◌, checked, one_byte, repeated, vector_of, no_more, whole_part, GivesUnlessMemory}
use Rattle.wasm_sections.specs.TypeParts.{function_type_part, CountsTypes, type_count}
use Rattle.wasm_sections.proofs.Leaving.{value_type_leaves}
use Rattle.wasm_sections.proofs.RepeatedLemmas.{no_step_done, step_done, step_fails, all_done}

-- ---- the first part, and what follows it

pub first_gives : {A B E : Type 0} (r : Result A E) (f : A → Result B E) (x : A) → r ≡ Ok x → (r >>= f) ≡ f x
first_gives {A} {B} {E} r f x e = ap (λ (s : Result A E). s >>= f) e

pub first_fails : {A B E : Type 0} (r : Result A E) (f : A → Result B E) (e : E) → r ≡ Err e → (r >>= f) ≡ Err e
first_fails {A} {B} {E} r f e h = ap (λ (s : Result A E). s >>= f) h

-- an error other than that memory ran out
abbrev pub FailsUnlessMemory : {A : Type 0} → ModuleError → Result A ModuleError → Type 0
FailsUnlessMemory e r = (e.fault ≡ fault.Memory) ⊎ (r ≡ Err e)

pub unless_memory_as : {A : Type 0} (e : ModuleError) (r s : Result A ModuleError) → s ≡ r → FailsUnlessMemory e r → FailsUnlessMemory e s
unless_memory_as e r s h (inl m) = inl m
unless_memory_as e r s h (inr f) = inr (h ∙ f)

pub unless_memory_first : {A B : Type 0} (e : ModuleError) (r : Result A ModuleError) (f : A → Result B ModuleError) → FailsUnlessMemory e r → FailsUnlessMemory e (r >>= f)
unless_memory_first e r f (inl m) = inl m
unless_memory_first e r f (inr h) = inr (first_fails r f e h)

-- the last part of several
pub then_gives :
    {A B : Type 0} (result : Result (Unit {0}) ModuleError) (x : A) (y : B) (whole : Result B ModuleError) (last : Result A ModuleError) (f : A → Result B ModuleError) →
    whole ≡ (last >>= f) → f x ≡ Ok y → GivesUnlessMemory (λ u. x) result last → GivesUnlessMemory (λ u. y) result whole
then_gives (Ok u) x y whole last f w is h = w ∙ first_gives last f x h ∙ is
then_gives (Err e) x y whole last f w is (inl m) = inl m
then_gives (Err e) x y whole last f w is (inr h) = inr (w ∙ first_fails last f e h)

-- a number, and so many steps
pub number_then :
    {A : Type 0} (counter : Part ℕ) (step : A → Part A) (x : A) (end other : ℕ) (text rest : List ℕ) (n : ℕ) → other ≡ end → counter end text ≡ Ok (n, rest) →
    (counter >=> λ n. repeated step n x) end text ≡ repeated step (n - 0) x other rest
number_then counter step x end other text rest n o e =
    let all : n ≡ n - 0 = omega arith in
    first_gives (counter end text) (λ y. repeated step y.0 x end y.1) (n, rest) e ∙ ap (λ (k : ℕ). repeated step k x end rest) all
    ∙ ap (λ (k : ℕ). repeated step (n - 0) x k rest) (sym o)

-- ---- the steps that are left after some

pub repeated_none : {A : Type 0} (step : A → Part A) (n i : ℕ) (x : A) (end : ℕ) (text : List ℕ) → n ≤ i → repeated step (n - i) x end text ≡ Ok (x, text)
repeated_none step n i x end text done = all_done step (n - i) 0 x x end text text (no_step_done step (n - i) x end text) (omega arith)

pub repeated_step :
    {A : Type 0} (step : A → Part A) (n i : ℕ) (x y : A) (end : ℕ) (text rest : List ℕ) → i < n → step x end text ≡ Ok (y, rest) →
    repeated step (n - i) x end text ≡ repeated step (n - (i + 1)) y end rest
repeated_step step n i x y end text rest less e =
    let left = step_done step (n - i) 0 x x end text text (no_step_done step (n - i) x end text) y rest (omega arith) e in
    let same : (n - i) - (0 + 1) ≡ n - (i + 1) = omega arith in
    sym left.same ∙ ap (λ (k : ℕ). repeated step k y end rest) same

pub repeated_fault :
    {A : Type 0} (step : A → Part A) (n i : ℕ) (x : A) (end : ℕ) (text : List ℕ) (fault : ModuleError) → i < n → step x end text ≡ Err fault →
    repeated step (n - i) x end text ≡ Err fault
repeated_fault step n i x end text fault less e = step_fails step (n - i) 0 x x end text text (no_step_done step (n - i) x end text) fault (omega arith) e

-- ---- vectors

abbrev pub next_of : {A : Type 0} → Part A → List A → Part (List A)
next_of part xs = part >=> λ x. just (xs ++ x ∷ [])

pub vector_next :
    {A : Type 0} (part : Part A) (n i : ℕ) (xs ys : List A) (x : A) (end other : ℕ) (text rest : List ℕ) → i < n → part end text ≡ Ok (x, rest) →
    ys ≡ xs ++ x ∷ [] → other ≡ end →
    repeated (next_of part) (n - i) xs end text ≡ repeated (next_of part) (n - (i + 1)) ys other rest
vector_next {A} part n i xs ys x end other text rest less e y o =
    repeated_step (next_of part) n i xs (xs ++ x ∷ []) end text rest less (first_gives (part end text) (λ y. Ok (xs ++ y.0 ∷ [], y.1)) (x, rest) e)
    ∙ ap (λ (l : List A). repeated (next_of part) (n - (i + 1)) l end rest) (sym y) ∙ ap (λ (k : ℕ). repeated (next_of part) (n - (i + 1)) ys k rest) (sym o)

pub vector_fault :
    {A : Type 0} (part : Part A) (n i : ℕ) (xs : List A) (end : ℕ) (text : List ℕ) (e : ModuleError) → i < n → part end text ≡ Err e →
    repeated (next_of part) (n - i) xs end text ≡ Err e
vector_fault part n i xs end text e less h =
    repeated_fault (next_of part) n i xs end text e less (first_fails (part end text) (λ y. Ok (xs ++ y.0 ∷ [], y.1)) e h)

-- items that aren't kept, each read under a limit that stays
pub passed_next :
    (part : ℕ → Part (Unit {0})) (n i limit same end other : ℕ) (text rest : List ℕ) → i < n → part limit end text ≡ Ok (tt, rest) → other ≡ end → same ≡ limit →
    repeated (λ u. part limit) (n - i) tt end text ≡ repeated (λ u. part same) (n - (i + 1)) tt other rest
passed_next part n i limit same end other text rest less e o l =
    repeated_step (λ u. part limit) n i tt tt end text rest less e ∙ ap (λ (k : ℕ). repeated (λ u. part limit) (n - (i + 1)) tt k rest) (sym o)
    ∙ ap (λ (k : ℕ). repeated (λ u. part k) (n - (i + 1)) tt other rest) (sym l)

-- ---- composite types

-- the lists of a function type
pub lists_read :
    (limit end at : ℕ) (text middle rest : List ℕ) (parameters results : List (ValType ℕ)) (result : Result (Unit {0}) ModuleError) → at ≡ end →
    vector_of (value_below limit) end text ≡ Ok (parameters, middle) → GivesUnlessMemory (λ u. (results, rest)) result (vector_of (value_below limit) at middle) →
    GivesUnlessMemory (λ u. (Func parameters results, rest)) result (function_type_part limit end text)
lists_read limit end at text middle rest parameters results result a first second =
    let after : List (ValType ℕ) × List ℕ → Result (ModuleType × List ℕ) ModuleError = λ y. Ok (Func parameters y.0, y.1) in
    let whole : function_type_part limit end text ≡ (vector_of (value_below limit) at middle >>= after) =
    first_gives (vector_of (value_below limit) end text) (λ x. vector_of (value_below limit) end x.1 >>= λ y. Ok (Func x.0 y.0, y.1)) (parameters, middle) first
    ∙ ap (λ (k : ℕ). vector_of (value_below limit) k middle >>= after) (sym a) in
    then_gives result (results, rest) (Func parameters results, rest) (function_type_part limit end text) (vector_of (value_below limit) at middle) after whole refl second

-- the byte that a composite type begins with
pub composite_starts :
    (limit end at b c : ℕ) (text rest : List ℕ) → one_byte end text ≡ Ok (b, rest) → b ≡ c → composite_byte c ≡ Ok c → at ≡ end →
    composite_part limit end text ≡ composite_after limit c at rest
composite_starts limit end at b c text rest e is good a =
    let byte : one_byte end text ≡ Ok (c, rest) = e ∙ ap (λ (k : ℕ). Ok (k, rest)) is in
    first_gives (checked one_byte composite_byte end text) (λ x. composite_after limit x.0 end x.1) (c, rest)
    (first_gives (one_byte end text) (λ x. with_fault (fault_here end text) (composite_byte x.0) >>= λ v. Ok (v, x.1)) (c, rest) byte
    ∙ ap (λ (r : Result ℕ ModuleFault). with_fault (fault_here end text) r >>= λ v. Ok (v, rest)) good)
    ∙ ap (λ (k : ℕ). composite_after limit c k rest) (sym a)

-- ---- a value type takes no more bytes than there are

pub value_leaves_less : (text rest : List ℕ) (type : ValType ℕ) → value_type text ≡ Ok (type, rest) → length rest ≤ length text
value_leaves_less text rest type e =
    let front = value_type_leaves text type rest e in
    let all = ap length front.1 ∙ length-append front.0 rest in
    omega arith

-- ---- types are counted

-- the types that a loop has counted so far: those of the other steps are left
pub record CountedSoFar (whole : Result (List ModuleType × List ℕ) ModuleError) (step : List ModuleType → Part (List ModuleType)) (left count end : ℕ) (rest : List ℕ) : Type 0 where
  pub types : List ModuleType
  pub count_is : length types ≡ count
  pub whole_is : whole ≡ repeated step left types end rest

pub one_more_counted :
    (whole : Result (List ModuleType × List ℕ) ModuleError) (limit here n i count more end other : ℕ) (text rest : List ℕ) (type : ModuleType) → i < n →
    CountedSoFar whole (next_type limit) (n - i) count end text → here ≡ limit → subtype_part here end text ≡ Ok (type, rest) → other ≡ end → more ≡ count + 1 →
    CountedSoFar whole (next_type limit) (n - (i + 1)) more other rest
one_more_counted whole limit here n i count more end other text rest type less so h e o m = record {
  types = so.types ++ type ∷ [];
  count_is = length-append so.types (type ∷ []) ∙ ap (λ (k : ℕ). k + 1) so.count_is ∙ sym m;
  whole_is =
      so.whole_is
      ∙ vector_next (subtype_part limit) n i so.types (so.types ++ type ∷ []) type end other text rest less (ap (λ (k : ℕ). subtype_part k end text) (sym h) ∙ e) refl o;
}

pub group_counted :
    (whole : Result (List ModuleType × List ℕ) ModuleError) (limit here n i count more end other : ℕ) (text rest : List ℕ) → i < n →
    (so : CountedSoFar whole (next_group limit) (n - i) count end text) → here ≡ limit → CountsTypes rest (Ok more) (next_group here so.types end text) → other ≡ end →
    CountedSoFar whole (next_group limit) (n - (i + 1)) more other rest
group_counted whole limit here n i count more end other text rest less so h read o = record {
  types = read.0;
  count_is = read.2;
  whole_is =
      so.whole_is ∙ repeated_step (next_group limit) n i so.types read.0 end text rest less (ap (λ (k : ℕ). next_group k so.types end text) (sym h) ∙ read.1)
      ∙ ap (λ (k : ℕ). repeated (next_group limit) (n - (i + 1)) read.0 k rest) (sym o);
}

pub all_counted :
    (whole : Result (List ModuleType × List ℕ) ModuleError) (step : List ModuleType → Part (List ModuleType)) (n i count end : ℕ) (rest : List ℕ) → n ≤ i →
    CountedSoFar whole step (n - i) count end rest → CountsTypes rest (Ok count) whole
all_counted whole step n i count end rest done so = (so.types, so.whole_is ∙ repeated_none step n i so.types end rest done, so.count_is)

pub counted_fault :
    (whole : Result (List ModuleType × List ℕ) ModuleError) (step : List ModuleType → Part (List ModuleType)) (n i count end : ℕ) (text rest : List ℕ) (e : ModuleError) → i < n →
    (so : CountedSoFar whole step (n - i) count end text) → FailsUnlessMemory e (step so.types end text) → CountsTypes rest (Err e) whole
counted_fault whole step n i count end text rest e less so (inl m) = inl m
counted_fault whole step n i count end text rest e less so (inr h) = inr (so.whole_is ∙ repeated_fault step n i so.types end text e less h)

pub type_fault :
    (whole : Result (List ModuleType × List ℕ) ModuleError) (limit here n i count end : ℕ) (text rest : List ℕ) (e : ModuleError) → i < n →
    CountedSoFar whole (next_type limit) (n - i) count end text → here ≡ limit → FailsUnlessMemory e (subtype_part here end text) → CountsTypes rest (Err e) whole
type_fault whole limit here n i count end text rest e less so h failed =
    counted_fault whole (next_type limit) n i count end text rest e less so
    (unless_memory_first e (subtype_part limit end text) (λ y. Ok (so.types ++ y.0 ∷ [], y.1))
    (unless_memory_as e (subtype_part here end text) (subtype_part limit end text) (ap (λ (k : ℕ). subtype_part k end text) (sym h)) failed))

pub group_fault :
    (whole : Result (List ModuleType × List ℕ) ModuleError) (limit here n i count end : ℕ) (text rest : List ℕ) (e : ModuleError) → i < n →
    (so : CountedSoFar whole (next_group limit) (n - i) count end text) → here ≡ limit → FailsUnlessMemory e (next_group here so.types end text) → CountsTypes rest (Err e) whole
group_fault whole limit here n i count end text rest e less so h failed =
    counted_fault whole (next_group limit) n i count end text rest e less so
    (unless_memory_as e (next_group here so.types end text) (next_group limit so.types end text) (ap (λ (k : ℕ). next_group k so.types end text) (sym h)) failed)

-- the types of a whole section
pub counted_whole :
    (end at : ℕ) (text rest : List ℕ) (count : ℕ) → at ≡ end → CountsTypes rest (Ok count) (types_part (2 ^ 64 - 1) end text) → no_more rest at ≡ Ok tt →
    type_count end text ≡ Ok count
counted_whole end at text rest count a read none =
    first_gives (whole_part (types_part (2 ^ 64 - 1)) end text) (λ types. Ok (length types)) read.0
    (first_gives (types_part (2 ^ 64 - 1) end text) (λ x. no_more x.1 end >>= λ u. Ok x.0) (read.0, rest) read.1
    ∙ first_gives (no_more rest end) (λ u. Ok read.0) tt (ap (λ (k : ℕ). no_more rest k) (sym a) ∙ none))
    ∙ ap (λ (n : ℕ). Ok n) read.2

pub counted_not_whole :
    (end at : ℕ) (text rest : List ℕ) (count : ℕ) (e : ModuleError) → at ≡ end → CountsTypes rest (Ok count) (types_part (2 ^ 64 - 1) end text) → no_more rest at ≡ Err e →
    type_count end text ≡ Err e
counted_not_whole end at text rest count e a read more =
    first_fails (whole_part (types_part (2 ^ 64 - 1)) end text) (λ types. Ok (length types)) e
    (first_gives (types_part (2 ^ 64 - 1) end text) (λ x. no_more x.1 end >>= λ u. Ok x.0) (read.0, rest) read.1
    ∙ first_fails (no_more rest end) (λ u. Ok read.0) e (ap (λ (k : ℕ). no_more rest k) (sym a) ∙ more))

pub not_counted :
    (end : ℕ) (text rest : List ℕ) (e : ModuleError) → CountsTypes rest (Err e) (types_part (2 ^ 64 - 1) end text) → FailsUnlessMemory e (type_count end text)
not_counted end text rest e (inl m) = inl m
not_counted end text rest e (inr h) =
    inr (first_fails (whole_part (types_part (2 ^ 64 - 1)) end text) (λ types. Ok (length types)) e
    (first_fails (types_part (2 ^ 64 - 1) end text) (λ x. no_more x.1 end >>= λ u. Ok x.0) e h))
