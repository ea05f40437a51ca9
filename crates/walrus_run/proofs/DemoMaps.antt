-- The index maps of the demo module: locals that are put in one after the other, and numbers that are given in turn.
use Rattle.std.specs.Prelude.{◌≡◌, ◌<◌, ◌≤◌, ◌^◌, ℕ, zero, suc, nat_lt, List, [], ◌∷◌, length, Bool, true, false, Option, Some, None, if◌then◌else◌, Result, Ok, Err}
use Rattle.std.proofs.Common.{refl, ap, sym, ◌∙◌, rules, arith}
use Rattle.std.proofs.Math.Path.{fun_ext}
use Rattle.std.proofs.lemmas.Bool.{lt-ltb, ltb-true}
use Rattle.std.proofs.lemmas.Bool.Decides.{nat_tests}
use Rattle.std.specs.Ordering.{nat_cmp}
use Rattle.std.specs.Cmp.{nat_cmp_total}
use Rattle.std.specs.FinMap.{FinMap, from_entries, empty, insert, get, len, get-empty, len-insert, len-empty, same_map, nat_cmp-IsAntisymmetric, gets}
use Rattle.wasm_operators.specs.declared.types.Space.{Space}
use Rattle.wasm_operators.specs.declared.types.Space.TheVariants.{Tables, Types, Funcs, Globals, Memories, Elements, Data, Tags}
use Rattle.wasm_body.specs.declared.error.EmitError.{EmitError}
use Rattle.wasm_body.specs.declared.error.EmitError.TheVariants.{Index, UnnumberedLocal}
use Rattle.wasm_body.specs.declared.error.IndexError.TheVariants.{Unnumbered}
use Rattle.walrus_maps.specs.declared.indices_to_ids.IndicesToIds.{IndicesToIds}
use Rattle.walrus_maps.specs.declared.ids_to_indices.IdsToIndices.{IdsToIndices}
use Rattle.wasm_numbers.specs.Results.{◌>>=◌, unless, with_fault, some_or}
use Rattle.walrus_maps.specs.IndexMaps.{ids_in, locals_in, with_locals, numbers_in, with_numbers, numbered}
use Rattle.walrus_maps.specs.Numbering.{pushed}
use Rattle.walrus_maps.proofs.NumberingLemmas.{get-numbered}
use Rattle.walrus_numbering.specs.NumberMaps.{fitting_number, numbers_by}
use Rattle.walrus_run.specs.Demo.{demo_types, demo_indices, demo_numbers}

-- a value that was put into a map is in it
pub locals_in-with_locals : (function : ℕ) (ids : List ℕ) (m : IndicesToIds) → locals_in (with_locals function ids m) function ≡ ids
locals_in-with_locals function ids m = grind (gets, rules)

-- the later of two values of a key counts
insert-again : {X : Type 0} (m : FinMap nat_cmp X) (k : ℕ) (x y : X) → insert (insert m k x) k y ≡ insert m k y
insert-again m k x y = same_map nat_cmp_total nat_cmp-IsAntisymmetric (insert (insert m k x) k y) (insert m k y) (λ q. grind (gets, rules))

pub with_locals-again : (function : ℕ) (ids others : List ℕ) (m : IndicesToIds) → with_locals function others (with_locals function ids m) ≡ with_locals function others m
with_locals-again function ids others m = ap (λ l. record m { locals = l }) (insert-again m.locals function ids others)

pub ruleset local_maps = (locals_in-with_locals, with_locals-again, gets, rules)

pub ruleset numbering = (gets, rules)

-- ---- numbers that are given in turn

-- the numbers after the ids from 0 on, this many, each got the next number
abbrev in_turn : FinMap nat_cmp ℕ → ℕ → FinMap nat_cmp ℕ
in_turn m zero = m
in_turn m (suc n) = numbered (in_turn m n) n

-- each id is its own number
record IsItself (m : FinMap nat_cmp ℕ) (count : ℕ) : Type 0 where
  gets_itself : (id : ℕ) → get m id ≡ (if nat_lt id count then Some id else None)
  counts : len m ≡ count

one_more : (m : FinMap nat_cmp ℕ) (n : ℕ) → IsItself m n → IsItself (numbered m n) (suc n)
one_more m n h = record {
  gets_itself = λ id. let after = get-numbered m n id in let before = h.gets_itself id in grind (arith, nat_tests, h.counts);
  counts = len-insert nat_cmp_total m n (len m) ∙ (let new = h.gets_itself n in grind (arith, nat_tests, new, h.counts));
}

itself : (n : ℕ) → IsItself (in_turn empty n) n
itself zero = record { gets_itself = λ id. let none = get-empty {X = ℕ} nat_cmp id in grind (arith, nat_tests, none); counts = len-empty nat_cmp ℕ }
itself (suc n) = one_more (in_turn empty n) n (itself n)

-- ---- the numbers of the demo module

abbrev pub types_numbered : IdsToIndices → IdsToIndices
types_numbered m = pushed Types (0 ∷ 1 ∷ 2 ∷ 3 ∷ []) m

abbrev pub functions_numbered : IdsToIndices → IdsToIndices
functions_numbered m = pushed Tags (0 ∷ 1 ∷ []) (pushed Funcs (0 ∷ 1 ∷ []) m)

abbrev pub storage_numbered : IdsToIndices → IdsToIndices
storage_numbered m =
    with_numbers Data (insert (numbers_in m Data) 0 0) (pushed Elements (0 ∷ []) (pushed Globals (0 ∷ []) (pushed Memories (0 ∷ []) (pushed Tables (0 ∷ []) m))))

abbrev pub IsEmptyMap : IdsToIndices → Type 0
IsEmptyMap m = (space : Space) → numbers_in m space ≡ empty

abbrev all_numbered : IdsToIndices → IdsToIndices
all_numbered m = storage_numbered (functions_numbered (types_numbered m))

space_numbered : (m : IdsToIndices) → IsEmptyMap m → (space : Space) → numbers_in (all_numbered m) space ≡ in_turn empty (length (ids_in demo_indices space))
space_numbered m h Tables = ap (λ e. in_turn e 1) (h Tables)
space_numbered m h Types = ap (λ e. in_turn e 4) (h Types)
space_numbered m h Funcs = ap (λ e. in_turn e 2) (h Funcs)
space_numbered m h Globals = ap (λ e. in_turn e 1) (h Globals)
space_numbered m h Memories = ap (λ e. in_turn e 1) (h Memories)
space_numbered m h Elements = ap (λ e. in_turn e 1) (h Elements)
space_numbered m h Data = ap (λ e. insert e 0 0) (h Data) ∙ ap (λ n. insert empty 0 n) (sym (len-empty nat_cmp ℕ))
space_numbered m h Tags = ap (λ e. in_turn e 2) (h Tags)

-- the result for an id that has this number in its space
abbrev given_as : Space → Option ℕ → Result ℕ EmitError
given_as space o = with_fault Index (some_or o (Unnumbered space) >>= fitting_number (Unnumbered space))

few_ids : (space : Space) → length (ids_in demo_indices space) ≤ 4
few_ids Tables = omega arith
few_ids Types = omega arith
few_ids Funcs = omega arith
few_ids Globals = omega arith
few_ids Memories = omega arith
few_ids Elements = omega arith
few_ids Data = omega arith
few_ids Tags = omega arith

by_test : (space : Space) (id count : ℕ) (below : Bool) → count ≤ 4 → nat_lt id count ≡ below →
    given_as space (if below then Some id else None) ≡ (if below then Ok id else Err (Index (Unnumbered space)))
by_test space id count true few e =
    let small : id < 2 ^ 32 = omega (arith, ltb-true id count e) in
    ap (λ b. with_fault Index (unless b (Unnumbered space) >>= λ u. Ok id)) (lt-ltb id (2 ^ 32) small)
by_test space id count false few e = refl

number_is : (m : IdsToIndices) → IsEmptyMap m → (space : Space) (id : ℕ) → given_as space (get (numbers_in (all_numbered m) space) id) ≡ demo_numbers.number_of space id
number_is m h space id =
    let count = length (ids_in demo_indices space) in
    ap (λ e. given_as space (get e id)) (space_numbered m h space)
    ∙ (ap (given_as space) ((itself count).gets_itself id) ∙ by_test space id count (nat_lt id count) (few_ids space) refl)

same_numbers : (f g : Space → ℕ → Result ℕ EmitError) → ((space : Space) (id : ℕ) → f space id ≡ g space id) → f ≡ g
same_numbers f g h = fun_ext (λ space. fun_ext (λ id. h space id))

abbrev no_local : Option ℕ → Result ℕ EmitError
no_local o = some_or o UnnumberedLocal >>= fitting_number UnnumberedLocal

none_numbered : (id : ℕ) → no_local (get (from_entries {R = nat_cmp} []) id) ≡ Err UnnumberedLocal
none_numbered id = let none : get (from_entries {R = nat_cmp} []) id ≡ None = grind (gets, rules) in ap no_local none

all_are_demo : (m : IdsToIndices) → IsEmptyMap m → numbers_by demo_types (all_numbered m) [] ≡ demo_numbers
all_are_demo m h = λ i. record { number_of = same_numbers _ _ (number_is m h) i; local_number = λ id. none_numbered id i; balanced = demo_numbers.balanced }

-- ids that were numbered in three steps
pub demo_numbers_are : (m n o p : IdsToIndices) → IsEmptyMap m → n ≡ types_numbered m → o ≡ functions_numbered n → p ≡ storage_numbered o → numbers_by demo_types p [] ≡ demo_numbers
demo_numbers_are m n o p none types functions storage =
    ap (λ q. numbers_by demo_types q []) (storage ∙ ap storage_numbered (functions ∙ ap functions_numbered types)) ∙ all_are_demo m none
