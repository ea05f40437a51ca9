-- Steps of the parts of a type section.
use Rattle.std.proofs.Common.{◌≡◌, ℕ, ◌+◌, ◌-◌, ◌<◌, ◌≤◌, List, [], ◌∷◌, ◌++◌, length, Option, Some, None, Result, Ok, Err, refl, sym, ap, ◌∙◌, inl, inr, arith, length-append}
use Rattle.std.specs.Prelude.{map}
use Rattle.std.proofs.lemmas.List.{map-append}
use Rattle.wasm_numbers.specs.Results.{◌>>=◌, with_fault}
use Rattle.wasm_sections.specs.declared.fault.ModuleError.{ModuleError}
use Rattle.wasm_sections.specs.declared.fault.ModuleFault.{ModuleFault}
use Rattle.wasm_sections.specs.declared.fault.ModuleFault.TheVariants as fault
use Rattle.wasm_sections.specs.Parts.{Part, fault_here, ◌>=>◌, checked, one_byte, number, repeated, vector_of}
use Rattle.wasm_sections.proofs.TypeReadingLemmas.{first_gives, first_fails, FailsUnlessMemory, next_of, repeated_none, vector_next, vector_fault}
use Rattle.module_context.specs.TypeSections.{only_supertype}
use Rattle.module_context.specs.InvalidFaults.{invalid_type}

-- ---- one part after another

-- what follows a part that is there
pub after_first :
    {A B : Type 0} (first : Part A) (second : A → Part B) (x : A) (end at : ℕ) (text rest : List ℕ) → first end text ≡ Ok (x, rest) → at ≡ end →
    (first >=> second) end text ≡ second x at rest
after_first first second x end at text rest e a =
    first_gives (first end text) (λ y. second y.0 end y.1) (x, rest) e ∙ ap (λ (k : ℕ). second x k rest) (sym a)

-- a part that fails
pub no_first :
    {A B : Type 0} (first : Part A) (second : A → Part B) (end : ℕ) (text : List ℕ) (e : ModuleError) → first end text ≡ Err e → (first >=> second) end text ≡ Err e
no_first first second end text e h = first_fails (first end text) (λ y. second y.0 end y.1) e h

-- ---- vectors of what the code has otherwise

pub one_more_mapped :
    {X Y : Type 0} (f : X → Y) (xs ys : List X) (x : X) → ys ≡ xs ++ x ∷ [] → map f ys ≡ map f xs ++ f x ∷ []
one_more_mapped f xs ys x e = ap (map f) e ∙ map-append f xs (x ∷ [])

-- an item of a vector that isn't read
pub vector_fails :
    {A : Type 0} (part : Part A) (whole : Result (List A × List ℕ) ModuleError) (n i : ℕ) (xs : List A) (end : ℕ) (text : List ℕ) (e : ModuleError) → i < n →
    whole ≡ repeated (next_of part) (n - i) xs end text → FailsUnlessMemory e (part end text) → FailsUnlessMemory e whole
vector_fails part whole n i xs end text e less so (inl m) = inl m
vector_fails part whole n i xs end text e less so (inr h) = inr (so ∙ vector_fault part n i xs end text e less h)

-- ---- a byte that says what follows

pub byte_first :
    {A : Type 0} (check : ℕ → Result ℕ ModuleFault) (second : ℕ → Part A) (end at b c : ℕ) (text rest : List ℕ) → one_byte end text ≡ Ok (b, rest) → b ≡ c → check c ≡ Ok c →
    at ≡ end → (checked one_byte check >=> second) end text ≡ second c at rest
byte_first check second end at b c text rest e is good a =
    let byte : one_byte end text ≡ Ok (c, rest) = e ∙ ap (λ (k : ℕ). Ok (k, rest)) is in
    after_first (checked one_byte check) second c end at text rest
    (first_gives (one_byte end text) (λ x. with_fault (fault_here end text) (check x.0) >>= λ v. Ok (v, x.1)) (c, rest) byte
    ∙ ap (λ (r : Result ℕ ModuleFault). with_fault (fault_here end text) r >>= λ v. Ok (v, rest)) good)
    a

-- ---- supertypes

-- the supertypes that a loop has read so far, of which the last is known; those of the other steps are left
pub record SupertypesSoFar (whole : Result (List ℕ × List ℕ) ModuleError) (left done : ℕ) (last : Option ℕ) (end : ℕ) (rest : List ℕ) : Type 0 where
  pub indices : List ℕ
  pub count_is : length indices ≡ done
  pub last_is : length indices ≤ 1 → only_supertype indices ≡ Ok last
  pub whole_is : whole ≡ repeated (next_of number) left indices end rest

pub no_supertype :
    (end at : ℕ) (text rest : List ℕ) (count : ℕ) → number end text ≡ Ok (count, rest) → at ≡ end →
    SupertypesSoFar (vector_of number end text) (count - 0) 0 None at rest
no_supertype end at text rest count e a = record {
  indices = [];
  count_is = refl;
  last_is = λ few. refl;
  whole_is =
      let all : count ≡ count - 0 = omega arith in
      after_first number (λ n. repeated (next_of number) n []) count end at text rest e a ∙ ap (λ (n : ℕ). repeated (next_of number) n [] at rest) all;
}

only_one : (xs : List ℕ) (x : ℕ) → length (xs ++ x ∷ []) ≤ 1 → only_supertype (xs ++ x ∷ []) ≡ Ok (Some x)
only_one [] x few = refl
only_one (y ∷ ys) x few = absurd (let long = length-append ys (x ∷ []) in omega arith)

pub too_many : (xs : List ℕ) → 1 < length xs → only_supertype xs ≡ Err invalid_type
too_many [] many = absurd (omega arith)
too_many (x ∷ []) many = absurd (omega arith)
too_many (x ∷ y ∷ ys) many = refl

pub one_supertype :
    (whole : Result (List ℕ × List ℕ) ModuleError) (n i : ℕ) (last : Option ℕ) (end other : ℕ) (text rest : List ℕ) (x : ℕ) → i < n →
    SupertypesSoFar whole (n - i) i last end text → number end text ≡ Ok (x, rest) → other ≡ end →
    SupertypesSoFar whole (n - (i + 1)) (i + 1) (Some x) other rest
one_supertype whole n i last end other text rest x less so e o = record {
  indices = so.indices ++ x ∷ [];
  count_is = let long = length-append so.indices (x ∷ []) in let done = so.count_is in omega arith;
  last_is = λ few. only_one so.indices x few;
  whole_is = so.whole_is ∙ vector_next number n i so.indices (so.indices ++ x ∷ []) x end other text rest less e refl o;
}

-- all are read: at most one, or more
pub supertypes_read :
    (end at : ℕ) (text rest : List ℕ) (n i : ℕ) (last : Option ℕ) → n ≤ i → i ≤ n → n ≤ 1 →
    SupertypesSoFar (vector_of number end text) (n - i) i last at rest → checked (vector_of number) only_supertype end text ≡ Ok (last, rest)
supertypes_read end at text rest n i last done most few so =
    let count = so.count_is in
    first_gives (vector_of number end text) (λ x. with_fault (fault_here end text) (only_supertype x.0) >>= λ v. Ok (v, x.1)) (so.indices, rest)
    (so.whole_is ∙ repeated_none (next_of number) n i so.indices at rest done)
    ∙ ap (λ (r : Result (Option ℕ) ModuleFault). with_fault (fault_here end text) r >>= λ v. Ok (v, rest)) (so.last_is (omega arith))

pub supertypes_refused :
    (end at : ℕ) (text rest : List ℕ) (n i : ℕ) (last : Option ℕ) → n ≤ i → 1 < n →
    SupertypesSoFar (vector_of number end text) (n - i) i last at rest → checked (vector_of number) only_supertype end text ≡ Err (fault_here end text invalid_type)
supertypes_refused end at text rest n i last done many so =
    let count = so.count_is in
    first_gives (vector_of number end text) (λ x. with_fault (fault_here end text) (only_supertype x.0) >>= λ v. Ok (v, x.1)) (so.indices, rest)
    (so.whole_is ∙ repeated_none (next_of number) n i so.indices at rest done)
    ∙ ap (λ (r : Result (Option ℕ) ModuleFault). with_fault (fault_here end text) r >>= λ v. Ok (v, rest)) (too_many so.indices (omega arith))

pub supertype_fails :
    (end at : ℕ) (text rest : List ℕ) (n i : ℕ) (last : Option ℕ) (e : ModuleError) → i < n →
    SupertypesSoFar (vector_of number end text) (n - i) i last at rest → number at rest ≡ Err e → checked (vector_of number) only_supertype end text ≡ Err e
supertype_fails end at text rest n i last e less so h =
    first_fails (vector_of number end text) (λ x. with_fault (fault_here end text) (only_supertype x.0) >>= λ v. Ok (v, x.1)) e
    (so.whole_is ∙ vector_fault number n i so.indices at rest e less h)
