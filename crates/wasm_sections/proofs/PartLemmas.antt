-- Parts of a module: what follows a part is an end of its bytes.
use Rattle.std.proofs.Common.{◌≡◌, ℕ, ◌==◌, ◌&&◌, ◌%◌, nat_le, if◌then◌else◌, Bool, true, false, cond, IsUtf8, List, [], ◌∷◌, ◌++◌, Option, Some, None, Result, Ok, Err, refl, sym, ap, ◌∙◌, append_assoc}
use Rattle.std.proofs.lemmas.Str.{is_utf8-from_IsUtf8, IsUtf8-from_is_utf8}
use Rattle.std.specs.Str.{is_utf8}
use Rattle.wasm_numbers.proofs.ResultLemmas.{bind_ok, with_fault_ok}
use Rattle.wasm_numbers.specs.Numbers.{u32, u64, unsigned}
use Rattle.wasm_numbers.specs.Reading.{Reader}
use Rattle.wasm_numbers.specs.Results.{◌>>=◌, with_fault}
use Rattle.wasm_types.specs.declared.val_type.ValType.{ValType}
use Rattle.wasm_operators.specs.Types.{value_type}
use Rattle.wasm_sections.specs.declared.fault.ModuleError.{ModuleError}
use Rattle.wasm_sections.specs.declared.fault.ModuleFault.{ModuleFault}
use Rattle.wasm_sections.specs.declared.fault.ModuleFault.TheVariants as fault
use Rattle.wasm_sections.specs.declared.globals.GlobalType.{GlobalType}
use Rattle.wasm_sections.specs.declared.limits.Limits.{Limits}
use Rattle.wasm_sections.specs.declared.tables.TableType.{TableType}
use Rattle.wasm_sections.specs.Format.{text_if_utf8, name_part, value_part, reference_alone, reference_part, limit_flags, size_part, maximum_part, limits_with, limits_part, is_mutable_by, mutability_part, table_type_part, after_table_mark, front_after, table_front_part, global_type_part, flags_up_to, element_flags_part, element_kind_byte, element_kind_part, element_type_part}
use Rattle.wasm_sections.specs.Parts.{Part, just, ◌>=>◌, checked, item, item_fault, fault_here, number, one_byte, bytes_part}
use Rattle.wasm_sections.proofs.Leaving.{Leaves, integer_leaves, value_type_leaves}

same_pair : {A : Type 0} (x y : A) (text rest : List ℕ) → (let r : Result (A × List ℕ) ModuleError = Ok (x, text) in r) ≡ Ok (y, rest) → ◌≡◌ {A = A × List ℕ} (x, text) (y, rest)
same_pair x y text rest e = cc

not_true : (b : Bool) → (b ≡ true → ⊥) → b ≡ false
not_true true never = absurd (never refl)
not_true false never = refl

-- ---- a value that is turned into another one, or refused

pub checked_ok :
    {A B : Type 0} (part : Part A) (check : A → Result B ModuleFault) (end : ℕ) (text : List ℕ) (x : A) (v : B) (rest : List ℕ) → part end text ≡ Ok (x, rest) →
    check x ≡ Ok v → checked part check end text ≡ Ok (v, rest)
checked_ok {A} {B} part check end text x v rest e h =
    ap (λ (r : Result (A × List ℕ) ModuleError). r >>= λ x. with_fault (fault_here end text) (check x.0) >>= λ v. Ok (v, x.1)) e
    ∙ ap (λ (r : Result B ModuleFault). with_fault (fault_here end text) r >>= λ v. Ok (v, rest)) h

pub checked_fault :
    {A B : Type 0} (part : Part A) (check : A → Result B ModuleFault) (end : ℕ) (text : List ℕ) (x : A) (f : ModuleFault) (rest : List ℕ) →
    part end text ≡ Ok (x, rest) → check x ≡ Err f → checked part check end text ≡ Err (fault_here end text f)
checked_fault {A} {B} part check end text x f rest e h =
    ap (λ (r : Result (A × List ℕ) ModuleError). r >>= λ x. with_fault (fault_here end text) (check x.0) >>= λ v. Ok (v, x.1)) e
    ∙ ap (λ (r : Result B ModuleFault). with_fault (fault_here end text) r >>= λ v. Ok (v, rest)) h

-- names

pub is_name : (end : ℕ) (text name rest : List ℕ) → bytes_part end text ≡ Ok (name, rest) → IsUtf8 name → name_part end text ≡ Ok (name, rest)
is_name end text name rest e u =
    checked_ok bytes_part text_if_utf8 end text name name rest e
    (ap (λ (b : Bool). cond b (let r : Result (List ℕ) ModuleFault = Ok name in r) (Err fault.BadName)) (is_utf8-from_IsUtf8 name u))

pub is_no_name :
    (end : ℕ) (text bytes rest : List ℕ) → bytes_part end text ≡ Ok (bytes, rest) → (IsUtf8 bytes → ⊥) → name_part end text ≡ Err (fault_here end text fault.BadName)
is_no_name end text bytes rest e never =
    let not : is_utf8 bytes ≡ false = not_true (is_utf8 bytes) (λ t. never (IsUtf8-from_is_utf8 bytes t)) in
    checked_fault bytes_part text_if_utf8 end text bytes fault.BadName rest e
    (ap (λ (b : Bool). cond b (let r : Result (List ℕ) ModuleFault = Ok bytes in r) (Err fault.BadName)) not)

-- ---- what follows a part

-- the bytes that follow the value of a part are the last ones
abbrev pub EndFollows : {A : Type 0} → Part A → Type 0
EndFollows {A} part = (end : ℕ) (text : List ℕ) (x : A) (rest : List ℕ) → part end text ≡ Ok (x, rest) → (front : List ℕ) × (text ≡ front ++ rest)

given_follows : {A : Type 0} (x : A) → EndFollows (just x)
given_follows {A} x end text y rest e = ([], ap (λ (p : A × List ℕ). p.1) (same_pair x y text rest e))

byte_follows : EndFollows one_byte
byte_follows end [] x rest e = absurd cc
byte_follows end (b ∷ bs) x rest e = (b ∷ [], ap (λ (l : List ℕ). b ∷ l) (ap (λ (p : ℕ × List ℕ). p.1) (same_pair b x bs rest e)))

item_follows : {A : Type 0} (read : Reader A) → Leaves read → EndFollows (item read)
item_follows read leaves end text x rest e = leaves text x rest (with_fault_ok (item_fault end text) (read text) (x, rest) e)

checked_follows : {A B : Type 0} (part : Part A) (check : A → Result B ModuleFault) → EndFollows part → EndFollows (checked part check)
checked_follows {A} {B} part check follows end text x rest e =
    let a = bind_ok (part end text) (λ x. with_fault (fault_here end text) (check x.0) >>= λ v. Ok (v, x.1)) (x, rest) e in
    let b = bind_ok (with_fault (fault_here end text) (check a.0.0)) (λ v. Ok (v, a.0.1)) (x, rest) a.2 in
    let front = follows end text a.0.0 a.0.1 a.1 in
    (front.0, front.1 ∙ ap (λ (p : B × List ℕ). front.0 ++ p.1) (same_pair b.0 x a.0.1 rest b.2))

then_follows : {A B : Type 0} (first : Part A) (second : A → Part B) → EndFollows first → ((x : A) → EndFollows (second x)) → EndFollows (first >=> second)
then_follows first second f g end text x rest e =
    let a = bind_ok (first end text) (λ x. second x.0 end x.1) (x, rest) e in
    let front = f end text a.0.0 a.0.1 a.1 in
    let middle = g a.0.0 end a.0.1 x rest a.2 in
    (front.0 ++ middle.0, front.1 ∙ ap (λ (l : List ℕ). front.0 ++ l) middle.1 ∙ sym (append_assoc front.0 middle.0 rest))

pub global_type_follows : EndFollows global_type_part
global_type_follows =
    then_follows value_part (λ value. mutability_part >=> λ m. just (record { value = value; is_mutable = m })) (item_follows value_type value_type_leaves)
    (λ value. then_follows mutability_part (λ m. just (record { value = value; is_mutable = m })) (checked_follows one_byte is_mutable_by byte_follows)
    (λ m. given_follows {A = GlobalType} (record { value = value; is_mutable = m })))

-- ---- tables

number_follows : EndFollows number
number_follows = item_follows u32 (integer_leaves unsigned 32)

size_follows : (is_64 : Bool) → EndFollows (size_part is_64)
size_follows true = item_follows u64 (integer_leaves unsigned 64)
size_follows false = number_follows

maximum_follows : (has_max is_64 : Bool) → EndFollows (maximum_part has_max is_64)
maximum_follows false is_64 = given_follows {A = Option ℕ} None
maximum_follows true is_64 =
    then_follows (size_part is_64) (λ max. just (Some max)) (size_follows is_64) (λ max. given_follows {A = Option ℕ} (Some max))

limits_follow : EndFollows limits_part
limits_follow =
    then_follows (checked one_byte limit_flags) limits_with (checked_follows one_byte limit_flags byte_follows)
    (λ flags.
    let limits : (min : ℕ) → (max : Option ℕ) → Limits = λ min max. record { min = min; max = max; is_shared = flags.1; is_64 = flags.2 } in
    then_follows (size_part flags.2) (λ min. maximum_part flags.0 flags.2 >=> λ max. just (limits min max)) (size_follows flags.2)
    (λ min. then_follows (maximum_part flags.0 flags.2) (λ max. just (limits min max)) (maximum_follows flags.0 flags.2)
    (λ max. given_follows {A = Limits} (limits min max))))

reference_follows : EndFollows reference_part
reference_follows = checked_follows value_part reference_alone (item_follows value_type value_type_leaves)

table_type_follows : EndFollows table_type_part
table_type_follows =
    then_follows reference_part (λ element. limits_part >=> λ limits. just (record { element = element; limits = limits })) reference_follows
    (λ element. then_follows limits_part (λ limits. just (record { element = element; limits = limits })) limits_follow
    (λ limits. given_follows {A = TableType} (record { element = element; limits = limits })))

-- a table's type, and a value that takes no bytes
typed_follows : (b : Bool) → EndFollows (table_type_part >=> λ type. just b)
typed_follows b = then_follows table_type_part (λ type. just b) table_type_follows (λ type. given_follows {A = Bool} b)

some_after : (b : Bool) (bytes marked : List ℕ) → cond b (let r : Option (List ℕ) = Some bytes in r) None ≡ Some marked → bytes ≡ marked
some_after true bytes marked e = cc
some_after false bytes marked e = absurd cc

mark_follows : (text marked : List ℕ) → after_table_mark text ≡ Some marked → (front : List ℕ) × (text ≡ front ++ marked)
mark_follows [] marked e = absurd cc
mark_follows (b ∷ []) marked e = absurd cc
mark_follows (b ∷ c ∷ bytes) marked e =
    (b ∷ c ∷ [], ap (λ (l : List ℕ). b ∷ c ∷ l) (some_after ((b == 0x40) && (c == 0x00)) bytes marked e))

front_follows :
    (after : Option (List ℕ)) (end : ℕ) (text : List ℕ) (b : Bool) (rest : List ℕ) →
    ((marked : List ℕ) → after ≡ Some marked → (front : List ℕ) × (text ≡ front ++ marked)) → front_after after end text ≡ Ok (b, rest) →
    (front : List ℕ) × (text ≡ front ++ rest)
front_follows None end text b rest mark e = typed_follows false end text b rest e
front_follows (Some marked) end text b rest mark e =
    let first = mark marked refl in
    let second = typed_follows true end marked b rest e in
    (first.0 ++ second.0, first.1 ∙ ap (λ (l : List ℕ). first.0 ++ l) second.1 ∙ sym (append_assoc first.0 second.0 rest))

pub table_front_follows : EndFollows table_front_part
table_front_follows end text b rest e = front_follows (after_table_mark text) end text b rest (mark_follows text) e

-- ---- element segments

either_follows : {A : Type 0} (b : Bool) (first second : Part A) → EndFollows first → EndFollows second → EndFollows (if b then first else second)
either_follows true first second f g = f
either_follows false first second f g = g

pub element_flags_follow : EndFollows element_flags_part
element_flags_follow =
    then_follows (checked number (flags_up_to 7)) (λ flags. if (flags % 4) == 2 then (number >=> λ table. just flags) else just flags)
    (checked_follows number (flags_up_to 7) number_follows)
    (λ flags.
    either_follows ((flags % 4) == 2) (number >=> λ table. just flags) (just flags)
    (then_follows number (λ table. just flags) number_follows (λ table. given_follows {A = ℕ} flags)) (given_follows {A = ℕ} flags))

element_kind_follows : (is_type : Bool) → EndFollows (element_kind_part is_type)
element_kind_follows true = then_follows reference_part (λ x. just tt) reference_follows (λ x. given_follows {A = Unit {0}} tt)
element_kind_follows false = checked_follows one_byte element_kind_byte byte_follows

pub element_type_follows : (flags : ℕ) → EndFollows (element_type_part flags)
element_type_follows flags =
    either_follows ((flags % 4) == 0) (just tt) (element_kind_part (nat_le 4 flags)) (given_follows {A = Unit {0}} tt)
    (element_kind_follows (nat_le 4 flags))

-- ---- the place where a part ends

-- a part that is there is the same one, wherever the bytes end
abbrev pub AtAnyEnd : {A : Type 0} → Part A → Type 0
AtAnyEnd {A} part = (a b : ℕ) (text : List ℕ) (x : A) (rest : List ℕ) → part a text ≡ Ok (x, rest) → part b text ≡ Ok (x, rest)

pub byte_anywhere : AtAnyEnd one_byte
byte_anywhere a b [] x rest e = absurd cc
byte_anywhere a b (c ∷ cs) x rest e = e

pub item_anywhere : {A : Type 0} (read : Reader A) → AtAnyEnd (item read)
item_anywhere {A} read a b text x rest e = ap (with_fault (item_fault b text)) (with_fault_ok (item_fault a text) (read text) (x, rest) e)

pub checked_anywhere : {A B : Type 0} (part : Part A) (check : A → Result B ModuleFault) → AtAnyEnd part → AtAnyEnd (checked part check)
checked_anywhere {A} {B} part check f a b text x rest e =
    let p = bind_ok (part a text) (λ x. with_fault (fault_here a text) (check x.0) >>= λ v. Ok (v, x.1)) (x, rest) e in
    let q = bind_ok (with_fault (fault_here a text) (check p.0.0)) (λ v. Ok (v, p.0.1)) (x, rest) p.2 in
    checked_ok part check b text p.0.0 q.0 p.0.1 (f a b text p.0.0 p.0.1 p.1) (with_fault_ok (fault_here a text) (check p.0.0) q.0 q.1) ∙ q.2

pub reference_anywhere : AtAnyEnd reference_part
reference_anywhere = checked_anywhere value_part reference_alone (item_anywhere value_type)

element_kind_anywhere : (is_type : Bool) → AtAnyEnd (element_kind_part is_type)
element_kind_anywhere true a b text x rest e =
    let p = bind_ok (reference_part a text) (λ x. just tt a x.1) (x, rest) e in
    ap (λ (r : Result (ValType ℕ × List ℕ) ModuleError). r >>= λ x. just tt b x.1) (reference_anywhere a b text p.0.0 p.0.1 p.1) ∙ p.2
element_kind_anywhere false a b text x rest e = checked_anywhere one_byte element_kind_byte byte_anywhere a b text x rest e

pub either_anywhere : {A : Type 0} (c : Bool) (first second : Part A) → AtAnyEnd first → AtAnyEnd second → AtAnyEnd (if c then first else second)
either_anywhere true first second f g = f
either_anywhere false first second f g = g

pub element_type_anywhere : (flags : ℕ) → AtAnyEnd (element_type_part flags)
element_type_anywhere flags =
    either_anywhere ((flags % 4) == 0) (just tt) (element_kind_part (nat_le 4 flags)) (λ a b text x rest e. e)
    (element_kind_anywhere (nat_le 4 flags))
