-- Parts of a module at another place of the file: a part that is there is the same one, wherever its bytes end.
use Rattle.std.proofs.Common.{◌≡◌, ◌==◌, ◌%◌, ℕ, zero, suc, ◌-◌, nat_le, if◌then◌else◌, Bool, true, false, List, [], ◌∷◌, ◌++◌, length, take, drop, Option, Some, None, Result, Ok, Err, ap, ◌∙◌}
use Rattle.wasm_numbers.proofs.ResultLemmas.{bind_ok, with_fault_ok}
use Rattle.wasm_numbers.specs.Numbers.{u32, u64}
use Rattle.wasm_numbers.specs.Reading.{starts}
use Rattle.wasm_numbers.specs.Results.{◌>>=◌, with_fault}
use Rattle.walrus_ir.specs.Types.{ModuleType, Func, Other}
use Rattle.wasm_operators.specs.declared.types.Space.{Space}
use Rattle.wasm_operators.specs.declared.types.Space.TheVariants as spaces
use Rattle.wasm_operators.specs.Spelling.{read_operation}
use Rattle.wasm_operators.specs.Types.{value_type}
use Rattle.wasm_sections.specs.declared.fault.ModuleError.{ModuleError}
use Rattle.wasm_sections.specs.declared.fault.ModuleFault.TheVariants as fault
use Rattle.wasm_sections.specs.declared.globals.GlobalType.{GlobalType}
use Rattle.wasm_sections.specs.declared.imports.Imported.TheVariants as imported
use Rattle.wasm_sections.specs.declared.limits.Limits.{Limits}
use Rattle.wasm_sections.specs.declared.tables.TableType.{TableType}
use Rattle.wasm_sections.specs.Format.{text_if_utf8, name_part, value_part, reference_part, limit_flags, size_part, maximum_part, limits_with, limits_part, is_mutable_by, mutability_part, operator_part, ends_constant, operators_part, constant_part, table_type_part, after_table_mark, initialized_part, table_after, table_part, global_type_part, global_part, tag_attribute, tag_part, imported_of, import_kind, imported_part, export_space, index_among, index_part, known_export_part, flags_up_to, element_flags_part, element_offset_part, element_type_part, element_part, elements_part, before_elements_part, element_segment_part, data_memory_part, data_offset_part, data_segment_part, type_below, value_below, is_packed_byte, storage_part, field_part, composite_byte, composite_after, composite_part, has_supertypes, supertypes_part, subtype_part, members_part, next_type, next_group, types_part}
use Rattle.wasm_sections.specs.Parts.{Part, just, ◌>=>◌, passed, checked, repeated, no_more, whole_part, extent, fault_here, number, one_byte, piece, bytes_part, vector_of}
use Rattle.wasm_sections.proofs.PartLemmas.{AtAnyEnd, byte_anywhere, item_anywhere, checked_anywhere, reference_anywhere, either_anywhere, element_type_anywhere}
use Rattle.wasm_sections.proofs.TypeReadingLemmas.{first_gives}

-- ---- the ways to combine parts

pub just_anywhere : {A : Type 0} (x : A) → AtAnyEnd (just x)
just_anywhere x a b text y rest e = e

pub then_anywhere : {A B : Type 0} (first : Part A) (second : A → Part B) → AtAnyEnd first → ((x : A) → AtAnyEnd (second x)) → AtAnyEnd (first >=> second)
then_anywhere first second f g a b text x rest e =
    let p = bind_ok (first a text) (λ y. second y.0 a y.1) (x, rest) e in
    first_gives (first b text) (λ y. second y.0 b y.1) p.0 (f a b text p.0.0 p.0.1 p.1) ∙ g p.0.0 a b p.0.1 x rest p.2

-- a part, and a value that is made from its value
pub made_anywhere : {A B : Type 0} (first : Part A) (make : A → B) → AtAnyEnd first → AtAnyEnd (first >=> λ x. just (make x))
made_anywhere first make f = then_anywhere first (λ x. just (make x)) f (λ x. just_anywhere (make x))

pub passed_anywhere : {A : Type 0} (part : Part A) → AtAnyEnd part → AtAnyEnd (passed part)
passed_anywhere part f = made_anywhere part (λ x. tt) f

-- the one or the other, by a test of the bytes
pub chosen_anywhere :
    {A : Type 0} (c : Bool) (first second : Part A) → AtAnyEnd first → AtAnyEnd second → AtAnyEnd (λ end text. if c then first end text else second end text)
chosen_anywhere true first second f g = f
chosen_anywhere false first second f g = g

pub repeated_anywhere : {A : Type 0} (step : A → Part A) → ((x : A) → AtAnyEnd (step x)) → (n : ℕ) (x : A) → AtAnyEnd (repeated step n x)
unfolding repeated
repeated_anywhere step f zero x a b text y rest e = e
repeated_anywhere step f (suc n) x a b text y rest e =
    let p = bind_ok (step x a text) (λ z. repeated step n z.0 a z.1) (y, rest) e in
    first_gives (step x b text) (λ z. repeated step n z.0 b z.1) p.0 (f x a b text p.0.0 p.0.1 p.1) ∙ repeated_anywhere step f n p.0.0 a b p.0.1 y rest p.2

-- a part that is repeated as often as a number says that comes before
pub counted_anywhere :
    {A : Type 0} (counter : Part ℕ) (step : A → Part A) (x : A) → AtAnyEnd counter → ((x : A) → AtAnyEnd (step x)) →
    AtAnyEnd (counter >=> λ n. repeated step n x)
counted_anywhere counter step x c f = then_anywhere counter (λ n. repeated step n x) c (λ n. repeated_anywhere step f n x)

extent_anywhere : {A : Type 0} (part : Part A) → AtAnyEnd part → AtAnyEnd (extent part)
extent_anywhere {A} part f a b text x rest e =
    let taken : A × List ℕ → Result (List ℕ × List ℕ) ModuleError = λ y. Ok (take (length text - length y.1) text, y.1) in
    let p = bind_ok (part a text) taken (x, rest) e in
    first_gives (part b text) taken p.0 (f a b text p.0.0 p.0.1 p.1) ∙ p.2

pub no_more_anywhere : (rest : List ℕ) (a b : ℕ) (u : Unit {0}) → no_more rest a ≡ Ok u → no_more rest b ≡ Ok u
no_more_anywhere [] a b u e = e
no_more_anywhere (c ∷ cs) a b u e = absurd cc

pub whole_anywhere : {A : Type 0} (part : Part A) → AtAnyEnd part → (a b : ℕ) (text : List ℕ) (x : A) → whole_part part a text ≡ Ok x → whole_part part b text ≡ Ok x
whole_anywhere {A} part f a b text x e =
    let p = bind_ok (part a text) (λ y. no_more y.1 a >>= λ u. Ok y.0) x e in
    let q = bind_ok (no_more p.0.1 a) (λ u. Ok p.0.0) x p.2 in
    first_gives (part b text) (λ y. no_more y.1 b >>= λ u. Ok y.0) p.0 (f a b text p.0.0 p.0.1 p.1)
    ∙ first_gives (no_more p.0.1 b) (λ u. Ok p.0.0) q.0 (no_more_anywhere p.0.1 a b q.0 q.1) ∙ q.2

-- ---- numbers, bytes and names

pub number_anywhere : AtAnyEnd number
number_anywhere = item_anywhere u32

fits_anywhere :
    {A : Type 0} (c : Bool) (x y : A) (e f : ModuleError) → (let r : Result A ModuleError = if c then Ok x else Err e in r) ≡ Ok y →
    (let r : Result A ModuleError = if c then Ok x else Err f in r) ≡ Ok y
fits_anywhere true x y e f h = h
fits_anywhere false x y e f h = absurd cc

pub piece_anywhere : (size : ℕ) → AtAnyEnd (piece size)
piece_anywhere size a b text x rest e =
    fits_anywhere (nat_le size (length text)) (take size text, drop size text) (x, rest) (fault_here a text fault.Truncated) (fault_here b text fault.Truncated) e

pub bytes_anywhere : AtAnyEnd bytes_part
bytes_anywhere = then_anywhere number piece number_anywhere piece_anywhere

pub name_anywhere : AtAnyEnd name_part
name_anywhere = checked_anywhere bytes_part text_if_utf8 bytes_anywhere

pub vector_anywhere : {A : Type 0} (part : Part A) → AtAnyEnd part → AtAnyEnd (vector_of part)
vector_anywhere {A} part f =
    let step : List A → Part (List A) = λ xs. part >=> λ x. just (xs ++ x ∷ []) in
    let none : List A = [] in
    counted_anywhere number step none number_anywhere (λ xs. made_anywhere part (λ x. xs ++ x ∷ []) f)

-- ---- types of values, limits, constant expressions

size_anywhere : (is_64 : Bool) → AtAnyEnd (size_part is_64)
size_anywhere true = item_anywhere u64
size_anywhere false = number_anywhere

maximum_anywhere : (has_max is_64 : Bool) → AtAnyEnd (maximum_part has_max is_64)
maximum_anywhere false is_64 = just_anywhere None
maximum_anywhere true is_64 = made_anywhere (size_part is_64) (λ max. Some max) (size_anywhere is_64)

limits_with_anywhere : (flags : Bool × Bool × Bool) → AtAnyEnd (limits_with flags)
limits_with_anywhere flags =
    let limits : ℕ → Option ℕ → Limits = λ min max. record { min = min; max = max; is_shared = flags.1; is_64 = flags.2 } in
    then_anywhere (size_part flags.2) (λ min. maximum_part flags.0 flags.2 >=> λ max. just (limits min max)) (size_anywhere flags.2)
    (λ min. made_anywhere (maximum_part flags.0 flags.2) (limits min) (maximum_anywhere flags.0 flags.2))

pub limits_anywhere : AtAnyEnd limits_part
limits_anywhere = then_anywhere (checked one_byte limit_flags) limits_with (checked_anywhere one_byte limit_flags byte_anywhere) limits_with_anywhere

mutability_anywhere : AtAnyEnd mutability_part
mutability_anywhere = checked_anywhere one_byte is_mutable_by byte_anywhere

operator_anywhere : AtAnyEnd operator_part
operator_anywhere a b text x rest e =
    let here : ℕ → _ → ModuleError = λ end f. fault_here end text (fault.Read f) in
    ap (with_fault (here b)) (with_fault_ok (here a) (read_operation text) (x, rest) e)

operators_anywhere : (most : ℕ) → AtAnyEnd (operators_part most)
unfolding operators_part
operators_anywhere zero a b text x rest e = absurd cc
operators_anywhere (suc n) a b text x rest e =
    let after : ℕ → Bool × List ℕ → Result (Unit {0} × List ℕ) ModuleError = λ end y. if y.0 then Ok (tt, y.1) else operators_part n end y.1 in
    let p = bind_ok (checked operator_part ends_constant a text) (after a) (x, rest) e in
    first_gives (checked operator_part ends_constant b text) (after b) p.0 (checked_anywhere operator_part ends_constant operator_anywhere a b text p.0.0 p.0.1 p.1)
    ∙ chosen_anywhere p.0.0 (just tt) (operators_part n) (just_anywhere tt) (operators_anywhere n) a b p.0.1 x rest p.2

constant_anywhere : AtAnyEnd constant_part
constant_anywhere a b text = extent_anywhere (operators_part (length text)) (operators_anywhere (length text)) a b text

-- ---- tables, globals, tags and imports

table_type_anywhere : AtAnyEnd table_type_part
table_type_anywhere =
    then_anywhere reference_part (λ element. limits_part >=> λ limits. just (record { element = element; limits = limits })) reference_anywhere
    (λ element. let made : Limits → TableType = λ limits. record { element = element; limits = limits } in made_anywhere limits_part made limits_anywhere)

initialized_anywhere : AtAnyEnd initialized_part
initialized_anywhere =
    then_anywhere table_type_part (λ type. constant_part >=> λ initial. just (type, initial)) table_type_anywhere
    (λ type. made_anywhere constant_part (λ initial. (type, initial)) constant_anywhere)

table_after_anywhere : (marked : Option (List ℕ)) → AtAnyEnd (table_after marked)
table_after_anywhere None a b text = made_anywhere table_type_part (λ type. (type, None)) table_type_anywhere a b text
table_after_anywhere (Some marked) a b text = made_anywhere initialized_part (λ x. (x.0, Some x.1)) initialized_anywhere a b marked

pub table_anywhere : AtAnyEnd table_part
table_anywhere a b text = table_after_anywhere (after_table_mark text) a b text

global_type_anywhere : AtAnyEnd global_type_part
global_type_anywhere =
    then_anywhere value_part (λ value. mutability_part >=> λ m. just (record { value = value; is_mutable = m })) (item_anywhere value_type)
    (λ value. let made : Bool → GlobalType = λ m. record { value = value; is_mutable = m } in made_anywhere mutability_part made mutability_anywhere)

pub global_anywhere : AtAnyEnd global_part
global_anywhere =
    then_anywhere global_type_part (λ type. constant_part >=> λ initial. just (type, initial)) global_type_anywhere
    (λ type. made_anywhere constant_part (λ initial. (type, initial)) constant_anywhere)

pub tag_anywhere : AtAnyEnd tag_part
tag_anywhere = then_anywhere (checked one_byte tag_attribute) (λ u. number) (checked_anywhere one_byte tag_attribute byte_anywhere) (λ u. number_anywhere)

imported_of_anywhere : (kind : ℕ) → AtAnyEnd (imported_of kind)
imported_of_anywhere kind =
    either_anywhere (kind == 0) (number >=> λ type. just (imported.Func type)) _ (made_anywhere number (λ type. imported.Func type) number_anywhere)
    (either_anywhere (kind == 1) (table_type_part >=> λ type. just imported.Table) _ (made_anywhere table_type_part (λ type. imported.Table) table_type_anywhere)
    (either_anywhere (kind == 2) (limits_part >=> λ limits. just imported.Memory) _ (made_anywhere limits_part (λ limits. imported.Memory) limits_anywhere)
    (either_anywhere (kind == 3) (global_type_part >=> λ type. just imported.Global) _ (made_anywhere global_type_part (λ type. imported.Global) global_type_anywhere)
    (made_anywhere tag_part (λ type. imported.Tag type) tag_anywhere))))

pub imported_anywhere : AtAnyEnd imported_part
imported_anywhere = then_anywhere (checked one_byte import_kind) imported_of (checked_anywhere one_byte import_kind byte_anywhere) imported_of_anywhere

-- ---- exports

pub index_anywhere : (count : ℕ) (space : Space) → AtAnyEnd (index_part count space)
index_anywhere count space = checked_anywhere number (index_among count space) number_anywhere

pub export_anywhere : (counts : Space → ℕ) → AtAnyEnd (known_export_part counts)
export_anywhere counts =
    then_anywhere name_part (λ name. checked one_byte export_space >=> λ space. index_part (counts space) space) name_anywhere
    (λ name.
    then_anywhere (checked one_byte export_space) (λ space. index_part (counts space) space) (checked_anywhere one_byte export_space byte_anywhere)
    (λ space. index_anywhere (counts space) space))

-- ---- element and data segments

element_flags_anywhere : AtAnyEnd element_flags_part
element_flags_anywhere =
    then_anywhere (checked number (flags_up_to 7)) (λ flags. if (flags % 4) == 2 then (number >=> λ table. just flags) else just flags)
    (checked_anywhere number (flags_up_to 7) number_anywhere)
    (λ flags.
    either_anywhere ((flags % 4) == 2) (number >=> λ table. just flags) (just flags) (made_anywhere number (λ table. flags) number_anywhere) (just_anywhere flags))

skipped_constant : AtAnyEnd (passed constant_part)
skipped_constant = passed_anywhere constant_part constant_anywhere

element_offset_anywhere : (flags : ℕ) → AtAnyEnd (element_offset_part flags)
element_offset_anywhere flags = either_anywhere ((flags % 2) == 0) (passed constant_part) (just tt) skipped_constant (just_anywhere tt)

before_elements_anywhere : AtAnyEnd before_elements_part
before_elements_anywhere =
    then_anywhere element_flags_part (λ flags. element_offset_part flags >=> λ u. element_type_part flags >=> λ u. just flags) element_flags_anywhere
    (λ flags.
    then_anywhere (element_offset_part flags) (λ u. element_type_part flags >=> λ u. just flags) (element_offset_anywhere flags)
    (λ u. made_anywhere (element_type_part flags) (λ u. flags) (element_type_anywhere flags)))

element_anywhere : (are_expressions : Bool) → AtAnyEnd (element_part are_expressions)
element_anywhere true = skipped_constant
element_anywhere false = passed_anywhere number number_anywhere

elements_anywhere : (are_expressions : Bool) → AtAnyEnd (elements_part are_expressions)
elements_anywhere are = counted_anywhere number (λ u. element_part are) tt number_anywhere (λ u. element_anywhere are)

pub element_segment_anywhere : AtAnyEnd element_segment_part
element_segment_anywhere =
    then_anywhere before_elements_part (λ flags. elements_part (nat_le 4 flags)) before_elements_anywhere (λ flags. elements_anywhere (nat_le 4 flags))

data_memory_anywhere : (flags : ℕ) → AtAnyEnd (data_memory_part flags)
data_memory_anywhere flags = either_anywhere (flags == 2) (passed number) (just tt) (passed_anywhere number number_anywhere) (just_anywhere tt)

data_offset_anywhere : (flags : ℕ) → AtAnyEnd (data_offset_part flags)
data_offset_anywhere flags = either_anywhere (flags == 1) (just tt) (passed constant_part) (just_anywhere tt) skipped_constant

pub data_segment_anywhere : AtAnyEnd data_segment_part
data_segment_anywhere =
    then_anywhere (checked number (flags_up_to 2)) (λ flags. data_memory_part flags >=> λ u. data_offset_part flags >=> λ u. bytes_part >=> λ bytes. just tt)
    (checked_anywhere number (flags_up_to 2) number_anywhere)
    (λ flags.
    then_anywhere (data_memory_part flags) (λ u. data_offset_part flags >=> λ u. bytes_part >=> λ bytes. just tt) (data_memory_anywhere flags)
    (λ u.
    then_anywhere (data_offset_part flags) (λ u. bytes_part >=> λ bytes. just tt) (data_offset_anywhere flags)
    (λ u. made_anywhere bytes_part (λ bytes. tt) bytes_anywhere)))

-- ---- the type section

value_below_anywhere : (limit : ℕ) → AtAnyEnd (value_below limit)
value_below_anywhere limit = checked_anywhere value_part (type_below limit) (item_anywhere value_type)

storage_anywhere : (limit : ℕ) → AtAnyEnd (storage_part limit)
storage_anywhere limit a b text =
    chosen_anywhere (starts is_packed_byte text) (passed one_byte) (passed (value_below limit)) (passed_anywhere one_byte byte_anywhere)
    (passed_anywhere (value_below limit) (value_below_anywhere limit)) a b text

field_anywhere : (limit : ℕ) → AtAnyEnd (field_part limit)
field_anywhere limit =
    then_anywhere (storage_part limit) (λ u. mutability_part >=> λ m. just tt) (storage_anywhere limit)
    (λ u. made_anywhere mutability_part (λ m. tt) mutability_anywhere)

composite_after_anywhere : (limit byte : ℕ) → AtAnyEnd (composite_after limit byte)
composite_after_anywhere limit byte =
    let lists : Part ModuleType = vector_of (value_below limit) >=> λ ps. vector_of (value_below limit) >=> λ rs. just (Func ps rs) in
    let values = vector_anywhere (value_below limit) (value_below_anywhere limit) in
    either_anywhere (byte == 0x60) lists _
    (then_anywhere (vector_of (value_below limit)) (λ ps. vector_of (value_below limit) >=> λ rs. just (Func ps rs)) values
    (λ ps. made_anywhere (vector_of (value_below limit)) (λ rs. Func ps rs) values))
    (either_anywhere (byte == 0x5f) (number >=> λ n. repeated (λ u. field_part limit) n tt >=> λ u. just Other) (field_part limit >=> λ u. just Other)
    (then_anywhere number (λ n. repeated (λ u. field_part limit) n tt >=> λ u. just Other) number_anywhere
    (λ n. made_anywhere (repeated (λ u. field_part limit) n tt) (λ u. Other) (repeated_anywhere (λ u. field_part limit) (λ u. field_anywhere limit) n tt)))
    (made_anywhere (field_part limit) (λ u. Other) (field_anywhere limit)))

composite_anywhere : (limit : ℕ) → AtAnyEnd (composite_part limit)
composite_anywhere limit =
    then_anywhere (checked one_byte composite_byte) (composite_after limit) (checked_anywhere one_byte composite_byte byte_anywhere)
    (composite_after_anywhere limit)

supertypes_anywhere : (limit : ℕ) → AtAnyEnd (supertypes_part limit)
supertypes_anywhere limit =
    then_anywhere one_byte (λ byte. number >=> λ n. repeated (λ u. index_part limit spaces.Types) n tt) byte_anywhere
    (λ byte. counted_anywhere number (λ u. index_part limit spaces.Types) tt number_anywhere (λ u. index_anywhere limit spaces.Types))

subtype_anywhere : (limit : ℕ) → AtAnyEnd (subtype_part limit)
subtype_anywhere limit a b text =
    chosen_anywhere (starts has_supertypes text) (supertypes_part limit >=> λ u. composite_part limit) (composite_part limit)
    (then_anywhere (supertypes_part limit) (λ u. composite_part limit) (supertypes_anywhere limit) (λ u. composite_anywhere limit))
    (composite_anywhere limit) a b text

members_anywhere : AtAnyEnd members_part
members_anywhere a b text =
    chosen_anywhere (starts (λ byte. byte == 0x4e) text) (one_byte >=> λ byte. number) (just 1)
    (then_anywhere one_byte (λ byte. number) byte_anywhere (λ byte. number_anywhere)) (just_anywhere 1) a b text

next_type_anywhere : (limit : ℕ) (types : List ModuleType) → AtAnyEnd (next_type limit types)
next_type_anywhere limit types = made_anywhere (subtype_part limit) (λ type. types ++ type ∷ []) (subtype_anywhere limit)

next_group_anywhere : (limit : ℕ) (types : List ModuleType) → AtAnyEnd (next_group limit types)
next_group_anywhere limit types = counted_anywhere members_part (next_type limit) types members_anywhere (next_type_anywhere limit)

pub types_anywhere : (limit : ℕ) → AtAnyEnd (types_part limit)
types_anywhere limit = let none : List ModuleType = [] in counted_anywhere number (next_group limit) none number_anywhere (next_group_anywhere limit)
