-- Segments, as views of a module that was read (WebAssembly core specification 3.0, binary format, element section and data section).
use Rattle.std.specs.Prelude.{◌≡◌, ◌<◌, ◌+◌, ◌==◌, ◌%◌, ℕ, nat_le, Bool, true, false, if◌then◌else◌, List, option_map, Option, Some, None, Result, Ok, Err}
use Rattle.wasm_types.specs.declared.val_type.ValType.{ValType}
use Rattle.wasm_sections.specs.declared.fault.ModuleError.{ModuleError}
use Rattle.wasm_sections.specs.Format.{reference_part, constant_part, flags_up_to, element_kind_byte, element_part}
use Rattle.wasm_sections.specs.Parts.{Part, just, ◌>=>◌, checked, repeated, extent, number, one_byte, bytes_part}
use Rattle.wasm_sections.specs.Views.{TakesItem}
use Rattle.module_items.specs.declared.data.ActiveSegment.{ActiveSegment}
use Rattle.module_items.specs.declared.data.DataSegment.{DataSegment}
use Rattle.module_items.specs.declared.data.DataSegments.{DataSegments}
use Rattle.module_items.specs.declared.elements.Element.{Element}
use Rattle.module_items.specs.declared.elements.Element.TheVariants.{Function, Expression}
use Rattle.module_items.specs.declared.elements.Elements.{Elements}
use Rattle.module_items.specs.declared.elements.ElementSegment.{ElementSegment}
use Rattle.module_items.specs.declared.elements.ElementSegments.{ElementSegments}

-- ---- active segments: the index of the memory or table, and the bytes of the offset, a constant expression

abbrev pub target_index : (is_named : Bool) → Part ℕ
target_index true = number
target_index false = just 0

abbrev pub target_part : (is_active is_named : Bool) → Part (Option (ℕ × List ℕ))
target_part false is_named = just None
target_part true is_named = target_index is_named >=> λ index. constant_part >=> λ offset. just (Some (index, offset))

abbrev pub active_value : ActiveSegment → ℕ × List ℕ
active_value a = (a.index, a.offset.now)

-- ---- data segments

-- a data segment: where it is written, and its bytes
abbrev pub data_part : Part (Option (ℕ × List ℕ) × List ℕ)
data_part =
    checked number (flags_up_to 2) >=> λ flags. target_part (if flags == 1 then false else true) (flags == 2) >=> λ target.
    bytes_part >=> λ bytes. just (target, bytes)

abbrev pub data_value : DataSegment → Option (ℕ × List ℕ) × List ℕ
data_value s = (option_map active_value s.active, s.bytes.now)

abbrev pub TakesData : DataSegments → Option (Result DataSegment ModuleError) → DataSegments → Type 0
TakesData s o t = TakesItem data_part data_value (λ x. x.at) s.items o t.items

-- ---- element segments

-- the type of its elements, if it is said
abbrev pub said_type : (is_type : Bool) → Part (Option (ValType ℕ))
said_type true = reference_part >=> λ type. just (Some type)
said_type false = checked one_byte element_kind_byte >=> λ u. just None

abbrev pub type_part : (flags : ℕ) → Part (Option (ValType ℕ))
type_part flags = if (flags % 4) == 0 then just None else said_type (nat_le 4 flags)

-- the elements: how many, and their bytes
abbrev pub all_elements : (are_expressions : Bool) → Part (ℕ × List ℕ)
all_elements are_expressions =
    number >=> λ count. extent (repeated (λ u. element_part are_expressions) count tt) >=> λ bytes. just (count, bytes)

pub record ElementSegmentValue : Type 0 where
  pub is_declared : Bool
  pub target : Option (ℕ × List ℕ)
  pub type : Option (ValType ℕ)
  pub are_expressions : Bool
  pub count : ℕ
  pub bytes : List ℕ

-- An element segment. By its flags, bit 0 is clear in active ones, of which those with bit 1 name their table; bits 0 and 1 are set in
-- those that only declare functions; and from bit 2 on elements are expressions.
abbrev pub element_segment : Part ElementSegmentValue
element_segment =
    checked number (flags_up_to 7) >=> λ flags. target_part ((flags % 2) == 0) ((flags % 4) == 2) >=> λ target.
    type_part flags >=> λ type. all_elements (nat_le 4 flags) >=> λ elements.
    just
    (record {
      is_declared = (flags % 4) == 3;
      target = target;
      type = type;
      are_expressions = nat_le 4 flags;
      count = elements.0;
      bytes = elements.1;
    })

abbrev pub segment_value : ElementSegment → ElementSegmentValue
segment_value s =
    record {
      is_declared = s.is_declared;
      target = option_map active_value s.active;
      type = s.ty;
      are_expressions = s.elements.are_expressions;
      count = s.elements.items.count;
      bytes = s.elements.items.left.rest.now;
    }

abbrev pub TakesSegment : ElementSegments → Option (Result ElementSegment ModuleError) → ElementSegments → Type 0
TakesSegment s o t = TakesItem element_segment segment_value (λ x. x.at) s.items o t.items

-- ---- elements, one by one

-- an element: the index of a function, or an expression, as its bytes
pub data ElementValue : Type 0 where
  TheFunction : (index : ℕ) → ElementValue
  TheExpression : (bytes : List ℕ) → ElementValue

abbrev pub one_element : (are_expressions : Bool) → Part ElementValue
one_element false = number >=> λ index. just (TheFunction index)
one_element true = constant_part >=> λ bytes. just (TheExpression bytes)

abbrev pub element_value : Element → ElementValue
element_value (Function index) = TheFunction index
element_value (Expression bytes) = TheExpression bytes.now

-- An element is taken from those that are left, if there is one. Or these bytes begin with none: this is the first fault, and then none is
-- left.
abbrev pub TakesElement : Elements → Option (Result Element ModuleError) → Elements → Type 0
TakesElement s None t = s.items.count ≡ 0
TakesElement s (Some (Err e)) t =
    (one_element s.are_expressions s.items.left.end s.items.left.rest.now ≡ Err e) × (0 < s.items.count) × (t.items.count ≡ 0)
TakesElement s (Some (Ok x)) t =
    (one_element s.are_expressions s.items.left.end s.items.left.rest.now ≡ Ok (element_value x, t.items.left.rest.now))
    × (t.are_expressions ≡ s.are_expressions) × (t.items.left.end ≡ s.items.left.end) × (s.items.count ≡ t.items.count + 1)
