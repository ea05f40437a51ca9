-- Reading a type agrees with its encodings.
use Rattle.wasm_numbers.specs.Numbers.{signed}
use Rattle.wasm_operators.specs.Types.{listed, nullable_at, value_at, abstract_heap, concrete_heap, IsHeapType, heap_type, reference, IsValueType, value_type, empty_block, value_block, indexed_block, IsBlockType, block_type}
use Rattle.wasm_numbers.proofs.Agreement.{Agrees, agrees_then, agrees_made, agrees_switch, IsNeverEmpty, then_some, made_some, switch_some}
use Rattle.wasm_numbers.proofs.NumberLaws.{integers_agree, bytes_agree, byte_some, integer_some}

pub heap_types_agree : Agrees IsHeapType heap_type
heap_types_agree =
    agrees_switch _ _ _ _ _ (agrees_made _ _ abstract_heap bytes_agree) (agrees_made _ _ concrete_heap (integers_agree signed 33))
    (made_some _ abstract_heap byte_some) (made_some _ concrete_heap (integer_some signed 33))

pub value_types_agree : Agrees IsValueType value_type
value_types_agree =
    agrees_switch _ _ _ _ _
    (agrees_made _ _ reference (agrees_then _ _ _ _ (agrees_made _ _ (λ b. listed (nullable_at b)) bytes_agree) (λ nullable. heap_types_agree)))
    (agrees_made _ _ (λ b. listed (value_at b)) bytes_agree)
    (made_some _ reference (then_some _ _ (made_some _ (λ b. listed (nullable_at b)) byte_some)))
    (made_some _ (λ b. listed (value_at b)) byte_some)

pub value_some : IsNeverEmpty IsValueType
value_some =
    switch_some _ _ _ (made_some _ reference (then_some _ _ (made_some _ (λ b. listed (nullable_at b)) byte_some))) (made_some _ (λ b. listed (value_at b)) byte_some)

pub block_types_agree : Agrees IsBlockType block_type
block_types_agree =
    agrees_switch _ _ _ _ _ (agrees_made _ _ empty_block bytes_agree)
    (agrees_switch _ _ _ _ _ (agrees_made _ _ value_block value_types_agree) (agrees_made _ _ indexed_block (integers_agree signed 33)) (made_some _ value_block value_some) (made_some _ indexed_block (integer_some signed 33)))
    (made_some _ empty_block byte_some)
    (switch_some _ _ _ (made_some _ value_block value_some) (made_some _ indexed_block (integer_some signed 33)))
