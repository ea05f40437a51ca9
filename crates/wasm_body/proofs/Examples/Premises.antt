-- The premises of the laws hold for real bodies.
use Rattle.std.specs.Prelude.{◌≡◌, ℕ, ◌<◌, List, [], ◌∷◌, map, false, Some, pos, refl}
use Rattle.std.proofs.Common.{lit<, inl, inr}
use Rattle.std.specs.List.{AllByRecursion}
use Rattle.wasm_operators.specs.declared.types.BlockType.TheVariants.{Empty, FuncType}
use Rattle.wasm_operators.specs.declared.types.Opcode.TheVariants.{Byte}
use Rattle.wasm_operators.specs.Operations.{label, block as block_type, i32, operation, RawImmediate, RawOperation}
use Rattle.wasm_operators.specs.Immediates.{kind_of, SpellsImmediates}
use Rattle.wasm_operators.specs.Types.{value_at, nullable_at, heap_at}
use Rattle.wasm_operators.specs.Opcodes.{kinds_of_byte, is_prefix}
use Rattle.wasm_operators.specs.Spelling.{Spells}
use Rattle.wasm_body.specs.Control.{Nop, Plain, Branch}
use Rattle.wasm_body.specs.SourceTree.{Single, Wrapped, OfBlock, Body}
use Rattle.wasm_body.specs.SourceTree.{Sequence as source, Empty as none_left}
use Rattle.wasm_body.specs.Naming.{NamedOperation, Occurrence}
use Rattle.wasm_body.specs.Parsing.Accepted.{HasSpelling, Lawful}
use Rattle.wasm_body.specs.NormalForm.{typing_of, normal}
use Rattle.wasm_body.specs.LocationLaws.{BalanceAlike}
use Rattle.wasm_body.specs.Typed.{AreTyped}
use Rattle.wasm_body.specs.TextLaws.{IsNamedBody}
use Rattle.wasm_body.specs.Translation.{at_location}
use Rattle.walrus_ir.specs.Tree.{no_items}
use Rattle.wasm_body.proofs.Examples.Operators.{unreachable, nop, block, loop, if, else, try, catch, throw, end, br, return_call, delegate, catch_all, drop, try_table, const, catches_all}
use Rattle.wasm_body.proofs.Examples.Modules.{nothing, number_to_number, demo, demo_numbers, odd}
use Rattle.wasm_body.proofs.Examples.Rows.{located_names, body_of_names}

-- ---- operators that have encodings, each at its place, which is its location

abbrev occurs : ℕ → RawOperation → NamedOperation → Occurrence
occurs p spelt named = record { spelt = spelt; place = p; location = p; named = named }

spelt_by : (b : ℕ) (is : List RawImmediate) (text : List ℕ) → is_prefix b ≡ false → b < 256
    → kinds_of_byte b ≡ Some (map kind_of is) → SpellsImmediates is text
    → (spelling : List ℕ) × Spells (operation (Byte b) is) spelling
spelt_by b is text not_prefix h kinds spells =
    (b ∷ text, record { first = b ∷ []; others = text; parts = refl; opcode = (not_prefix, h, refl); kinds = kinds; immediates = spells })

abbrev a_nop : ℕ → Occurrence
a_nop p = occurs p nop nop

nop_spelt : (p : ℕ) → HasSpelling (a_nop p)
unfolding kinds_of_byte
nop_spelt p = spelt_by 0x01 [] [] refl (lit< tt) refl refl

abbrev a_drop : ℕ → Occurrence
a_drop p = occurs p drop drop

drop_spelt : (p : ℕ) → HasSpelling (a_drop p)
unfolding kinds_of_byte
drop_spelt p = spelt_by 0x1a [] [] refl (lit< tt) refl refl

abbrev an_end : ℕ → Occurrence
an_end p = occurs p end end

end_spelt : (p : ℕ) → HasSpelling (an_end p)
unfolding kinds_of_byte
end_spelt p = spelt_by 0x0b [] [] refl (lit< tt) refl refl

abbrev a_const : ℕ → Occurrence
a_const p = occurs p (const 7) (const 7)

const_spelt : (p : ℕ) → HasSpelling (a_const p)
unfolding kinds_of_byte
const_spelt p = spelt_by 0x41 (i32 (pos 7) ∷ []) (7 ∷ []) refl (lit< tt) refl (7 ∷ [], [], refl, (lit< tt, refl), refl)

abbrev a_br : ℕ → Occurrence
a_br p = occurs p (br 0) (br 0)

br_spelt : (p : ℕ) → HasSpelling (a_br p)
unfolding kinds_of_byte
br_spelt p = spelt_by 0x0c (label 0 ∷ []) (0 ∷ []) refl (lit< tt) refl (0 ∷ [], [], refl, (lit< tt, refl), refl)

abbrev an_empty_block : ℕ → Occurrence
an_empty_block p = occurs p (block Empty) (block nothing)

block_spelt : (p : ℕ) → HasSpelling (an_empty_block p)
unfolding kinds_of_byte
block_spelt p =
    spelt_by 0x02 (block_type Empty ∷ []) (0x40 ∷ []) refl (lit< tt) refl (0x40 ∷ [], [], refl, inl (refl, (0x40, refl, (lit< tt, refl))), refl)

-- the type of old index 0 takes and gives a number
abbrev a_typed_block : ℕ → Occurrence
a_typed_block p = occurs p (block (FuncType 0)) (block number_to_number)

typed_block_spelt : (p : ℕ) → HasSpelling (a_typed_block p)
unfolding kinds_of_byte value_at nullable_at heap_at
typed_block_spelt p =
    spelt_by 0x02 (block_type (FuncType 0) ∷ []) (0 ∷ []) refl (lit< tt) refl
    (0 ∷ [], [], refl, inr (refl, inr (refl, (pos 0, refl, (lit< tt, refl)))), refl)

-- ---- 01 41 07 1a 0b

abbrev with_nop : Body Occurrence
with_nop = record { sequence = Single (a_nop 0) Nop (Single (a_const 1) Plain (Single (a_drop 3) Plain source.Empty)); close = an_end 4 }

abbrev with_nop_list : List Occurrence
with_nop_list = a_nop 0 ∷ a_const 1 ∷ a_drop 3 ∷ an_end 4 ∷ []

with_nop_spelt : AllByRecursion HasSpelling with_nop_list
with_nop_spelt = (nop_spelt 0, (const_spelt 1, (drop_spelt 3, (end_spelt 4, tt))))

with_nop_lawful : Lawful odd with_nop_list with_nop
with_nop_lawful = record { entry = refl; is_body = refl; named = ((refl, (refl, (refl, tt))), refl) }

-- ---- 0c 00 02 40 01 0b 0b

abbrev unreachable_body : Body Occurrence
unreachable_body = record {
  sequence = Single (a_br 0) (Branch 0) (Wrapped (an_empty_block 2) OfBlock (Single (a_nop 4) Nop source.Empty) (an_end 5) source.Empty);
  close = an_end 6;
}

abbrev unreachable_list : List Occurrence
unreachable_list = a_br 0 ∷ an_empty_block 2 ∷ a_nop 4 ∷ an_end 5 ∷ an_end 6 ∷ []

unreachable_spelt : AllByRecursion HasSpelling unreachable_list
unreachable_spelt = (br_spelt 0, (block_spelt 2, (nop_spelt 4, (end_spelt 5, (end_spelt 6, tt)))))

unreachable_lawful : Lawful odd unreachable_list unreachable_body
unreachable_lawful = record { entry = refl; is_body = refl; named = ((refl, (refl, (refl, tt), refl, tt)), refl) }

-- ---- 41 07 02 00 01 0b 1a 0b

abbrev typed : Body Occurrence
typed = record {
  sequence =
      Single (a_const 0) Plain
      (Wrapped (a_typed_block 2) OfBlock (Single (a_nop 4) Nop source.Empty) (an_end 5) (Single (a_drop 6) Plain source.Empty));
  close = an_end 7;
}

abbrev typed_list : List Occurrence
typed_list = a_const 0 ∷ a_typed_block 2 ∷ a_nop 4 ∷ an_end 5 ∷ a_drop 6 ∷ an_end 7 ∷ []

typed_spelt : AllByRecursion HasSpelling typed_list
typed_spelt = (const_spelt 0, (typed_block_spelt 2, (nop_spelt 4, (end_spelt 5, (drop_spelt 6, (end_spelt 7, tt))))))

typed_lawful : Lawful odd typed_list typed
typed_lawful = record { entry = refl; is_body = refl; named = ((refl, (refl, (refl, tt), refl, (refl, tt))), refl) }

-- ---- typed bodies of named operators, with constructs of all kinds

-- ---- a sequence of `nop`s has an empty normal form, and names and numbers of one module balance alike

empties : normal (typing_of demo) (Single (at_location nop 0) Nop (Single (at_location nop 1) Nop none_left)) ≡ no_items
empties = refl

balance : BalanceAlike (typing_of demo) demo_numbers
balance t = refl

-- Operators that are given by hand form a body, and are typed.
record IsTypedBody (os : List RawOperation) : Type 0 where
  is_body : IsNamedBody (located_names demo os) (body_of_names demo os)
  are_typed : AreTyped (typing_of demo) (located_names demo os)

-- 12 00 41 07 1a 0b
after_call : IsTypedBody (return_call 0 ∷ const 7 ∷ drop ∷ end ∷ [])
after_call = record { is_body = refl; are_typed = (refl, (refl, (refl, (refl, tt)))) }

-- 41 07 04 40 0b 0b
only_if : IsTypedBody (const 7 ∷ if Empty ∷ end ∷ end ∷ [])
only_if = record { is_body = refl; are_typed = (refl, ((refl, tt), (refl, (refl, tt)))) }

-- 41 07 04 40 05 0b 0b
if_else : IsTypedBody (const 7 ∷ if Empty ∷ else ∷ end ∷ end ∷ [])
if_else = record { is_body = refl; are_typed = (refl, ((refl, tt), (refl, (refl, (refl, tt))))) }

-- 03 40 1f 40 01 02 00 0b 0b 0b
loop_and_table : IsTypedBody (loop Empty ∷ try_table Empty (catches_all 0 ∷ []) ∷ end ∷ end ∷ end ∷ [])
loop_and_table = record { is_body = refl; are_typed = ((refl, tt), ((refl, tt), (refl, (refl, (refl, tt))))) }

-- 06 40 08 00 41 07 07 00 19 00 0b 0b
caught : IsTypedBody (try Empty ∷ throw 0 ∷ const 7 ∷ catch 0 ∷ catch_all ∷ unreachable ∷ end ∷ end ∷ [])
caught = record { is_body = refl; are_typed = ((refl, tt), (refl, (refl, (refl, (refl, (refl, (refl, (refl, tt)))))))) }

-- 06 40 18 00 0b
delegated : IsTypedBody (try Empty ∷ delegate 0 ∷ end ∷ [])
delegated = record { is_body = refl; are_typed = ((refl, tt), (refl, (refl, tt))) }
