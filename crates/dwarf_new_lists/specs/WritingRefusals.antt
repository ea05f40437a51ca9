-- Why an entry that the code has isn't written.
use Rattle.std.specs.Prelude.{◌≡◌, ◌⊎◌, ℕ, true, false, List, Option, Some, option_map}
use Rattle.code_moves.specs.declared.body.Body.{Body}
use Rattle.dwarf_bytes.specs.declared.fault.DebugFault.{DebugFault}
use Rattle.dwarf_bytes.specs.declared.fault.DebugFault.TheVariants.{DoesNotFit}
use Rattle.dwarf_expressions.specs.declared.encoding.Encoding.{Encoding}
use Rattle.dwarf_expressions.specs.Moving.{IsRefusedOfExpression}
use Rattle.dwarf_new_lists.specs.declared.entry.Entry.{Entry}
use Rattle.dwarf_new_lists.specs.Refusals.{address_operands, addresses_fit}

-- An address is too great for its size; or all fit, and the expression is refused.
abbrev pub IsRefusedWriting : Encoding → Option Body → Entry → DebugFault → Type 0
IsRefusedWriting e body entry fault =
    ((fault ≡ DoesNotFit) × (addresses_fit e.address_size (address_operands entry.kind entry.one.value entry.two.value) ≡ false))
    ⊎ ((addresses_fit e.address_size (address_operands entry.kind entry.one.value entry.two.value) ≡ true)
    × ((old : List ℕ) × (option_map (λ x. x.bytes.now) entry.expression ≡ Some old) × IsRefusedOfExpression e body old fault))
