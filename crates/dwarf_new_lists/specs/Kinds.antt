-- The kinds of entries (DWARF 5, section 7.25 for ranges, and section 7.7.3 for locations).
use Rattle.std.specs.Prelude.{ℕ, List, [], ◌∷◌, slice_get, Bool, true, false, Option}
use Rattle.dwarf_new_lists.specs.declared.kind.Lists.{Lists}
use Rattle.dwarf_new_lists.specs.declared.kind.Lists.TheVariants.{Ranges, Locations}
use Rattle.dwarf_new_lists.specs.declared.kind.Kind.{Kind}
use Rattle.dwarf_new_lists.specs.declared.kind.Kind.TheVariants.{End, BaseIndex, IndexPair, IndexLength, OffsetPair, Default, Base, Pair, Length, Views}
use Rattle.dwarf_new_lists.specs.declared.kind.Operand.{Operand}
use Rattle.dwarf_new_lists.specs.declared.kind.Operand.TheVariants.{Nothing, Address, Number}

-- The kinds by their codes, from 0 on. The standard has no pairs of views: GCC writes them.
abbrev pub kinds : Lists → List Kind
kinds Ranges = End ∷ BaseIndex ∷ IndexPair ∷ IndexLength ∷ OffsetPair ∷ Base ∷ Pair ∷ Length ∷ []
kinds Locations = End ∷ BaseIndex ∷ IndexPair ∷ IndexLength ∷ OffsetPair ∷ Default ∷ Base ∷ Pair ∷ Length ∷ Views ∷ []

unfoldable pub new_list_kind_of : Lists → (code : ℕ) → Option Kind
new_list_kind_of lists code = slice_get (kinds lists) code

abbrev pub new_list_is_end : Kind → Bool
new_list_is_end End = true
new_list_is_end _ = false

abbrev pub is_default : Kind → Bool
is_default Default = true
is_default _ = false

-- the operands of an entry
abbrev pub new_list_operands : Kind → Operand × Operand
new_list_operands End = (Nothing, Nothing)
new_list_operands BaseIndex = (Number, Nothing)
new_list_operands IndexPair = (Number, Number)
new_list_operands IndexLength = (Number, Number)
new_list_operands OffsetPair = (Number, Number)
new_list_operands Default = (Nothing, Nothing)
new_list_operands Base = (Address, Nothing)
new_list_operands Pair = (Address, Address)
new_list_operands Length = (Address, Number)
new_list_operands Views = (Number, Number)

-- whether an entry of a list of locations has an expression
abbrev pub is_located : Kind → Bool
is_located End = false
is_located BaseIndex = false
is_located Base = false
is_located Views = false
is_located _ = true

abbrev pub has_expression : Lists → Kind → Bool
has_expression Ranges kind = false
has_expression Locations kind = is_located kind
