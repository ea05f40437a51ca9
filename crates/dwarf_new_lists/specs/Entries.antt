-- Entries, and how they are read: the code of the kind, the operands, and in a list of locations the expression after the number of
-- its bytes (DWARF 5, sections 2.17.3 and 2.6.2).
use Rattle.std.specs.Prelude.{ℕ, List, Option, Some, None, Ok, if◌then◌else◌}
use Rattle.wasm_numbers.specs.Results.{◌>>=◌, some_or}
use Rattle.dwarf_bytes.specs.declared.size.Size.{Size}
use Rattle.dwarf_bytes.specs.declared.fault.DebugFault.TheVariants as faults
use Rattle.dwarf_bytes.specs.Faults.{DebugReader}
use Rattle.dwarf_bytes.specs.Numbers.{size_in_bytes, fixed_number, unsigned_leb}
use Rattle.dwarf_expressions.specs.Expressions.{sized}
use Rattle.dwarf_new_lists.specs.declared.kind.Lists.{Lists}
use Rattle.dwarf_new_lists.specs.declared.kind.Kind.{Kind}
use Rattle.dwarf_new_lists.specs.declared.kind.Operand.{Operand}
use Rattle.dwarf_new_lists.specs.declared.kind.Operand.TheVariants.{Nothing, Address, Number}
use Rattle.dwarf_new_lists.specs.Kinds.{new_list_kind_of, new_list_operands, has_expression}

-- an entry; an operand that its kind doesn't have is 0
pub record AnEntry : Type 0 where
  pub kind : Kind
  pub one : ℕ
  pub two : ℕ
  pub expression : Option (List ℕ)

unfoldable pub new_list_operand : Size → Operand → DebugReader ℕ
new_list_operand size Nothing = λ bytes. Ok (0, bytes)
new_list_operand size Address = fixed_number (size_in_bytes size)
new_list_operand size Number = unsigned_leb

abbrev pub an_expression : DebugReader (Option (List ℕ))
an_expression bytes = sized unsigned_leb bytes >>= λ x. Ok (Some x.0, x.1)

abbrev pub expression : Lists → Kind → DebugReader (Option (List ℕ))
expression lists kind bytes = if has_expression lists kind then an_expression bytes else Ok (None, bytes)

-- what follows the code of an entry of this kind
abbrev pub of_kind : Lists → Size → Kind → DebugReader AnEntry
of_kind lists size kind bytes =
    new_list_operand size (new_list_operands kind).0 bytes >>= λ one.
    new_list_operand size (new_list_operands kind).1 one.1 >>= λ two.
    expression lists kind two.1 >>= λ e.
    Ok ((record { kind = kind; one = one.0; two = two.0; expression = e.0 }), e.1)

unfoldable pub an_entry : Lists → Size → DebugReader AnEntry
an_entry lists size bytes =
    fixed_number 1 bytes >>= λ code.
    some_or (new_list_kind_of lists code.0) faults.UnknownForm >>= λ kind.
    of_kind lists size kind code.1
