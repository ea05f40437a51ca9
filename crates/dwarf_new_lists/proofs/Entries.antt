-- An entry is read whatever follows it, and has at least a byte.
use Rattle.std.proofs.Common.{◌≡◌, ℕ, ◌<◌, List, [], length, Option, Some, None, Result, Ok, Err, refl}
use Rattle.wasm_numbers.specs.Reading.{many}
use Rattle.wasm_numbers.specs.Results.{◌>>=◌, some_or}
use Rattle.dwarf_bytes.specs.declared.size.Size.{Size}
use Rattle.dwarf_bytes.specs.declared.fault.DebugFault.{DebugFault}
use Rattle.dwarf_bytes.specs.declared.fault.DebugFault.TheVariants as faults
use Rattle.dwarf_bytes.specs.Numbers.{size_in_bytes, fixed_number, unsigned_leb}
use Rattle.dwarf_bytes.proofs.Local.{IsLocal, then_local, just_local, fail_local, cond_local, fixed_local, unsigned_local, shorter}
use Rattle.dwarf_expressions.specs.Expressions.{sized}
use Rattle.dwarf_expressions.proofs.Again.{sized_local}
use Rattle.dwarf_new_lists.specs.declared.kind.Lists.{Lists}
use Rattle.dwarf_new_lists.specs.declared.kind.Kind.{Kind}
use Rattle.dwarf_new_lists.specs.declared.kind.Operand.{Operand}
use Rattle.dwarf_new_lists.specs.declared.kind.Operand.TheVariants.{Nothing, Address, Number}
use Rattle.dwarf_new_lists.specs.Kinds.{new_list_kind_of, new_list_operands, has_expression}
use Rattle.dwarf_new_lists.specs.Entries.{AnEntry, new_list_operand, an_expression, expression, of_kind, an_entry}

operand_local : (size : Size) (kind : Operand) → IsLocal (new_list_operand size kind)
unfolding new_list_operand
operand_local size Nothing = just_local 0
operand_local size Address = fixed_local (size_in_bytes size)
operand_local size Number = unsigned_local

an_expression_local : IsLocal an_expression
an_expression_local =
    then_local (sized unsigned_leb) (λ x bytes. Ok (Some x, bytes)) (sized_local unsigned_leb unsigned_local) (λ x. just_local (Some x))

expression_local : (lists : Lists) (kind : Kind) → IsLocal (expression lists kind)
expression_local lists kind = cond_local (has_expression lists kind) an_expression (λ bytes. Ok (None, bytes)) an_expression_local (just_local None)

abbrev made : Kind → (one two : ℕ) → Option (List ℕ) → AnEntry
made kind one two e = record { kind = kind; one = one; two = two; expression = e }

abbrev after_one : Lists → Size → Kind → ℕ → List ℕ → Result (AnEntry × List ℕ) DebugFault
after_one lists size kind one bytes = new_list_operand size (new_list_operands kind).1 bytes >>= λ two. expression lists kind two.1 >>= λ e. Ok (made kind one two.0 e.0, e.1)

of_kind_local : (lists : Lists) (size : Size) (kind : Kind) → IsLocal (of_kind lists size kind)
of_kind_local lists size kind =
    then_local (new_list_operand size (new_list_operands kind).0) (after_one lists size kind) (operand_local size (new_list_operands kind).0)
    (λ one. then_local (new_list_operand size (new_list_operands kind).1) (λ two bytes. expression lists kind bytes >>= λ e. Ok (made kind one two e.0, e.1)) (operand_local size (new_list_operands kind).1)
    (λ two. then_local (expression lists kind) (λ e bytes. Ok (made kind one two e, bytes)) (expression_local lists kind) (λ e. just_local (made kind one two e))))

known_local : (lists : Lists) (size : Size) (kind : Option Kind) → IsLocal (λ bytes. some_or kind faults.UnknownForm >>= λ k. of_kind lists size k bytes)
known_local lists size None = fail_local faults.UnknownForm
known_local lists size (Some kind) = of_kind_local lists size kind

pub entry_local : (lists : Lists) (size : Size) → IsLocal (an_entry lists size)
unfolding an_entry
entry_local lists size =
    then_local (fixed_number 1) (λ code bytes. some_or (new_list_kind_of lists code) faults.UnknownForm >>= λ k. of_kind lists size k bytes) (fixed_local 1) (λ code. known_local lists size (new_list_kind_of lists code))

none : (lists : Lists) (size : Size) → an_entry lists size [] ≡ Err faults.Truncated
unfolding an_entry many
none lists size = refl

pub entry_shorter : (lists : Lists) (size : Size) (bytes : List ℕ) (e : AnEntry) (rest : List ℕ) → an_entry lists size bytes ≡ Ok (e, rest) → length rest < length bytes
entry_shorter lists size = shorter (an_entry lists size) faults.Truncated (entry_local lists size) (none lists size)
