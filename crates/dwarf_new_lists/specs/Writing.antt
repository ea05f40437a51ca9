-- Entries as they are written.
use Rattle.std.specs.Prelude.{◌≡◌, ℕ, List, ◌++◌, Bool, Option, Some, None, is_some, option_map, Ok, ◌<◌, ◌^◌, [], ⊤}
use Rattle.code_moves.specs.declared.body.Body.{Body}
use Rattle.dwarf_bytes.specs.declared.size.Size.{Size}
use Rattle.dwarf_bytes.specs.Faults.{DebugReader}
use Rattle.dwarf_bytes.specs.Numbers.{size_in_bytes}
use Rattle.dwarf_bytes.specs.Writing.{fixed_bytes, padded}
use Rattle.dwarf_expressions.specs.declared.encoding.Encoding.{Encoding}
use Rattle.dwarf_expressions.specs.Expressions.{ExpressionOperation, IsExpression}
use Rattle.dwarf_expressions.specs.Moving.{IsAppendedOfExpression}
use Rattle.dwarf_new_lists.specs.declared.entry.Entry.{Entry}
use Rattle.dwarf_new_lists.specs.declared.kind.Lists.{Lists}
use Rattle.dwarf_new_lists.specs.declared.kind.Operand.{Operand}
use Rattle.dwarf_new_lists.specs.declared.kind.Operand.TheVariants.{Nothing, Address, Number}
use Rattle.dwarf_new_lists.specs.Kinds.{new_list_kind_of, new_list_operands, has_expression}
use Rattle.dwarf_new_lists.specs.Entries.{AnEntry}

-- the text is read as this value, whatever follows
abbrev pub IsText : {A : Type 0} → DebugReader A → (text : List ℕ) → A → Type 0
IsText read text x = (following : List ℕ) → read (text ++ following) ≡ Ok (x, following)

-- something is appended that is read as this value
abbrev pub AppendsOfNewList : {A : Type 0} → DebugReader A → (before after : List ℕ) → A → Type 0
AppendsOfNewList read before after x = (text : List ℕ) × (after ≡ before ++ text) × IsText read text x

-- an operand of an entry, which is 0 if its kind doesn't have it
abbrev pub as_operand : Operand → ℕ → ℕ
as_operand Nothing n = 0
as_operand Address n = n
as_operand Number n = n

-- an operand, a number in this many bytes, or in as many as it needs, if these are more
abbrev pub written_operand : Size → Operand → (width value : ℕ) → List ℕ
written_operand size Nothing width value = []
written_operand size Address width value = fixed_bytes (size_in_bytes size) value
written_operand size Number width value = padded width value

abbrev pub FitsOperand : Size → Operand → ℕ → Type 0
FitsOperand size Address value = value < 256 ^ size_in_bytes size
FitsOperand size Number value = value < 2 ^ 64
FitsOperand size Nothing value = ⊤

-- the entry has its code, and an expression if its kind has one
abbrev pub IsOf : Lists → Entry → Type 0
IsOf lists e = (new_list_kind_of lists e.code ≡ Some e.kind) × (is_some e.expression ≡ has_expression lists e.kind)

-- an operand that the kind of an entry doesn't have is 0
abbrev pub HasOperands : Entry → Type 0
HasOperands e = (as_operand (new_list_operands e.kind).0 e.one.value ≡ e.one.value) × (as_operand (new_list_operands e.kind).1 e.two.value ≡ e.two.value)

-- The expression of an entry of this body, in the source and as it is written.
abbrev pub IsMovedExpression : Encoding → Option Body → (old new : Option (List ℕ)) → Type 0
IsMovedExpression e body None None = ⊤
IsMovedExpression e body None (Some new) = ⊥
IsMovedExpression e body (Some old) None = ⊥
IsMovedExpression e body (Some old) (Some new) = (os : List ExpressionOperation) × (names_entries : Bool) × IsExpression e old os × IsAppendedOfExpression e body old os new names_entries

-- what is written of an entry that the code has: its kind and its operands, and the expression with the locals of this body
pub record IsWrittenOf (e : Encoding) (body : Option Body) (entry : Entry) (new : AnEntry) : Type 0 where
  pub kind : new.kind ≡ entry.kind
  pub one : new.one ≡ as_operand (new_list_operands entry.kind).0 entry.one.value
  pub two : new.two ≡ as_operand (new_list_operands entry.kind).1 entry.two.value
  pub expression : IsMovedExpression e body (option_map (λ x. x.bytes.now) entry.expression) new.expression
