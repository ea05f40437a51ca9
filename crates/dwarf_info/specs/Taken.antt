-- What the steps of the entries leave: which bytes of the section are replaced, which lists are moved, what becomes of addresses by index, and
-- where code is.
use Rattle.std.specs.Prelude.{◌≡◌, ◌≢◌, ◌⊎◌, ℕ, ◌+◌, ◌-◌, ◌^◌, ◌<◌, ◌≤◌, Bool, true, false, ◌||◌, ◌==◌, MatchBool, MatchResult, List, [], ◌∷◌, ◌++◌, length, Option, Some, None, Ok, Err, if◌then◌else◌}
use Rattle.std.specs.List.{find, list_any}
use Rattle.code_moves.specs.declared.body.Body.{Body}
use Rattle.code_moves.specs.Moves.{body_with_address}
use Rattle.dwarf_bytes.specs.declared.addresses.Address.{Address}
use Rattle.dwarf_bytes.specs.declared.addresses.LongerTable.{LongerTable}
use Rattle.dwarf_bytes.specs.declared.fault.DebugFault.{DebugFault}
use Rattle.dwarf_bytes.specs.declared.fault.DebugFault.TheVariants as faults
use Rattle.dwarf_bytes.specs.Changes.{SectionChange, end_from}
use Rattle.dwarf_bytes.specs.Uses.{none_added}
use Rattle.dwarf_expressions.specs.declared.encoding.Encoding.{Encoding}
use Rattle.dwarf_expressions.specs.Expressions.{Simple, ExpressionOperation, local, other, simple, entry_value, IsExpression, IsFaultOfOfExpression, expression_has, is_branch}
use Rattle.dwarf_expressions.specs.Moving.{IsAppendedOfExpression, IsRefusedOfExpression}
use Rattle.dwarf_line.specs.declared.moved.Moved.{Moved}
use Rattle.dwarf_info.specs.declared.effect.Effect.{Effect}
use Rattle.dwarf_info.specs.declared.effect.Effect.TheVariants as effects
use Rattle.dwarf_info.specs.declared.form.Layout.{Layout}
use Rattle.dwarf_info.specs.declared.moved.CodeRange.{CodeRange}
use Rattle.dwarf_info.specs.declared.moved.ListUse.{ListUse}
use Rattle.dwarf_info.specs.declared.scope.Scope.{Scope}
use Rattle.dwarf_info.specs.declared.scope.Scope.TheVariants as scopes
use Rattle.dwarf_info.specs.Effects.{EntryContext}
use Rattle.dwarf_info.specs.Forms.{SpelledValue, number_size, number_written, FitsForm}
use Rattle.dwarf_info.specs.Sound.{Ascend}
use Rattle.dwarf_info.specs.Steps.{EntryStep, EntrySteps, notes, changes}

-- What has been done so far: the parts of the section that are replaced; the lists of ranges and of locations that are moved; the code of
-- functions and units, if it is kept; the addresses that are told, and the tables of addresses that get one more; where line tables go;
-- and whether an expression names an entry.
pub record EntriesMoved : Type 0 where
  pub changes : List SectionChange
  pub ranges : List ListUse
  pub locations : List ListUse
  pub code : List CodeRange
  pub keeps_code : Bool
  pub told : List (Address × ℕ)
  pub longer : List LongerTable
  pub tables : List Moved
  pub names_entries : Bool

-- ---- what is noted

abbrev pub code_noted : EntriesMoved → CodeRange → EntriesMoved
code_noted old range = record old { code = if old.keeps_code then old.code ++ range ∷ [] else old.code }

abbrev pub address_told : EntriesMoved → Address → (new : ℕ) → EntriesMoved
address_told old address n = record old { told = old.told ++ (address, n) ∷ [] }

abbrev pub ranges_used : EntriesMoved → ListUse → EntriesMoved
ranges_used old l = record old { ranges = old.ranges ++ l ∷ [] }

abbrev pub locations_used : EntriesMoved → ListUse → EntriesMoved
locations_used old l = record old { locations = old.locations ++ l ∷ [] }

abbrev pub or_names : EntriesMoved → Bool → EntriesMoved
or_names old names = record old { names_entries = old.names_entries || names }

-- ---- a value is replaced

abbrev pub change_of_value : SpelledValue → List ℕ → SectionChange
change_of_value v bytes = record { at = v.at; old = v.size; new = bytes }

-- its bytes become these; they are after all that is replaced so far
abbrev pub IsReplaced : SpelledValue → List ℕ → (old new : EntriesMoved) → Type 0
IsReplaced v bytes old new = (new ≡ record old { changes = old.changes ++ change_of_value v bytes ∷ [] }) × (end_from 0 old.changes ≤ v.at)

-- places are numbers of 64 bits
abbrev pub IsNotReplaced : SpelledValue → (old : EntriesMoved) → DebugFault → Type 0
IsNotReplaced v old fault =
    ((fault ≡ faults.Overlap) × (v.at < end_from 0 old.changes)) ⊎ ((fault ≡ faults.BadOffset) × (2 ^ 64 ≤ v.at + v.size))

-- the number of a value becomes this one, in the bytes that the value has if they suffice
abbrev pub IsNumberSet : Encoding → Layout → SpelledValue → (number : ℕ) → (old new : EntriesMoved) → Type 0
IsNumberSet e layout v n old new =
    MatchBool (n == v.number) (new ≡ old)
    (FitsForm (number_size e layout) n × IsReplaced v (number_written (number_size e layout) v.size n) old new)

abbrev pub IsNumberNotSet : Encoding → Layout → SpelledValue → (number : ℕ) → (old : EntriesMoved) → DebugFault → Type 0
IsNumberNotSet e layout v n old fault =
    (n ≢ v.number)
    × (((fault ≡ faults.DoesNotFit) × (¬ FitsForm (number_size e layout) n)) ⊎ (FitsForm (number_size e layout) n × IsNotReplaced v old fault))

-- ---- line tables

-- the line table that was at this offset, where tables are by ascending offsets
abbrev pub table_from : List Moved → (offset : ℕ) → Option Moved
table_from ts offset = find (λ (t : Moved). t.old == offset) ts

abbrev pub IsTableFrom : List Moved → (offset : ℕ) → Option Moved → Type 0
IsTableFrom ts offset found = Ascend (λ (t : Moved). t.old) 0 ts → found ≡ table_from ts offset

abbrev pub IsTableSet : Encoding → Layout → SpelledValue → (old new : EntriesMoved) → Type 0
IsTableSet e layout v old new = (t : Moved) × IsTableFrom old.tables v.number (Some t) × IsNumberSet e layout v t.new old new

abbrev pub IsTableNotSet : Encoding → Layout → SpelledValue → (old : EntriesMoved) → DebugFault → Type 0
IsTableNotSet e layout v old fault =
    ((fault ≡ faults.BadOffset) × IsTableFrom old.tables v.number None)
    ⊎ ((t : Moved) × IsTableFrom old.tables v.number (Some t) × IsNumberNotSet e layout v t.new old fault)

-- ---- addresses by index that become none

abbrev pub IsNoneSet : EntryContext → Layout → SpelledValue → (old new : EntriesMoved) → Type 0
IsNoneSet c layout v old new =
    MatchResult (none_added c.bases.addresses c.encoding.format old.longer)
    (λ (index, longer). IsNumberSet c.encoding layout v index (record old { longer = longer }) new) (λ fault. ⊥)

abbrev pub IsNoneNotSet : EntryContext → Layout → SpelledValue → (old : EntriesMoved) → DebugFault → Type 0
IsNoneNotSet c layout v old fault =
    MatchResult (none_added c.bases.addresses c.encoding.format old.longer)
    (λ (index, longer). IsNumberNotSet c.encoding layout v index (record old { longer = longer }) fault) (λ f. fault ≡ f)

-- ---- expressions

-- the function whose locals an expression names
abbrev pub body_of_scope : List Body → Scope → Option Body
body_of_scope bodies (scopes.Body address) = body_with_address bodies address
body_of_scope bodies _ = None

abbrev pub is_local : Simple → Bool
is_local (local index) = true
is_local (other code operands) = false

-- whether an operation, or one of those in it, names a local
abbrev pub expression_names_local : ExpressionOperation → Bool
expression_names_local (simple s) = is_local s
expression_names_local (entry_value code ss) = list_any is_local ss

abbrev pub names_a_local : List ExpressionOperation → Bool
names_a_local os = list_any expression_names_local os

abbrev pub has_branch : List ExpressionOperation → Bool
has_branch os = list_any (expression_has is_branch) os

-- Where the code of a function is given by ranges alone, it isn't known whose locals an expression names: it names none.
abbrev pub is_ranges : Scope → Bool
is_ranges scopes.Ranges = true
is_ranges _ = false

abbrev pub NamesNoneOfRanges : Scope → List ExpressionOperation → Type 0
NamesNoneOfRanges scope os = is_ranges scope ≡ true → names_a_local os ≡ false

-- what an expression becomes is written, with how many bytes it has, unless it is the same
abbrev pub IsExpressionWritten : Encoding → Layout → SpelledValue → (bytes : List ℕ) → (old new : EntriesMoved) → Type 0
IsExpressionWritten e layout v bytes old new =
    ((bytes ≡ v.block) × (new ≡ old))
    ⊎ ((bytes ≢ v.block) × FitsForm (number_size e layout) (length bytes)
    × IsReplaced v (number_written (number_size e layout) (v.size - length v.block) (length bytes) ++ bytes) old new)

abbrev pub IsExpressionNotWritten : Encoding → Layout → SpelledValue → (bytes : List ℕ) → (old : EntriesMoved) → DebugFault → Type 0
IsExpressionNotWritten e layout v bytes old fault =
    (bytes ≢ v.block)
    × (((fault ≡ faults.DoesNotFit) × (¬ FitsForm (number_size e layout) (length bytes)))
    ⊎ (FitsForm (number_size e layout) (length bytes) × IsNotReplaced v old fault))

-- the value is an expression of these operations, and becomes these bytes
pub record IsExpressionOfEntry (c : EntryContext) (v : SpelledValue) (bytes : List ℕ) (names_entries : Bool) : Type 0 where
  pub operations : List ExpressionOperation
  pub is : IsExpression c.encoding v.block operations
  pub names_none : NamesNoneOfRanges c.scope operations
  pub appended : IsAppendedOfExpression c.encoding (body_of_scope c.bodies c.scope) v.block operations bytes names_entries

abbrev pub IsExpressionSet : EntryContext → Layout → SpelledValue → (old new : EntriesMoved) → Type 0
IsExpressionSet c layout v old new =
    (bytes : List ℕ) × (names : Bool) × IsExpressionOfEntry c v bytes names × IsExpressionWritten c.encoding layout v bytes (or_names old names) new

-- In a function whose code is given by ranges alone: the expression can't be read, or it names a local. Besides, one with an operation that
-- goes forward or back may be refused.
abbrev pub IsRefusedInRanges : Encoding → (expression : List ℕ) → DebugFault → Type 0
IsRefusedInRanges e bytes fault =
    IsFaultOfOfExpression e bytes fault
    ⊎ ((fault ≡ faults.Unsupported) × (os : List ExpressionOperation) × IsExpression e bytes os × ((names_a_local os ≡ true) ⊎ (has_branch os ≡ true)))

abbrev pub IsRefusedInScope : EntryContext → SpelledValue → DebugFault → Type 0
IsRefusedInScope c v fault =
    ((is_ranges c.scope ≡ true) × IsRefusedInRanges c.encoding v.block fault)
    ⊎ IsRefusedOfExpression c.encoding (body_of_scope c.bodies c.scope) v.block fault

abbrev pub IsExpressionNotSet : EntryContext → Layout → SpelledValue → (old : EntriesMoved) → DebugFault → Type 0
IsExpressionNotSet c layout v old fault =
    IsRefusedInScope c v fault
    ⊎ ((bytes : List ℕ) × (names : Bool) × IsExpressionOfEntry c v bytes names × IsExpressionNotWritten c.encoding layout v bytes (or_names old names) fault)

-- ---- all steps

abbrev pub IsEffectTaken : EntryContext → Layout → SpelledValue → Effect → (old new : EntriesMoved) → Type 0
IsEffectTaken c layout v effects.Stays old new = new ≡ old
IsEffectTaken c layout v (effects.Number n) old new = IsNumberSet c.encoding layout v n old new
IsEffectTaken c layout v (effects.Address address n) old new = new ≡ address_told old address n
IsEffectTaken c layout v effects.NoAddress old new = IsNoneSet c layout v old new
IsEffectTaken c layout v (effects.Ranges l) old new = new ≡ ranges_used old l
IsEffectTaken c layout v (effects.Locations l) old new = new ≡ locations_used old l
IsEffectTaken c layout v effects.LineTable old new = IsTableSet c.encoding layout v old new
IsEffectTaken c layout v effects.Expression old new = IsExpressionSet c layout v old new

abbrev pub IsEffectRefused : EntryContext → Layout → SpelledValue → Effect → (old : EntriesMoved) → DebugFault → Type 0
IsEffectRefused c layout v (effects.Number n) old fault = IsNumberNotSet c.encoding layout v n old fault
IsEffectRefused c layout v effects.NoAddress old fault = IsNoneNotSet c layout v old fault
IsEffectRefused c layout v effects.LineTable old fault = IsTableNotSet c.encoding layout v old fault
IsEffectRefused c layout v effects.Expression old fault = IsExpressionNotSet c layout v old fault
IsEffectRefused c layout v _ old fault = ⊥

abbrev pub IsStepTaken : EntryStep → (old new : EntriesMoved) → Type 0
IsStepTaken (notes range) old new = new ≡ code_noted old range
IsStepTaken (changes c layout v effect) old new = IsEffectTaken c layout v effect old new

abbrev pub IsStepRefused : EntryStep → (old : EntriesMoved) → DebugFault → Type 0
IsStepRefused (notes range) old fault = ⊥
IsStepRefused (changes c layout v effect) old fault = IsEffectRefused c layout v effect old fault

-- All steps are taken, from one state to another.
abbrev pub AreStepsTaken : EntrySteps → (old new : EntriesMoved) → Type 0
AreStepsTaken [] old new = new ≡ old
AreStepsTaken (Err fault ∷ steps) old new = ⊥
AreStepsTaken (Ok step ∷ steps) old new = (next : EntriesMoved) × IsStepTaken step old next × AreStepsTaken steps next new

-- The steps before the first fault are taken: it is one of reading or deciding, or a step can't be taken.
abbrev pub IsFaultOfSteps : EntrySteps → (old : EntriesMoved) → DebugFault → Type 0
IsFaultOfSteps [] old fault = ⊥
IsFaultOfSteps (Err first ∷ steps) old fault = fault ≡ first
IsFaultOfSteps (Ok step ∷ steps) old fault =
    IsStepRefused step old fault ⊎ ((next : EntriesMoved) × IsStepTaken step old next × IsFaultOfSteps steps next fault)
