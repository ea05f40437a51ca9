-- What a step leaves, by what the calls for it do.
use Rattle.std.proofs.Common.{◌≡◌, ℕ, ◌+◌, ◌-◌, ◌^◌, ◌<◌, ◌≤◌, ◌∷◌, [], ◌++◌, List, length, true, false, Bool, ◌||◌, Bor, arith, ◌⊎◌, inl, inr, Option, Some, None, Result, Ok, Err, refl, sym, ap, subst, ◌∙◌}
use Rattle.std.specs.Prelude.{OnOk, IfErr, option_map, if◌then◌else◌}
use Rattle.std.specs.Option.{option_copied}
use Rattle.std.proofs.lemmas.Bool.{eq-eqb, ne_eqb}
use Rattle.code_moves.specs.declared.body.Body.{Body}
use Rattle.dwarf_bytes.specs.declared.addresses.Address.{Address}
use Rattle.dwarf_bytes.specs.declared.addresses.LongerTable.{LongerTable}
use Rattle.dwarf_bytes.specs.declared.fault.DebugError.{DebugError}
use Rattle.dwarf_bytes.specs.declared.fault.DebugError.TheVariants.{Memory, Fault}
use Rattle.dwarf_bytes.specs.declared.fault.DebugFault.{DebugFault}
use Rattle.dwarf_bytes.specs.declared.fault.DebugFault.TheVariants as faults
use Rattle.dwarf_bytes.specs.Changes.{SectionChange, end_from}
use Rattle.dwarf_bytes.specs.Uses.{none_added}
use Rattle.dwarf_expressions.specs.declared.encoding.Encoding.{Encoding}
use Rattle.dwarf_expressions.specs.Expressions.{ExpressionOperation, Begins, IsExpression}
use Rattle.dwarf_expressions.specs.Moving.{IsAppendedOfExpression, IsRefusedOfExpression}
use Rattle.dwarf_expressions.proofs.Loops.{all_are}
use Rattle.dwarf_expressions.proofs.Moves.{one_way}
use Rattle.dwarf_line.specs.declared.moved.Moved.{Moved}
use Rattle.dwarf_info.specs.declared.form.Layout.{Layout}
use Rattle.dwarf_info.specs.declared.moved.CodeRange.{CodeRange}
use Rattle.dwarf_info.specs.Effects.{EntryContext}
use Rattle.dwarf_info.specs.Forms.{SpelledValue, number_size, number_written, FitsForm}
use Rattle.dwarf_info.specs.Taken.{EntriesMoved, code_noted, address_told, change_of_value, or_names, IsTableFrom, IsTableSet, IsTableNotSet, IsReplaced, IsNotReplaced, IsNumberSet, IsNumberNotSet, IsNoneSet, IsNoneNotSet, body_of_scope, names_a_local, is_ranges, IsRefusedInRanges, IsExpressionWritten, IsExpressionNotWritten, IsExpressionSet, IsExpressionNotSet}

pub on_ok : {A E : Type 0} (r : Result A E) (P Q : Type 0) → (P → Q) → OnOk r P → OnOk r Q
on_ok (Ok x) P Q f h = f h
on_ok (Err e) P Q f h = h

-- out of memory, or a fault
abbrev pub IsMemoryOr : (DebugFault → Type 0) → DebugError → Type 0
IsMemoryOr F e = (e ≡ Memory) ⊎ ((fault : DebugFault) × (e ≡ Fault fault) × F fault)

pub other_fault : {A : Type 0} (r : Result A DebugError) (F G : DebugFault → Type 0) → ((fault : DebugFault) → F fault → G fault) → IfErr r (IsMemoryOr F) → IfErr r (IsMemoryOr G)
other_fault (Ok x) F G f h = h
other_fault (Err e) F G f h = elim h [ inl memory ↦ inl memory | inr x ↦ inr (x.0, x.1, f x.0 x.2) ]

pub memory_or : {A : Type 0} (r : Result A DebugError) (F : DebugFault → Type 0) → IfErr r (λ e. e ≡ Memory) → IfErr r (IsMemoryOr F)
memory_or (Ok x) F h = h
memory_or (Err e) F h = inl h

pub copied_mapped : {X : Type 0} (o : Option (Bor X)) → option_map (λ b. b.now) o ≡ option_copied o
copied_mapped None = refl
copied_mapped (Some b) = refl

-- ---- states that differ in a part

pub with_told : (m : EntriesMoved) (t s : List (Address × ℕ)) (l k : List LongerTable) → t ≡ s → l ≡ k
    → (record m { told = t; longer = l }) ≡ (record m { told = s; longer = k })
with_told m t s l k p q = ap (λ (x : List (Address × ℕ)). record m { told = x; longer = l }) p ∙ ap (λ (x : List LongerTable). record m { told = s; longer = x }) q

pub code_kept : (m : EntriesMoved) (range : CodeRange) (code : List CodeRange) → m.keeps_code ≡ true → code ≡ m.code ++ range ∷ [] → (record m { code = code }) ≡ code_noted m range
code_kept m range code keeps e =
    ap (λ (x : List CodeRange). record m { code = x }) e ∙ ap (λ (b : Bool). record m { code = if b then m.code ++ range ∷ [] else m.code }) (sym keeps)

pub code_not_kept : (m : EntriesMoved) (range : CodeRange) → m.keeps_code ≡ false → m ≡ code_noted m range
code_not_kept m range keeps = ap (λ (b : Bool). record m { code = if b then m.code ++ range ∷ [] else m.code }) (sym keeps)

pub told_pushed : {A E : Type 0} (r : Result A E) (m : EntriesMoved) (address : Address) (new : ℕ) (t : List (Address × ℕ)) (l : List LongerTable)
    → OnOk r (t ≡ m.told ++ (address, new) ∷ []) → l ≡ m.longer → OnOk r ((record m { told = t; longer = l }) ≡ address_told m address new)
told_pushed (Ok x) m address new t l e k = with_told m t (m.told ++ (address, new) ∷ []) l m.longer e k
told_pushed (Err f) m address new t l e k = e

-- whatever is given besides
pub given_more : {A E : Type 0} (r : Result A E) (B P : Type 0) → OnOk r P → OnOk r (B → P)
given_more (Ok x) B P h = λ b. h
given_more (Err e) B P h = h

-- ---- a value that is replaced

pub replaced_pushed : {A E : Type 0} (r : Result A E) (m : EntriesMoved) (v : SpelledValue) (bytes pushed : List ℕ) (cs : List SectionChange) → pushed ≡ bytes
    → OnOk r (cs ≡ m.changes ++ change_of_value v pushed ∷ []) → OnOk r (end_from 0 m.changes ≤ v.at) → OnOk r (IsReplaced v bytes m (record m { changes = cs }))
replaced_pushed (Ok x) m v bytes pushed cs is e le =
    (ap (λ (ds : List SectionChange). record m { changes = ds }) (e ∙ ap (λ (b : List ℕ). m.changes ++ change_of_value v b ∷ []) is), le)
replaced_pushed (Err f) m v bytes pushed cs is e le = e

pub not_replaced : {A : Type 0} (r : Result A DebugError) (v : SpelledValue) (old : EntriesMoved)
    → IfErr r (λ e. (e ≡ Memory) ⊎ (((e ≡ Fault faults.Overlap) × (v.at < end_from 0 old.changes)) ⊎ ((e ≡ Fault faults.BadOffset) × (2 ^ 64 - 1 < v.at + v.size))))
    → IfErr r (IsMemoryOr (IsNotReplaced v old))
not_replaced (Ok x) v old h = h
not_replaced (Err e) v old (inl memory) = inl memory
not_replaced (Err e) v old (inr (inl overlap)) = inr (faults.Overlap, overlap.0, inl (refl, overlap.1))
not_replaced (Err e) v old (inr (inr offset)) = inr (faults.BadOffset, offset.0, inr (refl, let k = offset.1 in omega arith))

module _ (e : Encoding) (layout : Layout) (v : SpelledValue) (old : EntriesMoved) where
  -- ---- numbers

  module _ (n : ℕ) where
    pub number_same : n ≡ v.number → IsNumberSet e layout v n old old
    number_same is = rw (eq-eqb n v.number is) refl

    pub number_new : (n ≡ v.number → ⊥) → FitsForm (number_size e layout) n → (new : EntriesMoved) → IsReplaced v (number_written (number_size e layout) v.size n) old new
        → IsNumberSet e layout v n old new
    number_new other fits new r = rw (ne_eqb n v.number other) (fits, r)

  -- ---- line tables

  module _ (t : Moved) (found : IsTableFrom old.tables v.number (Some t)) where
    pub table_set : (new : EntriesMoved) → IsNumberSet e layout v t.new old new → IsTableSet e layout v old new
    table_set new h = (t, found, h)

    pub table_not_set : (fault : DebugFault) → IsNumberNotSet e layout v t.new old fault → IsTableNotSet e layout v old fault
    table_not_set fault h = inr (t, found, h)

  -- ---- expressions that aren't written

  pub not_written : (names now : Bool) (bytes items : List ℕ) → items ≡ bytes → now ≡ (old.names_entries || names) → (items ≡ v.block → ⊥) → (fault : DebugFault)
      → (((fault ≡ faults.DoesNotFit) × (¬ FitsForm (number_size e layout) (length items)))
      ⊎ (FitsForm (number_size e layout) (length items) × IsNotReplaced v (record old { names_entries = now }) fault))
      → IsExpressionNotWritten e layout v bytes (or_names old names) fault
  not_written names now bytes items is n other fault h =
      subst (λ (bs : List ℕ). IsExpressionNotWritten e layout v bs (or_names old names) fault) is (
        other,
        subst
            (λ (b : Bool). ((fault ≡ faults.DoesNotFit) × (¬ FitsForm (number_size e layout) (length items)))
            ⊎ (FitsForm (number_size e layout) (length items) × IsNotReplaced v (record old { names_entries = b }) fault)) n h,
      )

module _ (c : EntryContext) (layout : Layout) (v : SpelledValue) (old : EntriesMoved) where
  -- ---- addresses by index that become none

  module _ (mid : EntriesMoved) (index : ℕ) (added : none_added c.bases.addresses c.encoding.format old.longer ≡ Ok (index, mid.longer))
      (others : mid ≡ record old { longer = mid.longer }) where
    pub none_set : (new : EntriesMoved) → IsNumberSet c.encoding layout v index mid new → IsNoneSet c layout v old new
    none_set new h = rw added (subst (λ (m : EntriesMoved). IsNumberSet c.encoding layout v index m new) others h)

    pub none_not_set : (fault : DebugFault) → IsNumberNotSet c.encoding layout v index mid fault → IsNoneNotSet c layout v old fault
    none_not_set fault h = rw added (subst (λ (m : EntriesMoved). IsNumberNotSet c.encoding layout v index m fault) others h)

  pub none_not_added : (fault : DebugFault) → none_added c.bases.addresses c.encoding.format old.longer ≡ Err fault → IsNoneNotSet c layout v old fault
  none_not_added fault e = rw e refl

  -- ---- expressions

  pub refused_in_ranges : (fault : DebugFault) → is_ranges c.scope ≡ true → IsRefusedInRanges c.encoding v.block fault → IsExpressionNotSet c layout v old fault
  refused_in_ranges fault r h = inl (inl (r, h))

  module _ (mid : EntriesMoved) (same : mid ≡ old) (body : Option Body) (body_is : body ≡ body_of_scope c.bodies c.scope)
      (none : is_ranges c.scope ≡ true → (os : List ExpressionOperation) × IsExpression c.encoding v.block os × (names_a_local os ≡ false)) where
    named_none : (os : List ExpressionOperation) → IsExpression c.encoding v.block os → is_ranges c.scope ≡ true → names_a_local os ≡ false
    named_none os is r =
        let k = none r in
        subst (λ (ns : List ExpressionOperation). names_a_local ns ≡ false) (all_are (Begins c.encoding) (one_way c.encoding) v.block os k.0 is k.1) k.2

    pub expression_set : (new : EntriesMoved)
        → ((os : List ExpressionOperation) × (bytes : List ℕ) × (names : Bool) × IsExpression c.encoding v.block os × IsAppendedOfExpression c.encoding body v.block os bytes names
        × IsExpressionWritten c.encoding layout v bytes (or_names mid names) new)
        → IsExpressionSet c layout v old new
    expression_set new h = (
      h.1,
      h.2,
      record {
        operations = h.0;
        is = h.3;
        names_none = named_none h.0 h.3;
        appended = subst (λ (b : Option Body). IsAppendedOfExpression c.encoding b v.block h.0 h.1 h.2) body_is h.4;
      },
      subst (λ (m : EntriesMoved). IsExpressionWritten c.encoding layout v h.1 (or_names m h.2) new) same h.5,
    )

    pub expression_not_set : (fault : DebugFault)
        → (IsRefusedOfExpression c.encoding body v.block fault
        ⊎ ((os : List ExpressionOperation) × (bytes : List ℕ) × (names : Bool) × IsExpression c.encoding v.block os
        × IsAppendedOfExpression c.encoding body v.block os bytes names × IsExpressionNotWritten c.encoding layout v bytes (or_names mid names) fault))
        → IsExpressionNotSet c layout v old fault
    expression_not_set fault (inl refused) = inl (inr (subst (λ (b : Option Body). IsRefusedOfExpression c.encoding b v.block fault) body_is refused))
    expression_not_set fault (inr h) = inr (
      h.1,
      h.2,
      record {
        operations = h.0;
        is = h.3;
        names_none = named_none h.0 h.3;
        appended = subst (λ (b : Option Body). IsAppendedOfExpression c.encoding b v.block h.0 h.1 h.2) body_is h.4;
      },
      subst (λ (m : EntriesMoved). IsExpressionNotWritten c.encoding layout v h.1 (or_names m h.2) fault) same h.5,
    )
