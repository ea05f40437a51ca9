-- Groups, one after the other.
use Rattle.std.proofs.Common.{◌≡◌, ℕ, ◌+◌, ◌-◌, ◌^◌, ◌<◌, ◌≤◌, nat_lt, Bool, true, false, cond, List, [], ◌∷◌, ◌++◌, length, Result, Ok, Err, refl, sym, ap, ◌∙◌, inl, inr, arith}
use Rattle.std.specs.List.{list_all}
use Rattle.std.proofs.lemmas.Bool.Decides.{nat_tests}
use Rattle.std.proofs.lemmas.List.{length-map}
use Rattle.wasm_typing.specs.RecursiveTypes.{Group}
use Rattle.wasm_context.specs.declared.definitions.Definitions.{Definitions}
use Rattle.wasm_context.specs.declared.types.DefinedType as code
use Rattle.wasm_context.specs.Declarations.{declared_within}
use Rattle.wasm_context.specs.Definitions.{IsDefining}
use Rattle.wasm_context.proofs.Placing.{length-flat_is, firsts_are, types_are}
use Rattle.wasm_sections.specs.declared.fault.ModuleError.{ModuleError}
use Rattle.wasm_sections.specs.declared.fault.ModuleFault.{ModuleFault}
use Rattle.wasm_sections.specs.declared.fault.ModuleFault.TheVariants as fault
use Rattle.wasm_sections.specs.Parts.{fault_here, just, checked, repeated}
use Rattle.wasm_sections.proofs.PartLemmas.{checked_ok, checked_fault}
use Rattle.wasm_sections.proofs.TypeReadingLemmas.{FailsUnlessMemory, repeated_none, repeated_step, repeated_fault}
use Rattle.module_context.specs.ReadContexts.{DefinesGroups}
use Rattle.module_context.specs.TypeSections.{group_part, type_count_of, closed_group, with_group}
use Rattle.module_context.proofs.TypePartLemmas.{after_first, no_first}
use Rattle.module_context.specs.InvalidFaults.{invalid_type}

-- as many types as the builder has
pub count_defined : (d : Definitions) (gs : List Group) → IsDefining d gs → length d.context.types.items ≡ type_count_of gs
count_defined d gs is =
    sym (length-map d.context.types.items (λ (t : code.DefinedType). t.first)) ∙ ap length (firsts_are d.context.types.items gs (types_are d gs is))
    ∙ sym (length-flat_is gs)

-- ---- one more group

few_types : (n : ℕ) (r s : Result Group ModuleFault) → n < 2 ^ 32 → cond (nat_lt n (2 ^ 32)) r s ≡ r
few_types n r s few = grind (arith, nat_tests)

many_types : (n : ℕ) (r s : Result Group ModuleFault) → 2 ^ 32 ≤ n → cond (nat_lt n (2 ^ 32)) r s ≡ s
many_types n r s many = grind (arith, nat_tests)

module _ (gs : List Group) (g : Group) (end : ℕ) (text rest : List ℕ) (read : group_part end text ≡ Ok (g, rest)) where
  before : ℕ
  before = type_count_of gs

  closed_or : Bool → Result Group ModuleFault
  closed_or b = cond b (Ok g) (Err invalid_type)

  pub group_added : (n : ℕ) → n ≡ type_count_of gs + length g → n < 2 ^ 32 → list_all (declared_within n) g ≡ true → with_group gs end text ≡ Ok (gs ++ g ∷ [], rest)
  unfolding before closed_or
  group_added n count few closed =
      let is : closed_group before g ≡ Ok g =
      few_types (before + length g) (closed_or (list_all (declared_within (before + length g)) g)) (Err fault.TooGreat) (omega arith)
      ∙ ap closed_or (ap (λ (k : ℕ). list_all (declared_within k) g) (sym count) ∙ closed) in
      after_first (checked group_part (closed_group before)) (λ g. just (gs ++ g ∷ [])) g end end text rest
      (checked_ok group_part (closed_group before) end text g g rest read is) refl

  pub group_not_closed :
      (n : ℕ) → n ≡ type_count_of gs + length g → n < 2 ^ 32 → list_all (declared_within n) g ≡ false → with_group gs end text ≡ Err (fault_here end text invalid_type)
  unfolding before closed_or
  group_not_closed n count few not_closed =
      let is : closed_group before g ≡ Err invalid_type =
      few_types (before + length g) (closed_or (list_all (declared_within (before + length g)) g)) (Err fault.TooGreat) (omega arith)
      ∙ ap closed_or (ap (λ (k : ℕ). list_all (declared_within k) g) (sym count) ∙ not_closed) in
      no_first (checked group_part (closed_group before)) (λ g. just (gs ++ g ∷ [])) end text (fault_here end text invalid_type)
      (checked_fault group_part (closed_group before) end text g invalid_type rest read is)

  pub too_many_types : 2 ^ 32 ≤ type_count_of gs + length g → with_group gs end text ≡ Err (fault_here end text fault.TooGreat)
  unfolding before closed_or
  too_many_types many =
      let is : closed_group before g ≡ Err fault.TooGreat =
      many_types (before + length g) (closed_or (list_all (declared_within (before + length g)) g)) (Err fault.TooGreat) many in
      no_first (checked group_part (closed_group before)) (λ g. just (gs ++ g ∷ [])) end text (fault_here end text fault.TooGreat)
      (checked_fault group_part (closed_group before) end text g fault.TooGreat rest read is)

-- ---- all groups

-- The builder has the groups that a loop has read so far; those of the other steps are left.
pub record GroupsSoFar (whole : Result (List Group × List ℕ) ModuleError) (left : ℕ) (d : Definitions) (end : ℕ) (rest : List ℕ) : Type 0 where
  pub groups : List Group
  pub are_defined : IsDefining d groups
  pub whole_is : whole ≡ repeated with_group left groups end rest

pub one_more_group :
    (whole : Result (List Group × List ℕ) ModuleError) (n i : ℕ) (d e : Definitions) (end other : ℕ) (text rest : List ℕ) → i < n → (so : GroupsSoFar whole (n - i) d end text) →
    DefinesGroups e rest (Ok tt) (with_group so.groups end text) → other ≡ end → GroupsSoFar whole (n - (i + 1)) e other rest
one_more_group whole n i d e end other text rest less so read o = record {
  groups = read.0;
  are_defined = read.2;
  whole_is =
      so.whole_is ∙ repeated_step with_group n i so.groups read.0 end text rest less read.1 ∙ ap (λ (k : ℕ). repeated with_group (n - (i + 1)) read.0 k rest) (sym o);
}

pub all_groups :
    (whole : Result (List Group × List ℕ) ModuleError) (n i : ℕ) (d : Definitions) (end : ℕ) (rest : List ℕ) → n ≤ i → GroupsSoFar whole (n - i) d end rest →
    DefinesGroups d rest (Ok tt) whole
all_groups whole n i d end rest done so = (so.groups, so.whole_is ∙ repeated_none with_group n i so.groups end rest done, so.are_defined)

pub group_fails :
    (whole : Result (List Group × List ℕ) ModuleError) (n i : ℕ) (d : Definitions) (end : ℕ) (text : List ℕ) (error : ModuleError) → i < n →
    (so : GroupsSoFar whole (n - i) d end text) → FailsUnlessMemory error (with_group so.groups end text) → FailsUnlessMemory error whole
group_fails whole n i d end text error less so (inl m) = inl m
group_fails whole n i d end text error less so (inr h) = inr (so.whole_is ∙ repeated_fault with_group n i so.groups end text error less h)
