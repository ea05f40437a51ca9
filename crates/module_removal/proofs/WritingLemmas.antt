-- What is written for the start function, for an item, and for a recursive group.
use Rattle.std.proofs.Common.{◌≡◌, ℕ, Bool, true, false, List, [], ◌++◌, Option, Result, Ok, Err, OnOk, refl, sym, ap, subst, ◌∙◌}
use denote.Ref.{Bor}
use Rattle.wasm_operators.specs.declared.types.Space.{Space}
use Rattle.wasm_operators.specs.declared.types.Space.TheVariants.{Types, Funcs}
use Rattle.item_sets.specs.ItemsLeft.{is_left}
use Rattle.wasm_sections.specs.Format.{members_part}
use Rattle.wasm_sections.specs.Sections.{section}
use Rattle.wasm_sections.specs.declared.fault.ModuleError.{ModuleError}
use Rattle.module_removal.specs.declared.copier.Copier.{Copier}
use Rattle.module_removal.specs.declared.left.LeftItems.{LeftItems}
use Rattle.module_removal.specs.declared.writing.Writer.{Writer}
use Rattle.module_removal.specs.SeveralSteps.{SoManySteps}
use Rattle.module_removal.specs.ItemNumbers.{count_of, counted_more, with_more_items}
use Rattle.module_removal.specs.LeftSpaces.{marks_of, index_written}
use Rattle.module_removal.specs.CopiedParts.{Copied, CopiedPart, NewIndices, copied_index, AppendsCopied, Copies}
use Rattle.module_removal.specs.CopiedItems.{copied_import, copied_export, copied_subtype, begins_group}
use Rattle.module_removal.specs.Written.{Task, task_of, WritesIf, WritesNextItem, WritesImport, WritesExport, WritesTypeIf, WritesType, is_group_left, BeginsGroupIf, WritesGroup}

-- what is written after nothing was
out_is : (cleared mid : Copier) (a : Copied) → cleared.out.items ≡ [] → AppendsCopied cleared a mid → mid.out.items ≡ a.written
out_is cleared mid a none p = p.out ∙ ap (λ (l : List ℕ). l ++ a.written) none

-- the start function, whose index is copied
pub writes_start :
    (old : Writer) (cleared mid : Copier) (end : ℕ) (text following before after bytes : List ℕ) (r : Result (Unit {0}) ModuleError) →
    cleared.left ≡ old.kept.left → cleared.out.items ≡ [] → Copies cleared mid following (Ok tt) (copied_index (index_written cleared.left) Funcs end text) →
    bytes ≡ mid.out.items → OnOk r (after ≡ before ++ section 8 bytes) →
    OnOk r ((copied : Copied) × (following : List ℕ) × (copied_index (index_written old.kept.left) Funcs end text ≡ Ok ((tt, copied), following))
    × (after ≡ before ++ section 8 copied.written))
writes_start old cleared mid end text following before after bytes (Ok u) left none copies e put = (
  copies.0,
  following,
  ap (λ (l : Option (Bor LeftItems)). copied_index (index_written l) Funcs end text) (sym left) ∙ copies.1,
  put ∙ ap (λ (l : List ℕ). before ++ section 8 l) (e ∙ out_is cleared mid copies.0 none copies.2),
)
writes_start old cleared mid end text following before after bytes (Err x) left none copies e put = tt

-- the same part under the indices of another copier
pub part_as :
    {A : Type 0} (part : NewIndices → CopiedPart A) (end : ℕ) (text : List ℕ) (l m : Option (Bor LeftItems)) (r : Result ((A × Copied) × List ℕ) ModuleError) →
    m ≡ l → part (index_written m) end text ≡ r → part (index_written l) end text ≡ r
part_as part end text l m r e is = ap (λ (o : Option (Bor LeftItems)). part (index_written o) end text) (sym e) ∙ is

-- the same task, if both copiers keep their indices
abbrev with_indices : (kept passed : Option (Bor LeftItems)) → Writer → Task
with_indices kept passed w = (w.remainder, w.code, kept, passed)

same_task :
    (old new : Writer) (kept passed : Option (Bor LeftItems)) → task_of new ≡ with_indices kept passed old → kept ≡ old.kept.left →
    passed ≡ old.passed.left → task_of new ≡ task_of old
same_task old new kept passed e k p =
    e ∙ ap (λ (l : Option (Bor LeftItems)). with_indices l passed old) k ∙ ap (λ (l : Option (Bor LeftItems)). with_indices old.kept.left l old) p

-- ---- items

-- the next item, which is left
pub writes_left_item :
    {A : Type 0} (space : Space) (part : NewIndices → CopiedPart A) (end : ℕ) (text following : List ℕ) (old counted new : Writer) (passed cleared kept : Copier)
    (x : A) (r : Result (Unit {0}) ModuleError) → passed.left ≡ old.passed.left →
    counted ≡ record old { passed = passed; next = with_more_items space 1 old.next } →
    true ≡ is_left (marks_of old.remainder.now.left space) (count_of old.next space) → cleared.left ≡ counted.kept.left → cleared.out.items ≡ [] →
    Copies cleared kept following (Ok x) (part (index_written cleared.left) end text) → OnOk r (new.items.items ≡ counted.items.items ++ kept.out.items) →
    OnOk r (new.count ≡ counted_more counted.count 1) → new ≡ record counted { kept = kept; items = new.items; count = new.count } →
    OnOk r (WritesNextItem space part end text following old new)
writes_left_item space part end text following old counted new passed cleared kept x (Ok u) same cs is left none copies items count ns =
    let from_old : cleared.left ≡ old.kept.left = left ∙ ap (λ (w : Writer). w.kept.left) cs in
    record {
      next = ap (λ (w : Writer). w.next) ns ∙ ap (λ (w : Writer). w.next) cs;
      task =
          same_task old new kept.left passed.left (ap task_of ns ∙ ap (λ (w : Writer). with_indices kept.left w.passed.left w) cs) (copies.2.left ∙ from_old)
          same;
      has_elements = ap (λ (w : Writer). w.has_elements) ns ∙ ap (λ (w : Writer). w.has_elements) cs;
      out = ap (λ (w : Writer). w.out) ns ∙ ap (λ (w : Writer). w.out) cs;
      writes =
          subst (λ (b : Bool). WritesIf b part end text following old new) is (
            x,
            copies.0,
            part_as part end text old.kept.left cleared.left (Ok ((x, copies.0), following)) from_old copies.1,
            items ∙ ap (λ (w : Writer). w.items.items ++ kept.out.items) cs
                ∙ ap (λ (l : List ℕ). old.items.items ++ l) (out_is cleared kept copies.0 none copies.2),
            count ∙ ap (λ (w : Writer). counted_more w.count 1) cs,
          );
    }
writes_left_item space part end text following old counted new passed cleared kept x (Err e) same cs is left none copies items count ns = tt

-- the next item, which is passed over
pub writes_no_item :
    {A : Type 0} (space : Space) (part : NewIndices → CopiedPart A) (end : ℕ) (text following : List ℕ) (old new : Writer) (cleared passed : Copier) (x : A) →
    cleared.left ≡ old.passed.left → new ≡ record old { passed = passed; next = with_more_items space 1 old.next } →
    false ≡ is_left (marks_of old.remainder.now.left space) (count_of old.next space) →
    Copies cleared passed following (Ok x) (part (index_written cleared.left) end text) → WritesNextItem space part end text following old new
writes_no_item space part end text following old new cleared passed x left ns is copies = record {
  next = ap (λ (w : Writer). w.next) ns;
  task = same_task old new old.kept.left passed.left (ap task_of ns) refl (copies.2.left ∙ left);
  has_elements = ap (λ (w : Writer). w.has_elements) ns;
  out = ap (λ (w : Writer). w.out) ns;
  writes =
      subst (λ (b : Bool). WritesIf b part end text following old new) is (
        x,
        copies.0,
        part_as part end text old.passed.left cleared.left (Ok ((x, copies.0), following)) left copies.1,
        ap (λ (w : Writer). w.items.items) ns,
        ap (λ (w : Writer). w.count) ns,
      );
}

-- an import, which was read before
pub writes_import :
    (end : ℕ) (text rest following : List ℕ) (old new : Writer) (cleared passed : Copier) (space : Space) (r : Result (Unit {0}) ModuleError) →
    cleared.left ≡ old.passed.left → Copies cleared passed rest (Ok space) (copied_import (index_written cleared.left) end text) →
    OnOk r (WritesNextItem space copied_import end text following old new) → OnOk r (WritesImport end text following old new)
writes_import end text rest following old new cleared passed space (Ok u) left copies writes =
    (space, copies.0, rest, part_as copied_import end text old.passed.left cleared.left (Ok ((space, copies.0), rest)) left copies.1, writes)
writes_import end text rest following old new cleared passed space (Err e) left copies writes = tt

-- an export
pub writes_export :
    (end : ℕ) (text following : List ℕ) (old new : Writer) (cleared kept : Copier) (r : Result (Unit {0}) ModuleError) → cleared.left ≡ old.kept.left →
    cleared.out.items ≡ [] → Copies cleared kept following (Ok tt) (copied_export (index_written cleared.left) end text) →
    OnOk r (new.items.items ≡ old.items.items ++ kept.out.items) → OnOk r (new.count ≡ counted_more old.count 1) →
    new ≡ record old { kept = kept; items = new.items; count = new.count } → OnOk r (WritesExport end text following old new)
writes_export end text following old new cleared kept (Ok u) left none copies items count ns = record {
  next = ap (λ (w : Writer). w.next) ns;
  task = same_task old new kept.left old.passed.left (ap task_of ns) (copies.2.left ∙ left) refl;
  has_elements = ap (λ (w : Writer). w.has_elements) ns;
  out = ap (λ (w : Writer). w.out) ns;
  writes = (
    tt,
    copies.0,
    part_as copied_export end text old.kept.left cleared.left (Ok ((tt, copies.0), following)) left copies.1,
    items ∙ ap (λ (l : List ℕ). old.items.items ++ l) (out_is cleared kept copies.0 none copies.2),
    count,
  );
}
writes_export end text following old new cleared kept (Err e) left none copies items count ns = tt

-- ---- recursive groups

-- the next type, which is left
pub writes_left_type :
    (end : ℕ) (text following bytes : List ℕ) (old counted new : Writer) (cleared kept : Copier) →
    counted ≡ record old { next = with_more_items Types 1 old.next } → true ≡ is_left (marks_of old.remainder.now.left Types) old.next.types →
    cleared.left ≡ counted.kept.left → cleared.out.items ≡ [] → Copies cleared kept following (Ok tt) (copied_subtype (index_written cleared.left) end text) →
    bytes ≡ kept.out.items → new.items.items ≡ counted.items.items ++ bytes → new ≡ record counted { kept = kept; items = new.items } →
    WritesType end (old, text) (new, following)
writes_left_type end text following bytes old counted new cleared kept cs is left none copies same items ns =
    let from_old : cleared.left ≡ old.kept.left = left ∙ ap (λ (w : Writer). w.kept.left) cs in
    record {
      next = ap (λ (w : Writer). w.next) ns ∙ ap (λ (w : Writer). w.next) cs;
      task =
          same_task old new kept.left old.passed.left (ap task_of ns ∙ ap (λ (w : Writer). with_indices kept.left w.passed.left w) cs) (copies.2.left ∙ from_old)
          refl;
      has_elements = ap (λ (w : Writer). w.has_elements) ns ∙ ap (λ (w : Writer). w.has_elements) cs;
      out = ap (λ (w : Writer). w.out) ns ∙ ap (λ (w : Writer). w.out) cs;
      count = ap (λ (w : Writer). w.count) ns ∙ ap (λ (w : Writer). w.count) cs;
      writes =
          subst (λ (b : Bool). WritesTypeIf b end text following old new) is (
            copies.0,
            part_as copied_subtype end text old.kept.left cleared.left (Ok ((tt, copies.0), following)) from_old copies.1,
            items ∙ ap (λ (w : Writer). w.items.items ++ bytes) cs
                ∙ ap (λ (l : List ℕ). old.items.items ++ l) (same ∙ out_is cleared kept copies.0 none copies.2),
          );
    }

-- the next type, which is passed over
pub writes_no_type :
    (end : ℕ) (text following : List ℕ) (old counted new : Writer) (cleared passed : Copier) (r : Result (Unit {0}) ModuleError) →
    counted ≡ record old { next = with_more_items Types 1 old.next } → false ≡ is_left (marks_of old.remainder.now.left Types) old.next.types →
    cleared.left ≡ counted.passed.left → Copies cleared passed following r (copied_subtype (index_written cleared.left) end text) →
    new ≡ record counted { passed = passed } → OnOk r (WritesType end (old, text) (new, following))
writes_no_type end text following old counted new cleared passed (Ok u) cs is left copies ns =
    let from_old : cleared.left ≡ old.passed.left = left ∙ ap (λ (w : Writer). w.passed.left) cs in
    record {
      next = ap (λ (w : Writer). w.next) ns ∙ ap (λ (w : Writer). w.next) cs;
      task =
          same_task old new old.kept.left passed.left (ap task_of ns ∙ ap (λ (w : Writer). with_indices w.kept.left passed.left w) cs) refl
          (copies.2.left ∙ from_old);
      has_elements = ap (λ (w : Writer). w.has_elements) ns ∙ ap (λ (w : Writer). w.has_elements) cs;
      out = ap (λ (w : Writer). w.out) ns ∙ ap (λ (w : Writer). w.out) cs;
      count = ap (λ (w : Writer). w.count) ns ∙ ap (λ (w : Writer). w.count) cs;
      writes =
          subst (λ (b : Bool). WritesTypeIf b end text following old new) is (
            copies.0,
            part_as copied_subtype end text old.passed.left cleared.left (Ok ((u, copies.0), following)) from_old copies.1,
            ap (λ (w : Writer). w.items.items) ns ∙ ap (λ (w : Writer). w.items.items) cs,
          );
    }
writes_no_type end text following old counted new cleared passed (Err e) cs is left copies ns = tt

pub writes_group :
    (end other : ℕ) (text rest following : List ℕ) (members : ℕ) (is_group : Bool) (old mid new : Writer) (r : Result (Unit {0}) ModuleError) →
    members_part end text ≡ Ok (members, rest) → is_group ≡ begins_group text →
    BeginsGroupIf (is_group_left members (is_left (marks_of old.remainder.now.left Types) old.next.types)) is_group members old mid → other ≡ end →
    OnOk r (SoManySteps (WritesType other) members (mid, rest) (new, following)) → OnOk r (WritesGroup end (old, text) (new, following))
writes_group end other text rest following members is_group old mid new (Ok u) e mark begins s steps = (
  members,
  rest,
  e,
  mid,
  subst (λ (b : Bool). BeginsGroupIf (is_group_left members (is_left (marks_of old.remainder.now.left Types) old.next.types)) b members old mid) mark begins,
  subst (λ (n : ℕ). SoManySteps (WritesType n) members (mid, rest) (new, following)) s steps,
)
writes_group end other text rest following members is_group old mid new (Err x) e mark begins s steps = tt
