-- Gathering the facts of a tree in a walk.
use Rattle.std.proofs.Common.{◌≡◌, ℕ, ◌+◌, List, [], ◌∷◌, ◌++◌, length, Bool, false, ◌||◌, refl, append-nil, append_assoc, inl, inr}
use Rattle.std.specs.List.{flat_map}
use Rattle.std.proofs.Math.Bool.{or-false}
use Rattle.walrus_ir.specs.declared.seq.InstrSeq.{InstrSeq}
use Rattle.walrus_ir.specs.declared.instr.Instr.{Instr}
use Rattle.walrus_ir.specs.declared.instr.Instr.TheVariants.{RefFunc, LocalGet, LocalSet, LocalTee, MemoryInit, DataDrop, ArrayNewData, ArrayInitData}
use Rattle.walrus_ir.specs.declared.error.WalkError.{WalkError}
use Rattle.walrus_ir.specs.Unfolding.{LocatedInstr, among}
use Rattle.walrus_ir.specs.Events.{WalkEvent, StartSequence, EndSequence, VisitInstruction, NameFunction, NameLocal, NameData, names}
use Rattle.walrus_ir.specs.Walk.{Finishes}
use Rattle.walrus_facts.specs.Facts.{segments, function_of, local_of_instr, locals_used, are_some, AreFacts, TreeHas}
use Rattle.walrus_facts.specs.Segments.{named}
use Rattle.walrus_facts.specs.Sizes.{visited}
use Rattle.walrus_facts.specs.Gathering.{has_used_local, function_at, local_at, Gathers, Declines}
use Rattle.walrus_facts.specs.declared.facts.FactsVisitor.{FactsVisitor}
use Rattle.walrus_facts.proofs.Collecting.{IsByInstruction, tree_collected, IsAdding, folded, adding_members, tree_named}
use Rattle.walrus_facts.proofs.Counting.{IsFull, IsCounting, counted}

functions_by : (i : Instr) (location : ℕ) → flat_map function_at (VisitInstruction i location ∷ names i) ≡ function_of i
functions_by (RefFunc x) location = refl
functions_by (LocalGet x) location = refl
functions_by (LocalSet x) location = refl
functions_by (LocalTee x) location = refl
functions_by (MemoryInit x) location = refl
functions_by (DataDrop x) location = refl
functions_by (ArrayNewData x) location = refl
functions_by (ArrayInitData x) location = refl
functions_by _ location = refl

locals_by : (i : Instr) (location : ℕ) → flat_map local_at (VisitInstruction i location ∷ names i) ≡ local_of_instr i
locals_by (RefFunc x) location = refl
locals_by (LocalGet x) location = refl
locals_by (LocalSet x) location = refl
locals_by (LocalTee x) location = refl
locals_by (MemoryInit x) location = refl
locals_by (DataDrop x) location = refl
locals_by (ArrayNewData x) location = refl
locals_by (ArrayInitData x) location = refl
locals_by _ location = refl

functions_by_instruction : IsByInstruction function_at (λ (x : LocatedInstr). function_of x.0)
functions_by_instruction = record { starts = λ seq. refl; ends = λ seq. refl; visits = λ x. functions_by x.0 x.1 }

locals_by_instruction : IsByInstruction local_at (λ (x : LocatedInstr). local_of_instr x.0)
locals_by_instruction = record { starts = λ seq. refl; ends = λ seq. refl; visits = λ x. locals_by x.0 x.1 }

some_of_both : (xs ys : List ℕ) (b : Bool) → are_some ys || (are_some xs || b) ≡ are_some (xs ++ ys) || b
some_of_both [] ys b = refl
some_of_both (x ∷ xs) [] b = refl
some_of_both (x ∷ xs) (y ∷ ys) b = refl

-- whether there are any, collected or from before
adding_some : IsAdding (λ (xs : List ℕ) (b : Bool). are_some xs || b)
adding_some = record { none = λ b. refl; both = some_of_both }

-- a list with the collected items after it
adding_after : IsAdding (λ (xs before : List ℕ). before ++ xs)
adding_after = record { none = append-nil; both = λ xs ys before. append_assoc before xs ys }

declined_for : (v : FactsVisitor) (e : WalkEvent) (f : WalkError) → Declines v e f → IsFull f (v.facts.size + length (visited e))
declined_for v (StartSequence seq) f h = absurd h
declined_for v (EndSequence seq) f h = absurd h
declined_for v (VisitInstruction i location) f h = inr h
declined_for v (NameFunction n) f h = inl h
declined_for v (NameLocal l) f h = inl h
declined_for v (NameData d) f h = absurd h

-- a visitor with a `FactsVisitor` in it, which gathers as that one
module _ {V : Type 0} (inner : V → FactsVisitor) where
  abbrev pub GathersInside : V → WalkEvent → V → Type 0
  GathersInside v e w = Gathers (inner v) e (inner w)

  abbrev pub DeclinesInside : V → WalkEvent → WalkError → Type 0
  DeclinesInside v e f = Declines (inner v) e f

  -- it counts
  pub facts_count : IsCounting GathersInside DeclinesInside (λ v. (inner v).facts.size)
  facts_count = record { steps_count = λ v w e s. s.size; refused_for = λ v e f. declined_for (inner v) e f }

  pub gathered : {b : List InstrSeq} {start : ℕ} {v w : V} → (inner v).facts.size ≡ 0 → (inner v).facts.uses_data_segments ≡ false
      → (inner v).facts.ref_funcs.items ≡ [] → ((l : ℕ) → has_used_local (inner v).facts l ≡ false) → Finishes b start GathersInside v w
      → TreeHas b start (λ t. AreFacts t.items (inner w).facts)
  gathered zero unused unreferred none h = record {
    tree = h.tree;
    is_tree = h.is_tree;
    holds = record {
      size = counted facts_count zero h;
      uses_data_segments =
          let all = folded {g = named} (λ v. (inner v).facts.uses_data_segments) adding_some (λ v w e s. s.uses_data_segments) h.folds in
          rw (all, unused, tree_named h.tree) (or-false (are_some (segments h.tree.items)));
      ref_funcs =
          let all = folded {g = function_at} (λ v. (inner v).facts.ref_funcs.items) adding_after (λ v w e s. s.ref_funcs) h.folds in
          rw (all, unreferred) (tree_collected functions_by_instruction h.tree);
      used_locals = λ l.
          let all = folded {g = local_at} (λ v. has_used_local (inner v).facts l) (adding_members l) (λ v w e s. s.used_locals l) h.folds in
          rw (all, none l, tree_collected locals_by_instruction h.tree) (or-false (among l (locals_used h.tree.items)));
    };
  }
