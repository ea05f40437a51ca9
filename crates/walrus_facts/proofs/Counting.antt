-- Counting the instructions of a tree in a walk.
use Rattle.std.proofs.Common.{◌≡◌, ◌⊎◌, ◌+◌, ◌^◌, ◌≤◌, ℕ, List, [], ◌∷◌, length, length-append, refl, ap, ◌∙◌, arith, inl, inr}
use Rattle.std.specs.List.{flat_map}
use Rattle.std.proofs.lemmas.List.{length-map}
use Rattle.std.proofs.lemmas.List.Concat.{flat_map_single}
use Rattle.walrus_ir.specs.declared.seq.InstrSeq.{InstrSeq}
use Rattle.walrus_ir.specs.declared.instr.Instr.{Instr}
use Rattle.walrus_ir.specs.declared.instr.Instr.TheVariants.{RefFunc, LocalGet, LocalSet, LocalTee, MemoryInit, DataDrop, ArrayNewData, ArrayInitData}
use Rattle.walrus_ir.specs.declared.error.WalkError.{WalkError}
use Rattle.walrus_ir.specs.declared.error.WalkError.TheVariants.{Memory, TooLarge}
use Rattle.walrus_ir.specs.Tree.{Tree}
use Rattle.walrus_ir.specs.Unfolding.{SequenceAt, LocatedInstr, IsTree}
use Rattle.walrus_ir.specs.Events.{WalkEvent, VisitInstruction, names, events, Stops, refused, later}
use Rattle.walrus_ir.specs.Walk.{Finishes, IsRefused, IsNotWalked, HasNoWalk}
use Rattle.walrus_facts.specs.Facts.{instructions, count, TreeHas}
use Rattle.walrus_facts.specs.Sizes.{visited, Counts, Overflows, IsTooLarge}
use Rattle.walrus_facts.specs.declared.sizes.SizeVisitor.{SizeVisitor}
use Rattle.walrus_facts.proofs.Collecting.{IsByInstruction, tree_collected, IsAdding, folded, no_walk}

visited_by : (i : Instr) (location : ℕ) → flat_map visited (VisitInstruction i location ∷ names i) ≡ (i, location) ∷ []
visited_by (RefFunc x) location = refl
visited_by (LocalGet x) location = refl
visited_by (LocalSet x) location = refl
visited_by (LocalTee x) location = refl
visited_by (MemoryInit x) location = refl
visited_by (DataDrop x) location = refl
visited_by (ArrayNewData x) location = refl
visited_by (ArrayInitData x) location = refl
visited_by _ location = refl

pub one_an_instruction : IsByInstruction visited (λ x. x ∷ [])
one_an_instruction = record { starts = λ seq. refl; ends = λ seq. refl; visits = λ x. visited_by x.0 x.1 }

pub tree_visited : (t : Tree SequenceAt LocatedInstr) → length (flat_map visited (events t)) ≡ count t.items
tree_visited t = ap (λ xs. length xs) (tree_collected one_an_instruction t ∙ flat_map_single (λ x. x) (instructions t.items)) ∙ length-map (instructions t.items) (λ x. x)

-- a count plus the number of items counted
adding_count : IsAdding (λ (xs : List LocatedInstr) (n : ℕ). n + length xs)
adding_count = record {
  none = λ n. omega arith;
  both = λ xs ys n. let all = length-append xs ys in omega (arith, all);
}

-- memory ran out, or this number of instructions doesn't fit 64 bits
abbrev pub IsFull : WalkError → ℕ → Type 0
IsFull f n = (f ≡ Memory) ⊎ ((f ≡ TooLarge) × (2 ^ 64 ≤ n))

-- a refusal at one count is a refusal at any greater count
full_as_well : {f : WalkError} {m n : ℕ} → m ≤ n → IsFull f m → IsFull f n
full_as_well more (inl memory) = inl memory
full_as_well more (inr h) = let past = h.1 in inr (h.0, omega (arith, more, past))

full_of_tree : {b : List InstrSeq} {start : ℕ} {f : WalkError} {n : ℕ} (t : Tree SequenceAt LocatedInstr) → IsTree b start t → n ≡ count t.items
    → IsFull f n → HasNoWalk b start f ⊎ IsTooLarge b start f
full_of_tree t is_tree all (inl memory) = inl (inl memory)
full_of_tree t is_tree all (inr h) = let past = h.1 in inr (h.0, record { tree = t; is_tree = is_tree; holds = omega (arith, past, all) })

-- A visitor that counts the instructions. It refuses one if memory runs out, or if the count would not fit 64 bits.
pub record IsCounting {V : Type 0} (steps : V → WalkEvent → V → Type 0) (refuses : V → WalkEvent → WalkError → Type 0) (size : V → ℕ) : Type 0 where
  pub steps_count : (v w : V) (e : WalkEvent) → steps v e w → size w ≡ size v + length (visited e)
  pub refused_for : (v : V) (e : WalkEvent) (f : WalkError) → refuses v e f → IsFull f (size v + length (visited e))

module _ {V : Type 0} {steps : V → WalkEvent → V → Type 0} {refuses : V → WalkEvent → WalkError → Type 0} {size : V → ℕ} (counting : IsCounting steps refuses size) where
  stops_visited : {same : V → V → Type 0} {v w : V} {es : List WalkEvent} {f : WalkError} → Stops steps refuses same v es w f
      → IsFull f (size v + length (flat_map visited es))
  stops_visited (refused {v = v} {e = e} {es = es} {f = f} r s) =
      let all = length-append (visited e) (flat_map visited es) in
      full_as_well (omega (arith, all)) (counting.refused_for v e f r)
  stops_visited (later {v = v} {w = w} {e = e} {es = es} s f) =
      let all = length-append (visited e) (flat_map visited es) in
      let step = counting.steps_count v w e s in
      full_as_well (omega (arith, step, all)) (stops_visited f)

  pub counted : {b : List InstrSeq} {start : ℕ} {v w : V} → size v ≡ 0 → (h : Finishes b start steps v w) → size w ≡ count h.tree.items
  counted zero h =
      let all_events = folded {g = visited} size adding_count counting.steps_count h.folds in
      let all = tree_visited h.tree in
      omega (arith, zero, all_events, all)

  pub not_counted : {same : V → V → Type 0} {b : List InstrSeq} {start : ℕ} {v w : V} {f : WalkError} → size v ≡ 0
      → IsRefused b start steps refuses same v w f ⊎ IsNotWalked b start (λ e f. f ≡ e) v w f → HasNoWalk b start f ⊎ IsTooLarge b start f
  not_counted zero (inl r) =
      let all = tree_visited r.tree in
      full_of_tree r.tree r.is_tree (omega (arith, zero, all)) (stops_visited r.stops)
  not_counted zero (inr u) = inl (no_walk u)

-- `SizeVisitor` counts
pub size_counts : IsCounting Counts Overflows (λ (v : SizeVisitor). v.size)
size_counts = record { steps_count = λ v w e s. s; refused_for = λ v e f r. inr r }

pub size_counted : {b : List InstrSeq} {start : ℕ} {v w : SizeVisitor} → v.size ≡ 0 → Finishes b start Counts v w → TreeHas b start (λ t. w.size ≡ count t.items)
size_counted zero h = record { tree = h.tree; is_tree = h.is_tree; holds = counted size_counts zero h }
