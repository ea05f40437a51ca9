-- Items in an arena of sequences: one list after another, the same items in another arena, and that places which rise are
-- apart.
use Rattle.std.specs.Prelude.{◌≡◌, ℕ, suc, ◌<◌, ◌≤◌, ◌==◌, List, [], ◌∷◌, ◌++◌, false, ◌||◌, slice_get}
use Rattle.std.specs.List.{AllByRecursion}
use Rattle.std.proofs.Common.{refl, ap, ◌∙◌, arith}
use Rattle.walrus_ir.specs.declared.seq.InstrSeq.{InstrSeq}
use Rattle.walrus_ir.specs.Tree.{Items, no_items, item, Sequences, no_sequences, sequence}
use Rattle.walrus_ir.specs.Unfolding.{SequenceAt, LocatedInstr, AreTreeItems, are_no_items, are_items, AreSequences, are_no_sequences, are_sequences, slots_reached, slots_reached_each, among, Apart}
use Rattle.wasm_body.specs.Keeping.{joined_items}
use Rattle.wasm_body.specs.TreeOfFunction.{instruction_in, items_in, sequences_in}
use Rattle.wasm_body.specs.Intervals.{RiseIn, AllRiseIn}

-- ---- intervals

mutual
  pub rise-range : (low : ℕ) (is : Items SequenceAt LocatedInstr) (high : ℕ) → RiseIn low is high → low ≤ high
  rise-range low no_items high r = r
  rise-range low (item x ss r) high h =
      let a = all_rise-range low ss h.0 h.1 in let b = rise-range h.0 r high h.2 in omega arith

  pub all_rise-range : (low : ℕ) (ss : Sequences SequenceAt LocatedInstr) (high : ℕ) → AllRiseIn low ss high → low ≤ high
  all_rise-range low no_sequences high r = r
  all_rise-range low (sequence p is r) high h =
      let a = rise-range (suc p.slot) is h.0 h.2 in let b = all_rise-range h.0 r high h.3 in let c = h.1 in omega arith

mutual
  pub rise-wider : (low lower : ℕ) (is : Items SequenceAt LocatedInstr) (high higher : ℕ) → lower ≤ low → high ≤ higher → RiseIn low is high → RiseIn lower is higher
  rise-wider low lower no_items high higher l h r = omega arith
  rise-wider low lower (item x ss rest) high higher l h r =
      (r.0, all_rise-wider low lower ss r.0 r.0 l (omega arith) r.1, rise-wider r.0 r.0 rest high higher (omega arith) h r.2)

  pub all_rise-wider : (low lower : ℕ) (ss : Sequences SequenceAt LocatedInstr) (high higher : ℕ) → lower ≤ low → high ≤ higher → AllRiseIn low ss high → AllRiseIn lower ss higher
  all_rise-wider low lower no_sequences high higher l h r = omega arith
  all_rise-wider low lower (sequence p is rest) high higher l h r =
      (r.0, (let a = r.1 in omega arith), r.2, all_rise-wider r.0 r.0 rest high higher (omega arith) h r.3)

pub rise-joined : (low : ℕ) (is js : Items SequenceAt LocatedInstr) (middle high : ℕ) → RiseIn low is middle → RiseIn middle js high → RiseIn low (joined_items is js) high
rise-joined low no_items js middle high r s = rise-wider middle low js high high r (omega arith) s
rise-joined low (item x ss rest) js middle high r s = (r.0, r.1, rise-joined r.0 rest js middle high r.2 s)

-- ---- one list of items after another

pub items-joined : {b : List InstrSeq} {xs ys : List LocatedInstr} {is js : Items SequenceAt LocatedInstr} → AreTreeItems b xs is → AreTreeItems b ys js → AreTreeItems b (xs ++ ys) (joined_items is js)
items-joined are_no_items t = t
items-joined (are_items r s) t = are_items r (items-joined s t)

pub in-joined : (around : List ℕ) (is js : Items SequenceAt LocatedInstr) → items_in around (joined_items is js) ≡ joined_items (items_in around is) (items_in around js)
in-joined around no_items js = refl
in-joined around (item x ss r) js = ap (item (instruction_in around x) (sequences_in around ss)) (in-joined around r js)

-- ---- the same items in another arena, which is unchanged in their places

abbrev pub SameIn : (b c : List InstrSeq) (low high : ℕ) → Type 0
SameIn b c low high = (p : ℕ) → low ≤ p → p < high → slice_get c p ≡ slice_get b p

mutual
  pub items-same : {b : List InstrSeq} {xs : List LocatedInstr} {is : Items SequenceAt LocatedInstr} (c : List InstrSeq) (low high : ℕ) → SameIn b c low high → RiseIn low is high → AreTreeItems b xs is → AreTreeItems c xs is
  items-same c low high same r are_no_items = are_no_items
  items-same c low high same r (are_items {inside = ss} {rest = is} s t) =
      are_items
      (sequences-same c low r.0 (λ p l h. same p l (let e = rise-range r.0 is high r.2 in omega arith)) r.1 s)
      (items-same c r.0 high (λ p l h. same p (let e = all_rise-range low ss r.0 r.1 in omega arith) h) r.2 t)

  pub sequences-same : {b : List InstrSeq} {ps : List ℕ} {ss : Sequences SequenceAt LocatedInstr} (c : List InstrSeq) (low high : ℕ) → SameIn b c low high → AllRiseIn low ss high → AreSequences b ps ss → AreSequences c ps ss
  sequences-same c low high same r are_no_sequences = are_no_sequences
  sequences-same c low high same r (are_sequences {p = p} {items = is} {rest = ss} e s t) =
      let inside = rise-range (suc p) is r.0 r.2 in
      let following = all_rise-range r.0 ss high r.3 in
      are_sequences
      (same p r.1 (omega arith) ∙ e)
      (items-same c (suc p) r.0 (λ q l h. same q (let a = r.1 in omega arith) (omega arith)) r.2 s)
      (sequences-same c r.0 high (λ q l h. same q (let a = r.1 in omega arith) h) r.3 t)

-- ---- places that rise are apart

differ : (m n : ℕ) → n < m → (m == n) ≡ false
differ m n l = grind arith

abbrev pub AllBelow : ℕ → List ℕ → Type 0
AllBelow high ps = AllByRecursion (λ p. p < high) ps

below_wider : (ps : List ℕ) (low high : ℕ) → low ≤ high → AllBelow low ps → AllBelow high ps
below_wider [] low high l b = tt
below_wider (p ∷ ps) low high l b = ((let a = b.0 in omega arith), below_wider ps low high l b.1)

not_among : (ps : List ℕ) (place low : ℕ) → low ≤ place → AllBelow low ps → among place ps ≡ false
not_among [] place low l b = refl
not_among (p ∷ ps) place low l b =
    let a = b.0 in
    ap (λ t. t || among place ps) (differ place p (omega arith)) ∙ not_among ps place low l b.1

pub record IsFresh (ps : List ℕ) (high : ℕ) : Type 0 where
  pub apart : Apart ps
  pub below : AllBelow high ps

mutual
  pub reached-fresh : (low : ℕ) (is : Items SequenceAt LocatedInstr) (high : ℕ) (seen : List ℕ) → RiseIn low is high → IsFresh seen low → IsFresh (slots_reached is seen) high
  reached-fresh low no_items high seen r f = record { apart = f.apart; below = below_wider seen low high r f.below }
  reached-fresh low (item x ss rest) high seen r f = reached-fresh r.0 rest high (slots_reached_each ss seen) r.2 (all_reached-fresh low ss r.0 seen r.1 f)

  pub all_reached-fresh : (low : ℕ) (ss : Sequences SequenceAt LocatedInstr) (high : ℕ) (seen : List ℕ) → AllRiseIn low ss high → IsFresh seen low → IsFresh (slots_reached_each ss seen) high
  all_reached-fresh low no_sequences high seen r f = record { apart = f.apart; below = below_wider seen low high r f.below }
  all_reached-fresh low (sequence h is rest) high seen r f =
      let a = r.1 in
      let first : IsFresh (h.slot ∷ seen) (suc h.slot) = record {
        apart = (not_among seen h.slot low r.1 f.below, f.apart);
        below = (omega arith, below_wider seen low (suc h.slot) (omega arith) f.below);
      } in
      all_reached-fresh r.0 rest high (slots_reached is (h.slot ∷ seen)) r.3 (reached-fresh (suc h.slot) is r.0 (h.slot ∷ seen) r.2 first)
