-- A scan of a function's sequences: what it has found of the instructions of the sequences that it has reached is what the
-- tree's instructions name.
use Rattle.std.proofs.Common.{◌≡◌, ℕ, zero, suc, ◌+◌, ◌<◌, ◌==◌, ◌&&◌, nat_lt, List, [], ◌∷◌, ◌++◌, Bool, true, false, ◌||◌, length, length-append, reverse, set, get_or, refl, sym, ap, ◌∙◌, append-nil, append_assoc, arith}
use Rattle.std.specs.Prelude.{slice_get}
use Rattle.std.proofs.lemmas.Bool.{eqb-true}
use Rattle.std.proofs.lemmas.Bool.Decides.{nat_tests}
use Rattle.std.specs.Bool.{OnTrue}
use Rattle.std.specs.HashSet.{contains}
use Rattle.std.specs.List.{flat_map}
use Rattle.std.proofs.Math.ListN.{length-set}
use Rattle.std.proofs.lemmas.List.{reverse-append}
use Rattle.std.proofs.lemmas.Option.{slice_get_within}
use Rattle.std.proofs.lemmas.Grind.{flat_map-append}
use Rattle.std.proofs.lemmas.List.Folds.{list_any-append}
use Rattle.walrus_ir.specs.declared.seq.InstrSeq.{InstrSeq}
use Rattle.walrus_ir.specs.declared.instr.Instr.{Instr}
use Rattle.walrus_ir.specs.declared.control.LegacyCatch.{LegacyCatch}
use Rattle.walrus_ir.specs.Tree.{Items, no_items, item, Sequences, Tree, alone}
use Rattle.walrus_ir.specs.Unfolding.{SequenceAt, LocatedInstr, handler_of, handlers, slots_in, slots_in_all, AreTreeItems, are_no_items, are_items, AreSequences, are_no_sequences, are_sequences, slots_reached, slots_reached_each, among, IsTree}
use Rattle.walrus_ir.specs.Faults.{Walks, onward}
use Rattle.walrus_ir.proofs.WalkLaws.{walk_makes_tree}
use Rattle.walrus_ir.proofs.Marks.{marked, unreached, unreached-set}
use Rattle.walrus_facts.specs.declared.scanning.Scan.{Scan}
use Rattle.walrus_facts.specs.declared.facts.EmitFacts.{EmitFacts}
use Rattle.walrus_facts.specs.Marking.{is_marked}
use Rattle.walrus_facts.specs.Facts.{instructions, instructions_inside, segment_of, function_of, referred, local_of_instr, are_some, AreFacts, TreeHas}
use Rattle.walrus_facts.specs.Scanning.{locals_named, segments_named, functions_named, GoesOn, MarksOne, AddsOne, AddsAll, EntersSequence, HasFound, instrs_of, instrs_at, IsScanning}

-- ---- what is said of lists of instructions in any order

module _ {M : Type 0} (h : List LocatedInstr → M) (op : M → M → M) (both : (xs ys : List LocatedInstr) → h (xs ++ ys) ≡ op (h xs) (h ys))
    (assoc : (a b c : M) → op (op a b) c ≡ op a (op b c)) (swap : (a b c : M) → op a (op b c) ≡ op (op b a) c) where
  -- the instructions in the sequences inside of these items
  abbrev inner : Items SequenceAt LocatedInstr → List LocatedInstr
  inner no_items = []
  inner (item x inside rest) = instructions_inside inside ++ inner rest

  -- a sequence's own instructions, and those inside of it
  parts : {b : List InstrSeq} {xs : List LocatedInstr} {is : Items SequenceAt LocatedInstr} → AreTreeItems b xs is → h (instructions is) ≡ op (h xs) (h (inner is))
  parts are_no_items = both [] []
  parts (are_items {x = x} {xs = xs} {inside = inside} {rest = rest} a r) =
      let own = h (x ∷ []) in let ins = h (instructions_inside inside) in let more = h xs in let deep = h (inner rest) in
      both (x ∷ []) (instructions_inside inside ++ instructions rest)
      ∙ ap (λ m. op own m) (both (instructions_inside inside) (instructions rest) ∙ ap (λ m. op ins m) (parts r) ∙ swap ins more deep ∙ assoc more ins deep)
      ∙ sym (assoc own more (op ins deep))
      ∙ ap (λ m. op m (op ins deep)) (sym (both (x ∷ []) xs))
      ∙ ap (λ m. op (h (x ∷ xs)) m) (sym (both (instructions_inside inside) (inner rest)))

  mutual
    of_items : {b : List InstrSeq} {xs : List LocatedInstr} {is : Items SequenceAt LocatedInstr} (seen : List ℕ) → AreTreeItems b xs is
        → h (instrs_at b (slots_reached is seen)) ≡ op (h (inner is)) (h (instrs_at b seen))
    of_items {b = b} seen are_no_items = both [] (instrs_at b seen)
    of_items {b = b} seen (are_items {inside = inside} {rest = rest} a r) =
        of_items (slots_reached_each inside seen) r
        ∙ ap (λ m. op (h (inner rest)) m) (of_sequences seen a)
        ∙ swap (h (inner rest)) (h (instructions_inside inside)) (h (instrs_at b seen))
        ∙ ap (λ m. op m (h (instrs_at b seen))) (sym (both (instructions_inside inside) (inner rest)))

    of_sequences : {b : List InstrSeq} {ps : List ℕ} {ss : Sequences SequenceAt LocatedInstr} (seen : List ℕ) → AreSequences b ps ss
        → h (instrs_at b (slots_reached_each ss seen)) ≡ op (h (instructions_inside ss)) (h (instrs_at b seen))
    of_sequences {b = b} seen are_no_sequences = both [] (instrs_at b seen)
    of_sequences {b = b} seen (are_sequences {p = p} {seq = seq} {items = items} {rest = rest} k a r) =
        let old = h (instrs_at b seen) in let others = h (instructions_inside rest) in let own = h seq.instrs in let deep = h (inner items) in
        let first : h (instrs_at b (p ∷ seen)) ≡ op own old = both (instrs_of (slice_get b p)) (instrs_at b seen) ∙ ap (λ o. op (h (instrs_of o)) old) k in
        of_sequences (slots_reached items (p ∷ seen)) r
        ∙ ap (λ m. op others m) (of_items (p ∷ seen) a ∙ ap (λ m. op deep m) first ∙ swap deep own old)
        ∙ swap others (op own deep) old
        ∙ ap (λ m. op (op m others) old) (sym (parts a))
        ∙ ap (λ m. op m old) (sym (both (instructions items) (instructions_inside rest)))

  pub of_tree : {b : List InstrSeq} {start : ℕ} (t : Tree SequenceAt LocatedInstr) → IsTree b start t → (seen : List ℕ) → slots_reached_each (alone t) [] ≡ seen
      → h (instrs_at b seen) ≡ h (instructions t.items)
  of_tree {b = b} t is seen slots =
      ap (λ ps. h (instrs_at b ps)) (sym slots)
      ∙ of_sequences [] is.unfolds
      ∙ sym (both (instructions t.items ++ []) [])
      ∙ ap h (append-nil (instructions t.items ++ []) ∙ append-nil (instructions t.items))

-- ---- what is said of them

or_assoc : (a b c : Bool) → ((a || b) || c) ≡ (a || (b || c))
or_assoc true b c = refl
or_assoc false b c = refl

or_swap : (a b c : Bool) → (a || (b || c)) ≡ ((b || a) || c)
or_swap true true c = refl
or_swap true false c = refl
or_swap false true c = refl
or_swap false false c = refl

pub some_both : (xs ys : List ℕ) → are_some (xs ++ ys) ≡ (are_some xs || are_some ys)
some_both [] ys = refl
some_both (x ∷ xs) ys = refl

some_named : (f : LocatedInstr → List ℕ) (xs ys : List LocatedInstr) → are_some (flat_map f (xs ++ ys)) ≡ (are_some (flat_map f xs) || are_some (flat_map f ys))
some_named f xs ys = ap are_some (flat_map-append f xs ys) ∙ some_both (flat_map f xs) (flat_map f ys)

pub among_both : (l : ℕ) (xs ys : List ℕ) → among l (xs ++ ys) ≡ (among l xs || among l ys)
among_both l xs ys = list_any-append (λ q. l == q) xs ys

among_named : (l : ℕ) (xs ys : List LocatedInstr) → among l (locals_named (xs ++ ys)) ≡ (among l (locals_named xs) || among l (locals_named ys))
among_named l xs ys =
    ap (among l) (flat_map-append (λ (x : LocatedInstr). local_of_instr x.0) xs ys) ∙ among_both l (locals_named xs) (locals_named ys)

-- ---- the instructions of a sequence

pub none_added : (s : Scan) → AddsAll [] s s
none_added s = record { coming = refl; marks = λ l. refl; size = refl; uses = refl; refers = refl; reached = refl }

pub one_added : (x : LocatedInstr) (ys : List LocatedInstr) (old mid new : Scan) → AddsAll ys old mid → AddsOne x.0 mid new → AddsAll (x ∷ ys) old new
one_added x ys old mid new all one = record {
  coming = one.coming ∙ (ap (λ ps. slots_in x.0 ++ ps) all.coming ∙ sym (append_assoc (slots_in x.0) (slots_in_all ys) (reverse old.coming.items)));
  marks = λ l.
      one.marks l
      ∙ (ap (λ b. among l (local_of_instr x.0) || b) (all.marks l)
      ∙ (sym (or_assoc (among l (local_of_instr x.0)) (among l (locals_named ys)) (is_marked old.marks.items l))
      ∙ ap (λ b. b || is_marked old.marks.items l) (sym (among_both l (local_of_instr x.0) (locals_named ys)))));
  size = one.size ∙ all.size;
  uses =
      one.uses
      ∙ (ap (λ b. are_some (segment_of x.0) || b) all.uses
      ∙ (sym (or_assoc (are_some (segment_of x.0)) (are_some (segments_named ys)) old.uses_data_segments)
      ∙ ap (λ b. b || old.uses_data_segments) (sym (some_both (segment_of x.0) (segments_named ys)))));
  refers =
      one.refers
      ∙ (ap (λ b. are_some (function_of x.0) || b) all.refers
      ∙ (sym (or_assoc (are_some (function_of x.0)) (are_some (functions_named ys)) old.refers)
      ∙ ap (λ b. b || old.refers) (sym (some_both (function_of x.0) (functions_named ys)))));
  reached = one.reached ∙ all.reached;
}

-- Of these instructions the last ones were added, and these are left.
pub record Remains (all left : List LocatedInstr) (old new : Scan) : Type 0 where
  pub added : List LocatedInstr
  pub split : all ≡ left ++ added
  pub adds : AddsAll added old new

pub all_remain : (all : List LocatedInstr) (s : Scan) → Remains all all s s
all_remain all s = record { added = []; split = sym (append-nil all); adds = none_added s }

pub fewer_remain : (all left before : List LocatedInstr) (x : LocatedInstr) (old mid new : Scan) → left ≡ before ++ x ∷ [] → Remains all left old mid → AddsOne x.0 mid new
    → Remains all before old new
fewer_remain all left before x old mid new last r one = record {
  added = x ∷ r.added;
  split = r.split ∙ (ap (λ xs. xs ++ r.added) last ∙ append_assoc before (x ∷ []) r.added);
  adds = one_added x r.added old mid new r.adds one;
}

pub none_remain : (all left : List LocatedInstr) (old new : Scan) → left ≡ [] → Remains all left old new → AddsAll all old new
none_remain all left old new none r = let is : all ≡ r.added = r.split ∙ ap (λ xs. xs ++ r.added) none in rw is r.adds

-- ---- all sequences

some_more : (f : LocatedInstr → List ℕ) (xs ys : List LocatedInstr) (new old : Bool) → new ≡ (are_some (flat_map f xs) || old) → old ≡ are_some (flat_map f ys)
    → new ≡ are_some (flat_map f (xs ++ ys))
some_more f xs ys new old adds was = adds ∙ (ap (λ b. are_some (flat_map f xs) || b) was ∙ sym (some_named f xs ys))

pub entered : {b : List InstrSeq} {start : ℕ} (slot : ℕ) (old popped new : Scan) → IsScanning b start old
    → old.coming.items ≡ popped.coming.items ++ slot ∷ [] → popped.reached.items ≡ old.reached.items → popped.size ≡ old.size
    → popped.uses_data_segments ≡ old.uses_data_segments → popped.refers ≡ old.refers → popped.marks.items ≡ old.marks.items
    → EntersSequence b slot popped new → IsScanning b start new
entered {b = b} {start = start} slot old popped new h taken same_reached same_size same_uses same_refers same_marks e =
    let seq = e.seq in
    let next : reverse old.coming.items ≡ slot ∷ reverse popped.coming.items = ap reverse taken ∙ reverse-append popped.coming.items (slot ∷ []) in
    let marks = old.reached.items in
    let fresh : get_or marks slot false ≡ false = ap (λ (ms : List Bool). get_or ms slot false) (sym same_reached) ∙ e.is_reached.fresh in
    let within : slot < length marks = rw h.as_long (slice_get_within _ slot seq e.is_reached.known) in
    let marks_after : new.reached.items ≡ set marks slot true = e.is_reached.marked ∙ ap (λ (ms : List Bool). set ms slot true) same_reached in
    let walks : Walks b start h.seen (slot ∷ reverse popped.coming.items) = rw next at h.walks in
    let first : instrs_at b (slot ∷ h.seen) ≡ seq.instrs ++ instrs_at b h.seen = ap (λ o. instrs_of o ++ instrs_at b h.seen) e.is_reached.known in
    record {
      seen = slot ∷ h.seen;
      walks = rw e.coming (onward walks e.is_reached.known (sym (h.marks_are slot) ∙ fresh));
      as_long = rw marks_after (length-set marks slot true ∙ h.as_long);
      marks_are = rw marks_after (marked marks slot h.seen within h.marks_are);
      size = let all = ap length first ∙ length-append seq.instrs (instrs_at b h.seen) in omega (arith, all, e.size, same_size, h.size);
      uses = some_more _ seq.instrs (instrs_at b h.seen) _ popped.uses_data_segments e.uses (same_uses ∙ h.uses) ∙ ap (λ xs. are_some (segments_named xs)) (sym first);
      refers = some_more _ seq.instrs (instrs_at b h.seen) _ popped.refers e.refers (same_refers ∙ h.refers) ∙ ap (λ xs. are_some (functions_named xs)) (sym first);
      marks = λ l.
          e.marks l
          ∙ (ap (λ b. among l (locals_named seq.instrs) || b) (ap (λ (ms : List Bool). is_marked ms l) same_marks ∙ h.marks l)
          ∙ (sym (among_named l seq.instrs (instrs_at b h.seen)) ∙ ap (λ xs. among l (locals_named xs)) (sym first)));
    }

-- each sequence that is reached lowers the bound
pub fewer_unreached : {b : List InstrSeq} {start : ℕ} (slot : ℕ) (old popped new : Scan) → IsScanning b start old → popped.reached.items ≡ old.reached.items
    → EntersSequence b slot popped new → unreached new.reached.items b < unreached old.reached.items b
fewer_unreached {b = b} slot old popped new h same_reached e =
    let marks = old.reached.items in
    let fresh : get_or marks slot false ≡ false = ap (λ (ms : List Bool). get_or ms slot false) (sym same_reached) ∙ e.is_reached.fresh in
    let within : slot < length marks = rw h.as_long (slice_get_within _ slot e.seq e.is_reached.known) in
    let marks_after : new.reached.items ≡ set marks slot true = e.is_reached.marked ∙ ap (λ (ms : List Bool). set ms slot true) same_reached in
    let fewer = unreached-set marks b slot e.seq within e.is_reached.known fresh in
    rw marks_after (omega (arith, fewer))

pub all_found : {b : List InstrSeq} {start : ℕ} (s : Scan) → IsScanning b start s → s.coming.items ≡ [] → TreeHas b start (λ t. HasFound t.items s)
all_found {b = b} {start = start} s h none =
    let walks : Walks b start h.seen [] = rw none at h.walks in
    let whole = walk_makes_tree b start h.seen walks in
    let t = whole.tree in
    record {
      tree = t;
      is_tree = whole.is_tree;
      holds = record {
        size = h.size ∙ of_tree length (λ m n. m + n) length-append (λ a b c. omega arith) (λ a b c. omega arith) t whole.is_tree h.seen whole.slots;
        uses = h.uses ∙ of_tree (λ xs. are_some (segments_named xs)) (λ a b. a || b) (some_named (λ (x : LocatedInstr). segment_of x.0)) or_assoc or_swap t whole.is_tree h.seen whole.slots;
        refers = h.refers ∙ of_tree (λ xs. are_some (functions_named xs)) (λ a b. a || b) (some_named (λ (x : LocatedInstr). function_of x.0)) or_assoc or_swap t whole.is_tree h.seen whole.slots;
        marks = λ l. h.marks l ∙ of_tree (λ xs. among l (locals_named xs)) (λ a b. a || b) (among_named l) or_assoc or_swap t whole.is_tree h.seen whole.slots;
      };
    }

-- ---- the handlers of a legacy `try`

-- Of these clauses the handlers of the last ones are to come, and these are left.
pub record HandlersRemain (all left : List LegacyCatch) (old new : Scan) : Type 0 where
  pub added : List LegacyCatch
  pub split : all ≡ left ++ added
  pub goes : GoesOn (handlers added) old new

pub all_handlers_remain : (all : List LegacyCatch) (s : Scan) → HandlersRemain all all s s
all_handlers_remain all s = record {
  added = [];
  split = sym (append-nil all);
  goes = record { coming = refl; marks = refl; size = refl; uses = refl; refers = refl; reached = refl };
}

-- it goes on to these slots before those
pub goes_on_both : (first second : List ℕ) (old mid new : Scan) → GoesOn second old mid → GoesOn first mid new → GoesOn (first ++ second) old new
goes_on_both first second old mid new h k = record {
  coming = k.coming ∙ (ap (λ ps. first ++ ps) h.coming ∙ sym (append_assoc first second (reverse old.coming.items)));
  marks = k.marks ∙ h.marks;
  size = k.size ∙ h.size;
  uses = k.uses ∙ h.uses;
  refers = k.refers ∙ h.refers;
  reached = k.reached ∙ h.reached;
}

pub fewer_handlers_remain : (all left before : List LegacyCatch) (x : LegacyCatch) (old mid new : Scan) → left ≡ before ++ x ∷ [] → HandlersRemain all left old mid
    → GoesOn (handler_of x) mid new → HandlersRemain all before old new
fewer_handlers_remain all left before x old mid new last r one = record {
  added = x ∷ r.added;
  split = r.split ∙ (ap (λ xs. xs ++ r.added) last ∙ append_assoc before (x ∷ []) r.added);
  goes = goes_on_both (handler_of x) (handlers r.added) old mid new r.goes one;
}

pub no_handlers_remain : (all left : List LegacyCatch) (old new : Scan) → left ≡ [] → HandlersRemain all left old new → GoesOn (handlers all) old new
no_handlers_remain all left old new none r = let is : all ≡ r.added = r.split ∙ ap (λ xs. xs ++ r.added) none in rw is r.goes

-- ---- one instruction

-- one that names nothing
pub goes_on : (i : Instr) (slots : List ℕ) (old new : Scan) → slots_in i ≡ slots → local_of_instr i ≡ [] → segment_of i ≡ [] → function_of i ≡ [] → GoesOn slots old new → AddsOne i old new
goes_on i slots old new inside no_local no_segment no_function h = record {
  coming = h.coming ∙ ap (λ ps. ps ++ reverse old.coming.items) (sym inside);
  marks = λ l. ap (λ (ms : List Bool). is_marked ms l) h.marks ∙ ap (λ ls. among l ls || is_marked old.marks.items l) (sym no_local);
  size = h.size;
  uses = h.uses ∙ ap (λ ls. are_some ls || old.uses_data_segments) (sym no_segment);
  refers = h.refers ∙ ap (λ ls. are_some ls || old.refers) (sym no_function);
  reached = h.reached;
}

or_none : (a b : Bool) → (a || b) ≡ ((a || false) || b)
or_none true b = refl
or_none false b = refl

-- one that names a local
pub marks_one : (i : Instr) (local : ℕ) (old new : Scan) → slots_in i ≡ [] → local_of_instr i ≡ local ∷ [] → segment_of i ≡ [] → function_of i ≡ [] → MarksOne local old new → AddsOne i old new
marks_one i local old new inside one_local no_segment no_function h = record {
  coming = ap reverse h.coming ∙ ap (λ ps. ps ++ reverse old.coming.items) (sym inside);
  marks = λ l. h.marks l ∙ (or_none (l == local) (is_marked old.marks.items l) ∙ ap (λ ls. among l ls || is_marked old.marks.items l) (sym one_local));
  size = h.size;
  uses = h.uses ∙ ap (λ ls. are_some ls || old.uses_data_segments) (sym no_segment);
  refers = h.refers ∙ ap (λ ls. are_some ls || old.refers) (sym no_function);
  reached = h.reached;
}

-- ---- the marked locals

marked_within : (marks : List Bool) (id : ℕ) → is_marked marks id ≡ true → id < length marks
marked_within [] id is = absurd cc
marked_within (m ∷ ms) zero is = omega arith
marked_within (m ∷ ms) (suc id) is = omega (arith, marked_within ms id is)

-- one that was marked already
pub marked_already : (marks : List Bool) (id : ℕ) → is_marked marks id ≡ true → (x : ℕ) → is_marked marks x ≡ ((x == id) || is_marked marks x)
marked_already marks id is x =
    elim (x == id) as (λ b. (x == id) ≡ b → is_marked marks x ≡ (b || is_marked marks x)) [
      | true ↦ λ e. ap (is_marked marks) (eqb-true x id e) ∙ is
      | false ↦ λ e. refl
    ] refl

-- whether an id that is less than this one is marked
abbrev pub marked_below : List Bool → ℕ → ℕ → Bool
marked_below marks end x = nat_lt x end && is_marked marks x

pub all_below : (marks : List Bool) (x : ℕ) → marked_below marks (length marks) x ≡ is_marked marks x
all_below marks x =
    elim (is_marked marks x) as (λ b. is_marked marks x ≡ b → (nat_lt x (length marks) && b) ≡ b) [
      | true ↦ λ e. let within = marked_within marks x e in grind (arith, nat_tests)
      | false ↦ λ e. grind (arith, nat_tests)
    ] refl

pub one_below : (marks : List Bool) (end x : ℕ) (m : Bool) → is_marked marks end ≡ m → marked_below marks (end + 1) x ≡ ((x == end) && m || marked_below marks end x)
one_below marks end x m is =
    elim (x == end) as (λ b. (x == end) ≡ b → (nat_lt x (end + 1) && is_marked marks x) ≡ (b && m || (nat_lt x end && is_marked marks x))) [
      | true ↦ λ e. let same = eqb-true x end e in let here : is_marked marks x ≡ m = ap (is_marked marks) same ∙ is in grind (arith, nat_tests)
      | false ↦ λ e. grind (arith, nat_tests)
    ] refl

-- if it could
pub on_true : {P Q : Type 0} (b : Bool) → (P → Q) → OnTrue b P → OnTrue b Q
on_true true f h = f h
on_true false f h = tt

-- ---- the facts

none_referred : (xs : List ℕ) → are_some xs ≡ false → xs ≡ []
none_referred [] e = refl
none_referred (x ∷ xs) e = absurd cc

pub are_facts : {b : List InstrSeq} {start : ℕ} (s : Scan) (f : EmitFacts) → TreeHas b start (λ t. HasFound t.items s) → s.refers ≡ false
    → f.size ≡ s.size → f.uses_data_segments ≡ s.uses_data_segments → f.ref_funcs.items ≡ []
    → ((l : ℕ) → contains (λ x y. x == y) f.used_locals l ≡ is_marked s.marks.items l) → TreeHas b start (λ t. AreFacts t.items f)
are_facts s f h none size uses refs locals =
    let t = h.tree in record {
      tree = t;
      is_tree = h.is_tree;
      holds = record {
        size = size ∙ h.holds.size;
        uses_data_segments = uses ∙ h.holds.uses;
        ref_funcs = refs ∙ sym (none_referred (referred t.items) (sym h.holds.refers ∙ none));
        used_locals = λ l. locals l ∙ h.holds.marks l;
      };
    }

-- it could
pub really : {P : Type 0} (b : Bool) → b ≡ true → OnTrue b P → P
really true e h = h
really false e h = absurd cc

pub not_marked : (marks : List Bool) (id : ℕ) (x : ℕ) (c : Bool) → is_marked marks id ≡ false → c ≡ (((x == id) && is_marked marks id) || c)
not_marked marks id x c e = elim (x == id) as (λ b. c ≡ ((b && is_marked marks id) || c)) [ true ↦ ap (λ m. m || c) (sym e) | false ↦ refl ]

pub is_put : (marks : List Bool) (id : ℕ) (x : ℕ) (c d : Bool) → is_marked marks id ≡ true → d ≡ (among x (id ∷ []) || c) → d ≡ (((x == id) && is_marked marks id) || c)
is_put marks id x c d e h = h ∙ ap (λ b. b || c) (same (x == id) ∙ ap (λ m. (x == id) && m) (sym e))
  where
    same : (b : Bool) → (b || false) ≡ (b && true)
    same true = refl
    same false = refl
