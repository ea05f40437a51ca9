-- A function of which each sequence is the old one with instructions inserted.
use Rattle.std.specs.Prelude.{Some, slice_get, slice_set}
use Rattle.std.proofs.Common.{◌≡◌, ◌⊎◌, ◌<◌, ◌+◌, ℕ, zero, suc, List, [], ◌∷◌, ◌++◌, map, length, get_or, drop, Bool, true, false, refl, sym, ap, ◌∙◌, subst, inl, inr, arith}
use Rattle.std.proofs.lemmas.List.{append-nil, length-set, drop_more}
use Rattle.std.proofs.lemmas.Option.{get_or_from_slice_get, slice_get-get_or, slice_get_within}
use Rattle.walrus_ir.specs.declared.control.BlockKind.{BlockKind}
use Rattle.walrus_ir.specs.declared.control.BlockKind.TheVariants.{FunctionEntry}
use Rattle.walrus_ir.specs.declared.seq.InstrSeq.{InstrSeq}
use Rattle.walrus_ir.specs.Function.{Function}
use Rattle.walrus_ir.specs.Tree.{Items, Sequences, Tree, alone, sequence, no_sequences}
use Rattle.walrus_ir.specs.Unfolding.{SequenceAt, LocatedInstr, AreSequences, are_no_sequences, are_sequences, Apart, slots_reached_each, IsTree}
use Rattle.wasm_body.specs.Flat.{Named}
use Rattle.wasm_body.specs.FunctionTree.{Head, Instruction, FunctionTree}
use Rattle.wasm_body.specs.NormalForm.{Typing, normal_form}
use Rattle.wasm_body.specs.SourceTree.{Body}
use Rattle.wasm_body.specs.TextLaws.{IsNamedBody}
use Rattle.wasm_body.specs.TreeOfFunction.{tree_of, items_in, sequences_in, head_of, HasTree}
use Rattle.wasm_insertion.specs.EditedTrees.{EditedItems, EditedSequences, edited_sequence, edited_tree}
use Rattle.walrus_insertion.specs.declared.plain_instr.PlainInstr.{PlainInstr}
use Rattle.walrus_insertion.specs.declared.probe.Edit.{Edit}
use Rattle.walrus_insertion.specs.Edits.{added, edited}
use Rattle.walrus_insertion.specs.InsertedInstructions.{ends_code, InsertedFrom, at_end, before_last, before_next, GivesAny, IsInsertedInto, IsEdited, EditedAt, AreEdited, HasEditedTree, TreesAreEdited, PrependedTrees}
use Rattle.walrus_insertion.proofs.CutTrees.{IsCut, normal_form_is_cut}
use Rattle.walrus_insertion.proofs.EditedItems.{NewSequences, sequences_edited}

-- whatever was given, something was
pub given_any : {F : Type 0} {gives : F → ℕ → List PlainInstr → F → Type 0} {any : Unit {0} → ℕ → List PlainInstr → Unit {0} → Type 0} {f g : F} {n : ℕ}
    {xs ys : List LocatedInstr} → ((m : ℕ) (ps : List PlainInstr) → any tt m ps tt) → InsertedFrom gives f n xs ys g → InsertedFrom any tt n xs ys tt
given_any all (at_end ps given) = at_end ps (all _ ps)
given_any all (before_last ps never given) = before_last ps never (all _ ps)
given_any all (before_next ps goes given later) = before_next ps goes (all _ ps) (given_any all later)

-- nothing is inserted
pub none_given : {any : Unit {0} → ℕ → List PlainInstr → Unit {0} → Type 0} (n : ℕ) (xs : List LocatedInstr) → ((m : ℕ) (ps : List PlainInstr) → any tt m ps tt)
    → InsertedFrom any tt n xs xs tt
none_given n [] all = at_end [] (all n [])
none_given {any = any} n (x ∷ xs) all = by_end (ends_code x) refl (none_given (n + 1) xs all)
  where
    by_end : (y : Bool) → ends_code x ≡ y → InsertedFrom any tt (n + 1) xs xs tt → InsertedFrom any tt n (x ∷ xs) (x ∷ xs) tt
    by_end true e later = before_last [] e (all n [])
    by_end false e later = before_next [] e (all n []) later

-- the instructions after the steps that were asked for
pub merged : {F : Type 0} (gives : BlockKind → List LocatedInstr → F → ℕ → List PlainInstr → F → Type 0) (kind : BlockKind) (f g : F) (old new : InstrSeq)
    (xs : List LocatedInstr) (es ds : List Edit) → xs ≡ old.instrs → ds ≡ es → new ≡ record old { instrs = edited ds old.instrs }
    → InsertedFrom (gives kind xs) f 0 xs (edited es xs) g → IsInsertedInto gives f old new g
merged gives kind f g old new xs es ds e d n h =
    let moved = subst (λ ys. InsertedFrom (gives kind ys) f 0 ys (edited es ys) g) e h in
    let made : edited es old.instrs ≡ new.instrs = sym (ap (λ (s : InstrSeq). s.instrs) n ∙ ap (λ zs. edited zs old.instrs) d) in
    record {
      kind = kind;
      id = ap (λ (s : InstrSeq). s.id) n;
      type = ap (λ (s : InstrSeq). s.ty) n;
      end = ap (λ (s : InstrSeq). s.end) n;
      instrs = subst (λ ys. InsertedFrom (gives kind old.instrs) f 0 old.instrs ys g) made moved;
    }

pub edited_of : {F : Type 0} {gives : BlockKind → List LocatedInstr → F → ℕ → List PlainInstr → F → Type 0} {f g : F} {old new : InstrSeq}
    → IsInsertedInto gives f old new g → IsEdited old new
edited_of i = record { kind = i.kind; id = i.id; type = i.type; end = i.end; instrs = given_any (λ m ps. tt) i.instrs }

-- ---- the tree

record OneTree (ss : Sequences SequenceAt LocatedInstr) : Type 0 where
  pub tree : Tree SequenceAt LocatedInstr
  pub is : alone tree ≡ ss

one_tree : {b : List InstrSeq} {start : ℕ} {ss : Sequences SequenceAt LocatedInstr} → AreSequences b (start ∷ []) ss → OneTree ss
one_tree (are_sequences {p = p} {seq = seq} {items = items} known i are_no_sequences) =
    record { tree = record { head = record { slot = p; seq = seq }; items = items }; is = refl }

record EditedAlone (h k : Head) (is js : Items Head Instruction) : Type 0 where
  pub head : h ≡ k
  pub items : EditedItems is js

edited_alone_at : {h k : Head} {is js : Items Head Instruction} {ts : Sequences Head Instruction} → EditedSequences (sequence h is no_sequences) ts
    → ts ≡ sequence k js no_sequences → EditedAlone h k is js
edited_alone_at {h = h} {k = k} {is = is} {js = js} (edited_sequence {js = ks} {ts = us} first following) e =
    let heads : h ≡ k = cc e in
    let lists : ks ≡ js = cc e in
    record { head = heads; items = subst (EditedItems is) lists first }

module _ (old new : List InstrSeq) (are_edited : (slot : ℕ) (seq : InstrSeq) → slice_get old slot ≡ Some seq → EditedAt new slot seq) where
  made_tree : (start : ℕ) (m : Typing) (xs : List Named) (b : Body Named) → IsNamedBody xs b → (has : HasTree old start (normal_form m b))
      → (n : NewSequences new [] (alone has.unfolded) (start ∷ [])) → OneTree n.sequences → HasEditedTree new start m b
  made_tree start m xs b named has n one =
      let t = has.unfolded in
      let u = one.tree in
      let list = ap (sequences_in []) (sym one.is) in
      let found : EditedAlone (head_of t.head.seq) (head_of u.head.seq) (items_in (t.head.slot ∷ []) t.items) (items_in (u.head.slot ∷ []) u.items) =
      edited_alone_at n.edited list in
      let heads : (tree_of u).head ≡ (normal_form m b).head = sym found.head ∙ ap (λ (z : FunctionTree). z.head) has.is in
      let reached : slots_reached_each (alone u) [] ≡ slots_reached_each (alone t) [] = ap (λ ss. slots_reached_each ss []) one.is ∙ n.reached [] in
      record {
        items = items_in (u.head.slot ∷ []) u.items;
        has_tree = record {
          unfolded = u;
          is_tree = record {
            unfolds = subst (AreSequences new (start ∷ [])) (sym one.is) n.are;
            apart = subst Apart (sym reached) has.is_tree.apart;
          };
          is = ap (λ h. record (tree_of u) { head = h }) heads;
        };
        edited = subst (λ is. EditedItems is (items_in (u.head.slot ∷ []) u.items)) (ap (λ (z : FunctionTree). z.items) has.is) found.items;
      }

  pub trees_edited : TreesAreEdited old new
  trees_edited start m xs b named has =
      let t = has.unfolded in
      let cut : IsCut (items_in (t.head.slot ∷ []) t.items) =
      subst IsCut (sym (ap (λ (z : FunctionTree). z.items) has.is)) (normal_form_is_cut m xs b named) in
      let n = sequences_edited old new are_edited [] has.is_tree.unfolds (cut, tt) in
      made_tree start m xs b named has n (one_tree n.are)

-- ---- the sequences of a function, one after the other

-- Each sequence of the second function is the first's at its slot, with instructions inserted.
abbrev pub AreEditedSequences : (old new : List InstrSeq) → Type 0
AreEditedSequences old new =
    (length new ≡ length old) × ((slot : ℕ) (seq : InstrSeq) → slice_get old slot ≡ Some seq → EditedAt new slot seq)

pub unedited : (seq : InstrSeq) → IsEdited seq seq
unedited seq = record { kind = FunctionEntry; id = refl; type = refl; end = refl; instrs = none_given 0 seq.instrs (λ m ps. tt) }

pub none_edited : (b : List InstrSeq) → AreEditedSequences b b
none_edited b = (refl, λ slot seq known. record { seq = seq; at_slot = known; edited = unedited seq })

pub after_set : {X : Type 0} (xs : List X) (i : ℕ) (v : X) (q : ℕ) (y : X) → slice_get xs q ≡ Some y
    → ((q ≡ i) × (slice_get (slice_set xs i v) q ≡ Some v)) ⊎ (slice_get (slice_set xs i v) q ≡ Some y)
after_set [] i v q y h = absurd (cc h)
after_set (x ∷ xs) zero v zero y h = inl (refl, refl)
after_set (x ∷ xs) zero v (suc q) y h = inr h
after_set (x ∷ xs) (suc i) v zero y h = inr h
after_set (x ∷ xs) (suc i) v (suc q) y h = later (after_set xs i v q y h)
  where
    later : ((q ≡ i) × (slice_get (slice_set xs i v) q ≡ Some v)) ⊎ (slice_get (slice_set xs i v) q ≡ Some y)
        → ((suc q ≡ suc i) × (slice_get (slice_set xs i v) q ≡ Some v)) ⊎ (slice_get (slice_set xs i v) q ≡ Some y)
    later (inl f) = inl (ap suc f.0, f.1)
    later (inr f) = inr f

-- what two lists have at an index from which on they are the same
same_at : {X : Type 0} (now old : List X) (index : ℕ) (d : X) → index < length now → length now ≡ length old → drop index now ≡ drop index old
    → slice_get now index ≡ Some d → slice_get old index ≡ Some d
same_at now old index d within lengths e known =
    let whole = sym (drop_more now index d within) ∙ (e ∙ drop_more old index d (omega (arith, within, lengths))) in
    let heads : get_or now index d ≡ get_or old index d = cc whole in
    slice_get-get_or old index d (omega (arith, within, lengths)) ∙ ap Some (sym heads ∙ get_or_from_slice_get now index d d known)

-- one more sequence is edited, which was as in the old function
pub one_edited : (old now : List InstrSeq) (index : ℕ) (was seq : InstrSeq) → index < length now → drop index now ≡ drop index old
    → slice_get now index ≡ Some was → IsEdited was seq → AreEditedSequences old now → AreEditedSequences old (slice_set now index seq)
one_edited old now index was seq within tails known done all =
    (length-set now index seq ∙ all.0, λ slot x at. by_place slot x at (all.1 slot x at))
  where
    before : slice_get old index ≡ Some was
    before = same_at now old index was within all.0 tails known

    new_or_same : (slot : ℕ) (x : InstrSeq) → slice_get old slot ≡ Some x → (one : EditedAt now slot x)
        → ((slot ≡ index) × (slice_get (slice_set now index seq) slot ≡ Some seq)) ⊎ (slice_get (slice_set now index seq) slot ≡ Some one.seq)
        → EditedAt (slice_set now index seq) slot x
    new_or_same slot x at one (inl f) =
        let same : was ≡ x = cc (sym before ∙ (ap (slice_get old) (sym f.0) ∙ at)) in
        record { seq = seq; at_slot = f.1; edited = subst (λ y. IsEdited y seq) same done }
    new_or_same slot x at one (inr f) = record { seq = one.seq; at_slot = f; edited = one.edited }

    by_place : (slot : ℕ) (x : InstrSeq) → slice_get old slot ≡ Some x → EditedAt now slot x → EditedAt (slice_set now index seq) slot x
    by_place slot x at one = new_or_same slot x at one (after_set now index seq slot one.seq one.at_slot)

-- ---- instructions before all others of a sequence

prepended : (ps : List PlainInstr) (all xs : List LocatedInstr) → InsertedFrom (GivesAny FunctionEntry all) tt 0 xs (map added ps ++ xs) tt
prepended ps all [] = subst (λ ys. InsertedFrom (GivesAny FunctionEntry all) tt 0 [] ys tt) (sym (append-nil (map added ps))) (at_end ps tt)
prepended ps all (x ∷ xs) = by_end (ends_code x) refl
  where
    by_end : (y : Bool) → ends_code x ≡ y → InsertedFrom (GivesAny FunctionEntry all) tt 0 (x ∷ xs) (map added ps ++ x ∷ xs) tt
    by_end true e = before_last ps e tt
    by_end false e = before_next ps e tt (none_given 1 xs (λ m qs. tt))

pub prepended_trees : PrependedTrees
prepended_trees b slot seq ps known =
    let new : InstrSeq = record seq { instrs = map added ps ++ seq.instrs } in
    let here : IsEdited seq new = record { kind = FunctionEntry; id = refl; type = refl; end = refl; instrs = prepended ps seq.instrs seq.instrs } in
    let all = one_edited b b slot seq new (slice_get_within b slot seq known) refl known here (none_edited b) in
    trees_edited b (slice_set b slot new) all.1
