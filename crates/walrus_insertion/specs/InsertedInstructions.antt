-- What is inserted into a function, place by place, and the tree that the function has then.
use Rattle.std.specs.Prelude.{◌≡◌, ◌⊎◌, ℕ, ◌+◌, List, [], ◌∷◌, ◌++◌, map, length, Bool, true, false, Some, slice_get, slice_set, Result, Ok}
use Rattle.std.specs.Borrow.{Bor, MutBor}
use Rattle.walrus_ir.specs.declared.control.BlockKind.{BlockKind}
use Rattle.walrus_ir.specs.declared.seq.InstrSeq.{InstrSeq}
use Rattle.walrus_ir.specs.Function.{Function}
use Rattle.walrus_ir.specs.Tree.{Items}
use Rattle.walrus_ir.specs.Unfolding.{LocatedInstr}
use Rattle.wasm_body.specs.Control.{role_of}
use Rattle.wasm_body.specs.Flat.{Named}
use Rattle.wasm_body.specs.FunctionTree.{Head, Instruction}
use Rattle.wasm_body.specs.InstructionTable.{operation_of}
use Rattle.wasm_body.specs.NormalForm.{Typing, normal_form}
use Rattle.wasm_body.specs.SourceTree.{Body}
use Rattle.wasm_body.specs.TextLaws.{IsNamedBody}
use Rattle.wasm_body.specs.TreeOfFunction.{HasTree}
use Rattle.wasm_insertion.specs.EditedTrees.{never_goes_on, EditedItems, edited_tree}
use Rattle.walrus_facts.specs.Mapping.{EachChanges}
use Rattle.walrus_insertion.specs.declared.place.Place.{Place}
use Rattle.walrus_insertion.specs.declared.plain_instr.PlainInstr.{PlainInstr}
use Rattle.walrus_insertion.specs.declared.probe.Probe.{Probe}
use Rattle.walrus_insertion.specs.Edits.{added}

-- whether an instruction never goes on to the next one
abbrev pub ends_code : LocatedInstr → Bool
ends_code x = never_goes_on (role_of (operation_of x.0).opcode)

-- The new instructions of a sequence are the old ones, with what is given at each place before these: before the first that is left, before
-- the next, and so on, and at the end; but not after an instruction that never goes on. `gives f n ps g`: at the place after n instructions
-- these are given in state f, which is g then.
pub data InsertedFrom {F : Type 0} (gives : F → ℕ → List PlainInstr → F → Type 0) : F → ℕ → (old new : List LocatedInstr) → F → Type 0 where
  at_end : {f g : F} {n : ℕ} (ps : List PlainInstr) → gives f n ps g → InsertedFrom gives f n [] (map added ps) g
  before_last : {f g : F} {n : ℕ} {x : LocatedInstr} {xs : List LocatedInstr} (ps : List PlainInstr) → ends_code x ≡ true → gives f n ps g
      → InsertedFrom gives f n (x ∷ xs) (map added ps ++ x ∷ xs) g
  before_next : {f g h : F} {n : ℕ} {x : LocatedInstr} {xs ys : List LocatedInstr} (ps : List PlainInstr) → ends_code x ≡ false → gives f n ps g
      → InsertedFrom gives g (n + 1) xs ys h → InsertedFrom gives f n (x ∷ xs) (map added ps ++ x ∷ ys) h

-- a call of the closure f, at the place after n of these instructions of a sequence of this kind, pushes these, and leaves the closure g
pub record IsPushed {F E : Type 0} (step : F → Bor Place → MutBor Probe → Result (Unit {0}) E → MutBor Probe → F → Type 0) (kind : BlockKind)
    (instrs : List LocatedInstr) (f : F) (n : ℕ) (ps : List PlainInstr) (g : F) : Type 0 where
  pub place : Bor Place
  pub kind_is : place.now.kind ≡ kind
  pub instrs_are : place.now.instrs.now ≡ instrs
  pub index_is : place.now.index ≡ n
  pub probe : MutBor Probe
  pub is_empty : probe.now ≡ []
  pub left : MutBor Probe
  pub called : step f place probe (Ok tt) left g
  pub pushes : left.now ≡ ps

module _ {F : Type 0} (gives : BlockKind → List LocatedInstr → F → ℕ → List PlainInstr → F → Type 0) where
  -- instructions were inserted into a sequence, and all else of it stays
  pub record IsInsertedInto (f : F) (old new : InstrSeq) (g : F) : Type 0 where
    pub kind : BlockKind
    pub id : new.id ≡ old.id
    pub type : new.ty ≡ old.ty
    pub end : new.end ≡ old.end
    pub instrs : InsertedFrom (gives kind old.instrs) f 0 old.instrs new.instrs g

  -- The same, or the sequence was passed over.
  abbrev pub IsInsertedOrPassed : F → (old new : InstrSeq) → F → Type 0
  IsInsertedOrPassed f old new g = IsInsertedInto f old new g ⊎ ((new ≡ old) × (g ≡ f))

  -- instructions were inserted into sequences, by slot, and all else of the function stays
  pub record IsInserted (f : F) (old new : Function) (g : F) : Type 0 where
    pub type : new.type ≡ old.type
    pub entry : new.entry ≡ old.entry
    pub sequences : EachChanges IsInsertedOrPassed f old.sequences new.sequences g

-- ---- whatever is inserted

-- any instructions at any place
abbrev pub GivesAny : BlockKind → List LocatedInstr → Unit {0} → ℕ → List PlainInstr → Unit {0} → Type 0
GivesAny kind instrs f n ps g = Unit {0}

-- a sequence is another with instructions inserted, perhaps none
abbrev pub IsEdited : (old new : InstrSeq) → Type 0
IsEdited old new = IsInsertedInto GivesAny tt old new tt

-- The sequence at a slot is the old one with instructions inserted.
pub record EditedAt (new : List InstrSeq) (slot : ℕ) (old : InstrSeq) : Type 0 where
  pub seq : InstrSeq
  pub at_slot : slice_get new slot ≡ Some seq
  pub edited : IsEdited old seq

-- each sequence of a function is the old one at its slot, with instructions inserted, and all else stays
pub record AreEdited (old new : Function) : Type 0 where
  pub type : new.type ≡ old.type
  pub entry : new.entry ≡ old.entry
  pub count : length new.sequences ≡ length old.sequences
  pub sequences : (slot : ℕ) (seq : InstrSeq) → slice_get old.sequences slot ≡ Some seq → EditedAt new.sequences slot seq

-- ---- the tree

-- From a sequence on there is the tree of this body, with instructions inserted.
pub record HasEditedTree (sequences : List InstrSeq) (start : ℕ) (m : Typing) (b : Body Named) : Type 0 where
  pub items : Items Head Instruction
  pub has_tree : HasTree sequences start (edited_tree m b items)
  pub edited : EditedItems (normal_form m b).items items

-- Where the tree was the normal form of a body, it is that with instructions inserted (`EditedTrees` of `wasm_insertion`).
abbrev pub TreesAreEdited : (old new : List InstrSeq) → Type 0
TreesAreEdited old new =
    (start : ℕ) (m : Typing) (xs : List Named) (b : Body Named) → IsNamedBody xs b → HasTree old start (normal_form m b) → HasEditedTree new start m b

-- It is so where one sequence begins with instructions more.
abbrev pub PrependedTrees : Type 0
PrependedTrees =
    (b : List InstrSeq) (slot : ℕ) (seq : InstrSeq) (ps : List PlainInstr) → slice_get b slot ≡ Some seq →
    TreesAreEdited b (slice_set b slot (record seq { instrs = map added ps ++ seq.instrs }))
