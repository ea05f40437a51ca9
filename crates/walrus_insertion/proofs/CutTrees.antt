-- The normal form of a body has nothing after an instruction that never goes on.
use Rattle.std.proofs.Common.{◌≡◌, List, [], ◌∷◌, Bool, true, false, refl, sym, ap, ◌∙◌, subst}
use Rattle.std.specs.List.{AllByRecursion}
use Rattle.walrus_ir.specs.Tree.{Items, no_items, item, Sequences, no_sequences, sequence}
use Rattle.wasm_body.specs.Control.{If, Try, Construct, role_of, Action, Control, Does, Opens}
use Rattle.wasm_body.specs.Flat.{Named}
use Rattle.wasm_body.specs.FunctionTree.{Head, LegacyClause, Instruction}
use Rattle.wasm_body.specs.Keeping.{unreachable_after}
use Rattle.wasm_body.specs.Naming.{NamedOperation}
use Rattle.wasm_body.specs.NormalForm.{Typing, Fate, Drops, Stays, MakesUnreachable, fate, with_fate, instruction, normal, handler_sequences}
use Rattle.wasm_body.specs.SourceTree.{Sequence, Empty, Single, Wrapped, IfThen, IfElse, TryCatch, TryDelegate, Clauses, Ended, Catches, CatchesAll, construct_of, Body}
use Rattle.wasm_body.specs.TextLaws.{IsNamedBody}
use Rattle.wasm_body.proofs.Structure.Along.{Each, EachIn, HasControl, along, weaker}
use Rattle.wasm_insertion.specs.EditedTrees.{never_goes_on}
use Rattle.wasm_insertion.proofs.EditedTrees.{action_role, opens_role}

abbrev mutual
  pub IsCut : Items Head Instruction → Type 0
  IsCut no_items = Unit {0}
  IsCut (item i ss is) = (never_goes_on (role_of i.op.opcode) ≡ true → is ≡ no_items) × AreCut ss × IsCut is

  pub AreCut : Sequences Head Instruction → Type 0
  AreCut no_sequences = Unit {0}
  AreCut (sequence h is ss) = IsCut is × AreCut ss

goes_on : {y : Bool} {is : Items Head Instruction} → y ≡ false → y ≡ true → is ≡ no_items
goes_on h k = let z : true ≡ false = sym k ∙ h in absurd (cc z)

single_cut : (a : Named) (action : Action) (is : Items Head Instruction) → HasControl a (Does action) → IsCut is → (φ : Fate) → fate action ≡ φ
    → IsCut (with_fate φ (instruction a []) is)
single_cut a action is q h Drops e = h
single_cut a action is q h Stays e =
    (goes_on (action_role (role_of a.op.opcode) a.op.immediates action q ∙ ap (λ φ. unreachable_after φ false) e), tt, h)
single_cut a action is q h MakesUnreachable e = ((λ k. refl), tt, tt)

opener_cut : (a : Named) (k : Construct) (is : Items Head Instruction) → HasControl a (Opens k)
    → never_goes_on (role_of a.op.opcode) ≡ true → is ≡ no_items
opener_cut a k is q = goes_on (opens_role (role_of a.op.opcode) a.op.immediates k q)

module _ (m : Typing) where
  mutual
    normal_is_cut : (s : Sequence Named) → Each HasControl s → IsCut (normal m s)
    normal_is_cut Empty h = tt
    normal_is_cut (Single a action r) h = single_cut a action (normal m r) h.0 (normal_is_cut r h.1) (fate action) refl
    normal_is_cut (Wrapped a w b e r) h = (opener_cut a (construct_of w) (normal m r) h.0, (normal_is_cut b h.1, tt), normal_is_cut r h.3)
    normal_is_cut (IfThen a b e r) h = (opener_cut a If (normal m r) h.0, (normal_is_cut b h.1, (tt, tt)), normal_is_cut r h.3)
    normal_is_cut (IfElse a b l c e r) h =
        (opener_cut a If (normal m r) h.0, (normal_is_cut b h.1, (normal_is_cut c h.3, tt)), normal_is_cut r h.5)
    normal_is_cut (TryCatch a b cs r) h =
        (opener_cut a Try (normal m r) h.0, (normal_is_cut b h.1, handlers_are_cut a.op cs h.2), normal_is_cut r h.3)
    normal_is_cut (TryDelegate a b e n r) h = (opener_cut a Try (normal m r) h.0, (normal_is_cut b h.1, tt), normal_is_cut r h.3)

    handlers_are_cut : (o : NamedOperation) (cs : Clauses Named) → EachIn HasControl cs → AreCut (handler_sequences m o cs)
    handlers_are_cut o (Ended e) h = tt
    handlers_are_cut o (Catches a t b cs) h = (normal_is_cut b h.1, handlers_are_cut o cs h.2)
    handlers_are_cut o (CatchesAll a b e) h = (normal_is_cut b h.1, tt)

  no_condition : (xs : List Named) → AllByRecursion (λ x. Unit {0}) xs
  no_condition [] = tt
  no_condition (x ∷ xs) = (tt, no_condition xs)

  pub normal_form_is_cut : (xs : List Named) (b : Body Named) → IsNamedBody xs b → IsCut (normal m b.sequence)
  normal_form_is_cut xs b named =
      let each = along (λ x. Unit {0}) xs b named (no_condition xs) in
      normal_is_cut b.sequence (weaker (λ a c. HasControl a c × Unit {0}) HasControl (λ a c h. h.0) b.sequence each)
