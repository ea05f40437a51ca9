-- Maps that map the number of each id that has one to the id undo the numbers of every lawful body's normal form.
use Rattle.std.proofs.Common.{◌≡◌, ℕ, List, [], ◌∷◌, map, false, Option, Some, None, Ok, refl, sym, ◌∙◌, subst}
use Rattle.std.specs.List.{AllByRecursion}
use Rattle.wasm_types.specs.declared.val_type.HeapType.{HeapType}
use Rattle.wasm_types.specs.declared.val_type.HeapType.TheVariants.{Abstract, Concrete}
use Rattle.wasm_types.specs.declared.val_type.ValType.{ValType}
use Rattle.wasm_types.specs.declared.val_type.ValType.TheVariants.{Ref}
use Rattle.walrus_ir.specs.declared.val_type.InstrSeqType.{InstrSeqType}
use Rattle.walrus_ir.specs.declared.val_type.InstrSeqType.TheVariants.{Simple, MultiValue}
use Rattle.walrus_ir.specs.Types.{Signature}
use Rattle.wasm_operators.specs.declared.types.Space.TheVariants.{Types, Memories, Tags}
use Rattle.wasm_operators.specs.Operations.{CatchClause, Immediate, index, local, access, clauses, block, heap, value, cast, Operation}
use Rattle.wasm_body.specs.Control.{Control, Does, Opens, Else, Catch, CatchAll, End, Delegate, Marked, with_control}
use Rattle.wasm_body.specs.SourceTree.{Body, body_text}
use Rattle.wasm_body.specs.Translation.{Located}
use Rattle.wasm_body.specs.Naming.{Environment, Occurrence}
use Rattle.wasm_body.specs.Parsing.Accepted.{mark, Lawful}
use Rattle.wasm_body.specs.NormalForm.{Typing, typing_of, construct_type, normal_form, name_at, named_body}
use Rattle.wasm_body.specs.FlatText.{tree_text, with_ids}
use Rattle.wasm_body.specs.Bytes.{Numbers}
use Rattle.wasm_body.specs.ReadBack.{EachInHeap, EachInValue, EachInTag, EachIn, IsUndone, IsUndoneLocal, IsUndoneType, AreUndone, IsInverse, InverseUndoes}
use Rattle.wasm_body.proofs.Structure.Along.{Each, AllMarked, HasControl, each_of, all_of_each, each_mapped, weaker}
use Rattle.wasm_body.specs.RewrittenTree.{end_at, rewritten}
use Rattle.wasm_body.proofs.NormalForm.Rewritten.{Named, each_rewritten}
use Rattle.wasm_body.proofs.NormalForm.WrittenTexts.{type_at, with_type, ids_at, anew_by, ids_text}
use Rattle.wasm_body.proofs.Translation.Kinds.{at_once}

-- ---- ids

module _ (to : Numbers) (again : Environment) (inverse : IsInverse to again) where
  heap_undone : (h : HeapType ℕ) → EachInHeap (IsUndone to again) h
  heap_undone (Abstract a) = tt
  heap_undone (Concrete id) = inverse.indices Types id

  value_undone : (v : ValType ℕ) → EachInValue (IsUndone to again) v
  value_undone (Ref r) = heap_undone r.heap_type
  value_undone _ = tt

  tag_undone : (t : Option ℕ) → EachInTag (IsUndone to again) t
  tag_undone None = tt
  tag_undone (Some id) = inverse.indices Tags id

  clauses_undone : (cs : List (CatchClause ℕ)) → AllByRecursion (λ (c : CatchClause ℕ). EachInTag (IsUndone to again) c.tag) cs
  clauses_undone [] = tt
  clauses_undone (c ∷ cs) = (tag_undone c.tag, clauses_undone cs)

  type_undone : (t : InstrSeqType) → IsUndoneType to again t
  type_undone (Simple None) = tt
  type_undone (Simple (Some v)) = value_undone v
  type_undone (MultiValue id) = inverse.indices Types id

  immediate_undone : (t : InstrSeqType) → IsUndoneType to again t → (i : Immediate ℕ Signature) → EachIn (IsUndone to again) (IsUndoneLocal to again) (IsUndoneType to again) (with_type t i)
  immediate_undone t h (block s) = h
  immediate_undone t h (index space n) = inverse.indices space n
  immediate_undone t h (local n) = inverse.locals n
  immediate_undone t h (access a) = inverse.indices Memories a.memory
  immediate_undone t h (clauses cs) = clauses_undone cs
  immediate_undone t h (heap x) = heap_undone x
  immediate_undone t h (value v) = value_undone v
  immediate_undone t h (cast c) = (heap_undone c.source, heap_undone c.target)
  immediate_undone t h _ = tt

  all_undone : (t : InstrSeqType) → IsUndoneType to again t → (is : List (Immediate ℕ Signature)) → AreUndone to again (map (with_type t) is)
  all_undone t h [] = tt
  all_undone t h (i ∷ is) = (immediate_undone t h i, all_undone t h is)

-- ---- a body

module _ (env : Environment) (xs : List Occurrence) (body : Body Occurrence) (lawful : Lawful env xs body)
    (to : Numbers) (again : Environment) (inverse : IsInverse to again) where
  abbrev m : Typing
  m = typing_of env

  abbrev HasUndoneType : Named → Control → Type 0
  HasUndoneType a c = IsUndoneType to again (type_at m c a.op)

  by_control : (x : Occurrence) (c : Control) → HasUndoneType (name_at x) c
  by_control x (Opens construct) = type_undone to again inverse (construct_type m x.named)
  by_control x (Does action) = tt
  by_control x Else = tt
  by_control x (Catch t) = tt
  by_control x CatchAll = tt
  by_control x End = tt
  by_control x (Delegate n) = tt

  abbrev Kept : Occurrence → Control → Type 0
  Kept x c = HasControl (name_at x) c × HasUndoneType (name_at x) c

  all_kept : (ys : List Occurrence) → AllMarked Kept (map mark ys)
  all_kept [] = tt
  all_kept (x ∷ ys) = ((refl, by_control x _), all_kept ys)

  kept : Each Kept body.sequence
  kept = (each_of Kept body.sequence (with_control body.close End ∷ []) (subst (AllMarked Kept) lawful.is_body (all_kept xs))).0

  source_kept : Each (λ a c. HasControl a c × HasUndoneType a c) (named_body body).sequence
  source_kept = each_mapped (λ a c. HasControl a c × HasUndoneType a c) name_at body.sequence kept

  both_kept : Each (λ a c. HasControl a c × HasUndoneType a c) (rewritten (λ o. false) (named_body body).sequence)
  both_kept =
      each_rewritten (λ o. false) (λ a c. HasControl a c × HasUndoneType a c) (λ a c. HasControl a c × HasUndoneType a c) (λ a action h. h) (λ a construct h. h)
      (λ l. (refl, tt)) (λ l. (refl, tt)) (λ a t l h. (refl, tt)) (λ l. (refl, tt)) (λ e n l h. (refl, tt)) (named_body body).sequence source_kept

  abbrev ms : List (Marked Named)
  ms = body_text (anew_by with_ids.balanced m (named_body body))

  ids_undone : (ys : List (Marked Named)) → AllMarked (λ a c. HasControl a c × HasUndoneType a c) ys → AllByRecursion (λ x. AreUndone to again x.op.immediates) (map (ids_at m) ys)
  ids_undone [] h = tt
  ids_undone (x ∷ ys) h = (all_undone to again inverse (type_at m x.control x.shown.op) h.0.1 x.shown.op.immediates, ids_undone ys h.1)

  ids : (ys : List (Located (Operation ℕ InstrSeqType))) → tree_text with_ids (normal_form m (named_body body)) ≡ Ok ys → AllByRecursion (λ x. AreUndone to again x.op.immediates) ys
  ids ys e =
      let text = ids_text m (named_body body) (weaker (λ a c. HasControl a c × HasUndoneType a c) HasControl (λ a c h. h.0) (named_body body).sequence source_kept) in
      let whole : AllByRecursion (λ x. AreUndone to again x.op.immediates) (map (ids_at m) ms) =
      ids_undone ms (all_of_each (λ a c. HasControl a c × HasUndoneType a c) (rewritten (λ o. false) (named_body body).sequence) (with_control (end_at body.close.location) End ∷ []) both_kept ((refl, tt), tt)) in
      at_once (map (ids_at m) ms) (AllByRecursion (λ x. AreUndone to again x.op.immediates)) whole ys (sym text ∙ e)

pub inverse_undoes : InverseUndoes
inverse_undoes env xs body lawful to again types tags type inverse = record { types = types; tags = tags; type = type; ids = ids env xs body lawful to again inverse }
