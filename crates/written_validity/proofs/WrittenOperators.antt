-- The operators that are written for the normal form of a body, each in its shortest encoding; what holds of each by its name.
use Rattle.std.proofs.Common.{◌≡◌, ℕ, ◌+◌, List, [], ◌∷◌, ◌++◌, length, map, Bool, Option, Some, None, Ok, refl, sym, ap, ◌∙◌, subst}
use Rattle.std.specs.List.{AllByRecursion}
use Rattle.wasm_types.specs.declared.val_type.HeapType.{HeapType}
use Rattle.wasm_types.specs.declared.val_type.HeapType.TheVariants.{Abstract, Concrete}
use Rattle.wasm_types.specs.declared.val_type.ValType.{ValType}
use Rattle.wasm_types.specs.declared.val_type.ValType.TheVariants.{Ref}
use Rattle.walrus_ir.specs.Types.{Signature}
use Rattle.walrus_ir.specs.declared.val_type.InstrSeqType.{InstrSeqType}
use Rattle.walrus_ir.specs.declared.val_type.InstrSeqType.TheVariants.{Simple, MultiValue}
use Rattle.wasm_operators.specs.declared.types.Space.TheVariants.{Types, Memories, Tags}
use Rattle.wasm_operators.specs.OperatorList.{Placed, Lists}
use Rattle.wasm_operators.specs.Operations.{CatchClause, Immediate, index, local, access, clauses, block, heap, value, cast, RawOperation}
use Rattle.wasm_operators.specs.Shortest.{short}
use Rattle.wasm_operators.specs.Spelling.{Spells}
use Rattle.wasm_operators.proofs.ShortestOperations.{shortest_operation}
use Rattle.wasm_body.specs.Bytes.{Numbers}
use Rattle.wasm_body.specs.Control.{Control, End, Marked, with_control}
use Rattle.wasm_body.specs.Frames.{SequenceFrame, OfFunction, function_frames, Follows}
use Rattle.wasm_body.specs.Naming.{Environment, NamedOperation, Occurrence, block_types}
use Rattle.wasm_body.specs.NormalForm.{Typing, typing_of, name_at, named_body}
use Rattle.wasm_body.specs.Parsing.Accepted.{HasSpelling, mark, IsNamed, Lawful}
use Rattle.wasm_body.specs.ReadBack.{EachInHeap, EachInValue, EachInTag, EachIn, IsUndone, IsUndoneLocal, IsUndoneType, IsInverse}
use Rattle.wasm_body.specs.RewrittenTree.{end_at, rewritten}
use Rattle.wasm_body.specs.SourceTree.{text, Body}
use Rattle.wasm_body.specs.TextLaws.{mark_named}
use Rattle.wasm_body.specs.Translation.{translate_immediates}
use Rattle.wasm_body.specs.Typed.{HasSignatures}
use Rattle.wasm_body.proofs.Bytes.LawfulTyped.{each_of_follows}
use Rattle.wasm_body.proofs.NormalForm.ByNames.{op_of}
use Rattle.wasm_body.proofs.NormalForm.Rewritten.{Named}
use Rattle.wasm_body.proofs.NormalForm.WrittenTexts.{type_at, numbering_at, spelt_as, IsNumbered, bytes_as}
use Rattle.wasm_body.proofs.ReadBack.FrameNames.{named_of}
use Rattle.wasm_body.proofs.ReadBack.Ranged.{all_again}
use Rattle.wasm_body.proofs.ReadBack.Related.{AllRelated, goes_related}
use Rattle.wasm_body.proofs.ReadBack.Sound.{CanSpell, IsSound, IsSpeltThere, occurrence_sound, rewritten_sound, close_sound}
use Rattle.wasm_body.proofs.Structure.Along.{Each, AllMarked, HasControl, all_of_each}
use Rattle.wasm_body.proofs.Structure.Mapped.{is_named_body}
use Rattle.wasm_body.proofs.Structure.ReadFrames.{Goes, body_goes, goes_body}
use Rattle.wasm_body.proofs.Translation.Kinds.{raw_kinds, kinds_kept}
use Rattle.wasm_body.proofs.Translation.Steps.{bound}

-- ---- lists

pub both_all : {A : Type 0} (P Q : A → Type 0) (xs : List A) → AllByRecursion P xs → AllByRecursion Q xs → AllByRecursion (λ x. P x × Q x) xs
both_all P Q [] p q = tt
both_all P Q (x ∷ xs) p q = ((p.0, q.0), both_all P Q xs p.1 q.1)

pub all_weaker : {A : Type 0} (P Q : A → Type 0) → ((x : A) → P x → Q x) → (xs : List A) → AllByRecursion P xs → AllByRecursion Q xs
all_weaker P Q h [] p = tt
all_weaker P Q h (x ∷ xs) p = (h x p.0, all_weaker P Q h xs p.1)

-- ---- maps that undo all numbers undo those of each immediate

module _ (to : Numbers) (again : Environment) (inverse : IsInverse to again) where
  heap_undone : (h : HeapType ℕ) → EachInHeap (IsUndone to again) h
  heap_undone (Abstract a) = tt
  heap_undone (Concrete id) = inverse.indices Types id

  value_undone : (v : ValType ℕ) → EachInValue (IsUndone to again) v
  value_undone (Ref r) = heap_undone r.heap_type
  value_undone _ = tt

  clauses_undone : (cs : List (CatchClause ℕ)) → AllByRecursion (λ (c : CatchClause ℕ). EachInTag (IsUndone to again) c.tag) cs
  clauses_undone [] = tt
  clauses_undone (c ∷ cs) = (of_tag c.tag, clauses_undone cs)
    where
      of_tag : (t : Option ℕ) → EachInTag (IsUndone to again) t
      of_tag None = tt
      of_tag (Some id) = inverse.indices Tags id

  type_undone : (t : InstrSeqType) → IsUndoneType to again t
  type_undone (Simple None) = tt
  type_undone (Simple (Some v)) = value_undone v
  type_undone (MultiValue id) = inverse.indices Types id

  module _ (t : InstrSeqType) where
    abbrev UndoneIn : Immediate ℕ Signature → Type 0
    UndoneIn i = EachIn (IsUndone to again) (IsUndoneLocal to again) (λ s. IsUndoneType to again t) i

    immediate_undone : (i : Immediate ℕ Signature) → UndoneIn i
    immediate_undone (block s) = type_undone t
    immediate_undone (index space n) = inverse.indices space n
    immediate_undone (local n) = inverse.locals n
    immediate_undone (access a) = inverse.indices Memories a.memory
    immediate_undone (clauses cs) = clauses_undone cs
    immediate_undone (heap x) = heap_undone x
    immediate_undone (value v) = value_undone v
    immediate_undone (cast c) = (heap_undone c.source, heap_undone c.target)
    immediate_undone _ = tt

    all_undone : (is : List (Immediate ℕ Signature)) → AllByRecursion UndoneIn is
    all_undone [] = tt
    all_undone (i ∷ is) = (immediate_undone i, all_undone is)

  -- ---- an operator that can be encoded, by its name, has an encoding with numbers

  pub written_spelt : (m : Typing) (x : Marked Named) → CanSpell x.shown.op → IsNumbered to m x → Spells (spelt_as to m x) (short (spelt_as to m x))
  written_spelt m x c e =
      let t = type_at m x.control x.shown.op in
      let is = x.shown.op.immediates in
      let first = bound (translate_immediates (numbering_at to m x) is) (λ ks. Ok (record { opcode = x.shown.op.opcode; immediates = ks })) (spelt_as to m x) e in
      let z : RawOperation = record { opcode = x.shown.op.opcode; immediates = first.0 } in
      let made : z ≡ spelt_as to m x = cc first.2 in
      let kinds = kinds_kept (numbering_at to m x) is first.0 first.1 in
      let others = all_again to again t is c.ranged (all_undone t is) first.0 first.1 in
      let spelt : Spells z (c.opcode.0 ++ others.0) = record {
        first = c.opcode.0;
        others = others.0;
        parts = refl;
        opcode = c.opcode.1;
        kinds = c.kinds ∙ ap (λ ks. Some ks) (sym kinds ∙ raw_kinds first.0);
        immediates = others.1;
      } in
      subst (λ o. Spells o (short o)) made (shortest_operation z (c.opcode.0 ++ others.0) spelt).0

-- ---- the operators, one after the other

module _ (to : Numbers) (m : Typing) where
  abbrev pub written_from : ℕ → List (Marked Named) → List Placed
  written_from place [] = []
  written_from place (x ∷ xs) = record { spelt = spelt_as to m x; place = place } ∷ written_from (place + length (short (spelt_as to m x))) xs

  pub written_lists : (xs : List (Marked Named)) (place : ℕ) → AllByRecursion (λ x. Spells (spelt_as to m x) (short (spelt_as to m x))) xs → Lists (written_from place xs) place (bytes_as to m xs) []
  written_lists [] place h = refl
  written_lists (x ∷ xs) place h =
      (refl, short (spelt_as to m x), bytes_as to m xs, refl, h.0, written_lists xs (place + length (short (spelt_as to m x))) h.1)

-- ---- the operators of the rewritten body

-- an operator with its name, and the name alone
abbrev IsNamedThere : Marked Occurrence → Marked Named → Type 0
IsNamedThere x y = (with_control (name_at x.shown) x.control ≡ y) × IsSpeltThere x.shown x.control

all_named_there : (xs : List Occurrence) → AllByRecursion HasSpelling xs → AllRelated named_of op_of IsNamedThere (map mark xs) (map mark_named (map name_at xs))
all_named_there [] t = tt
all_named_there (x ∷ xs) t = (record { control = refl; name = refl; also = (refl, (refl, t.0)) }, all_named_there xs t.1)

-- what holds of each operator that is written
pub record IsWritable (m : Typing) (a : Named) (c : Control) : Type 0 where
  pub has_control : HasControl a c
  pub has_signatures : HasSignatures m (type_at m c a.op) (block_types a.op.immediates)
  pub can_spell : CanSpell a.op

module _ (env : Environment) (xs : List Occurrence) (body : Body Occurrence) (spelt : AllByRecursion HasSpelling xs) (lawful : Lawful env xs body) where
  abbrev m : Typing
  m = typing_of env

  abbrev b : Body Named
  b = named_body body

  source_sound : Follows (IsSound env) function_frames b.sequence
  source_sound =
      let named = subst (Goes (IsNamed env) (Some function_frames)) (sym lawful.is_body) (body_goes (IsNamed env) body lawful.named) in
      let sound = goes_related named_of op_of IsNamedThere (IsNamed env) (IsSound env)
      (λ fs gs x y same e p. subst (IsSound env gs) p.0 (occurrence_sound env fs gs x.shown x.control same e p.1))
      (Some function_frames) (Some function_frames) refl (map mark xs) (map mark_named (map name_at xs)) (all_named_there xs spelt) named in
      (goes_body (IsSound env) b (subst (Goes (IsSound env) (Some function_frames)) (is_named_body xs body lawful.is_body) sound)).0

  sound_writable : (fs : List (SequenceFrame Named)) (a : Named) (c : Control) → IsSound env fs (with_control a c) → IsWritable m a c
  sound_writable fs a c h = record { has_control = h.has_control; has_signatures = h.has_signatures; can_spell = h.spellable }

  pub all_writable : (omits : NamedOperation → Bool) → AllMarked (IsWritable m) (text (rewritten omits b.sequence) (with_control (end_at b.close.location) End ∷ []))
  all_writable omits =
      all_of_each (IsWritable m) (rewritten omits b.sequence) (with_control (end_at b.close.location) End ∷ [])
      (each_of_follows (IsSound env) (IsWritable m) sound_writable function_frames (rewritten omits b.sequence) (rewritten_sound env omits function_frames b.sequence source_sound))
      (sound_writable function_frames (end_at b.close.location) End (close_sound env [] OfFunction b.close.location), tt)

  pub source_has_control : Each HasControl b.sequence
  source_has_control = each_of_follows (IsSound env) HasControl (λ fs a c h. h.has_control) function_frames b.sequence source_sound
