-- The bytes of a normal form, read back, give the same tree.
use Rattle.std.proofs.Common.{◌≡◌, ℕ, List, [], ◌∷◌, ◌++◌, map, Bool, true, false, Some, Ok, refl, sym, ap, ◌∙◌, subst}
use Rattle.std.specs.List.{AllByRecursion}
use Rattle.walrus_ir.specs.declared.val_type.InstrSeqType.{InstrSeqType}
use Rattle.walrus_ir.specs.Types.{Signature, ModuleType}
use Rattle.walrus_ir.specs.Tree.{sequence, no_sequences}
use Rattle.wasm_operators.specs.declared.types.Space.{Space}
use Rattle.wasm_operators.specs.Operations.{Immediate, block, RawOperation}
use Rattle.wasm_operators.specs.OperatorList.{Lists}
use Rattle.wasm_operators.specs.Spelling.{Spells}
use Rattle.wasm_operators.specs.Shortest.{short}
use Rattle.wasm_operators.proofs.ShortestOperations.{shortest_operation}
use Rattle.wasm_body.specs.Control.{Control, End, Marked, with_control}
use Rattle.wasm_body.specs.SourceTree.{Sequence, text, Body, body_text}
use Rattle.wasm_body.specs.Frames.{SequenceFrame, OfFunction, function_frames, Follows, BodyFollows}
use Rattle.wasm_body.specs.Translation.{translate_immediates}
use Rattle.wasm_body.specs.Naming.{Environment, NamedOperation, Occurrence}
use Rattle.wasm_body.specs.Parsing.Accepted.{HasSpelling, placed, mark, IsBody, IsNamed, Lawful, Setting, location_at, has_location, Accepted}
use Rattle.wasm_body.specs.FunctionTree.{FunctionTree, IsSameTree}
use Rattle.wasm_body.specs.NormalForm.{Typing, typing_of, construct_type, normal_form, name_at, named_body}
use Rattle.wasm_body.specs.FlatText.{with_ids}
use Rattle.wasm_body.specs.Bytes.{Numbers, tree_bytes}
use Rattle.wasm_body.specs.TextLaws.{mark_named}
use Rattle.wasm_body.specs.ReadBack.{EachIn, IsUndone, IsUndoneLocal, IsUndoneType, AreUndone, Undoes, IsReadBack, ReadBack, NormalFormAgain, AreReadable, AcceptedAgain}
use Rattle.wasm_body.proofs.Structure.Along.{Each, AllMarked, HasControl, each_of, all_of_each}
use Rattle.wasm_body.proofs.Translation.Steps.{bound}
use Rattle.wasm_body.proofs.Bytes.LawfulTyped.{each_of_follows, lawful_named}
use Rattle.wasm_operators.proofs.ReadingBytes.{reading_agrees}
use Rattle.wasm_body.proofs.Parsing.ParseResults.{one_body_accepted}
use Rattle.wasm_body.proofs.Structure.ReadFrames.{Goes, body_goes, goes_body}
use Rattle.wasm_body.proofs.Structure.Mapped.{map_mark, text_mapped, is_named_body}
use Rattle.wasm_body.proofs.Structure.Lifted.{lifted_body}
use Rattle.wasm_body.proofs.NormalForm.ByNames.{op_of, same_by_names}
use Rattle.wasm_body.specs.RewrittenTree.{end_at, rewritten, rewritten_body_by}
use Rattle.wasm_body.proofs.NormalForm.Rewritten.{Named, each_fewer}
use Rattle.wasm_body.proofs.NormalForm.NamedTexts.{have_texts}
use Rattle.wasm_body.proofs.NormalForm.NormalAgain.{again as rewritten_again, normal_again}
use Rattle.wasm_body.proofs.NormalForm.SameTexts.{same_bytes}
use Rattle.wasm_body.proofs.NormalForm.WrittenTexts.{type_at, with_type, ids_at, anew_by, ids_text, numbering_at, spelt_as, IsNumbered, bytes_as, numbered_bytes}
use Rattle.wasm_body.proofs.ReadBack.FrameNames.{map_frames, named_of, KeepsRules, has_name}
use Rattle.wasm_body.proofs.Translation.Kinds.{raw_kinds, kinds_kept}
use Rattle.wasm_body.proofs.ReadBack.Ranged.{all_again}
use Rattle.wasm_body.proofs.ReadBack.Sound.{CanSpell, IsSound, IsSpeltThere, occurrence_sound, rewritten_sound, close_sound}
use Rattle.wasm_body.proofs.ReadBack.NamedAgain.{named_again}
use Rattle.wasm_body.proofs.ReadBack.Related.{AllRelated, goes_related}
use Rattle.wasm_body.proofs.ReadBack.PlacedBodies.{make, place_after, at_places, marks_at, are_marks, controls_at, names_at, IsMadeOf, made_at}

-- ---- lists

zipped : {A : Type 0} → (P Q R : A → Type 0) → ((x : A) → P x → Q x → R x) → (xs : List A) → AllByRecursion P xs → AllByRecursion Q xs → AllByRecursion R xs
zipped P Q R h [] p q = tt
zipped P Q R h (x ∷ xs) p q = (h x p.0 q.0, zipped P Q R h xs p.1 q.1)

all_of_map : {A B : Type 0} → (f : A → B) (P : B → Type 0) (xs : List A) → AllByRecursion P (map f xs) → AllByRecursion (λ x. P (f x)) xs
all_of_map f P [] h = tt
all_of_map f P (x ∷ xs) h = (h.0, all_of_map f P xs h.1)

all_so : {A : Type 0} → (P Q : A → Type 0) → ((x : A) → P x → Q x) → (xs : List A) → AllByRecursion P xs → AllByRecursion Q xs
all_so P Q h [] p = tt
all_so P Q h (x ∷ xs) p = (h x p.0, all_so P Q h xs p.1)

-- ---- ids

module _ (P : Space → ℕ → Type 0) (Q : ℕ → Type 0) (S : InstrSeqType → Type 0) (t : InstrSeqType) where
  typed_ids : (i : Immediate ℕ Signature) → EachIn P Q S (with_type t i) → EachIn P Q (λ s. S t) i
  typed_ids (block s) h = h
  typed_ids _ h = h

  all_typed_ids : (is : List (Immediate ℕ Signature)) → AllByRecursion (EachIn P Q S) (map (with_type t) is) → AllByRecursion (λ (i : Immediate ℕ Signature). EachIn P Q (λ s. S t) i) is
  all_typed_ids [] h = tt
  all_typed_ids (i ∷ is) h = (typed_ids i h.0, all_typed_ids is h.1)

-- ---- one operator

module _ (env : Environment) (to : Numbers) (m : Typing) where
  abbrev AreUndoneAt : Marked Named → Type 0
  AreUndoneAt x =
      AllByRecursion (λ (i : Immediate ℕ Signature). EachIn (IsUndone to env) (IsUndoneLocal to env) (λ s. IsUndoneType to env (type_at m x.control x.shown.op)) i) x.shown.op.immediates

  spelt_again : (x : Marked Named) → CanSpell x.shown.op → IsNumbered to m x → AreUndoneAt x → Spells (spelt_as to m x) (short (spelt_as to m x))
  spelt_again x c e u =
      let is = x.shown.op.immediates in
      let first = bound (translate_immediates (numbering_at to m x) is) (λ ks. Ok (record { opcode = x.shown.op.opcode; immediates = ks })) (spelt_as to m x) e in
      let z : RawOperation = record { opcode = x.shown.op.opcode; immediates = first.0 } in
      let made : z ≡ spelt_as to m x = cc first.2 in
      let kinds = kinds_kept (numbering_at to m x) is first.0 first.1 in
      let others = all_again to env (type_at m x.control x.shown.op) is c.ranged u first.0 first.1 in
      let spelt : Spells z (c.opcode.0 ++ others.0) = record {
        first = c.opcode.0;
        others = others.0;
        parts = refl;
        opcode = c.opcode.1;
        kinds = c.kinds ∙ ap (λ ks. Some ks) (sym kinds ∙ raw_kinds first.0);
        immediates = others.1;
      } in
      subst (λ o. Spells o (short o)) made (shortest_operation z (c.opcode.0 ++ others.0) spelt).0

  lists_of : (locate : ℕ → ℕ) (xs : List (Marked Named)) (p : ℕ) → AllByRecursion (λ x. Spells (spelt_as to m x) (short (spelt_as to m x))) xs → Lists (map placed (at_places (spelt_as to m) locate p xs)) p (bytes_as to m xs) []
  lists_of locate [] p h = refl
  lists_of locate (x ∷ xs) p h = (refl, short (spelt_as to m x), bytes_as to m xs, refl, h.0, lists_of locate xs (place_after (spelt_as to m) locate p x) h.1)

  located_of : (locate : ℕ → ℕ) (xs : List (Marked Named)) (p : ℕ) → AllByRecursion (λ x. x.location ≡ locate x.place) (at_places (spelt_as to m) locate p xs)
  located_of locate [] p = tt
  located_of locate (x ∷ xs) p = (refl, located_of locate xs (place_after (spelt_as to m) locate p x))

-- ---- operators of an accepted body

pub texts_of : (xs : List Occurrence) (p : ℕ) (bytes rest : List ℕ) → Lists (map placed xs) p bytes rest → AllByRecursion HasSpelling xs
texts_of [] p bytes rest h = tt
texts_of (x ∷ xs) p bytes rest h = ((h.1, h.4), texts_of xs _ h.2 rest h.5)

-- an operator with its name, and the name alone
abbrev IsNamedThere : Marked Occurrence → Marked Named → Type 0
IsNamedThere x y = (with_control (name_at x.shown) x.control ≡ y) × IsSpeltThere x.shown x.control

named_there_all : (xs : List Occurrence) → AllByRecursion HasSpelling xs → AllRelated named_of op_of IsNamedThere (map mark xs) (map mark_named (map name_at xs))
named_there_all [] t = tt
named_there_all (x ∷ xs) t = (record { control = refl; name = refl; also = (refl, (refl, t.0)) }, named_there_all xs t.1)

-- ---- a body

module _ (env : Environment) (xs : List Occurrence) (body : Body Occurrence) (texts : AllByRecursion HasSpelling xs) (lawful : Lawful env xs body)
    (to : Numbers) (bytes : List ℕ) (written : tree_bytes to (normal_form (typing_of env) (named_body body)) ≡ Ok bytes)
    (again : Environment) (undoes : Undoes to (normal_form (typing_of env) (named_body body)) env again)
    (start : ℕ) (locate : ℕ → ℕ) where
  abbrev m : Typing
  m = typing_of env

  -- the maps that undo the numbers, in the same module
  abbrev back : Environment
  back = record { types = env.types; tags = env.tags; id_of = again.id_of; local_of = again.local_of; type = env.type }

  abbrev b : Body Named
  b = named_body body

  -- whether an `else` that says nothing is left out of the construct that an operator opens
  abbrev omits : NamedOperation → Bool
  omits o = to.balanced (construct_type m o)

  abbrev r : Sequence Named
  r = rewritten omits b.sequence

  abbrev last : Marked Named
  last = with_control (end_at b.close.location) End

  abbrev ms : List (Marked Named)
  ms = text r (last ∷ [])

  source_sound : Follows (IsSound env) function_frames b.sequence
  source_sound =
      let named = subst (Goes (IsNamed env) (Some function_frames)) (sym lawful.is_body) (body_goes (IsNamed env) body lawful.named) in
      let sound = goes_related named_of op_of IsNamedThere (IsNamed env) (IsSound env)
      (λ fs gs x y same e p. subst (IsSound env gs) p.0 (occurrence_sound env fs gs x.shown x.control same e p.1))
      (Some function_frames) (Some function_frames) refl (map mark xs) (map mark_named (map name_at xs)) (named_there_all xs texts) named in
      (goes_body (IsSound env) b (subst (Goes (IsSound env) (Some function_frames)) (is_named_body xs body lawful.is_body) sound)).0

  source_controls : Each HasControl b.sequence
  source_controls = each_of_follows (IsSound env) HasControl (λ fs a c h. h.has_control) function_frames b.sequence source_sound

  sound : Follows (IsSound env) function_frames r
  sound = rewritten_sound env omits function_frames b.sequence source_sound

  last_sound : IsSound env function_frames last
  last_sound = close_sound env [] OfFunction b.close.location

  has_control : Each HasControl r
  has_control = each_of_follows (IsSound env) HasControl (λ fs a c h. h.has_control) function_frames r sound

  numbered : AllByRecursion (IsNumbered to m) ms × (bytes ≡ bytes_as to m ms)
  numbered = numbered_bytes to m b bytes source_controls written

  -- the operators, if no `else` is left out
  abbrev whole_text : List (Marked Named)
  whole_text = body_text (anew_by with_ids.balanced m b)

  whole_undone : AllByRecursion (AreUndoneAt back to m) whole_text
  whole_undone =
      let ids = undoes.ids (map (ids_at m) whole_text) (ids_text m b source_controls) in
      all_so (λ x. AreUndone to again (ids_at m x).op.immediates) (AreUndoneAt back to m)
      (λ x h. all_typed_ids (IsUndone to back) (IsUndoneLocal to back) (IsUndoneType to back) (type_at m x.control x.shown.op) x.shown.op.immediates h) whole_text
      (all_of_map (ids_at m) (λ x. AreUndone to again x.op.immediates) whole_text ids)

  abbrev IsUndoneThere : Named → Control → Type 0
  IsUndoneThere a c = AreUndoneAt back to m (with_control a c)

  undone : AllByRecursion (AreUndoneAt back to m) ms
  undone =
      let each = each_of IsUndoneThere (rewritten (λ o. false) b.sequence) (last ∷ []) whole_undone in
      all_of_each IsUndoneThere r (last ∷ []) (each_fewer omits IsUndoneThere (λ l. tt) b.sequence each.0) each.1

  abbrev IsReady : Named → Control → Type 0
  IsReady a c = IsNumbered to m (with_control a c) × AreUndoneAt back to m (with_control a c)

  ready : AllMarked IsReady ms
  ready = zipped (IsNumbered to m) (AreUndoneAt back to m) (λ x. IsReady x.shown x.control) (λ x p q. (p, q)) ms numbered.0 undone

  spelt : AllByRecursion (λ x. Spells (spelt_as to m x) (short (spelt_as to m x))) ms
  spelt =
      let can = all_of_each (λ a c. CanSpell a.op) r (last ∷ []) (each_of_follows (IsSound env) (λ a c. CanSpell a.op) (λ fs a c h. h.spellable) function_frames r sound) (last_sound.spellable, tt) in
      zipped (λ x. CanSpell x.shown.op) (λ x. IsReady x.shown x.control) (λ x. Spells (spelt_as to m x) (short (spelt_as to m x)))
      (λ x c p. spelt_again back to m x c p.0 p.1) ms can ready

  -- ---- the body that is read back

  abbrev operators : List Occurrence
  operators = at_places (spelt_as to m) locate start ms

  abbrev marks : List (Marked Occurrence)
  marks = marks_at (spelt_as to m) locate start ms

  all_controls : AllMarked HasControl ms
  all_controls = all_of_each HasControl r (last ∷ []) has_control (refl, tt)

  whole : (c : Body Occurrence) × (body_text c ≡ marks)
  whole = lifted_body (rewritten_body_by omits b) marks (controls_at (spelt_as to m) locate start ms)

  abbrev read : Body Occurrence
  read = whole.0

  is_read : IsBody operators read
  is_read = are_marks (spelt_as to m) locate start ms all_controls ∙ sym whole.1

  named_there : (fs : List (SequenceFrame Named)) (gs : List (SequenceFrame Occurrence)) (p : ℕ) (a : Named) (c : Control) → map_frames op_of fs ≡ map_frames named_of gs → IsSound env fs (with_control a c) → IsReady a c →
      IsNamed back gs (with_control (make (spelt_as to m) locate p (with_control a c)) c)
  named_there fs gs p a c e h q =
      let there : KeepsRules env (map_frames named_of gs) a.op = subst (λ l. KeepsRules env l a.op) e h.ruled in
      let ruled : KeepsRules back (map_frames named_of gs) a.op = record { allowed = there.allowed; keeps = there.keeps; typed = there.typed } in
      has_name back gs (spelt_as to m (with_control a c)) a.op (named_again back to (type_at m c a.op) named_of gs a.op (spelt_as to m (with_control a c)) q.0 q.1 h.has_signatures there.keeps) ruled

  read_named : BodyFollows (IsNamed back) read
  read_named =
      let goes = goes_related op_of named_of (IsMadeOf (spelt_as to m) locate IsReady) (IsSound env) (IsNamed back)
      (λ fs gs x y same e p. subst (IsNamed back gs) p.1 (named_there fs gs p.0 x.shown x.control same e p.2))
      (Some function_frames) (Some function_frames) refl ms marks (made_at (spelt_as to m) locate IsReady start ms ready)
      (body_goes (IsSound env) (rewritten_body_by omits b) (sound, last_sound)) in
      goes_body (IsNamed back) read (subst (Goes (IsNamed back) (Some function_frames)) (sym whole.1) goes)

  lists : Lists (map placed operators) start bytes []
  lists = subst (λ t. Lists (map placed operators) start t []) (sym numbered.1) (lists_of back to m locate ms start spelt)

  same_again : IsSameTree (normal_form m (named_body read)) (normal_form m b)
  same_again =
      let names = ap (map (map_mark op_of)) (text_mapped name_at read.sequence (with_control read.close End ∷ []) ∙ ap (map (map_mark name_at)) whole.1)
      ∙ names_at (spelt_as to m) locate start ms in
      same_by_names m (named_body read) (rewritten_body_by omits b) names ∙ ap (λ x. sequence m.entry x no_sequences) (rewritten_again omits m b.sequence)

  by_back : IsReadBack back start locate to (normal_form m b) bytes
  by_back = record {
    operators = operators;
    body = read;
    spelt = lists;
    located = located_of back to m locate ms start;
    lawful = record { entry = lawful.entry; is_body = is_read; named = read_named };
    same = same_again;
    unchanged = same_bytes to (normal_form m (named_body read)) (normal_form m b) same_again ∙ written;
  }

  -- the module and the type are those of the maps that are given
  environments : back ≡ again
  environments =
      let made : List ModuleType → List ℕ → ℕ → Environment = λ ts gs t. record { types = ts; tags = gs; id_of = again.id_of; local_of = again.local_of; type = t } in
      ap (λ ts. made ts env.tags env.type) (sym undoes.types)
      ∙ (ap (λ gs. made again.types gs env.type) (sym undoes.tags) ∙ ap (λ t. made again.types again.tags t) (sym undoes.type))

  is_read_back : IsReadBack again start locate to (normal_form m b) bytes
  is_read_back = subst (λ e. IsReadBack e start locate to (normal_form m b) bytes) environments by_back

pub read_back : ReadBack
read_back env xs body texts lawful to bytes written again undoes start locate = is_read_back env xs body texts lawful to bytes written again undoes start locate

-- ---- texts with names

pub normal_form_again : NormalFormAgain
normal_form_again env xs body texts lawful =
    let m = typing_of env in
    let b = named_body body in
    let named = lawful_named env xs body texts lawful in
    let t = have_texts m (map name_at xs) b named.0 named.1 in
    record { read = t; same = normal_again m (map name_at xs) t.text b t.body named.0 named.1 t.is_text t.is_body }

-- ---- accepted bodies

accepted_by : {W : Type 0} → (again : Setting W) (to : Numbers) (tree : FunctionTree) (bytes : List ℕ) → AreReadable again bytes
    → (r : IsReadBack again.environment again.start (location_at again.locations) to tree bytes) → Accepted again bytes r.body
accepted_by again to tree bytes readable r = record {
  operators = r.operators;
  all = record {
    spelt = r.spelt;
    have_locations = all_of_map placed (λ x. has_location again.locations x.place ≡ true) r.operators (readable.have_locations (map placed r.operators) r.spelt);
    located = r.located;
    passes = readable.passes (map placed r.operators) r.spelt;
  };
  lawful = r.lawful;
}

pub accepted_again : (V W : Type 0) → AcceptedAgain V W
accepted_again V W given source body accepted to bytes written again undoes readable =
    let tree = normal_form (typing_of given.environment) (named_body body) in
    let r = read_back given.environment accepted.operators body (texts_of accepted.operators given.start source [] accepted.all.spelt) accepted.lawful to bytes written again.environment undoes again.start (location_at again.locations) in
    let there = accepted_by again to tree bytes readable r in
    let only : (c : Body Occurrence) → Accepted again bytes c → r.body ≡ c = λ c h. one_body_accepted reading_agrees W again bytes r.body c there h in
    record {
      body = r.body;
      accepted = there;
      same = λ c h. subst (λ d. IsSameTree (normal_form (typing_of again.environment) (named_body d)) tree) (only c h) r.same;
      unchanged = λ c h. subst (λ d. tree_bytes to (normal_form (typing_of again.environment) (named_body d)) ≡ Ok bytes) (only c h) r.unchanged;
    }
