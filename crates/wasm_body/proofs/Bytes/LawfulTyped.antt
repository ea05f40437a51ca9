-- Each operator of a lawful body is typed: the type that is picked for an opener has its block type as signature, and no other
-- operator has a block type.
use Rattle.std.proofs.Common.{◌≡◌, ℕ, length, List, [], ◌∷◌, map, Bool, true, false, cond, Some, None, Result, Ok, refl, sym, ap, ◌∙◌, subst}
use Rattle.std.specs.Prelude.{is_some}
use Rattle.std.specs.List.{AllByRecursion}
use Rattle.walrus_ir.specs.declared.val_type.InstrSeqType.TheVariants.{Simple}
use Rattle.walrus_ir.specs.Types.{Signature, pick}
use Rattle.wasm_operators.specs.Operations.{Immediate, operation, RawOperation}
use Rattle.wasm_operators.specs.Immediates.{kind_of}
use Rattle.wasm_operators.specs.Opcodes.{kinds_of}
use Rattle.wasm_body.specs.declared.error.ParseError.{ParseError}
use Rattle.wasm_body.specs.declared.error.ParseError.TheVariants.{TypeMissing}
use Rattle.wasm_numbers.specs.Results.{◌>>=◌, unless}
use Rattle.wasm_body.specs.Control.{Role, a_block, a_loop, an_if, a_try, a_try_table, role_of, Control, Does, Opens, Else, Catch, CatchAll, End, Delegate, If, Try, control_by, control_of, with_control}
use Rattle.wasm_body.specs.SourceTree.{Sequence, Empty, Single, Wrapped, IfThen, IfElse, TryCatch, TryDelegate, Clauses, Ended, Catches, CatchesAll, construct_of, Body}
use Rattle.wasm_body.specs.Frames.{SequenceFrame, OfWrapper, Consequent, Alternative, TryBody, Handler, HandlerOfAll, FrameRule, Follows, FollowsIn, function_frames}
use Rattle.wasm_body.specs.Translation.{translate, translate_immediates}
use Rattle.wasm_body.specs.Naming.{NamedOperation, Occurrence, Environment, naming, allowed, block_types, first_signature, block_signature, has_pick, has_types, named_in}
use Rattle.wasm_body.specs.Parsing.Accepted.{HasSpelling, mark, IsNamed, Lawful}
use Rattle.wasm_body.specs.NormalForm.{Typing, typing_of, name_at}
use Rattle.wasm_body.specs.TextLaws.{LawfulAreTyped}
use Rattle.wasm_body.specs.Typed.{HasSignatures, IsTypedAs, AreTyped}
use Rattle.wasm_body.proofs.Translation.Steps.{bound}
use Rattle.wasm_body.proofs.Bytes.Openers.{opens, counted}
use Rattle.wasm_body.proofs.Bytes.BlockTypes.{length-block_types, block_types-translate}
use Rattle.wasm_body.proofs.Bytes.Picks.{pick_has_signature}
use Rattle.wasm_body.proofs.Structure.Mapped.{is_named_body}
use Rattle.wasm_body.proofs.Structure.Along.{Each, EachIn, AllMarked, all_of_each}

-- ---- one operator

one_signature : (m : Typing) (ss : List Signature) → length ss ≡ 1
    → m.signature_of (m.picked (first_signature ss)) ≡ Some (first_signature ss) → HasSignatures m (m.picked (first_signature ss)) ss
one_signature m [] e h = tt
one_signature m (s ∷ []) e h = (h, tt)
one_signature m (s ∷ t ∷ ss) e h = absurd cc

none_left : {A : Type 0} → (xs : List A) → length xs ≡ 0 → xs ≡ []
none_left [] e = refl
none_left (x ∷ xs) e = absurd cc

typed_as : (m : Typing) (r : Role) (o : NamedOperation) → length (block_types o.immediates) ≡ cond (opens r) 1 0
    → (opens r ≡ true → m.signature_of (m.picked (block_signature o)) ≡ Some (block_signature o)) → IsTypedAs m r o
typed_as m a_block o n h = one_signature m (block_types o.immediates) n (h refl)
typed_as m a_loop o n h = one_signature m (block_types o.immediates) n (h refl)
typed_as m an_if o n h = one_signature m (block_types o.immediates) n (h refl)
typed_as m a_try o n h = one_signature m (block_types o.immediates) n (h refl)
typed_as m a_try_table o n h = one_signature m (block_types o.immediates) n (h refl)
typed_as m _ o n h = none_left (block_types o.immediates) n

-- the module has a type of a sequence for an opener
opener_has_pick : (env : Environment) (frames : List (SequenceFrame Occurrence)) (r : Role) (is : List (Immediate ℕ Signature))
    → (o : NamedOperation) (u : Unit {0})
    → has_types env frames (control_by r is) o ≡ Ok u → opens r ≡ true → has_pick env (block_signature o) ≡ Ok u
opener_has_pick env fs a_block is o u e h = e
opener_has_pick env fs a_loop is o u e h = e
opener_has_pick env fs an_if is o u e h = e
opener_has_pick env fs a_try is o u e h = e
opener_has_pick env fs a_try_table is o u e h = e
opener_has_pick env fs _ is o u e h = absurd cc

test_passed : {E : Type 0} → (b : Bool) (f : E) (u : Unit {0}) → unless b f ≡ Ok u → b ≡ true
test_passed true f u e = refl
test_passed false f u e = absurd cc

-- Its immediates are of the kinds that its opcode has.
abbrev pub HasKinds : Occurrence → Type 0
HasKinds x = kinds_of x.spelt.opcode ≡ Some (map kind_of x.spelt.immediates)

pub named_typed : (env : Environment) (frames : List (SequenceFrame Occurrence)) (o : RawOperation) (named : NamedOperation)
    → kinds_of o.opcode ≡ Some (map kind_of o.immediates)
    → named_in env frames o ≡ Ok named → IsTypedAs (typing_of env) (role_of named.opcode) named
named_typed env fs o named kinds e =
    let m = typing_of env in
    let types : NamedOperation → Result (Unit {0}) ParseError = λ n. has_types env fs (control_of n) n in
    let was_allowed = bound (allowed fs (control_of o)) (λ u. translate (naming env fs) o >>= λ n. types n >>= λ v. Ok n) named e in
    let translated = bound (translate (naming env fs) o) (λ n. types n >>= λ v. Ok n) named was_allowed.2 in
    let n = translated.0 in
    let typed = bound (types n) (λ v. Ok n) named translated.2 in
    let is = bound (translate_immediates (naming env fs) o.immediates) (λ js. Ok (operation o.opcode js)) n translated.1 in
    let r = role_of o.opcode in
    let k = operation o.opcode is.0 in
    let made : k ≡ n = cc is.2 in
    let same : k ≡ named = made ∙ (let h : n ≡ named = cc typed.2 in h) in
    let count : length (block_types is.0) ≡ cond (opens r) 1 0 =
    block_types-translate (naming env fs) o.immediates is.0 is.1
    ∙ (length-block_types o.immediates ∙ counted o.opcode (map kind_of o.immediates) kinds) in
    let held : has_types env fs (control_by r is.0) k ≡ Ok typed.0 = ap types made ∙ typed.1 in
    let s = block_signature k in
    let picks : opens r ≡ true → m.signature_of (m.picked s) ≡ Some s =
    λ h. pick_has_signature env.types s (Simple None)
    (test_passed (is_some (pick env.types s)) TypeMissing typed.0 (opener_has_pick env fs r is.0 k typed.0 held h)) in
    subst (λ j. IsTypedAs m (role_of j.opcode) j) same (typed_as m r k count picks)

-- ---- consequences of a rule at each operator of a tree

module _ {A : Type 0} (R : FrameRule A) (P : A → Control → Type 0)
    (given : (frames : List (SequenceFrame A)) (a : A) (c : Control) → R frames (with_control a c) → P a c) where
  mutual
    pub each_of_follows : (fs : List (SequenceFrame A)) (s : Sequence A) → Follows R fs s → Each P s
    each_of_follows fs Empty h = tt
    each_of_follows fs (Single a action r) h = (given fs a (Does action) h.0, each_of_follows fs r h.1)
    each_of_follows fs (Wrapped a w b e r) h =
        (given fs a (Opens (construct_of w)) h.0, each_of_follows (OfWrapper a ∷ fs) b h.1, given (OfWrapper a ∷ fs) e End h.2, each_of_follows fs r h.3)
    each_of_follows fs (IfThen a b e r) h =
        (given fs a (Opens If) h.0, each_of_follows (Consequent a ∷ fs) b h.1, given (Consequent a ∷ fs) e End h.2, each_of_follows fs r h.3)
    each_of_follows fs (IfElse a b l c e r) h = (
      given fs a (Opens If) h.0,
      each_of_follows (Consequent a ∷ fs) b h.1,
      given (Consequent a ∷ fs) l Else h.2,
      each_of_follows (Alternative a ∷ fs) c h.3,
      given (Alternative a ∷ fs) e End h.4,
      each_of_follows fs r h.5,
    )
    each_of_follows fs (TryCatch a b cs r) h =
        (given fs a (Opens Try) h.0, each_of_follows (TryBody a ∷ fs) b h.1, each_in_follows fs a (TryBody a) cs h.2, each_of_follows fs r h.3)
    each_of_follows fs (TryDelegate a b e n r) h =
        (given fs a (Opens Try) h.0, each_of_follows (TryBody a ∷ fs) b h.1, given (TryBody a ∷ fs) e (Delegate n) h.2, each_of_follows fs r h.3)

    each_in_follows : (fs : List (SequenceFrame A)) (a : A) (f : SequenceFrame A) (cs : Clauses A) → FollowsIn R fs a f cs → EachIn P cs
    each_in_follows fs a f (Ended e) h = given (f ∷ fs) e End h
    each_in_follows fs a f (Catches i t b cs) h =
        (given (f ∷ fs) i (Catch t) h.0, each_of_follows (Handler a ∷ fs) b h.1, each_in_follows fs a (Handler a) cs h.2)
    each_in_follows fs a f (CatchesAll i b e) h =
        (given (f ∷ fs) i CatchAll h.0, each_of_follows (HandlerOfAll a ∷ fs) b h.1, given (HandlerOfAll a ∷ fs) e End h.2)

-- ---- a body

-- the operator has its name in some place
abbrev pub NamedSomewhere : Environment → Occurrence → Control → Type 0
NamedSomewhere env x c = (frames : List (SequenceFrame Occurrence)) × (named_in env frames x.spelt ≡ Ok x.named)

all_typed : (env : Environment) (xs : List Occurrence) → AllByRecursion HasKinds xs → AllMarked (NamedSomewhere env) (map mark xs)
    → AreTyped (typing_of env) (map name_at xs)
all_typed env [] k h = tt
all_typed env (x ∷ xs) k h = (named_typed env h.0.0 x.spelt x.named k.0 h.0.1, all_typed env xs k.1 h.1)

-- each operator of a lawful body has its name in some place
pub named_somewhere : (env : Environment) (xs : List Occurrence) (b : Body Occurrence) → Lawful env xs b → AllMarked (NamedSomewhere env) (map mark xs)
named_somewhere env xs b lawful =
    subst (AllMarked (NamedSomewhere env)) (sym lawful.is_body)
    (all_of_each (NamedSomewhere env) b.sequence (with_control b.close End ∷ [])
    (each_of_follows (IsNamed env) (NamedSomewhere env) (λ frames x c h. (frames, h)) function_frames b.sequence lawful.named.0)
    ((function_frames, lawful.named.1), tt))

lawful_typed : (env : Environment) (xs : List Occurrence) (b : Body Occurrence) → AllByRecursion HasKinds xs → Lawful env xs b
    → AreTyped (typing_of env) (map name_at xs)
lawful_typed env xs b kinds lawful = all_typed env xs kinds (named_somewhere env xs b lawful)

have_kinds : (xs : List Occurrence) → AllByRecursion HasSpelling xs → AllByRecursion HasKinds xs
have_kinds [] t = tt
have_kinds (x ∷ xs) t = (t.0.1.kinds, have_kinds xs t.1)

pub lawful_named : LawfulAreTyped
lawful_named env xs b spelt lawful = (is_named_body xs b lawful.is_body, lawful_typed env xs b (have_kinds xs spelt) lawful)
