-- Labels: the slots of the open frames decrease from the innermost outwards, so a branch to the slot of a label goes to that
-- label; and the frames are handlers where those around the operator are.
use Rattle.std.specs.Prelude.{◌≡◌, ℕ, zero, suc, ◌<◌, ◌≤◌, ◌==◌, nat_lt, List, [], ◌∷◌, length, map, true, false, if◌then◌else◌, Option, Some, None, slice_get, Result, Ok}
use Rattle.std.specs.List.{AllByRecursion}
use Rattle.std.proofs.lemmas.List.{length-map}
use Rattle.std.proofs.lemmas.Option.{slice_get_within}
use Rattle.std.proofs.Common.{refl, ap, sym, subst, ◌∙◌, arith}
use Rattle.walrus_ir.specs.declared.control.BlockKind.{BlockKind}
use Rattle.wasm_numbers.specs.Results.{◌>>=◌, some_or, unless}
use Rattle.walrus_ir.specs.declared.seq.InstrSeq.{InstrSeq}
use Rattle.wasm_body.specs.declared.error.ParseError.{ParseError}
use Rattle.wasm_body.specs.declared.error.ParseError.TheVariants.{NoSuchLabel, RethrowOutsideHandler}
use Rattle.wasm_body.specs.Frames.{SequenceFrame, is_handler, handler_at}
use Rattle.wasm_body.specs.SourceTree.{Sequence, OfBlock, OfLoop, OfTryTable}
use Rattle.wasm_body.specs.Naming.{Occurrence, Environment, handler_label}
use Rattle.wasm_body.specs.FunctionTree.{Depth}
use Rattle.wasm_body.specs.TreeOfFunction.{deeper, target_in}
use Rattle.wasm_body.specs.Parsing.Progress.{OpenConstruct, InWrapper, InThen, InElse, InTry, InCatch, InCatchAll, Layer, frame_of, frames_of}
use Rattle.wasm_body.proofs.NormalForm.ArenaLemmas.{all_rise-range}
use Rattle.walrus_context.specs.declared.frame.IfElseState.{IfElseState}
use Rattle.walrus_context.specs.OpenFrames.{OpenFrame, changed_at, with_instr}
use Rattle.walrus_context.specs.OpenConstructs.{kind_in}
use Rattle.walrus_context.specs.Keeping.{slots, Holds}
use Rattle.walrus_context.specs.Placing.{is_handler_kind, handler_in}
use Rattle.walrus_parser.proofs.Frames.{same_outside, slots_outside, kept_below}

abbrev pub Fall : List ℕ → Type 0
Fall [] = Unit {0}
Fall (p ∷ ps) = AllByRecursion (λ q. q < p) ps × Fall ps

all_at_most : (ps : List ℕ) (low high : ℕ) → low ≤ high → AllByRecursion (λ q. q < low) ps → AllByRecursion (λ q. q < high) ps
all_at_most [] low high l a = tt
all_at_most (p ∷ ps) low high l a = ((let b = a.0 in omega arith), all_at_most ps low high l a.1)

-- the innermost is below `high`, and each outer one is lower
falls : (env : Environment) (b : List InstrSeq) (ls : List (Layer Occurrence)) (s : Sequence Occurrence) (high : ℕ) (fs : List OpenFrame) (ifs : List IfElseState) → Holds env b ls s high fs ifs → AllByRecursion (λ q. q < high) (slots fs) × Fall (slots fs)
falls env b [] s high [] ifs h = absurd h
falls env b [] s high (f ∷ fs) ifs h =
    let below = kept_below env b high f (slots fs) s h.kept in
    subst (λ gs. AllByRecursion (λ q. q < high) (slots (f ∷ gs)) × Fall (slots (f ∷ gs))) (sym h.alone) ((below, tt), (tt, tt))
falls env b (l ∷ ls) s high [] ifs h = absurd h
falls env b (l ∷ ls) s high (f ∷ fs) ifs h =
    let below = kept_below env b high f (slots fs) s h.kept in
    let range = all_rise-range h.low h.encloses.inside f.sequence h.encloses.rise in
    let outside = falls env b ls l.before h.low h.outside h.other_ifs h.outer in
    let outer = subst (λ ps. AllByRecursion (λ q. q < h.low) ps × Fall ps) (sym (slots_outside (slots fs) h.before f.sequence l.construct fs h.outside ifs h.other_ifs h.opens)) outside in
    ((below, all_at_most (slots fs) h.low high (omega arith) outer.0), (all_at_most (slots fs) h.low f.sequence range outer.0, outer.1))

pub holds_fall : (env : Environment) (b : List InstrSeq) (ls : List (Layer Occurrence)) (s : Sequence Occurrence) (high : ℕ) (fs : List OpenFrame) (ifs : List IfElseState) → Holds env b ls s high fs ifs → Fall (slots fs)
holds_fall env b ls s high fs ifs h = (falls env b ls s high fs ifs h).1

pub holds_length : (env : Environment) (b : List InstrSeq) (ls : List (Layer Occurrence)) (s : Sequence Occurrence) (high : ℕ) (fs : List OpenFrame) (ifs : List IfElseState) → Holds env b ls s high fs ifs → length fs ≡ length (frames_of ls)
holds_length env b [] s high [] ifs h = absurd h
holds_length env b [] s high (f ∷ fs) ifs h = ap (λ gs. suc (length gs)) h.alone
holds_length env b (l ∷ ls) s high [] ifs h = absurd h
holds_length env b (l ∷ ls) s high (f ∷ fs) ifs h =
    let same = ap length (slots_outside (slots fs) h.before f.sequence l.construct fs h.outside ifs h.other_ifs h.opens) in
    ap suc (sym (length-map fs (λ (g : OpenFrame). g.sequence)) ∙ same ∙ length-map h.outside (λ (g : OpenFrame). g.sequence) ∙ holds_length env b ls l.before h.low h.outside h.other_ifs h.outer)

pub some_frame : (ls : List (Layer Occurrence)) → 0 < length (frames_of ls)
some_frame [] = (let z : 0 < 1 = omega arith in z)
some_frame (l ∷ ls) = (let z : 0 < length (frame_of l.construct ∷ frames_of ls) = omega arith in z)

within_lower : (ps : List ℕ) (high n p : ℕ) → AllByRecursion (λ q. q < high) ps → slice_get ps n ≡ Some p → p < high
within_lower [] high n p a e = absurd cc
within_lower (q ∷ ps) high zero p a e = let same : q ≡ p = cc in let b = a.0 in omega arith
within_lower (q ∷ ps) high (suc n) p a e = within_lower ps high n p a.1 e

-- the slot of the n-th open sequence is the target n
pub target_of_label : (ps : List ℕ) (n p : ℕ) → Fall ps → slice_get ps n ≡ Some p → target_in ps p ≡ Depth n
target_of_label [] n p f e = absurd cc
target_of_label (q ∷ ps) zero p f e = let same : q ≡ p = cc in let is : (p == q) ≡ true = grind arith in ap (λ t. if t then Depth 0 else deeper (target_in ps p)) is
target_of_label (q ∷ ps) (suc n) p f e =
    let below = within_lower ps q n p f.0 e in
    let differ : (p == q) ≡ false = grind arith in
    ap (λ t. if t then Depth 0 else deeper (target_in ps p)) differ ∙ ap deeper (target_of_label ps n p f.1 e)

-- ---- handlers

abbrev kinds : List OpenFrame → List BlockKind
kinds fs = map (λ (f : OpenFrame). f.kind) fs

-- each kind is that of a handler exactly if its frame is one
abbrev pub AreKindsOf : {A : Type 0} → List (SequenceFrame A) → List BlockKind → Type 0
AreKindsOf [] [] = Unit {0}
AreKindsOf [] (k ∷ ks) = ⊥
AreKindsOf (g ∷ gs) [] = ⊥
AreKindsOf (g ∷ gs) (k ∷ ks) = (is_handler_kind k ≡ is_handler g) × AreKindsOf gs ks

same_kind : {A : Type 0} → (p : OpenConstruct A) → is_handler_kind (kind_in p) ≡ is_handler (frame_of p)
same_kind (InWrapper a OfBlock) = refl
same_kind (InWrapper a OfLoop) = refl
same_kind (InWrapper a (OfTryTable cs)) = refl
same_kind (InThen a) = refl
same_kind (InElse a b l) = refl
same_kind (InTry a) = refl
same_kind (InCatch a b gs h t) = refl
same_kind (InCatchAll a b gs h) = refl

kinds_changed : (x : _) (gs : List OpenFrame) → kinds (changed_at 0 (with_instr x) gs) ≡ kinds gs
kinds_changed x [] = refl
kinds_changed x (g ∷ gs) = refl

holds_kinds : (env : Environment) (b : List InstrSeq) (ls : List (Layer Occurrence)) (s : Sequence Occurrence) (high : ℕ) (fs : List OpenFrame) (ifs : List IfElseState) → Holds env b ls s high fs ifs → AreKindsOf (frames_of ls) (kinds fs)
holds_kinds env b [] s high [] ifs h = absurd h
holds_kinds env b [] s high (f ∷ fs) ifs h = (ap is_handler_kind h.kind, subst (λ gs. AreKindsOf {A = Occurrence} [] (kinds gs)) (sym h.alone) tt)
holds_kinds env b (l ∷ ls) s high [] ifs h = absurd h
holds_kinds env b (l ∷ ls) s high (f ∷ fs) ifs h = (
  ap is_handler_kind h.encloses.kind ∙ same_kind l.construct,
  subst (AreKindsOf (frames_of ls)) (sym (same_outside kinds kinds_changed (slots fs) h.before f.sequence l.construct fs h.outside ifs h.other_ifs h.opens))
      (holds_kinds env b ls l.before h.low h.outside h.other_ifs h.outer),
)

pub get_past : {A : Type 0} (xs : List A) (n : ℕ) → slice_get xs n ≡ None → length xs ≤ n
get_past [] n e = omega arith
get_past (x ∷ xs) zero e = absurd cc
get_past (x ∷ xs) (suc n) e = let l = get_past xs n e in omega arith

module _ {A : Type 0} where
  as_many_kinds : (gs : List (SequenceFrame A)) (fs : List OpenFrame) → AreKindsOf gs (kinds fs) → length fs ≡ length gs
  as_many_kinds [] [] a = refl
  as_many_kinds [] (k ∷ fs) a = absurd a
  as_many_kinds (g ∷ gs) [] a = absurd a
  as_many_kinds (g ∷ gs) (k ∷ fs) a = ap suc (as_many_kinds gs fs a.1)

  handler_there : (gs : List (SequenceFrame A)) (fs : List OpenFrame) (n : ℕ) (f : OpenFrame) → AreKindsOf gs (kinds fs) → slice_get fs n ≡ Some f → is_handler_kind f.kind ≡ handler_at gs n
  handler_there [] [] n f a e = absurd cc
  handler_there [] (k ∷ fs) n f a e = absurd a
  handler_there (g ∷ gs) [] n f a e = absurd a
  handler_there (g ∷ gs) (k ∷ fs) zero f a e = let same : k ≡ f = cc in ap (λ (h : OpenFrame). is_handler_kind h.kind) (sym same) ∙ a.0
  handler_there (g ∷ gs) (k ∷ fs) (suc n) f a e = handler_there gs fs n f a.1 e

  pub same_handler : (gs : List (SequenceFrame A)) (fs : List OpenFrame) → AreKindsOf gs (kinds fs) → (n : ℕ) → handler_in fs n ≡ handler_label gs n
  same_handler gs fs a n = by_frame (slice_get fs n) refl
    where
      many : length fs ≡ length gs
      many = as_many_kinds gs fs a

      by_frame : (o : Option OpenFrame) → slice_get fs n ≡ o →
          (some_or o NoSuchLabel >>= λ f. let k : Result BlockKind ParseError = Ok f.kind in k) >>= (λ k. unless (is_handler_kind k) RethrowOutsideHandler >>= λ u. let r : Result ℕ ParseError = Ok n in r) ≡ handler_label gs n
      by_frame (Some f) e =
          let within = slice_get_within fs n f e in
          let long = many in
          let is : nat_lt n (length gs) ≡ true = grind arith in rw (is, handler_there gs fs n f a e) refl
      by_frame None e =
          let past = get_past fs n e in
          let long = many in
          let is : nat_lt n (length gs) ≡ false = grind arith in rw is refl

-- The open frames match those around the operator, as far as depths can tell.
pub record AreSeenAs {A : Type 0} (gs : List (SequenceFrame A)) (fs : List OpenFrame) : Type 0 where
  pub as_many : length fs ≡ length gs
  pub handlers : (n : ℕ) → handler_in fs n ≡ handler_label gs n
  pub fall : Fall (slots fs)

pub holds_seen : (env : Environment) (b : List InstrSeq) (ls : List (Layer Occurrence)) (s : Sequence Occurrence) (high : ℕ) (fs : List OpenFrame) (ifs : List IfElseState) → Holds env b ls s high fs ifs → AreSeenAs (frames_of ls) fs
holds_seen env b ls s high fs ifs h =
    let kinds_are = holds_kinds env b ls s high fs ifs h in
    record {
      as_many = as_many_kinds (frames_of ls) fs kinds_are;
      handlers = same_handler (frames_of ls) fs kinds_are;
      fall = holds_fall env b ls s high fs ifs h;
    }
