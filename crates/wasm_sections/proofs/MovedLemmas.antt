-- Sections in which the indices of functions are others: one more item after others; one more operator of a constant expression.
use Rattle.std.proofs.Common.{◌≡◌, Bool, ℕ, zero, suc, ◌+◌, ◌-◌, ◌%◌, ◌==◌, nat_le, List, [], ◌∷◌, ◌++◌, length, take, Result, Ok, OnOk, refl, sym, ap, subst, ◌∙◌, append_assoc, add-one, arith}
use Rattle.std.proofs.lemmas.List.{append-nil}
use Rattle.std.proofs.Math.Seq.{take-append_seam}
use Rattle.wasm_numbers.specs.Numbers.{u32}
use Rattle.wasm_operators.specs.Operations.{RawOperation}
use Rattle.wasm_operators.specs.Shortest.{short_number}
use Rattle.wasm_operators.specs.Spelling.{Spells}
use Rattle.wasm_sections.specs.declared.globals.GlobalType.{GlobalType}
use Rattle.wasm_sections.specs.declared.sections.SectionKind.{SectionKind}
use Rattle.wasm_sections.specs.declared.sections.SectionKind.TheVariants as section
use Rattle.wasm_sections.specs.MovedFunctions.{AreMoved, AreCounted, MovesInstruction, MovesConstant, last, before, MovesConstantIf, MovesGlobal, MovesTable, MovesElement, MovesSegment, CopiesPart, MovesContents, AreMovedContents}
use Rattle.wasm_sections.specs.Format.{global_type_part, table_front_part, element_flags_part, element_type_part}
use Rattle.wasm_sections.specs.Parts.{Part}
use Rattle.wasm_sections.proofs.PartLemmas.{EndFollows, element_type_anywhere}
use Rattle.wasm_sections.proofs.NumberLemmas.{before_last}

-- these bytes, and then those
then_those : (old mid new first others : List ℕ) → mid ≡ old ++ first → new ≡ mid ++ others → new ≡ old ++ (first ++ others)
then_those old mid new first others e f = f ∙ ap (λ (l : List ℕ). l ++ others) e ∙ append_assoc old first others

-- ---- items

one_more :
    (Moves : (text following written : List ℕ) → Type 0) (count : ℕ) (text next following written first : List ℕ) →
    AreMoved Moves count text next written → Moves next following first → AreMoved Moves (suc count) text following (written ++ first)
one_more Moves zero text next following written first a m =
    let moves : Moves text following first = subst (λ (l : List ℕ). Moves l following first) (sym a.0) m in
    let is : written ++ first ≡ first ++ [] = ap (λ (l : List ℕ). l ++ first) a.1 ∙ sym (append-nil first) in
    (following, first, [], moves, (refl, refl), is)
one_more Moves (suc count) text next following written first a m =
    let more = one_more Moves count a.0 next following a.2 first a.4 m in
    let is : written ++ first ≡ a.1 ++ (a.2 ++ first) = ap (λ (l : List ℕ). l ++ first) a.5 ∙ append_assoc a.1 a.2 first in
    (a.0, a.1, a.2 ++ first, a.3, more, is)

-- so many items are moved, and appended
abbrev pub SoFar : (Moves : (text following written : List ℕ) → Type 0) → (count : ℕ) → (text left old new : List ℕ) → Type 0
SoFar Moves count text left old new = (written : List ℕ) × AreMoved Moves count text left written × (new ≡ old ++ written)

pub none_moved : (Moves : (text following written : List ℕ) → Type 0) (text out : List ℕ) → SoFar Moves zero text text out out
none_moved Moves text out = ([], (refl, refl), sym (append-nil out))

pub one_moved :
    (Moves : (text following written : List ℕ) → Type 0) (count : ℕ) (text left following old out new first : List ℕ) →
    SoFar Moves count text left old out → Moves left following first → new ≡ out ++ first → SoFar Moves (count + 1) text following old new
one_moved Moves count text left following old out new first s m e =
    let more = one_more Moves count text left following s.0 first s.1 m in
    let is = then_those old out new s.0 first s.2 e in
    (s.0 ++ first, subst (λ (n : ℕ). AreMoved Moves n text following (s.0 ++ first)) (sym (add-one count)) more, is)

pub all_moved :
    (Moves : (text following written : List ℕ) → Type 0) (counter count : ℕ) (text items left old out new : List ℕ) →
    counter ≡ count → u32 text ≡ Ok (count, items) → out ≡ old ++ short_number count → SoFar Moves counter items left out new →
    (written : List ℕ) × AreCounted Moves text left written × (new ≡ old ++ written)
all_moved Moves counter count text items left old out new all n e s =
    let moved = subst (λ (k : ℕ). AreMoved Moves k items left s.0) all s.1 in
    let is = then_those old out new (short_number count) s.0 e s.2 in
    (short_number count ++ s.0, record { count = count; items = items; others = s.0; count_is = n; are_moved = moved; written_is = refl }, is)

-- ---- constant expressions

pub copied :
    (o : RawOperation) (text all rest part left : List ℕ) (len at place : ℕ) → all ≡ text ++ rest → place ≡ at + length text → len ≡ place - at →
    all ≡ part ++ left → length part ≡ len → Spells o text → Spells o part
copied o text all rest part left len at place parts moved is cut size s =
    let same_size : length text ≡ length part = omega arith in
    let same : text ≡ part =
    sym (take-append_seam text rest) ∙ ap (λ (l : List ℕ). take (length text) l) (sym parts) ∙ ap (λ (n : ℕ). take n all) same_size
    ∙ ap (λ (l : List ℕ). take (length part) l) cut ∙ take-append_seam part left in
    subst (λ (l : List ℕ). Spells o l) same s

-- the operators so far: with those that are left they are an expression
abbrev pub ConstantSoFar : (imported added : ℕ) → (text left old new : List ℕ) → Type 0
ConstantSoFar imported added text left old new =
    (written : List ℕ)
    × ((following others : List ℕ) → MovesConstant imported added left following others → MovesConstant imported added text following (written ++ others))
    × (new ≡ old ++ written)

pub no_operators : (imported added : ℕ) (text out : List ℕ) → ConstantSoFar imported added text text out out
no_operators imported added text out = ([], λ following others m. m, sym (append-nil out))

pub one_operator :
    (imported added : ℕ) (text left after old out new first : List ℕ) → ConstantSoFar imported added text left old out →
    MovesInstruction imported added left after first → new ≡ out ++ first → ConstantSoFar imported added text after old new
one_operator imported added text left after old out new first s m e =
    let is = then_those old out new s.0 first s.2 e in (
      s.0 ++ first,
      λ following others rest.
          subst (λ (l : List ℕ). MovesConstant imported added text following l) (sym (append_assoc s.0 first others))
          (s.1 following (first ++ others) (before after first others m rest refl)),
      is,
    )

pub last_operator :
    (imported added : ℕ) (text left following old out new first : List ℕ) → ConstantSoFar imported added text left old out →
    left ≡ 0x0b ∷ following → first ≡ 0x0b ∷ [] → new ≡ out ++ first →
    (written : List ℕ) × MovesConstant imported added text following written × (new ≡ old ++ written)
last_operator imported added text left following old out new first s is_end is_byte e =
    let is = then_those old out new s.0 first s.2 e in
    (s.0 ++ first, s.1 following first (last is_end is_byte), is)

-- ---- sections by kind

-- what one kind's contents are, those of an equal kind are
pub contents_of_kind :
    {A E : Type 0} (r : Result A E) (imported added : ℕ) (k j : SectionKind) (text following old new : List ℕ) → j ≡ k →
    OnOk r (MovesContents imported added k text following old new) → OnOk r (MovesContents imported added j text following old new)
contents_of_kind r imported added k j text following old new e m =
    subst (λ (i : SectionKind). OnOk r (MovesContents imported added i text following old new)) (sym e) m

pub segment_contents :
    {A E : Type 0} (r : Result A E) (imported added : ℕ) (k : SectionKind) (text following old new : List ℕ) →
    (k ≡ section.Start → ⊥) → (k ≡ section.Export → ⊥) → (k ≡ section.Global → ⊥) → (k ≡ section.Table → ⊥) →
    OnOk r (MovesContents imported added section.Element text following old new) → OnOk r (MovesContents imported added k text following old new)
segment_contents r imported added section.Start text following old new s e g t m = absurd (s refl)
segment_contents r imported added section.Export text following old new s e g t m = absurd (e refl)
segment_contents r imported added section.Global text following old new s e g t m = absurd (g refl)
segment_contents r imported added section.Table text following old new s e g t m = absurd (t refl)
segment_contents r imported added _ text following old new s e g t m = m

pub whole_contents :
    (imported added : ℕ) (k : SectionKind) (contents text left old new : List ℕ) → text ≡ contents → left ≡ [] → old ≡ [] →
    MovesContents imported added k text left old new → AreMovedContents imported added k contents new
whole_contents imported added k contents text left old new e f g m =
    let first : MovesContents imported added k contents left old new = subst (λ (l : List ℕ). MovesContents imported added k l left old new) e m in
    let second : MovesContents imported added k contents [] old new = subst (λ (l : List ℕ). MovesContents imported added k contents l old new) f first in
    subst (λ (l : List ℕ). MovesContents imported added k contents [] l new) g second

-- ---- parts that are copied

pub part_copied :
    {A : Type 0} (part : Part A) → EndFollows part → (end : ℕ) (x : A) (text following old new copied : List ℕ) → part end text ≡ Ok (x, following) →
    copied ≡ take (length text - length following) text → new ≡ old ++ copied → CopiesPart part x end text following old new
part_copied part follows end x text following old new copied e is f =
    let front = follows end text x following e in (
      take (length text - length following) text,
      e,
      sym (before_last text front.0 following front.1),
      f ∙ ap (λ (l : List ℕ). old ++ l) is,
    )

pub global_moved :
    (imported added end : ℕ) (text initial following written old mid new : List ℕ) (type : GlobalType) →
    CopiesPart global_type_part type end text initial old mid → MovesConstant imported added initial following written → new ≡ mid ++ written →
    (all : List ℕ) × MovesGlobal imported added text following all × (new ≡ old ++ all)
global_moved imported added end text initial following written old mid new type c m f = (
  c.0 ++ written,
  record {
    end = end;
    type = type;
    initial = initial;
    front = c.0;
    others = written;
    type_is = c.1;
    parts = c.2;
    constant = m;
    written_is = refl;
  },
  then_those old mid new c.0 written c.3 f,
)

pub table_moved :
    (imported added end : ℕ) (has_initial : Bool) (text initial following written old mid new : List ℕ) →
    CopiesPart table_front_part has_initial end text initial old mid → MovesConstantIf imported added has_initial initial following written →
    new ≡ mid ++ written → (all : List ℕ) × MovesTable imported added text following all × (new ≡ old ++ all)
table_moved imported added end has_initial text initial following written old mid new c m f = (
  c.0 ++ written,
  record {
    end = end;
    has_initial = has_initial;
    initial = initial;
    front = c.0;
    others = written;
    front_is = c.1;
    parts = c.2;
    initial_is = m;
    written_is = refl;
  },
  then_those old mid new c.0 written c.3 f,
)

pub segment_moved :
    (imported added end later flags : ℕ) (text after_flags after_offset after_type following offset elements : List ℕ)
    (old first second third new : List ℕ) →
    CopiesPart element_flags_part flags end text after_flags old first →
    MovesConstantIf imported added ((flags % 2) == 0) after_flags after_offset offset → second ≡ first ++ offset →
    CopiesPart (element_type_part flags) tt later after_offset after_type second third →
    AreCounted (MovesElement imported added (nat_le 4 flags)) after_type following elements → new ≡ third ++ elements →
    (all : List ℕ) × MovesSegment imported added text following all × (new ≡ old ++ all)
segment_moved
    imported added end later flags text after_flags after_offset after_type following offset elements old first second third new c m e d n f = (
      c.0 ++ (offset ++ (d.0 ++ elements)),
      record {
        end = end;
        flags = flags;
        front = c.0;
        after_flags = after_flags;
        offset = offset;
        after_offset = after_offset;
        type = d.0;
        after_type = after_type;
        elements = elements;
        flags_are = c.1;
        front_is = c.2;
        offset_is = m;
        type_are = element_type_anywhere flags later end after_offset tt after_type d.1;
        type_is = d.2;
        elements_are = n;
        written_is = refl;
      },
      then_those old first new c.0 (offset ++ (d.0 ++ elements)) c.3
          (then_those first second new offset (d.0 ++ elements) e (then_those second third new d.0 elements d.3 f)),
    )
