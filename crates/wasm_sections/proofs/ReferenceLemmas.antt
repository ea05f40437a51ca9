-- The functions to which parts of a module refer: one part after the other, operator by operator, item by item, and section by
-- section.
use Rattle.std.proofs.Common.{◌≡◌, ◌⊎◌, ◌==◌, ◌%◌, ℕ, zero, suc, ◌+◌, ◌<◌, ◌≤◌, Bool, true, false, cond, List, [], ◌∷◌, ◌++◌, length, drop, flat_map, Option, Some, None, Result, Ok, Err, OnOk, IfErr, refl, sym, ap, subst, ◌∙◌, inl, inr, append_assoc, arith}
use Rattle.std.specs.List.{concat}
use Rattle.std.proofs.lemmas.List.{append-nil}
use Rattle.std.proofs.lemmas.List.Folds.{concat-append}
use Rattle.wasm_numbers.specs.declared.fault.ReadFault.TheVariants as unread
use Rattle.wasm_numbers.specs.Results.{◌>>=◌, each}
use Rattle.wasm_operators.specs.declared.types.Space.{Space}
use Rattle.wasm_operators.specs.declared.types.Space.TheVariants.{Funcs}
use Rattle.wasm_operators.specs.Opcodes.{opcode}
use Rattle.wasm_operators.specs.Operations.{RawOperation}
use Rattle.wasm_operators.specs.Spelling.{read_operation}
use Rattle.wasm_sections.specs.declared.fault.ModuleError.{ModuleError}
use Rattle.wasm_sections.specs.declared.fault.ModuleFault.TheVariants as faults
use Rattle.wasm_sections.specs.declared.sections.Section.{Section}
use Rattle.wasm_sections.specs.declared.sections.SectionKind.{SectionKind}
use Rattle.wasm_sections.specs.declared.sections.SectionKind.TheVariants as kind
use Rattle.wasm_sections.specs.declared.sections.Sections.{Sections}
use Rattle.wasm_sections.specs.Format.{operator_part, is_end_opcode, element_flags_part}
use Rattle.wasm_sections.specs.Parts.{Part, just, ◌>=>◌, checked, fault_here, number, repeated, vector_of}
use Rattle.wasm_sections.specs.References.{referred_by, if_constant, expression_part, constant_references, constant_references_if, exported_function, references_of_each, elements_references, segment_references, item_references, contents_references, section_references, references_of, AddsReferences}
use Rattle.wasm_sections.specs.Sections.{preamble, SectionAt, AreSections, IsModule, section_at, section_id, TakesSection}
use Rattle.wasm_sections.proofs.RepeatedLemmas.{StepsLeft, no_step_done, step_done, step_fails, all_done, counted}
use Rattle.wasm_sections.proofs.TypeReadingLemmas.{first_gives, first_fails}
use Rattle.wasm_sections.proofs.ViewLemmas.{first_left, nothing_left}

-- ---- one part after the other

-- the result of a part: the functions to which it refers, and the bytes that follow it
abbrev Found : Type 0
Found = Result (List ℕ × List ℕ) ModuleError

pub adds_as :
    (old new following : List ℕ) (r : Result (Unit {0}) ModuleError) (part whole : Found) → whole ≡ part → AddsReferences old new following r part →
    AddsReferences old new following r whole
adds_as old new following (Ok u) part whole e a = (a.0, e ∙ a.1, a.2)
adds_as old new following (Err f) part whole e (inl m) = inl m
adds_as old new following (Err f) part whole e (inr h) = inr (e ∙ h)

pub adds_nothing : (old rest : List ℕ) (part : Found) → part ≡ Ok ([], rest) → AddsReferences old old rest (Ok tt) part
adds_nothing old rest part e = ([], e, sym (append-nil old))

pub adds_one :
    (old new rest : List ℕ) (index : ℕ) (r : Result (Unit {0}) ModuleError) (part : Found) → part ≡ Ok (index ∷ [], rest) → OnOk r (new ≡ old ++ index ∷ []) →
    IfErr r (λ e. e.fault ≡ faults.Memory) → AddsReferences old new rest r part
adds_one old new rest index (Ok u) part e h m = (index ∷ [], e, h)
adds_one old new rest index (Err f) part e h m = inl m

-- a part that refers to none, and then one
module _ {A : Type 0} (first : Part A) (second : A → Part (List ℕ)) (end : ℕ) (text : List ℕ) where
  pub then_is : (other : ℕ) (x : A) (rest : List ℕ) → first end text ≡ Ok (x, rest) → other ≡ end → (first >=> second) end text ≡ second x other rest
  then_is other x rest e s = first_gives (first end text) (λ y. second y.0 end y.1) (x, rest) e ∙ ap (λ (n : ℕ). second x n rest) (sym s)

  pub adds_after :
      (other : ℕ) (x : A) (rest old new following : List ℕ) (r : Result (Unit {0}) ModuleError) → first end text ≡ Ok (x, rest) → other ≡ end →
      AddsReferences old new following r (second x other rest) → AddsReferences old new following r ((first >=> second) end text)
  adds_after other x rest old new following r e s a =
      adds_as old new following r (second x other rest) ((first >=> second) end text) (then_is other x rest e s) a

  pub adds_no_first : (old new following : List ℕ) (f : ModuleError) → first end text ≡ Err f → AddsReferences old new following (Err f) ((first >=> second) end text)
  adds_no_first old new following f e = inr (first_fails (first end text) (λ y. second y.0 end y.1) f e)

-- ---- exports

pub exports_one : (space : Space) (index : ℕ) → space ≡ Funcs → exported_function space index ≡ index ∷ []
exports_one space index e = ap (λ (s : Space). exported_function s index) e

pub exports_none : (space : Space) (index : ℕ) → (space ≡ Funcs → ⊥) → exported_function space index ≡ []
exports_none Funcs index never = absurd (never refl)
exports_none _ index never = refl

-- ---- constant expressions

-- an operator, if it may be in a constant expression
abbrev pub one_operator : Part RawOperation
one_operator = checked operator_part if_constant

abbrev pub functions_of : List RawOperation × List ℕ → Found
functions_of x = Ok (flat_map referred_by x.0, x.1)

-- the functions to which the operators up to the `end` refer, at most so many
abbrev pub operators_references : (most : ℕ) → Part (List ℕ)
operators_references most end text = expression_part most end text >>= functions_of

-- these functions, and then those of a part
abbrev after_these : List ℕ → Found → Found
after_these first r = r >>= λ x. Ok (first ++ x.0, x.1)

after_none : (r : Found) → after_these [] r ≡ r
after_none (Ok x) = refl
after_none (Err e) = refl

after_both : (a b : List ℕ) (r : Found) → after_these a (after_these b r) ≡ after_these (a ++ b) r
after_both a b (Ok x) = ap (λ (l : List ℕ). Ok (l, x.1)) (sym (append_assoc a b x.0))
after_both a b (Err e) = refl

abbrev with_operator : RawOperation → Result (List RawOperation × List ℕ) ModuleError → Result (List RawOperation × List ℕ) ModuleError
with_operator o r = r >>= λ others. Ok (o ∷ others.0, others.1)

one_before : (o : RawOperation) (r : Result (List RawOperation × List ℕ) ModuleError) → (with_operator o r >>= functions_of) ≡ after_these (referred_by o) (r >>= functions_of)
one_before o (Ok x) = refl
one_before o (Err e) = refl

-- an operator, and at most so many others
abbrev operator_first : (n end : ℕ) → Result (RawOperation × List ℕ) ModuleError → Found
operator_first n end r = (r >>= λ x. cond (is_end_opcode x.0.opcode) (Ok (x.0 ∷ [], x.1)) (with_operator x.0 (expression_part n end x.1))) >>= functions_of

abbrev last_or : (n end : ℕ) → RawOperation → (next : List ℕ) → Bool → Found
last_or n end o next b = cond b (Ok (o ∷ [], next)) (with_operator o (expression_part n end next)) >>= functions_of

-- Some operators of a constant expression are read, whose functions are added, and the others are left.
pub record ReferencesLeft (end : ℕ) (text now old new : List ℕ) : Type 0 where
  pub most : ℕ
  pub enough : length now ≤ most
  pub found : List ℕ
  pub new_is : new ≡ old ++ found
  pub same : after_these found (operators_references most end now) ≡ constant_references end text

pub all_left : (end : ℕ) (text old : List ℕ) → ReferencesLeft end text text old old
all_left end text old = record {
  most = length text;
  enough = omega arith;
  found = [];
  new_is = sym (append-nil old);
  same = after_none (operators_references (length text) end text);
}

others_left :
    (most end : ℕ) (now next : List ℕ) (o : RawOperation) → length now ≤ most → length next < length now → one_operator end now ≡ Ok (o, next) → is_end_opcode o.opcode ≡ false →
    (others : ℕ) × (length next ≤ others) × (operators_references most end now ≡ after_these (referred_by o) (operators_references others end next))
unfolding expression_part
others_left zero end now next o enough less e b = absurd (omega arith)
others_left (suc n) end now next o enough less e b = (n, omega arith, ap (operator_first n end) e ∙ ap (last_or n end o next) b ∙ one_before o (expression_part n end next))

pub one_more_operator :
    (end : ℕ) (text now next old mid new : List ℕ) (o : RawOperation) → ReferencesLeft end text now old mid → length next < length now → one_operator end now ≡ Ok (o, next) →
    is_end_opcode o.opcode ≡ false → new ≡ mid ++ referred_by o → ReferencesLeft end text next old new
one_more_operator end text now next old mid new o p less e b n =
    let others = others_left p.most end now next o p.enough less e b in
    record {
      most = others.0;
      enough = others.1;
      found = p.found ++ referred_by o;
      new_is = n ∙ ap (λ (l : List ℕ). l ++ referred_by o) p.new_is ∙ append_assoc old p.found (referred_by o);
      same = sym (after_both p.found (referred_by o) (operators_references others.0 end next)) ∙ ap (after_these p.found) (sym others.2) ∙ p.same;
    }

none_left :
    (most end : ℕ) (now next : List ℕ) (o : RawOperation) → length now ≤ most → length next < length now → one_operator end now ≡ Ok (o, next) → is_end_opcode o.opcode ≡ true →
    operators_references most end now ≡ Ok (referred_by o ++ [], next)
unfolding expression_part
none_left zero end now next o enough less e b = absurd (omega arith)
none_left (suc n) end now next o enough less e b = ap (operator_first n end) e ∙ ap (last_or n end o next) b

pub last_operator :
    (end : ℕ) (text now next old mid new : List ℕ) (o : RawOperation) → ReferencesLeft end text now old mid → length next < length now → one_operator end now ≡ Ok (o, next) →
    is_end_opcode o.opcode ≡ true → new ≡ mid ++ referred_by o → AddsReferences old new next (Ok tt) (constant_references end text)
last_operator end text now next old mid new o p less e b n = (
  p.found ++ (referred_by o ++ []),
  sym p.same ∙ ap (after_these p.found) (none_left p.most end now next o p.enough less e b),
  n ∙ ap (λ (l : List ℕ). l ++ referred_by o) p.new_is ∙ append_assoc old p.found (referred_by o)
      ∙ ap (λ (l : List ℕ). old ++ (p.found ++ l)) (sym (append-nil (referred_by o))),
)

err_same : {A : Type 0} (x y : ModuleError) → (let r : Result A ModuleError = Err x in r) ≡ Err y → x ≡ y
err_same x y e = cc

unread_left : (most end : ℕ) (now : List ℕ) (f : ModuleError) → length now ≤ most → one_operator end now ≡ Err f → operators_references most end now ≡ Err f
unfolding expression_part read_operation opcode
unread_left zero end [] f enough e = ap (λ (f : ModuleError). Err f) (err_same {A = RawOperation × List ℕ} (fault_here end [] (faults.Read unread.Truncated)) f e)
unread_left zero end (b ∷ bs) f enough e = absurd (omega arith)
unread_left (suc n) end now f enough e = ap (operator_first n end) e

pub operator_fails :
    (end other : ℕ) (text now old mid new following : List ℕ) (f : ModuleError) → ReferencesLeft end text now old mid → other ≡ end →
    (f.fault ≡ faults.Memory) ⊎ (one_operator other now ≡ Err f) → AddsReferences old new following (Err f) (constant_references end text)
operator_fails end other text now old mid new following f p s (inl m) = inl m
operator_fails end other text now old mid new following f p s (inr e) =
    inr (sym p.same ∙ ap (after_these p.found) (unread_left p.most end now f p.enough (ap (λ (n : ℕ). one_operator n now) (sym s) ∙ e)))

-- ---- vectors

-- an item after others
abbrev pub collected : Part (List ℕ) → List (List ℕ) → Part (List (List ℕ))
collected item = λ found. item >=> λ x. just (found ++ x ∷ [])

joined : (found : List (List ℕ)) (x : List ℕ) → concat (found ++ x ∷ []) ≡ concat found ++ x
joined found x = concat-append found (x ∷ []) ∙ ap (λ (l : List ℕ). concat found ++ l) (append-nil x)

-- Of so many items some are read, whose functions are added, and the others are left.
pub record EachLeft (item : Part (List ℕ)) (count i end : ℕ) (items rest old new : List ℕ) : Type 0 where
  pub found : List (List ℕ)
  pub steps : StepsLeft (collected item) count i [] found end items rest
  pub new_is : new ≡ old ++ concat found

pub no_item : (item : Part (List ℕ)) (count end : ℕ) (items old : List ℕ) → EachLeft item count 0 end items items old old
no_item item count end items old = record { found = []; steps = no_step_done (collected item) count [] end items; new_is = sym (append-nil old) }

module _ (item : Part (List ℕ)) (count i end : ℕ) (items rest old mid : List ℕ) (p : EachLeft item count i end items rest old mid) where
  pub one_more_item :
      (other : ℕ) (following new : List ℕ) → i < count → other ≡ end → AddsReferences mid new following (Ok tt) (item other rest) →
      EachLeft item count (i + 1) end items following old new
  one_more_item other following new less s a =
      let is : item end rest ≡ Ok (a.0, following) = ap (λ (n : ℕ). item n rest) (sym s) ∙ a.1 in
      record {
        found = p.found ++ a.0 ∷ [];
        steps = step_done (collected item) count i [] p.found end items rest p.steps (p.found ++ a.0 ∷ []) following less
            (first_gives (item end rest) (λ y. just (p.found ++ y.0 ∷ []) end y.1) (a.0, following) is);
        new_is =
            a.2 ∙ ap (λ (l : List ℕ). l ++ a.0) p.new_is ∙ append_assoc old (concat p.found) a.0 ∙ ap (λ (l : List ℕ). old ++ l) (sym (joined p.found a.0));
      }

  pub item_fails :
      (other : ℕ) (text new following now left : List ℕ) (f : ModuleError) → i < count → other ≡ end → number end text ≡ Ok (count, items) →
      AddsReferences mid new following (Err f) (item other rest) → AddsReferences old now left (Err f) (references_of_each item end text)
  item_fails other text new following now left f less s n (inl m) = inl m
  item_fails other text new following now left f less s n (inr h) =
      let is : item end rest ≡ Err f = ap (λ (n : ℕ). item n rest) (sym s) ∙ h in
      let step = first_fails (item end rest) (λ y. just (p.found ++ y.0 ∷ []) end y.1) f is in
      let all = step_fails (collected item) count i [] p.found end items rest p.steps f less step in
      inr (first_fails (vector_of item end text) (λ y. just (concat y.0) end y.1) f (counted (collected item) count [] end text items (Err f) n all))

  pub all_items : (text : List ℕ) → count ≤ i → number end text ≡ Ok (count, items) → AddsReferences old mid rest (Ok tt) (references_of_each item end text)
  all_items text done n =
      let all = all_done (collected item) count i [] p.found end items rest p.steps done in
      let whole = counted (collected item) count [] end text items (Ok (p.found, rest)) n all in
      (concat p.found, first_gives (vector_of item end text) (λ y. just (concat y.0) end y.1) (p.found, rest) whole, p.new_is)

pub uncounted : (item : Part (List ℕ)) (end : ℕ) (text old new following : List ℕ) (f : ModuleError) → number end text ≡ Err f → AddsReferences old new following (Err f) (references_of_each item end text)
uncounted item end text old new following f e =
    inr (first_fails (vector_of item end text) (λ y. just (concat y.0) end y.1) f
    (first_fails (number end text) (λ n. repeated (collected item) n.0 [] end n.1) f e))

-- ---- element segments

-- what follows the flags
abbrev pub after_flags : (flags : ℕ) → Part (List ℕ)
after_flags flags = constant_references_if ((flags % 2) == 0) >=> λ offset. elements_references flags >=> λ elements. just (offset ++ elements)

module _
    (end flags other : ℕ) (text flagged offset_end old mid : List ℕ) (f : element_flags_part end text ≡ Ok (flags, flagged)) (s : other ≡ end) where
  segment_is : segment_references end text ≡ after_flags flags other flagged
  segment_is = then_is element_flags_part after_flags end text other flags flagged f s

  pub segment_adds :
      (later : ℕ) (new following : List ℕ) (r : Result (Unit {0}) ModuleError) → later ≡ other →
      AddsReferences old mid offset_end (Ok tt) (constant_references_if ((flags % 2) == 0) other flagged) →
      AddsReferences mid new following r (elements_references flags later offset_end) → AddsReferences old new following r (segment_references end text)
  segment_adds later new following (Ok u) l a b = (
    a.0 ++ b.0,
    segment_is ∙ then_is (constant_references_if ((flags % 2) == 0)) (λ offset. elements_references flags >=> λ elements. just (offset ++ elements)) other flagged later a.0 offset_end a.1 l
        ∙ first_gives (elements_references flags later offset_end) (λ y. just (a.0 ++ y.0) later y.1) (b.0, following) b.1,
    b.2 ∙ ap (λ (l : List ℕ). l ++ b.0) a.2 ∙ append_assoc old a.0 b.0,
  )
  segment_adds later new following (Err e) l a (inl m) = inl m
  segment_adds later new following (Err e) l a (inr h) =
      inr (segment_is
      ∙ then_is (constant_references_if ((flags % 2) == 0)) (λ offset. elements_references flags >=> λ elements. just (offset ++ elements)) other flagged later a.0 offset_end a.1 l
      ∙ first_fails (elements_references flags later offset_end) (λ y. just (a.0 ++ y.0) later y.1) e h)

  pub offset_fails :
      (new following : List ℕ) (e : ModuleError) → AddsReferences old mid offset_end (Err e) (constant_references_if ((flags % 2) == 0) other flagged) →
      AddsReferences old new following (Err e) (segment_references end text)
  offset_fails new following e (inl m) = inl m
  offset_fails new following e (inr h) =
      inr (segment_is ∙ first_fails (constant_references_if ((flags % 2) == 0) other flagged) (λ y. (elements_references flags >=> λ elements. just (y.0 ++ elements)) other y.1) e h)

-- ---- items and sections by kind

pub item_of : (k j : SectionKind) (end : ℕ) (text : List ℕ) → k ≡ j → item_references (section_id k) end text ≡ item_references (section_id j) end text
item_of k j end text e = ap (λ (i : SectionKind). item_references (section_id i) end text) e

pub item_of_other :
    (k : SectionKind) (end : ℕ) (text : List ℕ) → (k ≡ kind.Table → ⊥) → (k ≡ kind.Global → ⊥) → (k ≡ kind.Export → ⊥) →
    item_references (section_id k) end text ≡ segment_references end text
item_of_other kind.Table end text t g e = absurd (t refl)
item_of_other kind.Global end text t g e = absurd (g refl)
item_of_other kind.Export end text t g e = absurd (e refl)
item_of_other _ end text t g e = refl

-- a section of items
abbrev pub IsOfItems : SectionKind → Type 0
IsOfItems k = (end : ℕ) (text : List ℕ) → contents_references (section_id k) end text ≡ references_of_each (item_references (section_id k)) end text

pub of_items : (k j : SectionKind) → k ≡ j → IsOfItems j → IsOfItems k
of_items k j e h = subst IsOfItems (sym e) h

pub of_table : IsOfItems kind.Table
of_table end text = refl

pub of_global : IsOfItems kind.Global
of_global end text = refl

pub of_export : IsOfItems kind.Export
of_export end text = refl

pub of_element : IsOfItems kind.Element
of_element end text = refl

pub at_start :
    (k : SectionKind) (end : ℕ) (text : List ℕ) → k ≡ kind.Start → contents_references (section_id k) end text ≡ contents_references 8 end text
at_start k end text e = ap (λ (i : SectionKind). contents_references (section_id i) end text) e

pub refers_to_none :
    (k : SectionKind) (end : ℕ) (text : List ℕ) → (k ≡ kind.Start → ⊥) → (k ≡ kind.Table → ⊥) → (k ≡ kind.Global → ⊥) → (k ≡ kind.Export → ⊥) → (k ≡ kind.Element → ⊥) →
    contents_references (section_id k) end text ≡ Ok ([], text)
refers_to_none kind.Start end text s t g x e = absurd (s refl)
refers_to_none kind.Table end text s t g x e = absurd (t refl)
refers_to_none kind.Global end text s t g x e = absurd (g refl)
refers_to_none kind.Export end text s t g x e = absurd (x refl)
refers_to_none kind.Element end text s t g x e = absurd (e refl)
refers_to_none _ end text s t g x e = refl

-- ---- the sections of a module

-- these functions, and then those of sections
abbrev after_all : List ℕ → Result (List ℕ) ModuleError → Result (List ℕ) ModuleError
after_all first r = r >>= λ others. Ok (first ++ others)

all_after_none : (r : Result (List ℕ) ModuleError) → after_all [] r ≡ r
all_after_none (Ok x) = refl
all_after_none (Err e) = refl

all_after_both : (a b : List ℕ) (r : Result (List ℕ) ModuleError) → after_all a (after_all b r) ≡ after_all (a ++ b) r
all_after_both a b (Ok x) = ap (λ (l : List ℕ). Ok l) (sym (append_assoc a b x))
all_after_both a b (Err e) = refl

abbrev with_list : List ℕ → Result (List (List ℕ)) ModuleError → Result (List (List ℕ)) ModuleError
with_list x r = r >>= λ xs. Ok (x ∷ xs)

abbrev in_one : Result (List (List ℕ)) ModuleError → Result (List ℕ) ModuleError
in_one r = r >>= λ found. Ok (concat found)

list_before : (x : List ℕ) (r : Result (List (List ℕ)) ModuleError) → in_one (with_list x r) ≡ after_all x (in_one r)
list_before x (Ok xs) = refl
list_before x (Err e) = refl

section_before : (s : SectionAt) (ss : List SectionAt) (x : List ℕ) → section_references s ≡ Ok x → references_of (s ∷ ss) ≡ after_all x (references_of ss)
section_before s ss x e =
    ap in_one (first_gives (section_references s) (λ y. with_list y (each section_references ss)) x e) ∙ list_before x (each section_references ss)

-- The functions of the sections before those that are left are found.
pub record ReferencesSoFar (all : List SectionAt) (s : Sections) (found : List ℕ) : Type 0 where
  pub left : List SectionAt
  pub are_left : AreSections s.left.end s.left.rest.now left
  pub same : after_all found (references_of left) ≡ references_of all

pub references_at_first :
    (file : List ℕ) (all : List SectionAt) (s : Sections) (found : List ℕ) → IsModule file all → file ≡ preamble ++ s.left.rest.now → s.left.end ≡ length file → found ≡ [] →
    ReferencesSoFar all s found
references_at_first file all s found m e f n =
    let text : m.0 ≡ s.left.rest.now = ap (λ (l : List ℕ). drop 8 l) (sym m.1 ∙ e) in
    let here = subst (λ (n : ℕ). AreSections n m.0 all) (sym f) m.2 in
    record {
      left = all;
      are_left = subst (λ (l : List ℕ). AreSections s.left.end l all) text here;
      same = ap (λ (l : List ℕ). after_all l (references_of all)) n ∙ all_after_none (references_of all);
    }

module _ (all : List SectionAt) (s t : Sections) (o : Option (Result Section ModuleError)) (found : List ℕ) (p : ReferencesSoFar all s found) where
  pub one_more_section :
      (x : Section) (new following : List ℕ) → o ≡ Some (Ok x) → TakesSection s o t →
      AddsReferences found new following (Ok tt) (contents_references (section_id x.kind) x.contents.end x.contents.rest.now) → ReferencesSoFar all t new
  one_more_section x new following i takes a =
      let taken : TakesSection s (Some (Ok x)) t = subst (λ (o : Option (Result Section ModuleError)). TakesSection s o t) i takes in
      let f = first_left s.left.end s.left.rest.now p.left (section_at x) t.left.rest.now p.are_left taken.0 in
      let is : section_references (section_at x) ≡ Ok a.0 =
      first_gives (contents_references (section_id x.kind) x.contents.end x.contents.rest.now) (λ y. Ok y.0) (a.0, following) a.1 in
      record {
        left = f.0;
        are_left = subst (λ (n : ℕ). AreSections n t.left.rest.now f.0) (sym taken.1) f.2;
        same =
            ap (λ (l : List ℕ). after_all l (references_of f.0)) a.2 ∙ sym (all_after_both found a.0 (references_of f.0))
            ∙ ap (after_all found) (sym (section_before (section_at x) f.0 a.0 is)) ∙ ap (λ (ss : List SectionAt). after_all found (references_of ss)) (sym f.1) ∙ p.same;
      }

  pub all_found : o ≡ None → TakesSection s o t → references_of all ≡ Ok found
  all_found i takes =
      let none : TakesSection s None t = subst (λ (o : Option (Result Section ModuleError)). TakesSection s o t) i takes in
      sym p.same ∙ ap (λ (ss : List SectionAt). after_all found (references_of ss)) (nothing_left s.left.end s.left.rest.now p.left p.are_left none)
      ∙ ap (λ (l : List ℕ). Ok l) (append-nil found)
