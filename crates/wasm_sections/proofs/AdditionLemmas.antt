-- Sections that are given contents: what is given for each after one is put into the list.
use Rattle.std.proofs.Common.{◌≡◌, ◌≢◌, ◌<◌, ◌≤◌, ◌+◌, ◌-◌, ℕ, suc, Bool, true, false, ◌==◌, List, [], ◌∷◌, ◌++◌, length, take, drop, get_or, if◌then◌else◌, Option, Some, None, Result, Ok, Err, OnOk, OnErr, IfErr, refl, sym, subst, ap, ◌∙◌, eq-eqb, ne_eqb, arith}
use Rattle.std.proofs.Math.Seq.{drop-cons}
use Rattle.std.proofs.Math.ListN.{set}
use Rattle.std.proofs.lemmas.List.{take-append-drop, set_split, take_more, get_or_default, set-get_or, take_all, drop_all, append-nil, length-append, length-drop, drop-append-le}
use Rattle.wasm_numbers.specs.Numbers.{u32, unsigned}
use Rattle.wasm_operators.specs.Shortest.{short_number}
use Rattle.wasm_sections.specs.declared.fault.ModuleError.{ModuleError}
use Rattle.wasm_sections.specs.declared.changes.Changes.{Changes}
use Rattle.wasm_sections.specs.declared.changes.NewContents.{NewContents}
use Rattle.wasm_sections.specs.Additions.{IsGivenAt, SetsContents, AreUnchanged, HasOneMore, given_or, AddsAfter, IsNotAdded}
use Rattle.wasm_sections.specs.Sections.{section_id}
use Rattle.wasm_sections.specs.GivenContents.{contents_in}
use Rattle.wasm_sections.proofs.NumberLemmas.{number_takes}

-- ---- lists that are joined

none_here :
    (b : Bool) (here : List ℕ) (rest whole later : Option (List ℕ)) → (if b then Some here else rest) ≡ None → (rest ≡ None → whole ≡ later) →
    (if b then Some here else whole) ≡ later
none_here true here rest whole later e f = let e : Some here ≡ None = e in absurd cc
none_here false here rest whole later e f = f e

-- If nothing is given in the first list, it is what is given in the second.
pub after_none : (gs hs : List NewContents) (id : ℕ) → contents_in gs id ≡ None → contents_in (gs ++ hs) id ≡ contents_in hs id
after_none [] hs id e = refl
after_none (g ∷ gs) hs id e =
    none_here (section_id g.kind == id) g.contents.items (contents_in gs id) (contents_in (gs ++ hs) id) (contents_in hs id) e (λ n. after_none gs hs id n)

same_after : (gs hs ks : List NewContents) (id : ℕ) → contents_in hs id ≡ contents_in ks id → contents_in (gs ++ hs) id ≡ contents_in (gs ++ ks) id
same_after [] hs ks id e = e
same_after (g ∷ gs) hs ks id e = ap (λ (o : Option (List ℕ)). if section_id g.kind == id then Some g.contents.items else o) (same_after gs hs ks id e)

first_given : (g : NewContents) (gs : List NewContents) (id : ℕ) → section_id g.kind ≡ id → contents_in (g ∷ gs) id ≡ Some g.contents.items
first_given g gs id e = ap (λ (b : Bool). if b then Some g.contents.items else contents_in gs id) (eq-eqb (section_id g.kind) id e)

given_later : (g : NewContents) (gs : List NewContents) (id : ℕ) → section_id g.kind ≢ id → contents_in (g ∷ gs) id ≡ contents_in gs id
given_later g gs id h = ap (λ (b : Bool). if b then Some g.contents.items else contents_in gs id) (ne_eqb (section_id g.kind) id h)

-- ---- one more is looked at

pub none_yet : (gs : List NewContents) (i id : ℕ) (g : NewContents) → i < length gs → g ≡ get_or gs i g → contents_in (take i gs) id ≡ None
    → section_id g.kind ≢ id → contents_in (take (i + 1) gs) id ≡ None
none_yet gs i id g within is none other =
    let more : take (i + 1) gs ≡ take i gs ++ g ∷ [] = take_more gs i g within ∙ ap (λ (x : NewContents). take i gs ++ x ∷ []) (sym is) in
    ap (λ (l : List NewContents). contents_in l id) more ∙ after_none (take i gs) (g ∷ []) id none ∙ given_later g [] id other

-- ---- one is found

-- the first contents that are given for a section
pub found_there : (gs : List NewContents) (i id : ℕ) (at : IsGivenAt gs id i) → i < length gs → contents_in gs id ≡ Some at.one.contents.items
found_there gs i id at within =
    let later = drop (suc i) gs in
    let parts : take i gs ++ at.one ∷ later ≡ gs =
    ap (λ (x : NewContents). take i gs ++ x ∷ later) at.is_there ∙ ap (λ (l : List NewContents). take i gs ++ l) (sym (drop-cons gs i at.one within)) ∙ take-append-drop i gs in
    ap (λ (l : List NewContents). contents_in l id) (sym parts) ∙ after_none (take i gs) (at.one ∷ later) id at.is_first ∙ first_given at.one later id at.has_id

-- ---- one is put

module _ (gs : List NewContents) (i : ℕ) (g : NewContents) (none : contents_in (take i gs) (section_id g.kind) ≡ None) where
  given_here : (hs : List NewContents) → contents_in (take i gs ++ g ∷ hs) (section_id g.kind) ≡ Some g.contents.items
  given_here hs = after_none (take i gs) (g ∷ hs) (section_id g.kind) none ∙ first_given g hs (section_id g.kind) refl

  pub inserted_here : contents_in (take i gs ++ g ∷ drop i gs) (section_id g.kind) ≡ Some g.contents.items
  inserted_here = given_here (drop i gs)

  pub inserted_others : (id : ℕ) → id ≢ section_id g.kind → contents_in (take i gs ++ g ∷ drop i gs) id ≡ contents_in gs id
  inserted_others id h =
      same_after (take i gs) (g ∷ drop i gs) (drop i gs) id (given_later g (drop i gs) id (λ e. h (sym e)))
      ∙ ap (λ (l : List NewContents). contents_in l id) (take-append-drop i gs)

  module _ (within : i < length gs) where
    pub set_here : contents_in (set gs i g) (section_id g.kind) ≡ Some g.contents.items
    set_here = ap (λ (l : List NewContents). contents_in l (section_id g.kind)) (set_split gs i g within) ∙ given_here (drop (suc i) gs)

    pub set_others : (f : NewContents) → f ≡ get_or gs i f → section_id f.kind ≡ section_id g.kind → (id : ℕ) → id ≢ section_id g.kind → contents_in (set gs i g) id ≡ contents_in gs id
    set_others f is same id h =
        let later = drop (suc i) gs in
        let old : take i gs ++ f ∷ later ≡ gs =
        ap (λ (x : NewContents). take i gs ++ x ∷ later) is ∙ ap (λ (l : List NewContents). take i gs ++ l) (sym (drop-cons gs i f within)) ∙ take-append-drop i gs in
        ap (λ (l : List NewContents). contents_in l id) (set_split gs i g within)
        ∙ same_after (take i gs) (g ∷ later) (f ∷ later) id (given_later g later id (λ e. h (sym e)) ∙ sym (given_later f later id (λ e. h (sym e ∙ same))))
        ∙ ap (λ (l : List NewContents). contents_in l id) old

-- ---- what is given after one is put

pub replaces :
    (old new : Changes) (i : ℕ) (g : NewContents) → IsGivenAt old.given.items (section_id g.kind) i → i < length old.given.items → new.given.items ≡ set old.given.items i g →
    new.imports ≡ old.imports → SetsContents old new (section_id g.kind) g.contents.items
replaces old new i g at within e imports =
    let gs = old.given.items in
    record {
      given = ap (λ (l : List NewContents). contents_in l (section_id g.kind)) e ∙ set_here gs i g at.is_first within;
      others = λ id h. ap (λ (l : List NewContents). contents_in l id) e ∙ set_others gs i g at.is_first within at.one at.is_there at.has_id id h;
      imports = imports;
    }

pub puts_between :
    (old new : Changes) (i : ℕ) (g : NewContents) → contents_in (take i old.given.items) (section_id g.kind) ≡ None →
    new.given.items ≡ take i old.given.items ++ g ∷ drop i old.given.items →
    new.imports ≡ old.imports → SetsContents old new (section_id g.kind) g.contents.items
puts_between old new i g none e imports =
    let gs = old.given.items in
    record {
      given = ap (λ (l : List NewContents). contents_in l (section_id g.kind)) e ∙ inserted_here gs i g none;
      others = λ id h. ap (λ (l : List NewContents). contents_in l id) e ∙ inserted_others gs i g none id h;
      imports = imports;
    }

-- ---- bytes that are appended to an empty list

pub from_empty : (none made text : List ℕ) → none ≡ [] → made ≡ none ++ text → made ≡ text
from_empty none made text p q = q ∙ ap (λ (l : List ℕ). l ++ text) p

-- ---- an item that is appended in place

pub in_place :
    (n : ℕ) (made number old item items : List ℕ) → made ≡ number ++ drop (length number) items → items ≡ old ++ item → length items ≡ n → length number ≤ length old →
    take n (made ++ drop (length made) items) ≡ number ++ (drop (length number) old ++ item)
in_place n made number old item items m e len le =
    let sum = length-append number (drop (length number) items) in
    let rest = length-drop (length number) items in
    let same : length made ≡ length (number ++ drop (length number) items) = ap (λ (l : List ℕ). length l) m in
    let more : length items ≡ length old + length item = ap (λ (l : List ℕ). length l) e ∙ length-append old item in
    ap (λ (l : List ℕ). take n (made ++ l)) (drop_all (length made) items (omega (arith, sum, rest, same, more, le)))
    ∙ ap (λ (l : List ℕ). take n l) (append-nil made)
    ∙ take_all n made (omega (arith, sum, rest, same, more, len, le))
    ∙ m
    ∙ ap (λ (l : List ℕ). number ++ drop (length number) l) e
    ∙ ap (λ (l : List ℕ). number ++ l) (drop-append-le (length number) old item le)

-- the items are what follows their number
pub after_count : (contents items : List ℕ) (count : ℕ) → u32 contents ≡ Ok (count, items) → drop (length contents - length items) contents ≡ items
after_count contents items count e =
    let t = number_takes unsigned 32 contents count items e in
    let len : length contents - length items ≡ length t.front = let all = ap (λ (l : List ℕ). length l) t.parts ∙ length-append t.front items in omega (arith, all) in
    ap (λ (n : ℕ). drop n contents) len
    ∙ ap (λ (l : List ℕ). drop (length t.front) l) t.parts
    ∙ drop-append-le (length t.front) t.front items (omega arith)
    ∙ ap (λ (l : List ℕ). l ++ items) (drop_all (length t.front) t.front (omega arith))

-- One item more is there if the number before the items is replaced by the next one, which takes as many bytes.
pub one_more_in_place :
    (old new number item items : List ℕ) (count len : ℕ) → u32 old ≡ Ok (count, items) → len ≡ length old - length items → number ≡ short_number (count + 1) →
    length number ≡ len → new ≡ number ++ (drop (length number) old ++ item) → HasOneMore old item new
one_more_in_place old new number item items count len e l n same is = record {
  count = count;
  items = items;
  contents_are = e;
  new_is =
      is
      ∙ ap (λ (k : ℕ). number ++ (drop k old ++ item)) (same ∙ l)
      ∙ ap (λ (later : List ℕ). number ++ (later ++ item)) (after_count old items count e)
      ∙ ap (λ (front : List ℕ). front ++ (items ++ item)) n;
}

-- ---- an item after those that are given, or after others

-- One item more is there in the contents at a position of the list, and all else stays.
pub after_given :
    (old new : Changes) (id at : ℕ) (others item : List ℕ) (found : IsGivenAt old.given.items id at) → at < length old.given.items → (f g : NewContents) →
    f ≡ get_or old.given.items at f → g.kind ≡ f.kind → HasOneMore f.contents.items item g.contents.items → new.given.items ≡ set old.given.items at g →
    new.imports ≡ old.imports → AddsAfter old new id others item
after_given old new id at others item found within f g f_is kind more items imports =
    let gs = old.given.items in
    let same : f ≡ found.one = f_is ∙ get_or_default gs at f found.one within ∙ sym found.is_there in
    let is_id : section_id g.kind ≡ id = ap section_id kind ∙ ap (λ (x : NewContents). section_id x.kind) same ∙ found.has_id in
    let there = subst (λ (i : ℕ). IsGivenAt gs i at) (sym is_id) found in
    record {
      contents = g.contents.items;
      has_one_more =
          subst (λ (o : Option (List ℕ)). HasOneMore (given_or o others) item g.contents.items)
          (sym (found_there gs at id found within ∙ ap (λ (x : NewContents). Some x.contents.items) (sym same))) more;
      sets = subst (λ (i : ℕ). SetsContents old new i g.contents.items) is_id (replaces old new at g there within items imports);
    }

-- What isn't added to the contents at a position of the list isn't added to those that are given.
pub not_added_there :
    (r : Result (Unit {0}) ModuleError) (given : List NewContents) (id at : ℕ) (others : List ℕ) (found : IsGivenAt given id at) → at < length given →
    (f : NewContents) → f ≡ get_or given at f → IfErr r (IsNotAdded f.contents.items) → IfErr r (IsNotAdded (given_or (contents_in given id) others))
not_added_there r given id at others found within f f_is h =
    let same : f ≡ found.one = f_is ∙ get_or_default given at f found.one within ∙ sym found.is_there in
    subst (λ (o : Option (List ℕ)). IfErr r (IsNotAdded (given_or o others)))
    (sym (found_there given at id found within ∙ ap (λ (x : NewContents). Some x.contents.items) (sym same))) h

-- Nothing was given, and one item more is there than in these contents.
pub after_others : (old new : Changes) (id : ℕ) (others item contents : List ℕ) → contents_in old.given.items id ≡ None → HasOneMore others item contents
    → SetsContents old new id contents → AddsAfter old new id others item
after_others old new id others item contents none more sets = record {
  contents = contents;
  has_one_more = subst (λ (o : Option (List ℕ)). HasOneMore (given_or o others) item contents) (sym none) more;
  sets = sets;
}

-- The contents at a position of the list are as before.
pub unchanged_at :
    (old new : Changes) (at : ℕ) (f g : NewContents) → f ≡ get_or old.given.items at f → g.kind ≡ f.kind → g.contents ≡ f.contents → new.given.items ≡ set old.given.items at g →
    new.imports ≡ old.imports → AreUnchanged old new
unchanged_at old new at f g f_is kind contents items imports =
    let gs = old.given.items in
    let same : g ≡ f = λ i. record { kind = kind i; contents = contents i } in
    (items ∙ ap (λ (x : NewContents). set gs at x) (same ∙ f_is) ∙ set-get_or gs at f, imports)

pub on_err : {T E : Type 0} (r : Result T E) (P Q : Type 0) → OnErr r P → (P → Q) → OnErr r Q
on_err (Ok x) P Q h f = tt
on_err (Err e) P Q h f = f h

-- what follows from a fact about a success
pub on_ok : {T E : Type 0} (r : Result T E) (P Q : Type 0) → OnOk r P → (P → Q) → OnOk r Q
on_ok (Ok x) P Q h f = f h
on_ok (Err e) P Q h f = tt
