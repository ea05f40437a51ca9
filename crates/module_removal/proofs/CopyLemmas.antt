-- What is copied: a value that is read, one part after the other, and a part so many times.
use Rattle.std.proofs.Common.{◌≡◌, ◌⊎◌, ℕ, suc, ◌+◌, ◌-◌, ◌<◌, ◌≤◌, List, [], ◌∷◌, ◌++◌, length, take, Result, Ok, Err, OnOk, IfErr, refl, sym, ap, ◌∙◌, inl, inr, append_assoc, Option, arith}
use Rattle.std.proofs.lemmas.List.{append-nil}
use Rattle.wasm_numbers.specs.Results.{◌>>=◌, with_fault}
use Rattle.wasm_sections.specs.declared.fault.ModuleError.{ModuleError}
use Rattle.wasm_sections.specs.declared.fault.ModuleFault.{ModuleFault}
use Rattle.wasm_sections.specs.declared.fault.ModuleFault.TheVariants as fault
use Rattle.wasm_sections.specs.Parts.{Part, ◌>=>◌, just, checked, extent, fault_here}
use Rattle.wasm_sections.proofs.TypeReadingLemmas.{first_gives, first_fails}
use denote.Ref.{Bor}
use Rattle.module_removal.specs.declared.item.Item.{Item}
use Rattle.module_removal.specs.declared.left.LeftItems.{LeftItems}
use Rattle.module_removal.specs.declared.copier.Copier.{Copier}
use Rattle.module_removal.specs.LeftSpaces.{index_written}
use Rattle.module_removal.specs.CopiedParts.{Copied, writes, names_item, copied_both, CopiedPart, nothing, ◌>+>◌, with_other_value, times, NewIndices, named_item, fault_with_place, AppendsCopied, PutsCopied, Copies}

-- ---- what is appended

pub appends_bytes :
    (old new : Copier) (bytes : List ℕ) → new.left ≡ old.left → new.found ≡ old.found → new.out.items ≡ old.out.items ++ bytes →
    AppendsCopied old (writes bytes) new
appends_bytes old new bytes l f o = record {
  left = l;
  out = o;
  found = ap (λ v. v.items) f ∙ sym (append-nil old.found.items);
}

pub appends_name :
    (old new : Copier) (item : Item) → new.left ≡ old.left → new.out ≡ old.out → new.found.items ≡ old.found.items ++ item ∷ [] →
    AppendsCopied old (names_item item) new
appends_name old new item l o f = record {
  left = l;
  out = ap (λ v. v.items) o ∙ sym (append-nil old.out.items);
  found = f;
}

pub appends_nothing : (old : Copier) → AppendsCopied old (writes []) old
appends_nothing old = record { left = refl; out = sym (append-nil old.out.items); found = sym (append-nil old.found.items) }

pub copies_nothing : (old : Copier) (end : ℕ) (text : List ℕ) → Copies old old text (Ok tt) (nothing end text)
copies_nothing old end text = (writes [], refl, appends_nothing old)

pub appends_both :
    (old mid new : Copier) (a b : Copied) → AppendsCopied old a mid → AppendsCopied mid b new → AppendsCopied old (copied_both a b) new
appends_both old mid new a b p q = record {
  left = q.left ∙ p.left;
  out = q.out ∙ ap (λ (l : List ℕ). l ++ b.written) p.out ∙ append_assoc old.out.items a.written b.written;
  found = q.found ∙ ap (λ l. l ++ b.named) p.found ∙ append_assoc old.found.items a.named b.named;
}

-- ---- results

-- what is read or given
abbrev pub Read : Type 0 → Type 0
Read A = Result ((A × Copied) × List ℕ) ModuleError

abbrev pub Given : Type 0 → Type 0
Given A = Result (A × Copied) ModuleError

-- the error is that of a part, unless memory ran out
abbrev pub Fails : {A : Type 0} → ModuleError → Result A ModuleError → Type 0
Fails e part = (e.fault ≡ fault.Memory) ⊎ (part ≡ Err e)

pub copies_as :
    {A : Type 0} (old new : Copier) (following : List ℕ) (r : Result A ModuleError) (part whole : Read A) → whole ≡ part →
    Copies old new following r part → Copies old new following r whole
copies_as old new following (Ok x) part whole e a = (a.0, e ∙ a.1, a.2)
copies_as old new following (Err f) part whole e (inl m) = inl m
copies_as old new following (Err f) part whole e (inr h) = inr (e ∙ h)

pub puts_as :
    {A : Type 0} (old new : Copier) (r : Result A ModuleError) (given whole : Given A) → whole ≡ given → PutsCopied old new r given → PutsCopied old new r whole
puts_as old new (Ok x) given whole e a = (a.0, e ∙ a.1, a.2)
puts_as old new (Err f) given whole e (inl m) = inl m
puts_as old new (Err f) given whole e (inr h) = inr (e ∙ h)

-- bytes that are written, or memory that runs out
pub puts_bytes :
    (old new : Copier) (bytes : List ℕ) (r : Result (Unit {0}) ModuleError) → OnOk r (AppendsCopied old (writes bytes) new) →
    IfErr r (λ e. e.fault ≡ fault.Memory) → PutsCopied old new r (Ok (tt, writes bytes))
puts_bytes old new bytes (Ok u) a m = (writes bytes, refl, a)
puts_bytes old new bytes (Err e) a m = inl m

-- ---- a value that is read

module _ {A B : Type 0} (part : Part A) (copied : A → B × Copied) (end : ℕ) (text : List ℕ) where
  pub read_copies :
      (old new : Copier) (rest : List ℕ) (x : A) → part end text ≡ Ok (x, rest) → AppendsCopied old (copied x).1 new →
      Copies old new rest (Ok (copied x).0) ((part >=> λ x. just (copied x)) end text)
  read_copies old new rest x e a = ((copied x).1, first_gives (part end text) (λ y. just (copied y.0) end y.1) (x, rest) e, a)

  pub unread : (e : ModuleError) → part end text ≡ Err e → Fails e ((part >=> λ x. just (copied x)) end text)
  unread e h = inr (first_fails (part end text) (λ y. just (copied y.0) end y.1) e h)

-- the same of a value whose bytes are written
pub written_copies :
    {A : Type 0} (part : Part A) (bytes : A → List ℕ) (end : ℕ) (text : List ℕ) (old new : Copier) (rest : List ℕ) (x : A) (r : Result (Unit {0}) ModuleError) →
    part end text ≡ Ok (x, rest) → OnOk r (AppendsCopied old (writes (bytes x)) new) → IfErr r (λ e. e.fault ≡ fault.Memory) →
    Copies old new rest r ((part >=> λ x. just (tt {0}, writes (bytes x))) end text)
written_copies part bytes end text old new rest x (Ok u) e a m = read_copies part (λ x. (tt {0}, writes (bytes x))) end text old new rest x e a
written_copies part bytes end text old new rest x (Err f) e a m = inl m

pub extent_is :
    {A : Type 0} (part : Part A) (end : ℕ) (text : List ℕ) (x : A) (rest bytes : List ℕ) → part end text ≡ Ok (x, rest) →
    bytes ≡ take (length text - length rest) text → extent part end text ≡ Ok (bytes, rest)
extent_is {A} part end text x rest bytes e b =
    first_gives (part end text) (λ y. Ok (take (length text - length y.1) text, y.1)) (x, rest) e
    ∙ ap (λ (l : List ℕ). (let r : Result (List ℕ × List ℕ) ModuleError = Ok (l, rest) in r)) (sym b)

pub extent_fails : {A : Type 0} (part : Part A) (end : ℕ) (text : List ℕ) (e : ModuleError) → part end text ≡ Err e → extent part end text ≡ Err e
extent_fails part end text e h = first_fails (part end text) (λ y. Ok (take (length text - length y.1) text, y.1)) e h

-- the same of a value that is turned into another one, or refused
module _ {A B : Type 0} (part : Part A) (check : A → Result (B × Copied) ModuleFault) (end : ℕ) (text : List ℕ) where
  checks : A × List ℕ → Read B
  checks x = with_fault (fault_here end text) (check x.0) >>= λ v. Ok (v, x.1)

  pub checked_copies :
      (at : ℕ) (old new : Copier) (rest : List ℕ) (x : A) (r : Result B ModuleError) → at ≡ end - length text → part end text ≡ Ok (x, rest) →
      PutsCopied old new r (with_fault (fault_with_place at) (check x)) → Copies old new rest r (checked part check end text)
  unfolding checks
  checked_copies at old new rest x (Ok y) s e p =
      let given : with_fault (fault_here end text) (check x) ≡ Ok (y, p.0) = ap (λ (n : ℕ). with_fault (fault_with_place n) (check x)) (sym s) ∙ p.1 in
      (p.0, first_gives (part end text) checks (x, rest) e ∙ ap (λ (g : Given B). g >>= λ v. Ok (v, rest)) given, p.2)
  checked_copies at old new rest x (Err f) s e (inl m) = inl m
  checked_copies at old new rest x (Err f) s e (inr h) =
      let given : with_fault (fault_here end text) (check x) ≡ Err f = ap (λ (n : ℕ). with_fault (fault_with_place n) (check x)) (sym s) ∙ h in
      inr (first_gives (part end text) checks (x, rest) e ∙ ap (λ (g : Given B). g >>= λ v. Ok (v, rest)) given)

  pub checked_fails :
      (at : ℕ) (rest : List ℕ) (x : A) (e : ModuleError) → at ≡ end - length text → part end text ≡ Ok (x, rest) →
      Fails e (with_fault (fault_with_place at) (check x)) → Fails e (checked part check end text)
  unfolding checks
  checked_fails at rest x e s h (inl m) = inl m
  checked_fails at rest x e s h (inr g) =
      let given : with_fault (fault_here end text) (check x) ≡ Err e = ap (λ (n : ℕ). with_fault (fault_with_place n) (check x)) (sym s) ∙ g in
      inr (first_gives (part end text) checks (x, rest) h ∙ ap (λ (g : Given B). g >>= λ v. Ok (v, rest)) given)

  pub unchecked : (e : ModuleError) → part end text ≡ Err e → Fails e (checked part check end text)
  unfolding checks
  unchecked e h = inr (first_fails (part end text) checks e h)

-- ---- one part after the other

module _ {A B : Type 0} (first : NewIndices → CopiedPart A) (second : NewIndices → A → CopiedPart B) (end : ℕ) (text : List ℕ) (old : Copier) where
  abbrev indices : NewIndices
  indices = index_written old.left

  -- what comes after the first part
  abbrev after : (A × Copied) × List ℕ → Read B
  after z = (second indices z.0.0 >=> λ y. just (y.0, copied_both z.0.1 y.1)) end z.1

  begun :
      (x : A) (a : Copied) (rest : List ℕ) → first (index_written old.left) end text ≡ Ok ((x, a), rest) →
      (first (index_written old.left) >+> second (index_written old.left)) end text ≡ after ((x, a), rest)
  begun x a rest e = first_gives (first indices end text) after ((x, a), rest) e

  both :
      (x : A) (mid : Copier) (rest : List ℕ) → Copies old mid rest (Ok x) (first (index_written old.left) end text) →
      (new : Copier) (following : List ℕ) (r : Result B ModuleError) → Copies mid new following r (second (index_written old.left) x end rest) →
      Copies old new following r ((first (index_written old.left) >+> second (index_written old.left)) end text)
  both x mid rest a new following (Ok y) b = (
    copied_both a.0 b.0,
    begun x a.0 rest a.1 ∙ first_gives (second indices x end rest) (λ z. just (z.0.0, copied_both a.0 z.0.1) end z.1) ((y, b.0), following) b.1,
    appends_both old mid new a.0 b.0 a.2 b.2,
  )
  both x mid rest a new following (Err e) (inl m) = inl m
  both x mid rest a new following (Err e) (inr h) =
      inr (begun x a.0 rest a.1 ∙ first_fails (second indices x end rest) (λ z. just (z.0.0, copied_both a.0 z.0.1) end z.1) e h)

  pub then_copies :
      (x : A) (mid : Copier) (other : ℕ) (rest : List ℕ) → Copies old mid rest (Ok x) (first (index_written old.left) end text) → other ≡ end →
      (new : Copier) (following : List ℕ) (r : Result B ModuleError) → Copies mid new following r (second (index_written mid.left) x other rest) →
      Copies old new following r ((first (index_written old.left) >+> second (index_written old.left)) end text)
  then_copies x mid other rest a s new following r b =
      let same : second (index_written old.left) x end rest ≡ second (index_written mid.left) x other rest =
      ap (λ (l : Option (Bor LeftItems)). second (index_written l) x end rest) (sym a.2.left) ∙ ap (λ (n : ℕ). second (index_written mid.left) x n rest) (sym s) in
      both x mid rest a new following r (copies_as mid new following r (second (index_written mid.left) x other rest) (second indices x end rest) same b)

  pub first_stops :
      (e : ModuleError) → Fails e (first (index_written old.left) end text) →
      Fails e ((first (index_written old.left) >+> second (index_written old.left)) end text)
  first_stops e (inl m) = inl m
  first_stops e (inr h) = inr (first_fails (first indices end text) after e h)

-- the same part with another value
module _ {A B : Type 0} (f : A → B) (part : CopiedPart A) (end : ℕ) (text : List ℕ) (old new : Copier) (following : List ℕ) where
  pub value_copies : (x : A) → Copies old new following (Ok x) (part end text) → Copies old new following (Ok (f x)) (with_other_value f part end text)
  value_copies x a = (a.0, first_gives (part end text) (λ y. just (f y.0.0, y.0.1) end y.1) ((x, a.0), following) a.1, a.2)

  pub value_fails : (e : ModuleError) → Fails e (part end text) → Fails e (with_other_value f part end text)
  value_fails e (inl m) = inl m
  value_fails e (inr h) = inr (first_fails (part end text) (λ y. just (f y.0.0, y.0.1) end y.1) e h)

-- an item that is named by no bytes
module _ (w : NewIndices) (item : Item) (end : ℕ) (text : List ℕ) where
  pub first_named :
      (at : ℕ) (old new : Copier) (i : ℕ) → at ≡ end - length text → PutsCopied old new (Ok i) (with_fault (fault_with_place at) (named_item w item)) →
      Copies old new text (Ok tt) (with_fault (fault_here end text) (named_item w item) >>= λ x. Ok ((tt {0}, x.1), text))
  first_named at old new i s p =
      let given : with_fault (fault_here end text) (named_item w item) ≡ Ok (i, p.0) = ap (λ (n : ℕ). with_fault (fault_with_place n) (named_item w item)) (sym s) ∙ p.1 in
      (p.0, first_gives (with_fault (fault_here end text) (named_item w item)) (λ x. Ok ((tt {0}, x.1), text)) (i, p.0) given, p.2)

  pub first_unnamed :
      (at : ℕ) (e : ModuleError) → at ≡ end - length text → Fails e (with_fault (fault_with_place at) (named_item w item)) →
      Fails {A = (Unit {0} × Copied) × List ℕ} e (with_fault (fault_here end text) (named_item w item) >>= λ x. Ok ((tt {0}, x.1), text))
  first_unnamed at e s (inl m) = inl m
  first_unnamed at e s (inr h) =
      let given : with_fault (fault_here end text) (named_item w item) ≡ Err e = ap (λ (n : ℕ). with_fault (fault_with_place n) (named_item w item)) (sym s) ∙ h in
      inr (first_fails (with_fault (fault_here end text) (named_item w item)) (λ x. Ok ((tt {0}, x.1), text)) e given)

-- ---- a part so many times

joined_both : (a b c : Copied) → copied_both a (copied_both b c) ≡ copied_both (copied_both a b) c
joined_both a b c =
    ap (λ (l : List ℕ). (let j : Copied = record { written = l; named = a.named ++ (b.named ++ c.named) } in j)) (sym (append_assoc a.written b.written c.written))
    ∙ ap (λ (l : List Item). (let j : Copied = record { written = (a.written ++ b.written) ++ c.written; named = l } in j)) (sym (append_assoc a.named b.named c.named))

-- this, and then what is read
abbrev pub after_this : {A : Type 0} → Copied → Read A → Read A
after_this first r = r >>= λ x. Ok ((x.0.0, copied_both first x.0.1), x.1)

pub after_none : {A : Type 0} (r : Read A) → after_this (writes []) r ≡ r
after_none (Ok x) = refl
after_none (Err e) = refl

pub after_two : {A : Type 0} (a b : Copied) (r : Read A) → after_this a (after_this b r) ≡ after_this (copied_both a b) r
after_two {A} a b (Ok x) = ap (λ (c : Copied). (let r : Read A = Ok ((x.0.0, c), x.1) in r)) (joined_both a b x.0.1)
after_two a b (Err e) = refl

-- Of so many parts some are copied, and the others are left.
pub record SomeCopied (part : CopiedPart (Unit {0})) (count i end : ℕ) (items rest : List ℕ) (old now : Copier) : Type 0 where
  pub copied : Copied
  pub appends : AppendsCopied old copied now
  pub same : after_this copied (times part (count - i) end rest) ≡ times part count end items

pub none_copied :
    (part : CopiedPart (Unit {0})) (count end : ℕ) (items : List ℕ) (old : Copier) → SomeCopied part count 0 end items items old old
none_copied part count end items old =
    let all : count - 0 ≡ count = omega arith in
    record {
      copied = writes [];
      appends = appends_nothing old;
      same = after_none (times part (count - 0) end items) ∙ ap (λ (n : ℕ). times part n end items) all;
    }

module _
    (part : NewIndices → CopiedPart (Unit {0})) (count i end : ℕ) (items rest : List ℕ) (old now : Copier)
    (p : SomeCopied (part (index_written old.left)) count i end items rest old now) where
  abbrev here : NewIndices
  here = index_written old.left

  -- the next part, and the others
  abbrev next_part : Read (Unit {0}) → Read (Unit {0})
  next_part r = r >>= λ z. (times (part here) (count - (i + 1)) >=> λ y. just (y.0, copied_both z.0.1 y.1)) end z.1

  next_is : i < count → times (part here) (count - i) end rest ≡ next_part (part here end rest)
  unfolding times
  next_is less =
      let more : count - i ≡ suc (count - (i + 1)) = omega arith in
      ap (λ (n : ℕ). times (part here) n end rest) more

  same_part : (other : ℕ) → other ≡ end → part here end rest ≡ part (index_written now.left) other rest
  same_part other s =
      ap (λ (l : Option (Bor LeftItems)). part (index_written l) end rest) (sym p.appends.left) ∙ ap (λ (n : ℕ). part (index_written now.left) n rest) (sym s)

  pub one_more_copied :
      (other : ℕ) (new : Copier) (following : List ℕ) → i < count → other ≡ end → Copies now new following (Ok tt) (part (index_written now.left) other rest) →
      SomeCopied (part (index_written old.left)) count (i + 1) end items following old new
  one_more_copied other new following less s a =
      let is : part here end rest ≡ Ok ((tt, a.0), following) = same_part other s ∙ a.1 in
      let others = times (part here) (count - (i + 1)) end following in
      record {
        copied = copied_both p.copied a.0;
        appends = appends_both old now new p.copied a.0 p.appends a.2;
        same = sym (after_two p.copied a.0 others) ∙ ap (after_this p.copied) (sym (next_is less ∙ ap next_part is)) ∙ p.same;
      }

  pub one_stops :
      (other : ℕ) (e : ModuleError) → i < count → other ≡ end → Fails e (part (index_written now.left) other rest) →
      Fails e (times (part (index_written old.left)) count end items)
  one_stops other e less s (inl m) = inl m
  one_stops other e less s (inr h) = inr (sym p.same ∙ ap (after_this p.copied) (next_is less ∙ ap next_part (same_part other s ∙ h)))

  pub all_copied : count ≤ i → Copies old now rest (Ok tt) (times (part (index_written old.left)) count end items)
  unfolding times
  all_copied done =
      let none : count - i ≡ 0 = omega arith in (
        copied_both p.copied (writes []),
        sym p.same ∙ ap (λ (n : ℕ). after_this p.copied (times (part here) n end rest)) none,
        appends_both old now now p.copied (writes []) p.appends (appends_nothing now),
      )
