-- What of an entry is passed, step by step.
use Rattle.std.proofs.Common.{◌≡◌, ◌≤◌, ◌^◌, ℕ, true, false, cond, ltb, ◌&&◌, List, [], ◌∷◌, ◌++◌, Bool, Option, Some, None, option_map, is_some, MatchOption, not, ◌+◌, Result, Ok, Err, refl, sym, ap, ◌∙◌, subst}
use Rattle.std.proofs.lemmas.Bool.{lt-ltb, le-ltb}
use Rattle.wasm_numbers.specs.Results.{◌>>=◌, unless, each}
use Rattle.wasm_numbers.proofs.ResultLemmas.{bind_ok}
use Rattle.code_moves.specs.declared.body.Body.{Body}
use Rattle.code_moves.specs.Moves.{body_with_address, new_address}
use Rattle.dwarf_bytes.specs.declared.addresses.Address.{Address}
use Rattle.dwarf_bytes.specs.declared.addresses.AddressTable.{AddressTable}
use Rattle.dwarf_bytes.specs.declared.fault.DebugFault.{DebugFault}
use Rattle.dwarf_bytes.specs.declared.fault.DebugFault.TheVariants as faults
use Rattle.dwarf_bytes.specs.declared.size.Size.{Size}
use Rattle.dwarf_bytes.specs.Addresses.{address_at, addresses_of_table, indexed_address}
use Rattle.dwarf_bytes.specs.Numbers.{size_in_bytes}
use Rattle.dwarf_expressions.specs.declared.encoding.Encoding.{Encoding}
use Rattle.dwarf_new_lists.specs.declared.kind.Lists.{Lists}
use Rattle.dwarf_new_lists.specs.declared.kind.Kind.{Kind}
use Rattle.dwarf_new_lists.specs.declared.kind.Kind.TheVariants.{End, BaseIndex, IndexPair, IndexLength, OffsetPair, Default, Base, Pair, Length, Views}
use Rattle.dwarf_new_lists.specs.declared.kind.Operand.{Operand}
use Rattle.dwarf_new_lists.specs.declared.kind.Operand.TheVariants.{Nothing, Address as AnAddress, Number}
use Rattle.dwarf_new_lists.specs.declared.saying.Saying.{Saying}
use Rattle.dwarf_new_lists.specs.declared.saying.Saying.TheVariants as saying
use Rattle.dwarf_new_lists.specs.Entries.{AnEntry}
use Rattle.dwarf_new_lists.specs.Sayings.{range, says, says_entry, next_base, base_after_entries, moved_saying, SaysMoved}
use Rattle.dwarf_new_lists.specs.Tellings.{indices}
use Rattle.dwarf_new_lists.specs.Writing.{FitsOperand}
use Rattle.dwarf_new_lists.specs.Refusals.{address_operand, address_operands, address_written, addresses_written, addresses_fit, said_or_fault, IsPassedEntry, ArePassedEntries, IsRefusedNextOfNewList}

-- ---- each of some

module _ {A B E : Type 0} (f : A → Result B E) where
  pub each_one : (x : A) (y : B) → f x ≡ Ok y → each f (x ∷ []) ≡ Ok (y ∷ [])
  each_one x y e = rw e refl

  pub each_two : (x z : A) (y w : B) → f x ≡ Ok y → f z ≡ Ok w → each f (x ∷ z ∷ []) ≡ Ok (y ∷ w ∷ [])
  each_two x z y w e d = rw (e, d) refl

  pub each_first : (x : A) (xs : List A) (fault : E) → f x ≡ Err fault → each f (x ∷ xs) ≡ Err fault
  each_first x xs fault e = rw e refl

  pub each_second : (x z : A) (y : B) (xs : List A) (fault : E) → f x ≡ Ok y → f z ≡ Err fault → each f (x ∷ z ∷ xs) ≡ Err fault
  each_second x z y xs fault e d = rw (e, d) refl

-- ---- what is said

module _ (t : AddressTable) (base : ℕ) (kind : Kind) (one two : ℕ) where
  abbrev named : Result (List Address) DebugFault
  named = each (indexed_address (addresses_of_table t)) (indices kind one two)

  abbrev says_it : Saying
  says_it = says (address_at t) base kind one two

  pub said_of : (found : List Address) → named ≡ Ok found → said_or_fault t base kind one two ≡ Ok says_it
  said_of found e = ap (λ (r : Result (List Address) DebugFault). r >>= λ n. Ok says_it) e

  pub said_not : (fault : DebugFault) → named ≡ Err fault → said_or_fault t base kind one two ≡ Err fault
  said_not fault e = ap (λ (r : Result (List Address) DebugFault). r >>= λ n. Ok says_it) e

  pub said_ok : (s : Saying) → said_or_fault t base kind one two ≡ Ok s → (found : List Address) × (named ≡ Ok found) × (s ≡ says_it)
  said_ok s e = let b = bind_ok named (λ n. Ok says_it) s e in (b.0, b.1, sym (same says_it s b.2))
    where
      same : (x y : Saying) → (let r : Result Saying DebugFault = Ok x in r) ≡ Ok y → x ≡ y
      same x y p = cc

  pub said_err : (fault : DebugFault) → said_or_fault t base kind one two ≡ Err fault → named ≡ Err fault
  said_err fault e = of_result named says_it fault e
    where
      of_result : (r : Result (List Address) DebugFault) (s : Saying) (d : DebugFault) → (r >>= λ n. Ok s) ≡ Err d → r ≡ Err d
      of_result (Ok found) s d p = absurd cc
      of_result (Err f) s d p = cc

-- ---- addresses that are written

pub operands_fit : (size : Size) (a b : Operand) (one two : ℕ) → FitsOperand size a one → FitsOperand size b two → addresses_fit size (address_operand a one ++ address_operand b two) ≡ true
operands_fit size Nothing Nothing one two p q = refl
operands_fit size Nothing Number one two p q = refl
operands_fit size Nothing AnAddress one two p q = rw (lt-ltb two (256 ^ size_in_bytes size) q) refl
operands_fit size Number Nothing one two p q = refl
operands_fit size Number Number one two p q = refl
operands_fit size Number AnAddress one two p q = rw (lt-ltb two (256 ^ size_in_bytes size) q) refl
operands_fit size AnAddress Nothing one two p q = rw (lt-ltb one (256 ^ size_in_bytes size) p) refl
operands_fit size AnAddress Number one two p q = rw (lt-ltb one (256 ^ size_in_bytes size) p) refl
operands_fit size AnAddress AnAddress one two p q = rw (lt-ltb one (256 ^ size_in_bytes size) p, lt-ltb two (256 ^ size_in_bytes size) q) refl

pub first_too_great : (size : Size) (a b : Operand) (one two : ℕ) → a ≡ AnAddress → 256 ^ size_in_bytes size ≤ one → addresses_fit size (address_operand a one ++ address_operand b two) ≡ false
first_too_great size a b one two is p = rw is (rw (le-ltb one (256 ^ size_in_bytes size) p) refl)

pub second_too_great : (size : Size) (a b : Operand) (one two : ℕ) → FitsOperand size a one → b ≡ AnAddress → 256 ^ size_in_bytes size ≤ two → addresses_fit size (address_operand a one ++ address_operand b two) ≡ false
second_too_great size Nothing b one two f is p = rw is (rw (le-ltb two (256 ^ size_in_bytes size) p) refl)
second_too_great size Number b one two f is p = rw is (rw (le-ltb two (256 ^ size_in_bytes size) p) refl)
second_too_great size AnAddress b one two f is p = rw is (rw (lt-ltb one (256 ^ size_in_bytes size) f, le-ltb two (256 ^ size_in_bytes size) p) refl)

-- ---- where they go

cond_range : (b : Bool) (a c low high : ℕ) → cond b (saying.Range a c) saying.Nothing ≡ saying.Range low high → (a ≡ low) × (c ≡ high)
cond_range true a c low high e = (cc, cc)
cond_range false a c low high e = absurd cc

cond_no_base : (b : Bool) (a c address : ℕ) → cond b (saying.Range a c) saying.Nothing ≡ saying.Base address → ⊥
cond_no_base true a c address e = absurd cc
cond_no_base false a c address e = absurd cc

match_more : {T : Type 0} (o : Option T) (P P' : Type 0) (Q : T → Type 0) → (P → P') → MatchOption o P Q → MatchOption o P' Q
match_more None P P' Q f h = f h
match_more (Some x) P P' Q f h = h

both : (a b c d : ℕ) → a ≡ c → b ≡ d → (let l : List ℕ = a ∷ b ∷ [] in l) ≡ c ∷ d ∷ []
both a b c d e f = cc

-- the ends of a range that is said, and where they go
ranged : (bs : List Body) (a b na nb : ℕ) (said : Saying) → range a b ≡ said → MatchOption (moved_saying bs said) ((na ≡ a) × (nb ≡ b)) (λ s. range na nb ≡ s)
    → (na ≡ address_written bs (is_some (moved_saying bs said)) a) × (nb ≡ address_written bs (is_some (moved_saying bs said)) b)
ranged bs a b na nb saying.Nothing e h = h
ranged bs a b na nb (saying.Base address) e h = absurd (cond_no_base (ltb a (2 ^ 64) && ltb b (2 ^ 64)) a b address e)
ranged bs a b na nb (saying.Range low high) e h = of_body (body_with_address bs low) h
  where
    of_body : (o : Option Body) → MatchOption (option_map (λ (body : Body). saying.Range (new_address bs low) (new_address bs high)) o) ((na ≡ a) × (nb ≡ b)) (λ s. range na nb ≡ s)
        → (na ≡ address_written bs (is_some (option_map (λ (body : Body). saying.Range (new_address bs low) (new_address bs high)) o)) a)
        × (nb ≡ address_written bs (is_some (option_map (λ (body : Body). saying.Range (new_address bs low) (new_address bs high)) o)) b)
    of_body None same = same
    of_body (Some body) moved =
        let p = cond_range (ltb a (2 ^ 64) && ltb b (2 ^ 64)) a b low high e in
        let q = cond_range (ltb na (2 ^ 64) && ltb nb (2 ^ 64)) na nb (new_address bs low) (new_address bs high) moved in
        (q.0 ∙ ap (new_address bs) (sym p.0), q.1 ∙ ap (new_address bs) (sym p.1))

base_is : (a b : ℕ) → saying.Base a ≡ saying.Base b → a ≡ b
base_is a b e = cc

-- the addresses that an entry has that is moved
pub written : (bs : List Body) (at : ℕ → Option ℕ) (base new_base : ℕ) (kind : Kind) (one two new_one new_two : ℕ) → SaysMoved bs at base new_base kind one two new_one new_two
    → address_operands kind new_one new_two ≡ addresses_written bs (says at base kind one two) kind one two
written bs at base new_base End one two new_one new_two h = refl
written bs at base new_base BaseIndex one two new_one new_two h = refl
written bs at base new_base IndexPair one two new_one new_two h = refl
written bs at base new_base IndexLength one two new_one new_two h = refl
written bs at base new_base OffsetPair one two new_one new_two h = refl
written bs at base new_base Default one two new_one new_two h = refl
written bs at base new_base Base one two new_one new_two h = ap (λ (n : ℕ). n ∷ []) (base_is new_one (new_address bs one) h)
written bs at base new_base Pair one two new_one new_two h =
    let r = ranged bs one two new_one new_two (range one two) refl h in
    both new_one new_two _ _ r.0 r.1
written bs at base new_base Length one two new_one new_two h =
    let more = match_more (moved_saying bs (range one (one + two))) ((new_one ≡ one) × (new_two ≡ two)) ((new_one ≡ one) × (new_one + new_two ≡ one + two)) (λ s. range new_one (new_one + new_two) ≡ s)
    (λ same. (same.0, ap (λ (n : ℕ). n + new_two) same.0 ∙ ap (λ (n : ℕ). one + n) same.1)) h in
    ap (λ (n : ℕ). n ∷ []) (ranged bs one (one + two) new_one (new_one + new_two) (range one (one + two)) refl more).0
written bs at base new_base Views one two new_one new_two h = refl

-- ---- one step after the other

abbrev Steps : (is_default says fits : Bool) → Result (List Address) DebugFault → Result (Unit {0}) DebugFault
Steps d n f r = unless (not d) faults.Unsupported >>= λ u. r >>= λ named. unless n faults.Unsupported >>= λ v. unless f faults.DoesNotFit

module _ (d n f : Bool) (r : Result (List Address) DebugFault) where
  pub steps_default : d ≡ true → Steps d n f r ≡ Err faults.Unsupported
  steps_default a = rw a refl

  pub steps_named : (fault : DebugFault) → d ≡ false → r ≡ Err fault → Steps d n f r ≡ Err fault
  steps_named fault a b = rw (a, b) refl

  pub steps_says : (found : List Address) → d ≡ false → r ≡ Ok found → n ≡ false → Steps d n f r ≡ Err faults.Unsupported
  steps_says found a b c = rw (a, b, c) refl

  pub steps_fit : (found : List Address) → d ≡ false → r ≡ Ok found → n ≡ true → f ≡ false → Steps d n f r ≡ Err faults.DoesNotFit
  steps_fit found a b c e = rw (a, b, c, e) refl

  pub steps_all : (found : List Address) → d ≡ false → r ≡ Ok found → n ≡ true → f ≡ true → Steps d n f r ≡ Ok tt
  steps_all found a b c e = rw (a, b, c, e) refl

-- ---- one more

pub passed_more : (e : Encoding) (bs : List Body) (t : AddressTable) (base : ℕ) (xs : List AnEntry) (x : AnEntry) → ArePassedEntries e bs t base xs
    → IsPassedEntry e bs t (base_after_entries (address_at t) base xs) (new_address bs (base_after_entries (address_at t) base xs)) x → ArePassedEntries e bs t base (xs ++ x ∷ [])
passed_more e bs t base [] x all one = (one, tt)
passed_more e bs t base (y ∷ xs) x all one = (all.0, passed_more e bs t (next_base base (says_entry (address_at t) base y)) xs x all.1 one)

-- at the bases that are known
pub passed_at : (e : Encoding) (bs : List Body) (t : AddressTable) (old new base : ℕ) (x : AnEntry) → old ≡ base → new ≡ new_address bs old
    → IsPassedEntry e bs t old new x → IsPassedEntry e bs t base (new_address bs base) x
passed_at e bs t old new base x is goes p =
    subst (λ (n : ℕ). IsPassedEntry e bs t base n x) (goes ∙ ap (new_address bs) is) (subst (λ (n : ℕ). IsPassedEntry e bs t n new x) is p)

pub refused_at : (lists : Lists) (e : Encoding) (bs : List Body) (t : AddressTable) (old new base : ℕ) (bytes : List ℕ) (fault : DebugFault) → old ≡ base → new ≡ new_address bs old
    → IsRefusedNextOfNewList lists e bs t old new bytes fault → IsRefusedNextOfNewList lists e bs t base (new_address bs base) bytes fault
refused_at lists e bs t old new base bytes fault is goes p =
    subst (λ (n : ℕ). IsRefusedNextOfNewList lists e bs t base n bytes fault) (goes ∙ ap (new_address bs) is)
    (subst (λ (n : ℕ). IsRefusedNextOfNewList lists e bs t n new bytes fault) is p)
