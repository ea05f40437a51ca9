-- What entries say of addresses (DWARF 5, sections 2.17.3 and 2.6.2), and what they say where the code has moved.
use Rattle.std.specs.Prelude.{◌≡◌, ℕ, ◌+◌, ◌^◌, List, [], ◌∷◌, ◌&&◌, nat_lt, if◌then◌else◌, Option, Some, None, option_map, MatchOption, ⊤}
use Rattle.code_moves.specs.declared.body.Body.{Body}
use Rattle.code_moves.specs.Moves.{body_with_address, new_address}
use Rattle.dwarf_expressions.specs.declared.encoding.Encoding.{Encoding}
use Rattle.dwarf_new_lists.specs.declared.kind.Kind.{Kind}
use Rattle.dwarf_new_lists.specs.declared.kind.Kind.TheVariants.{End, BaseIndex, IndexPair, IndexLength, OffsetPair, Default, Base, Pair, Length, Views}
use Rattle.dwarf_new_lists.specs.declared.saying.Saying.{Saying}
use Rattle.dwarf_new_lists.specs.declared.saying.Saying.TheVariants as saying
use Rattle.dwarf_new_lists.specs.Entries.{AnEntry}
use Rattle.dwarf_new_lists.specs.Writing.{IsMovedExpression}

-- the range between two addresses; an address has at most 64 bits
abbrev pub range : (low high : ℕ) → Saying
range low high = if nat_lt low (2 ^ 64) && nat_lt high (2 ^ 64) then saying.Range low high else saying.Nothing

-- what is said of the address of an index, if there is one
abbrev pub new_list_of_index : (ℕ → Saying) → Option ℕ → Saying
new_list_of_index f None = saying.Nothing
new_list_of_index f (Some address) = f address

-- What an entry says that is counted from this base. `at`: the addresses by their indices.
abbrev pub says : (at : ℕ → Option ℕ) → (base : ℕ) → Kind → (one two : ℕ) → Saying
says at base End one two = saying.Nothing
says at base BaseIndex one two = new_list_of_index saying.Base (at one)
says at base IndexPair one two = new_list_of_index (λ low. new_list_of_index (range low) (at two)) (at one)
says at base IndexLength one two = new_list_of_index (λ low. range low (low + two)) (at one)
says at base OffsetPair one two = range (base + one) (base + two)
says at base Default one two = saying.Nothing
says at base Base one two = saying.Base one
says at base Pair one two = range one two
says at base Length one two = range one (one + two)
says at base Views one two = saying.Nothing

abbrev pub says_entry : (at : ℕ → Option ℕ) → (base : ℕ) → AnEntry → Saying
says_entry at base e = says at base e.kind e.one e.two

-- the base of what follows
abbrev pub next_base : (base : ℕ) → Saying → ℕ
next_base base (saying.Base address) = address
next_base base _ = base

-- the base after these entries
abbrev pub base_after_entries : (at : ℕ → Option ℕ) → (base : ℕ) → List AnEntry → ℕ
base_after_entries at base [] = base
base_after_entries at base (e ∷ es) = base_after_entries at (next_base base (says_entry at base e)) es

-- ---- where the code has moved

-- the addresses by their indices
abbrev pub moved_addresses : List Body → (at : ℕ → Option ℕ) → ℕ → Option ℕ
moved_addresses bs at index = option_map (new_address bs) (at index)

-- What is said of code, where it has moved. A range is of the code of a body if it begins there.
abbrev pub moved_saying : List Body → Saying → Option Saying
moved_saying bs saying.Nothing = None
moved_saying bs (saying.Base address) = Some (saying.Base (new_address bs address))
moved_saying bs (saying.Range low high) = option_map (λ b. saying.Range (new_address bs low) (new_address bs high)) (body_with_address bs low)

abbrev pub new_list_body_of : List Body → Saying → Option Body
new_list_body_of bs (saying.Range low high) = body_with_address bs low
new_list_body_of bs _ = None

-- The new operands of an entry say what the old ones do, where the code has moved; or they are the old ones, if these say nothing
-- of code.
abbrev pub SaysMoved : List Body → (at : ℕ → Option ℕ) → (base new_base : ℕ) → Kind → (one two new_one new_two : ℕ) → Type 0
SaysMoved bs at base new_base kind one two new_one new_two =
    MatchOption (moved_saying bs (says at base kind one two))
    ((new_one ≡ one) × (new_two ≡ two))
    (λ s. says (moved_addresses bs at) new_base kind new_one new_two ≡ s)

-- what an entry becomes; its expression is one of the body that it is of
pub record IsMovedOfNewList (e : Encoding) (bs : List Body) (at : ℕ → Option ℕ) (base new_base : ℕ) (old new : AnEntry) : Type 0 where
  pub kind : new.kind ≡ old.kind
  pub addresses : SaysMoved bs at base new_base old.kind old.one old.two new.one new.two
  pub expression : IsMovedExpression e (new_list_body_of bs (says_entry at base old)) old.expression new.expression

-- What the entries of a list become. The bases are those of the first one, in the source and where the code has moved.
abbrev pub AreMovedOfNewList : Encoding → List Body → (at : ℕ → Option ℕ) → (base new_base : ℕ) → (old new : List AnEntry) → Type 0
AreMovedOfNewList e bs at base new_base [] [] = ⊤
AreMovedOfNewList e bs at base new_base [] (n ∷ ns) = ⊥
AreMovedOfNewList e bs at base new_base (o ∷ os) [] = ⊥
AreMovedOfNewList e bs at base new_base (o ∷ os) (n ∷ ns) =
    IsMovedOfNewList e bs at base new_base o n
    × AreMovedOfNewList e bs at (next_base base (says_entry at base o)) (next_base new_base (says_entry (moved_addresses bs at) new_base n)) os ns
