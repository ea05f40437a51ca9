-- What the lists of a unit are moved by.
use Rattle.std.specs.Prelude.{◌≡◌, ℕ, List, Option}
use Rattle.code_moves.specs.declared.body.Body.{Body}
use Rattle.dwarf_bytes.specs.Addresses.{address_at}
use Rattle.dwarf_new_lists.specs.declared.entry.Entry.{Entry}
use Rattle.dwarf_new_lists.specs.declared.moving.Context.{Context}
use Rattle.dwarf_new_lists.specs.declared.saying.Saying.{Saying}
use Rattle.dwarf_new_lists.specs.Sayings.{says, moved_addresses, SaysMoved}

abbrev pub bodies : Context → List Body
bodies c = c.moves.now.bodies.items

-- the addresses by their indices, in the source
abbrev pub addresses : Context → ℕ → Option ℕ
addresses c = address_at c.addresses.now

-- what an entry says in the source
abbrev pub says_old : Context → (base : ℕ) → Entry → Saying
says_old c base entry = says (addresses c) base entry.kind entry.one.value entry.two.value

-- what an entry says, with these operands, where the code has moved
abbrev pub says_new : Context → (base : ℕ) → Entry → (one two : ℕ) → Saying
says_new c base entry one two = says (moved_addresses (bodies c) (addresses c)) base entry.kind one two

abbrev pub EntrySaysMoved : Context → (base new_base : ℕ) → (old new : Entry) → Type 0
EntrySaysMoved c base new_base old new =
    SaysMoved (bodies c) (addresses c) base new_base old.kind old.one.value old.two.value new.one.value new.two.value

-- everything but the operands
pub record IsSameEntry (old new : Entry) : Type 0 where
  pub code : new.code ≡ old.code
  pub kind : new.kind ≡ old.kind
  pub expression : new.expression ≡ old.expression
