-- Where an address of the code goes when bodies are written anew. An address is an offset from the first byte of the contents of the
-- code section (DWARF for WebAssembly, "Code addresses"). Of an operator that isn't written, and of what is inside one, the address
-- goes to the next operator that is; and that is where what is added in front of it begins, since what is added runs in the
-- state that the source has before the operator.
use Rattle.std.specs.Prelude.{◌≡◌, ◌<◌, ◌≤◌, ◌⊎◌, ℕ, List, [], ◌∷◌, ◌+◌, ◌-◌, Bool, true, false, ◌&&◌, nat_lt, nat_le, nat_eq, min, if◌then◌else◌, Option, Some, None}
use Rattle.std.specs.Bool.{then_some}
use Rattle.code_moves.specs.declared.run.Run.{Run}
use Rattle.code_moves.specs.declared.body.Body.{Body}
use Rattle.code_moves.specs.declared.body.LocalMove.{LocalMove}

-- where the first of these runs begins, with what is added in front of it, or else this end
abbrev pub first_gap : List Run → (new_end : ℕ) → ℕ
first_gap [] new_end = new_end
first_gap (r ∷ rs) new_end = r.gap

-- where an address goes that is after the first byte of a body with these runs and this new end
abbrev pub new_place : List Run → (new_end : ℕ) → (address : ℕ) → ℕ
new_place [] new_end a = new_end
new_place (r ∷ rs) new_end a =
    if nat_le a r.old then r.gap
    else if nat_lt a r.end then min (r.own + (a - r.old)) (first_gap rs new_end)
    else new_place rs new_end a

-- The operator of the source at the first address is written at the second: it is in a run, and before what follows the run.
abbrev pub IsWrittenAt : List Run → (new_end : ℕ) → (old own : ℕ) → Type 0
IsWrittenAt [] new_end old own = ⊥
IsWrittenAt (r ∷ rs) new_end old own =
    ((r.old ≤ old) × (old < r.end) × (own ≡ r.own + (old - r.old)) × (own < first_gap rs new_end)) ⊎ IsWrittenAt rs new_end old own

-- the place of an operator, unless what follows is written first
abbrev pub own_before : (limit own : ℕ) → Option ℕ
own_before limit own = then_some (nat_lt own limit) own

-- where the operator at this address is itself written, after what is added in front of it, if it is written
abbrev pub operator_place : List Run → (new_end : ℕ) → (address : ℕ) → Option ℕ
operator_place [] new_end a = None
operator_place (r ∷ rs) new_end a =
    if nat_lt a r.old then None
    else if nat_lt a r.end then own_before (first_gap rs new_end) (r.own + (a - r.old))
    else operator_place rs new_end a

-- whether the address is of the body: its first byte, its end, or between them
abbrev pub has_address : Body → (address : ℕ) → Bool
has_address b a = nat_le b.begin a && nat_le a b.end

-- where an address goes that is of the body
abbrev pub new_address_within : Body → (address : ℕ) → ℕ
new_address_within b a = if nat_eq a b.begin then b.new_begin else new_place b.runs.items b.new_end a

abbrev pub moved_in : Body → (address : ℕ) → Option ℕ
moved_in b a = if has_address b a then Some (new_address_within b a) else None

-- the body that an address is of
abbrev pub body_with_address : List Body → (address : ℕ) → Option Body
body_with_address [] a = None
body_with_address (b ∷ bs) a = if has_address b a then Some b else body_with_address bs a

-- where an address goes, if it is of a body
abbrev pub address_moved : List Body → (address : ℕ) → Option ℕ
address_moved [] a = None
address_moved (b ∷ bs) a = if has_address b a then Some (new_address_within b a) else address_moved bs a

-- an address that is of no body stays
abbrev pub or_stays : (address : ℕ) → Option ℕ → ℕ
or_stays a None = a
or_stays a (Some new) = new

abbrev pub new_address : List Body → (address : ℕ) → ℕ
new_address bs a = or_stays a (address_moved bs a)

-- whether an operator that ends at this address is written: it is one of a run
abbrev pub ends_written : List Run → (address : ℕ) → Bool
ends_written [] a = false
ends_written (r ∷ rs) a = if nat_lt r.old a then (if nat_le a r.end then true else ends_written rs a) else false

-- ---- the locals

abbrev pub new_index : List LocalMove → (local : ℕ) → Option ℕ
new_index [] local = None
new_index (m ∷ ms) local = if nat_eq m.old local then Some m.new else new_index ms local

abbrev pub new_local_in : Body → (local : ℕ) → Option ℕ
new_local_in b local = if nat_lt local b.parameters then Some local else new_index b.locals.items local

-- ends_written in the body that has the address
abbrev pub ends_written_at : List Body → (address : ℕ) → Bool
ends_written_at [] a = false
ends_written_at (b ∷ bs) a = if has_address b a then ends_written b.runs.items a else ends_written_at bs a

-- operator_place in the body that has the address
abbrev pub operator_moved : List Body → (address : ℕ) → Option ℕ
operator_moved [] a = None
operator_moved (b ∷ bs) a = if has_address b a then operator_place b.runs.items b.new_end a else operator_moved bs a
