-- What is written for an operation of the source does with the moved addresses what that does.
use Rattle.std.proofs.Common.{◌≡◌, ℕ, ◌+◌, ◌-◌, ◌%◌, ◌^◌, ◌<◌, ◌≤◌, Bool, true, false, pos, ◌+ℤ◌, List, [], ◌∷◌, ◌++◌, map, refl, sym, ap, subst, ◌∙◌, append_assoc, arith}
use Rattle.code_moves.specs.declared.body.Body.{Body}
use Rattle.code_moves.specs.Moves.{new_address}
use Rattle.dwarf_line.specs.declared.operation.AddressSize.{AddressSize}
use Rattle.dwarf_line.specs.declared.operation.Change.{Change}
use Rattle.dwarf_line.specs.declared.operation.Operation.{Operation}
use Rattle.dwarf_line.specs.declared.operation.Operation.TheVariants.{SetAddress, Special, AppendRow, EndSequence, Changes}
use Rattle.dwarf_line.specs.declared.place.Place.{Place}
use Rattle.dwarf_line.specs.Kept.{line_kept}
use Rattle.dwarf_line.specs.LineProgram.{Parameters, Registers, LineRow, advanced, address_advance, line_advance, before_row, after_row, row_of, state_after, all_appended}
use Rattle.dwarf_line.specs.MovedRows.{moved_row}
use Rattle.dwarf_line.specs.Operations.{line_operation}
use Rattle.dwarf_line.specs.Repeated.{ReadsAs}
use Rattle.dwarf_line.specs.Written.{AddsOfLines, line_state as state, LeadsOfLines, AdvancesOfLines, AddsAdvance, AddsSpecial, AddsLead, Carries, FollowsOfLines, line_start}
use Rattle.dwarf_line.proofs.KeptLemmas.{keeps_one}
use Rattle.dwarf_line.proofs.MachineLemmas.{state_after_all-append, all_appended-append, adds-append, leads-append}

-- ---- what leads to an address

pub adds_lead_by_set : (p : Parameters) (size : AddressSize) (old new : List ℕ) (from to : ℕ) → AddsOfLines p old new (SetAddress size to ∷ []) [] → AddsLead p old new from to
adds_lead_by_set p size old new from to adds = record { operations = SetAddress size to ∷ []; adds = adds; leads = record { rows = λ x. refl; after = λ x. refl } }

leads_further : (p : Parameters) (os : List Operation) (from distance to : ℕ) → from ≤ to → to < 2 ^ 64 → distance ≡ to - from → AdvancesOfLines p os distance → LeadsOfLines p os from to
leads_further p os from distance to below fits e advances =
    let k : from + distance ≡ to = omega arith in
    subst (λ n. LeadsOfLines p os from n) k (advances from (omega arith))

pub adds_lead_further : (p : Parameters) (old between new : List ℕ) (a b c : ℕ) → b ≤ c → c < 2 ^ 64 → AddsLead p old between a b → AddsAdvance p between new (c - b) → AddsLead p old new a c
adds_lead_further p old between new a b c below fits lead advance = record {
  operations = lead.operations ++ advance.operations;
  adds = adds-append p old between new lead.operations advance.operations [] [] lead.adds advance.adds;
  leads = leads-append p lead.operations advance.operations a b c lead.leads (leads_further p advance.operations b (c - b) c below fits refl advance.advances);
}

-- ---- an operation after what leads to its address

module _ (bodies : List Body) (p : Parameters) (os : List Operation) (o written : Operation) (from to : Place) (target : ℕ) (leads : LeadsOfLines p os from.new target)
    (rows : (x : Registers) → all_appended p (written ∷ []) (state target x) ≡ map (moved_row bodies) (all_appended p (o ∷ []) (state from.old x)))
    (after : (x : Registers) → state_after p written (state target x) ≡ state to.new (state_after p o (state from.old x)).registers)
    (address : (x : Registers) → (state_after p o (state from.old x)).address ≡ to.old) where
  pub carries_after_lead : Carries bodies p (o ∷ []) (os ++ written ∷ []) from to
  carries_after_lead = record {
    rows = λ x. rw (all_appended-append p os (written ∷ []) (state from.new x), leads.rows x, leads.after x) (rows x);
    after = λ x. rw (state_after_all-append p os (written ∷ []) (state from.new x), leads.after x) (after x);
    address = address;
  }

-- ---- each operation

pub adds_copied : (p : Parameters) (o : Operation) (text old new : List ℕ) → ReadsAs (line_operation p) (o ∷ []) text → new ≡ old ++ text → AddsOfLines p old new (o ∷ []) (line_kept p o text)
adds_copied p o text old new spells added = record { text = text; added = added; spells = spells; keeps = keeps_one p o text spells }

pub follows_set : (bodies : List Body) (p : Parameters) (size : AddressSize) (address : ℕ) (from to : Place) (old new : List ℕ) → to.old ≡ address → AddsOfLines p old new (SetAddress size to.new ∷ []) []
    → FollowsOfLines bodies p (SetAddress size address ∷ []) from to old new []
follows_set bodies p size address from to old new e adds = record {
  operations = SetAddress size to.new ∷ [];
  adds = adds;
  carries = record { rows = λ x. refl; after = λ x. refl; address = λ x. sym e };
}

pub follows_change : (bodies : List Body) (p : Parameters) (c : Change) (from : Place) (text old new : List ℕ) → AddsOfLines p old new (Changes c ∷ []) (text ∷ []) → FollowsOfLines bodies p (Changes c ∷ []) from from old new (text ∷ [])
follows_change bodies p c from text old new adds = record {
  operations = Changes c ∷ [];
  adds = adds;
  carries = record { rows = λ x. refl; after = λ x. refl; address = λ x. refl };
}

-- a row at another address
abbrev row_at : Registers → (end_sequence : Bool) → ℕ → List LineRow
row_at x end a = record { address = a; registers = x; end_sequence = end } ∷ []

pub follows_row : (bodies : List Body) (p : Parameters) (from to : Place) (target : ℕ) (text old between new : List ℕ) → AddsLead p old between from.new target → AddsOfLines p between new (AppendRow ∷ []) (text ∷ [])
    → target ≡ new_address bodies from.old → to.old ≡ from.old → to.new ≡ target → FollowsOfLines bodies p (AppendRow ∷ []) from to old new (text ∷ [])
follows_row bodies p from to target text old between new lead adds moves e f = record {
  operations = lead.operations ++ AppendRow ∷ [];
  adds = adds-append p old between new lead.operations (AppendRow ∷ []) [] (text ∷ []) lead.adds adds;
  carries = carries_after_lead bodies p lead.operations AppendRow AppendRow from to target lead.leads
      (λ x. ap (row_at x false) moves) (λ x. ap (λ n. state n (record x { discriminator = 0; basic_block = false; prologue_end = false; epilogue_begin = false })) (sym f)) (λ x. sym e);
}

pub follows_end : (bodies : List Body) (p : Parameters) (from : Place) (target : ℕ) (text old between new : List ℕ) → AddsLead p old between from.new target → AddsOfLines p between new (EndSequence ∷ []) (text ∷ [])
    → target ≡ new_address bodies from.old → FollowsOfLines bodies p (EndSequence ∷ []) from line_start old new (text ∷ [])
follows_end bodies p from target text old between new lead adds moves = record {
  operations = lead.operations ++ EndSequence ∷ [];
  adds = adds-append p old between new lead.operations (EndSequence ∷ []) [] (text ∷ []) lead.adds adds;
  carries = carries_after_lead bodies p lead.operations EndSequence EndSequence from line_start target lead.leads (λ x. ap (row_at x true) moves) (λ x. refl) (λ x. refl);
}

module _ (bodies : List Body) (p : Parameters) (opcode line : ℕ) (from to : Place) (back : ℕ) (old between new : List ℕ) (lead : AddsLead p old between from.new back)
    (special : AddsSpecial p between new line (to.new - back)) (below : back ≤ to.new) (fits : to.new < 2 ^ 64) (line_is : line ≡ (opcode - p.opcode_base) % p.line_range)
    (old_is : to.old ≡ advanced from.old (address_advance p opcode)) (moves : to.new ≡ new_address bodies to.old) where
  -- the address before the special opcode that is written
  target : ℕ
  target = back + special.by_front

  front_leads : LeadsOfLines p (lead.operations ++ special.front) from.new target
  unfolding target
  front_leads =
      let sum = special.whole in
      leads-append p lead.operations special.front from.new back (back + special.by_front) lead.leads (special.advances back (omega arith))

  -- and after it
  reached : advanced target (address_advance p special.opcode) ≡ to.new
  unfolding target
  reached =
      let by = special.is.distance_is in
      let sum = special.whole in
      let k : back + special.by_front + address_advance p special.opcode ≡ to.new = omega arith in
      ap (λ n. n % 2 ^ 64) k ∙ omega arith

  same_line : line_advance p special.opcode ≡ line_advance p opcode
  same_line = ap (λ n. p.line_base +ℤ pos n) (special.is.line_is ∙ line_is)

  -- the state before the row
  source_state : (x : Registers) → before_row p opcode (state from.old x) ≡ state to.old (record x { line = x.line +ℤ line_advance p opcode })
  source_state x = ap (λ n. state n (record x { line = x.line +ℤ line_advance p opcode })) (sym old_is)

  written_state : (x : Registers) → before_row p special.opcode (state target x) ≡ state to.new (record x { line = x.line +ℤ line_advance p opcode })
  written_state x =
      ap (λ n. state n (record x { line = x.line +ℤ line_advance p special.opcode })) reached ∙ ap (λ z. state to.new (record x { line = x.line +ℤ z })) same_line

  special_rows : (x : Registers) → all_appended p (Special special.opcode ∷ []) (state target x) ≡ map (moved_row bodies) (all_appended p (Special opcode ∷ []) (state from.old x))
  special_rows x =
      ap (λ s. row_of s false ∷ []) (written_state x) ∙ ap (λ n. row_of (state n (record x { line = x.line +ℤ line_advance p opcode })) false ∷ []) moves
      ∙ ap (λ s. moved_row bodies (row_of s false) ∷ []) (sym (source_state x))

  special_after : (x : Registers) → state_after p (Special special.opcode) (state target x) ≡ state to.new (state_after p (Special opcode) (state from.old x)).registers
  special_after x = ap after_row (written_state x) ∙ ap (λ s. state to.new (after_row s).registers) (sym (source_state x))

  special_kept : List (List ℕ)
  special_kept = ((p.opcode_base + line) ∷ []) ∷ []

  special_adds : AddsOfLines p old new ((lead.operations ++ special.front) ++ Special special.opcode ∷ []) special_kept
  unfolding special_kept
  special_adds =
      subst (λ os. AddsOfLines p old new os (((p.opcode_base + line) ∷ []) ∷ [])) (sym (append_assoc lead.operations special.front (Special special.opcode ∷ [])))
      (adds-append p old between new lead.operations (special.front ++ Special special.opcode ∷ []) [] (((p.opcode_base + line) ∷ []) ∷ []) lead.adds special.adds)

  same_kept : special_kept ≡ line_kept p (Special opcode) []
  unfolding special_kept
  same_kept = ap (λ n. ((p.opcode_base + n) ∷ []) ∷ []) line_is

  pub follows_special : FollowsOfLines bodies p (Special opcode ∷ []) from to old new (line_kept p (Special opcode) [])
  follows_special = record {
    operations = (lead.operations ++ special.front) ++ Special special.opcode ∷ [];
    adds = subst (AddsOfLines p old new ((lead.operations ++ special.front) ++ Special special.opcode ∷ [])) same_kept special_adds;
    carries = carries_after_lead bodies p (lead.operations ++ special.front) (Special opcode) (Special special.opcode) from to target front_leads special_rows special_after (λ x. sym old_is);
  }
