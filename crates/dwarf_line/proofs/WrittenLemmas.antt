-- What is written, by its bytes.
use Rattle.std.proofs.Common.{◌≡◌, ℕ, ◌+◌, ◌-◌, ◌%◌, ◌^◌, ◌<◌, ◌≤◌, List, [], ◌∷◌, ◌++◌, refl, sym, ap, subst, arith}
use Rattle.dwarf_bytes.specs.Writing.{padded}
use Rattle.dwarf_line.specs.declared.operation.AddressSize.{AddressSize}
use Rattle.dwarf_line.specs.declared.operation.Operation.{Operation}
use Rattle.dwarf_line.specs.declared.operation.Operation.TheVariants.{Advance, SetAddress, Special}
use Rattle.dwarf_line.specs.Kept.{KeepsOfLines}
use Rattle.dwarf_line.specs.LineProgram.{Parameters}
use Rattle.dwarf_line.specs.Operations.{widest_advance, address_bytes, line_operation}
use Rattle.dwarf_line.specs.Repeated.{ReadsAs}
use Rattle.dwarf_line.specs.Written.{AddsOfLines, line_state, AdvancesOfLines, AddsAdvance, Is, AddsSpecial}
use Rattle.dwarf_line.proofs.KeptLemmas.{keeps_nothing, keeps-append, keeps_one}
use Rattle.dwarf_line.proofs.RepeatedLemmas.{spells-append}
use Rattle.dwarf_line.proofs.Spelled.{special_spelt, widest_spelt, advance_spelt, set_address_spelt, set_address_text}

pub advances_none : (p : Parameters) → AdvancesOfLines p [] 0
advances_none p = λ from fits. let k : from + 0 ≡ from = omega arith in record {
  rows = λ x. refl;
  after = λ x. ap (λ n. line_state n x) (sym k);
}

pub advances_one : (p : Parameters) (distance : ℕ) → AdvancesOfLines p (Advance distance ∷ []) distance
advances_one p distance = λ from fits. let k : (from + distance) % 2 ^ 64 ≡ from + distance = omega arith in record {
  rows = λ x. refl;
  after = λ x. ap (λ n. line_state n x) k;
}

pub adds_set_address : (p : Parameters) (size : AddressSize) (address : ℕ) (old new : List ℕ) → address < 256 ^ address_bytes size → new ≡ old ++ set_address_text size address
    → AddsOfLines p old new (SetAddress size address ∷ []) []
adds_set_address p size address old new fits added =
    let spells = set_address_spelt p size address fits in
    record { text = set_address_text size address; added = added; spells = spells; keeps = keeps_one p (SetAddress size address) (set_address_text size address) spells }

pub adds_widest : (p : Parameters) (distance : ℕ) (old new : List ℕ) → 8 < p.opcode_base → distance ≡ widest_advance p → new ≡ old ++ 8 ∷ [] → AddsAdvance p old new distance
adds_widest p distance old new below e added =
    let spells : ReadsAs (line_operation p) (Advance distance ∷ []) (8 ∷ []) = subst (λ n. ReadsAs (line_operation p) (Advance n ∷ []) (8 ∷ [])) (sym e) (widest_spelt p below) in
    record {
      operations = Advance distance ∷ [];
      adds = record { text = 8 ∷ []; added = added; spells = spells; keeps = keeps_one p (Advance distance) (8 ∷ []) spells };
      advances = advances_one p distance;
    }

pub adds_advance : (p : Parameters) (distance : ℕ) (old new : List ℕ) → 2 < p.opcode_base → distance < 2 ^ 64 → new ≡ old ++ (2 ∷ padded 1 distance) → AddsAdvance p old new distance
adds_advance p distance old new below fits added =
    let spells = advance_spelt p distance below fits in
    record {
      operations = Advance distance ∷ [];
      adds = record { text = 2 ∷ padded 1 distance; added = added; spells = spells; keeps = keeps_one p (Advance distance) (2 ∷ padded 1 distance) spells };
      advances = advances_one p distance;
    }

-- a special opcode after these operations
adds_special : (p : Parameters) (line by_front by_opcode distance opcode : ℕ) (front : List Operation) (text old new : List ℕ) → 0 < p.opcode_base → ReadsAs (line_operation p) front text → KeepsOfLines p text []
    → AdvancesOfLines p front by_front → by_front + by_opcode ≡ distance → Is p line by_opcode opcode → new ≡ old ++ (text ++ opcode ∷ []) → AddsSpecial p old new line distance
adds_special p line by_front by_opcode distance opcode front text old new some spells keeps advances whole is added = record {
  front = front;
  opcode = opcode;
  adds = record {
    text = text ++ opcode ∷ [];
    added = added;
    spells = spells-append (line_operation p) front (Special opcode ∷ []) text (opcode ∷ []) spells (special_spelt p opcode some is.sound);
    keeps = subst (λ n. KeepsOfLines p (text ++ opcode ∷ []) (((p.opcode_base + n) ∷ []) ∷ [])) is.line_is
        (keeps-append p text (opcode ∷ []) [] _ keeps (keeps_one p (Special opcode) (opcode ∷ []) (special_spelt p opcode some is.sound)));
  };
  by_front = by_front;
  by_opcode = by_opcode;
  whole = whole;
  advances = advances;
  is = is;
}

pub adds_special_alone : (p : Parameters) (line distance opcode : ℕ) (old new : List ℕ) → 0 < p.opcode_base → Is p line distance opcode → new ≡ old ++ opcode ∷ [] → AddsSpecial p old new line distance
adds_special_alone p line distance opcode old new some is added =
    adds_special p line 0 distance distance opcode [] [] old new some (λ following. refl) (keeps_nothing p) (advances_none p) (omega arith) is added

pub adds_special_after_widest : (p : Parameters) (line distance opcode : ℕ) (old new : List ℕ) → 8 < p.opcode_base → widest_advance p ≤ distance → Is p line (distance - widest_advance p) opcode
    → new ≡ old ++ 8 ∷ opcode ∷ [] → AddsSpecial p old new line distance
adds_special_after_widest p line distance opcode old new below low is added =
    let w = widest_advance p in
    let spells = widest_spelt p below in
    adds_special p line w (distance - w) distance opcode (Advance w ∷ []) (8 ∷ []) old new (omega arith) spells (keeps_one p (Advance w) (8 ∷ []) spells) (advances_one p w) (omega arith) is added

pub adds_special_after_advance : (p : Parameters) (line distance opcode : ℕ) (old new : List ℕ) → 2 < p.opcode_base → distance < 2 ^ 64 → Is p line 0 opcode
    → new ≡ old ++ ((2 ∷ padded 1 distance) ++ opcode ∷ []) → AddsSpecial p old new line distance
adds_special_after_advance p line distance opcode old new below fits is added =
    let spells = advance_spelt p distance below fits in
    adds_special p line distance 0 distance opcode (Advance distance ∷ []) (2 ∷ padded 1 distance) old new (omega arith) spells (keeps_one p (Advance distance) (2 ∷ padded 1 distance) spells) (advances_one p distance) (omega arith) is added
