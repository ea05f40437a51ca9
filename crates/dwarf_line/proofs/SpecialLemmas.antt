-- The advances of special opcodes.
use Rattle.std.proofs.Common.{◌≡◌, ℕ, ◌+◌, ◌-◌, ◌*◌, ◌<◌, arith}
use Rattle.std.proofs.lemmas.Nat.{div-mul-add, mod-mul-add}
use Rattle.dwarf_line.specs.LineProgram.{Parameters}
use Rattle.dwarf_line.specs.Written.{Is}

pub is_special : (p : Parameters) (line distance opcode : ℕ) → line < p.line_range → opcode ≡ p.opcode_base + line + distance * p.line_range → Is p line distance opcode
is_special p line distance opcode least e =
    let k : opcode - p.opcode_base ≡ distance * p.line_range + line = omega arith in
    record {
      sound = omega arith;
      distance_is = rw k (div-mul-add distance p.line_range line least);
      line_is = rw k (mod-mul-add distance p.line_range line least);
    }
