use Rattle.std.proofs.Common.{◌≡◌, ◌≤◌, ◌-◌, ◌+◌, ℕ, List, length, take, sym, ap, ◌∙◌, arith}
use Rattle.std.proofs.lemmas.List.{take-take}
use Rattle.wasm_operators.specs.Shortest.{short_number}
use Rattle.location_pairs.proofs.PackedPairs.{number_room}
use Rattle.location_pairs.proofs.packing.Packer.end.Goals as goal

pub put_before-requires-clause-room : goal.put_before-requires-clause-room
put_before-requires-clause-room c =
    let same : c.deref.result.now ≡ short_number c.args.self.count = c.deref.ensures.value ∙ c.in_ok-number.ensures in
    omega (arith, ap length same, number_room c.args.self.count)

pub returns-clause-from : goal.returns-clause-from
returns-clause-from c =
    let number : c.len.result ≤ 10 = omega (arith, c.len.ensures, ap length c.in_ok-number.ensures, number_room c.args.self.count) in
    let room = c.requires.1.has_room in
    (omega arith, omega (arith, c.put_before.ensures.len))

pub returns-clause-unchanged : goal.returns-clause-unchanged
returns-clause-unchanged c =
    let same : c.deref.result.now ≡ short_number c.args.self.count = c.deref.ensures.value ∙ c.in_ok-number.ensures in
    let len = length c.deref.result.now in
    let begin = c.args.self.begin in
    let fits : begin ≤ begin + 10 - len = omega (arith, ap length same, number_room c.args.self.count) in
    sym (take-take begin (begin + 10 - len) c.put_before.new.bytes.items fits) ∙ ap (λ (l : List ℕ). take begin l) c.put_before.ensures.before
    ∙ take-take begin (begin + 10 - len) c.args.packed.now.items fits
