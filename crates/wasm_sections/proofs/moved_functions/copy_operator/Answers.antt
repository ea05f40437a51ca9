use Rattle.std.proofs.Common.{rules, ◌≡◌, ◌+◌, ◌-◌, List, ℕ, ◌++◌, length, sym, ap, ◌∙◌, arith}
use Rattle.wasm_operators.specs.Meaning.{meaning}
use Rattle.wasm_ops.specs.Position.{Position}
use Rattle.wasm_sections.proofs.MovedLemmas.{copied}
use Rattle.wasm_sections.proofs.moved_functions.copy_operator.Goals as goal

pub returns : goal.returns
returns c =
    let found = c.in-Ok.ensures.found in
    let text = c.args.input.now.rest.now in
    let at = c.at.result in
    let part = c.in_ok-part.part.rest.now in
    let begin = ap (λ (p : Position). p.rest) c.new-reader.ensures in
    let start = ap (λ (p : Position). p.place) c.new-reader.ensures in
    let parts : text ≡ found.0 ++ c.read.new.self.rest = sym c.rest.ensures ∙ sym begin ∙ found.1.parts in
    let moved : c.original_position.result ≡ at + length found.0 = omega (arith, c.original_position.ensures, found.1.place, start) in
    let is : c.saturating_sub-len.result ≡ c.original_position.result - at = omega (arith, c.saturating_sub-len.ensures, c.at.ensures.place, c.at-2.ensures.place) in
    let spells =
    copied (meaning c.in-Ok.operator) found.0 text c.read.new.self.rest part c.part.new.self.rest.now c.saturating_sub-len.result at c.original_position.result
    parts moved is c.in_ok-part.ensures.parts c.in_ok-part.ensures.len found.2 in
    let appends : c.extend_from_slice.new.self.items ≡ c.args.out.now.items ++ c.rest-2.result.now = search rules in
    (meaning c.in-Ok.operator, part, spells, c.in_ok-part.ensures.parts, appends ∙ ap (λ (l : List ℕ). c.args.out.now.items ++ l) c.rest-2.ensures)
