use mir.Syntax.{w64}
use mir.Val.{SFits}
use Rattle.std.proofs.Common.{◌≡◌, ◌∷◌, ap, ◌∙◌, rules}
use Rattle.std.proofs.lemmas.Int.{to_z-of_z}
use Rattle.walrus_ir.specs.Unfolding.{slots_in}
use Rattle.wasm_body.specs.InstructionTable.{operation_of, const_operation}
use Rattle.walrus_numbering.specs.NumberMaps.{numbers_of}
use Rattle.walrus_emit_state.specs.TreeWriting.Closers.{places_of}
use Rattle.wasm_operators.specs.Shortest.{short_integer}
use Rattle.walrus_emit_state.specs.TreeWriting.Drafts.{with_bytes}
use Rattle.walrus_emitter.proofs.TreeWriting.Spelled.{i32_spelled, i64_spelled, bytes_visited, on_true}
use Rattle.walrus_emitter.proofs.emit.EmitVisitor.write_constant.Goals as goal

pub returns-in-I32-clause-done : goal.returns-in-I32-clause-done
returns-in-I32-clause-done c =
    let v = c.args.self.now in
    let to = numbers_of v.numbers in
    let same : c.from-wide.result ≡ c.in-I32.value = search rules in
    let fits : SFits w64 c.from-wide.result = search rules in
    on_true c.write_integer.result
    (λ k. bytes_visited v.builder.now.sequences to v.scopes v.draft c.write_integer.new.self c.args.instr.now c.args.location _ (ap slots_in c.requires)
    (i32_spelled to (places_of v.scopes.open_scopes) c.args.instr.now 0x41 c.in-I32.value (ap operation_of c.requires ∙ ap const_operation c.in-I32.is))
    (k ∙ ap (λ z. with_bytes v.draft (0x41 ∷ short_integer z) c.args.location) (to_z-of_z w64 c.from-wide.result fits ∙ same)))
    c.write_integer.ensures.done

pub returns-in-I64-clause-done : goal.returns-in-I64-clause-done
returns-in-I64-clause-done c =
    let v = c.args.self.now in
    let to = numbers_of v.numbers in
    let fits : SFits w64 c.in-I64.value = search rules in
    on_true c.write_integer-in-I64.result
    (λ k. bytes_visited v.builder.now.sequences to v.scopes v.draft c.write_integer-in-I64.new.self c.args.instr.now c.args.location _ (ap slots_in c.requires)
    (i64_spelled to (places_of v.scopes.open_scopes) c.args.instr.now 0x42 c.in-I64.value (ap operation_of c.requires ∙ ap const_operation c.in-I64.is))
    (k ∙ ap (λ z. with_bytes v.draft (0x42 ∷ short_integer z) c.args.location) (to_z-of_z w64 c.in-I64.value fits)))
    c.write_integer-in-I64.ensures.done
