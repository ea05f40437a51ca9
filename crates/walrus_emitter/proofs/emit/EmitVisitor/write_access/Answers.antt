use Rattle.std.proofs.Common.{◌≡◌, [], ◌∷◌, ◌<◌, ◌^◌, sym, ap, ◌∙◌, arith}
use Rattle.wasm_operators.specs.declared.types.Space.TheVariants.{Memories}
use Rattle.wasm_operators.specs.AccessOperations.{access_of}
use Rattle.wasm_operators.specs.Operations.{access, operation}
use Rattle.wasm_operators.specs.Shortest.{short_access}
use Rattle.wasm_body.specs.FlatText.{exponent_of}
use Rattle.wasm_body.specs.InstructionTable.{access_at}
use Rattle.walrus_numbering.specs.NumberMaps.{numbers_of}
use Rattle.walrus_emit_state.specs.TreeWriting.Closers.{places_of}
use Rattle.walrus_emit_state.specs.TreeWriting.Drafts.{with_bytes}
use Rattle.walrus_emitter.proofs.TreeWriting.Spelled.{numbered, access_spelled, bytes_visited, on_true}
use Rattle.walrus_emitter.proofs.emit.EmitVisitor.write_access.Goals as goal

pub returns-in-Ok-clause-done : goal.returns-in-Ok-clause-done
returns-in-Ok-clause-done c =
    let v = c.args.self.now in
    let to = numbers_of v.numbers in
    let n = c.in-Ok.number in
    let fits : n < 2 ^ 32 = omega arith in
    let found = numbered v.numbers.types.now v.numbers.ids.now v.numbers.locals.now.entries Memories c.args.memory n
    (sym c.get_memory_index.ensures ∙ c.in-Ok.is) fits in
    let row = c.requires.row ∙ ap (λ o. operation o (access (access_at c.args.memory c.args.arg) ∷ [])) c.in-Byte.is in
    let m = c.memory_argument-memarg.ensures in
    let is : access_of c.memory_argument-memarg.result ≡ record { alignment = exponent_of c.args.arg.align; memory = n; offset = c.args.arg.offset } =
    λ i. record { alignment = m.0 i; memory = m.2 i; offset = m.3 i } in
    on_true c.write_access.result
    (λ k. bytes_visited v.builder.now.sequences to v.scopes v.draft c.write_access.new.self c.args.instr.now c.args.location _ c.requires.plain
    (access_spelled to (places_of v.scopes.open_scopes) c.args.instr.now c.in-Byte.byte c.args.memory c.args.arg n row found fits)
    (k ∙ ap (λ a. with_bytes v.draft (c.in-Byte.byte ∷ short_access a) c.args.location) is))
    c.write_access.ensures.done
