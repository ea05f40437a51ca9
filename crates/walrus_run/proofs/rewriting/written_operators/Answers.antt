use Rattle.std.proofs.Common.{◌==◌, ◌≡◌, ◌⊎◌, None, length, drop, ap, subst, ◌∙◌}
use Rattle.std.specs.HashSet.{contains}
use Rattle.wasm_body.specs.declared.error.EmitError.TheVariants.{Memory}
use Rattle.wasm_body.specs.FunctionTree.{FunctionTree}
use Rattle.wasm_body.specs.TreeOfFunction.{HasTree}
use Rattle.walrus_body.specs.LocalFunctions.{first_slot}
use Rattle.walrus_rewrite.specs.RawBodies.{EmitInput, emit_input, HasNoRawBody, not_begun}
use Rattle.walrus_rewrite.proofs.RawBodyLemmas.{writes, declines, of_written, why_not}
use Rattle.walrus_run.proofs.RewritingLemmas.{parsed_begins, no_walk, no_fault, same_emit_input, normal_bytes}
use Rattle.walrus_run.proofs.rewriting.written_operators.Goals as goal

pub emit_facts-requires : goal.emit_facts-requires
emit_facts-requires c = parsed_begins c.args.function.now.builder c.requires.is_parsed

pub emit_instructions-requires : goal.emit_instructions-requires
emit_instructions-requires c = parsed_begins c.args.function.now.builder c.requires.is_parsed

pub returns-in-Err-clause-err : goal.returns-in-Err-clause-err
returns-in-Err-clause-err c = no_walk c.args.function.now.builder c.requires.is_parsed c.in-Err.fault c.in-Err.ensures.err

pub returns-in-Err-begin_body-clause-err : goal.returns-in-Err-begin_body-clause-err
returns-in-Err-begin_body-clause-err c =
    let a = c.args in
    let r = c.requires in
    let f = a.function.now.builder in
    let found = c.in-Ok.ensures.ok in
    let e = c.in-Err-begin_body.fault in
    let why = why_not f found.tree found.is_tree (contains (λ x y. x == y) c.in-Ok.facts.used_locals) found.holds.used_locals
    (emit_input a.numbers.now a.module.now a.function.now) e (not_begun c.in-Err-begin_body.ensures.err) in
    no_fault f r.is_parsed e
    (subst (λ (g : EmitInput). (e ≡ Memory) ⊎ ((t : FunctionTree) × HasTree f.sequences (first_slot f) t × HasNoRawBody g t e)) (same_emit_input a.numbers.now a.module.now a.function.now r.numbers_are r.module_is r.args_are) why)

pub returns-clause-err : goal.returns-clause-err
returns-clause-err c =
    let a = c.args in
    let r = c.requires in
    let f = a.function.now.builder in
    let found = c.in-Ok.ensures.ok in
    let used = contains (λ x y. x == y) c.in-Ok.facts.used_locals in
    let made = c.in-Ok-begin_body.made in
    let e = c.in-Err-emit_instructions.fault in
    let declined = declines a.module.now.types a.numbers.now a.module.now.locals a.function.now.args used f made.0 made.1.entries c.in-Ok-begin_body.ensures.ok e c.in-Err-emit_instructions.ensures.err in
    let why = why_not f found.tree found.is_tree used found.holds.used_locals (emit_input a.numbers.now a.module.now a.function.now) e declined in
    no_fault f r.is_parsed e
    (subst (λ (g : EmitInput). (e ≡ Memory) ⊎ ((t : FunctionTree) × HasTree f.sequences (first_slot f) t × HasNoRawBody g t e)) (same_emit_input a.numbers.now a.module.now a.function.now r.numbers_are r.module_is r.args_are) why)

pub returns-in-Ok-emit_instructions-clause-ok : goal.returns-in-Ok-emit_instructions-clause-ok
returns-in-Ok-emit_instructions-clause-ok c b has =
    let a = c.args in
    let r = c.requires in
    let f = a.function.now.builder in
    let found = c.in-Ok.ensures.ok in
    let used = contains (λ x y. x == y) c.in-Ok.facts.used_locals in
    let made = c.in-Ok-begin_body.made in
    let begins = c.in-Ok-begin_body.ensures.ok in
    let bytes = c.emit_instructions.new.dst in
    let written = writes a.module.now.types a.numbers.now a.module.now.locals a.function.now.args used f made.0 made.1.entries begins
    bytes None c.in-Ok-emit_instructions.ensures.ok in
    let raw = of_written f found.tree found.is_tree used found.holds.used_locals (emit_input a.numbers.now a.module.now a.function.now) bytes None written in
    normal_bytes f r.is_parsed (emit_input a.numbers.now a.module.now a.function.now) (same_emit_input a.numbers.now a.module.now a.function.now r.numbers_are r.module_is r.args_are)
    bytes raw.0 raw.1 c.in_ok-bytes_after-in-Ok-emit_instructions.field-0.items
    (c.in_ok-bytes_after-in-Ok-emit_instructions.ensures ∙ ap (λ n. drop n bytes) (c.byte_len-declared.ensures.len ∙ ap length begins.encoder_is)) b has
