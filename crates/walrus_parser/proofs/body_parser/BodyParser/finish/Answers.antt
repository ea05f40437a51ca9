use Rattle.std.proofs.Common.{reverse, ap, ◌∙◌, subst, sym}
use Rattle.walrus_ir.specs.Function.{Function}
use Rattle.wasm_body.specs.NormalForm.{typing_of, normal_form, named_body}
use Rattle.wasm_body.specs.TreeOfFunction.{HasTree}
use Rattle.walrus_context.specs.OpenTrees.{OpenTrees, env_of}
use Rattle.walrus_parser.proofs.Endings.{finishes}
use Rattle.walrus_parser.proofs.body_parser.BodyParser.finish.Goals as goal

pub returns-clause-ok : goal.returns-clause-ok
returns-clause-ok c =
    let old = c.args.self.context in
    let mid = c.pop_control.new.self in
    let end = c.end_sequence.new.self in
    let closes = c.in-Ok.ensures.ok.closes in
    let built = c.shrink_to_fit.ensures ∙ c.into_parts-builder.ensures.function in
    record {
      type = ap (λ (b : Function). b.type) built ∙ ap (λ (t : OpenTrees). t.builder.type) c.end_sequence.ensures.is ∙ ap (λ (t : OpenTrees). t.builder.type) closes.is;
      entry = ap (λ (b : Function). b.entry) built ∙ ap (λ (t : OpenTrees). t.builder.entry) c.end_sequence.ensures.is ∙ ap (λ (t : OpenTrees). t.builder.entry) closes.is;
      holds = λ s e here keeps. subst (λ (b : Function). HasTree b.sequences 0 (normal_form (typing_of (env_of old)) (named_body (record { sequence = s; close = e })))) (sym built)
          (finishes old mid end (reverse c.args.self.if_else.items) s e c.args.location c.in-Ok.popped.0 c.in-Ok.popped.1 c.in-Ok.ensures.ok c.end_sequence.ensures here keeps);
    }
