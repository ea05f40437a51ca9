use Rattle.std.proofs.Common.{◌<◌, length, arith, ap, ◌∙◌, ◌&&◌}
use Rattle.std.specs.Prelude.{map}
use Rattle.std.proofs.lemmas.List.{length-map}
use Rattle.wasm_context.specs.Contexts.{operands_in, field_of}
use Rattle.wasm_context.specs.ValidTypes.{matches_fields}
use Rattle.wasm_context.proofs.MatchingLists.{too_few}
use Rattle.wasm_context.proofs.context.Context.matches_fields.Goals as goal

pub returns-then-given-wanted : goal.returns-then-given-wanted
returns-then-given-wanted c = λ locals.
    let few : length c.args.given.now < length c.args.wanted.now = grind arith in
    too_few (operands_in c.args.self.now locals) (map field_of c.args.given.now) (map field_of c.args.wanted.now)
    (omega (arith, length-map c.args.given.now field_of, length-map c.args.wanted.now field_of))

pub returns-then-not-matches_field : goal.returns-then-not-matches_field
returns-then-not-matches_field c = λ locals.
    let k = operands_in c.args.self.now locals in
    c.loop-a.invariant.same locals
    ∙ (λ i. matches_fields k (map field_of (c.in-Some.ensures.steps.0 i)) (map field_of (c.in-Some.ensures.steps.1 i)))
    ∙ ap (λ b. b && matches_fields k (map field_of c.next.new.self.a.rest.now) (map field_of c.next.new.self.b.rest.now)) (c.matches_field.ensures locals ∙ c.if-not-matches_field.true)

pub loop-a-preserved : goal.loop-a-preserved
loop-a-preserved c = record {
  enough = omega (arith, c.loop-a.invariant.enough, ap length c.in-Some.ensures.steps.0, ap length c.in-Some.ensures.steps.1);
  same = λ locals.
      let k = operands_in c.args.self.now locals in
      c.loop-a.invariant.same locals
      ∙ (λ i. matches_fields k (map field_of (c.in-Some.ensures.steps.0 i)) (map field_of (c.in-Some.ensures.steps.1 i)))
      ∙ ap (λ b. b && matches_fields k (map field_of c.next.new.self.a.rest.now) (map field_of c.next.new.self.b.rest.now)) (c.matches_field.ensures locals ∙ c.if-not-matches_field.false);
}
