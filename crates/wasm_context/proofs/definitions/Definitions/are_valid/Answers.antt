use Rattle.std.proofs.Common.{◌≡◌, ◌+◌, ◌<◌, length, drop, ◌&&◌, arith, rules, ap, ◌∙◌}
use Rattle.wasm_context.specs.ValidTypes.{types_alone}
use Rattle.wasm_context.proofs.ValidDefinitions.{flat, are_subtypes, all_groups, next_subtype, no_subtypes, length_is}
use Rattle.wasm_context.proofs.definitions.Definitions.are_valid.Goals as goal

pub loop-own-init : goal.loop-own-init
loop-own-init c = λ groups is. all_groups (types_alone groups) (flat groups) 0 groups is.closed

pub returns-then-not-is_subtype : goal.returns-then-not-is_subtype
returns-then-not-is_subtype c = λ groups is.
    let k = types_alone groups in
    let ts = flat groups in
    let own = c.loop-own.own in
    let types : c.len-own-end.result ≡ length c.args.self.now.context.types.items = search rules in
    let more : own < length ts = omega (arith, length_is c.args.self.now groups is) in
    c.loop-own.invariant groups is ∙ next_subtype k ts own own ts more
    ∙ ap (λ b. b && are_subtypes k ts (own + 1) (drop (own + 1) ts)) (c.is_subtype.ensures groups is ∙ c.if-not-is_subtype.true)

pub loop-own-preserved : goal.loop-own-preserved
loop-own-preserved c = λ groups is.
    let k = types_alone groups in
    let ts = flat groups in
    let own = c.loop-own.own in
    let types : c.len-own-end.result ≡ length c.args.self.now.context.types.items = search rules in
    let more : own < length ts = omega (arith, length_is c.args.self.now groups is) in
    c.loop-own.invariant groups is ∙ next_subtype k ts own own ts more
    ∙ ap (λ b. b && are_subtypes k ts (own + 1) (drop (own + 1) ts)) (c.is_subtype.ensures groups is ∙ c.if-not-is_subtype.false)

pub returns : goal.returns
returns c = λ groups is.
    let types : c.len-own-end.result ≡ length c.args.self.now.context.types.items = search rules in
    c.loop-own.invariant groups is
    ∙ no_subtypes (types_alone groups) (flat groups) c.loop-own.own c.loop-own.own (flat groups) (omega (arith, length_is c.args.self.now groups is))
