use Rattle.std.proofs.Common.{◌≡◌, ◌&&◌, Some, None, sym, ap, ◌∙◌}
use Rattle.std.specs.Prelude.{not, slice_get, option_map}
use Rattle.std.proofs.lemmas.Bool.{lt-ltb, le-ltb}
use Rattle.wasm_typing.specs.Matching.{holds_of}
use Rattle.wasm_typing.specs.RecursiveTypes.{DeclaredType}
use Rattle.wasm_context.specs.Contexts.{composite_in}
use Rattle.wasm_context.specs.ValidTypes.{types_alone, matches_composite, is_valid_supertype}
use Rattle.wasm_context.proofs.ValidDefinitions.{flat, is_subtype, parts_here, parts_of, parts_at, read_there, read_none, none_holds, one_holds}
use Rattle.wasm_context.proofs.definitions.Definitions.is_subtype.Goals as goal

pub returns-then-index-own : goal.returns-then-index-own
returns-then-index-own c = λ groups is.
    let d = c.args.self.now in
    let k = types_alone groups in
    let ts = flat groups in
    let t = composite_in c.in-Some.ty.now.composite in
    let here : slice_get d.context.types.items c.args.own ≡ Some c.in-Some.ty.now = read_there _ _ _ _ c.deref.ensures.value c.in-Some.ensures.lookup.0 c.in-Some.ensures.lookup.1 in
    one_holds (λ p. is_valid_supertype k ts c.args.own p.0 p.1) (slice_get ts c.args.own) c.in-Some.ty.now
    (ap (option_map parts_here) (sym here) ∙ parts_at d groups is c.args.own)
    ∙ ap (is_valid_supertype k ts c.args.own t) c.in-Some-supertype.is
    ∙ ap (λ b. b && holds_of (λ (s : DeclaredType). not s.final && matches_composite k t s.composite) (slice_get ts c.in-Some-supertype.index))
    (lt-ltb c.in-Some-supertype.index c.args.own c.if-index-own.true)
    ∙ c.is_extended.ensures groups is

pub returns-else-index-own : goal.returns-else-index-own
returns-else-index-own c = λ groups is.
    let low = le-ltb c.in-Some-supertype.index c.args.own c.if-index-own.false in
    let d = c.args.self.now in
    let k = types_alone groups in
    let ts = flat groups in
    let t = composite_in c.in-Some.ty.now.composite in
    let here : slice_get d.context.types.items c.args.own ≡ Some c.in-Some.ty.now = read_there _ _ _ _ c.deref.ensures.value c.in-Some.ensures.lookup.0 c.in-Some.ensures.lookup.1 in
    one_holds (λ p. is_valid_supertype k ts c.args.own p.0 p.1) (slice_get ts c.args.own) c.in-Some.ty.now
    (ap (option_map parts_here) (sym here) ∙ parts_at d groups is c.args.own)
    ∙ ap (is_valid_supertype k ts c.args.own t) c.in-Some-supertype.is
    ∙ ap (λ b. b && holds_of (λ (s : DeclaredType). not s.final && matches_composite k t s.composite) (slice_get ts c.in-Some-supertype.index))
    low ∙ sym low

pub returns-in-None-supertype : goal.returns-in-None-supertype
returns-in-None-supertype c = λ groups is.
    let d = c.args.self.now in
    let k = types_alone groups in
    let ts = flat groups in
    let here : slice_get d.context.types.items c.args.own ≡ Some c.in-Some.ty.now = read_there _ _ _ _ c.deref.ensures.value c.in-Some.ensures.lookup.0 c.in-Some.ensures.lookup.1 in
    one_holds (λ p. is_valid_supertype k ts c.args.own p.0 p.1) (slice_get ts c.args.own) c.in-Some.ty.now
    (ap (option_map parts_here) (sym here) ∙ parts_at d groups is c.args.own)
    ∙ ap (is_valid_supertype k ts c.args.own (composite_in c.in-Some.ty.now.composite)) c.in-None-supertype.is

pub returns-in-None : goal.returns-in-None
returns-in-None c = λ groups is.
    let d = c.args.self.now in
    let here : slice_get d.context.types.items c.args.own ≡ None = read_none _ _ _ c.deref.ensures.value c.in-None.ensures.lookup.0 in
    none_holds parts_of (is_subtype (types_alone groups) (flat groups) c.args.own)
    (slice_get (flat groups) c.args.own) (ap (option_map parts_here) (sym here) ∙ parts_at d groups is c.args.own)
