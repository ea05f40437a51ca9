use Rattle.std.proofs.Common.{◌≡◌, [], not, ◌&&◌, Some, None, sym, ap, ◌∙◌}
use Rattle.std.specs.Prelude.{slice_get, option_map}
use Rattle.wasm_typing.specs.RecursiveTypes.{DeclaredType}
use Rattle.wasm_context.specs.Contexts.{composite_in}
use Rattle.wasm_context.specs.ValidTypes.{types_alone, matches_composite}
use Rattle.wasm_context.proofs.ValidDefinitions.{flat, parts_here, parts_of, parts_at, final_at, read_there, read_none, read_copied, none_holds, extended_holds}
use Rattle.wasm_context.proofs.definitions.Definitions.is_extended.Goals as goal

pub returns-then-not-is_final : goal.returns-then-not-is_final
returns-then-not-is_final c = λ groups is.
    let d = c.args.self.now in
    let here : slice_get d.context.types.items c.args.index ≡ Some c.in-Some.ty.now = read_there _ _ _ _ c.deref.ensures.value c.in-Some.ensures.lookup.0 c.in-Some.ensures.lookup.1 in
    let final : slice_get d.finals.items c.args.index ≡ Some c.in-Some-copied.is_final = read_copied _ _ _ _ c.deref-in-Some.ensures.value c.get-in-Some.ensures.lookup.0 c.get-in-Some.ensures.lookup.1 ∙ sym c.copied.ensures ∙ c.in-Some-copied.is in
    let test = matches_composite (types_alone groups) (composite_in c.args.composite.now) in
    extended_holds test (slice_get (flat groups) c.args.index) c.in-Some-copied.is_final c.in-Some.ty.now
    (sym final ∙ final_at d groups is c.args.index) (ap (option_map parts_here) (sym here) ∙ parts_at d groups is c.args.index)
    ∙ (λ i. not (c.if-not-is_final.true i) && matches_composite (sym is.context_is i) (composite_in c.args.composite.now) (composite_in c.in-Some.ty.now.composite))
    ∙ c.matches_composite.ensures []

pub returns-else-not-is_final : goal.returns-else-not-is_final
returns-else-not-is_final c = λ groups is.
    let d = c.args.self.now in
    let here : slice_get d.context.types.items c.args.index ≡ Some c.in-Some.ty.now = read_there _ _ _ _ c.deref.ensures.value c.in-Some.ensures.lookup.0 c.in-Some.ensures.lookup.1 in
    let final : slice_get d.finals.items c.args.index ≡ Some c.in-Some-copied.is_final = read_copied _ _ _ _ c.deref-in-Some.ensures.value c.get-in-Some.ensures.lookup.0 c.get-in-Some.ensures.lookup.1 ∙ sym c.copied.ensures ∙ c.in-Some-copied.is in
    let test = matches_composite (types_alone groups) (composite_in c.args.composite.now) in
    extended_holds test (slice_get (flat groups) c.args.index) c.in-Some-copied.is_final c.in-Some.ty.now
    (sym final ∙ final_at d groups is c.args.index) (ap (option_map parts_here) (sym here) ∙ parts_at d groups is c.args.index)
    ∙ ap (λ b. not b && test (composite_in c.in-Some.ty.now.composite)) c.if-not-is_final.false
    ∙ sym (ap not c.if-not-is_final.false)

pub returns-in-None-copied : goal.returns-in-None-copied
returns-in-None-copied c = λ groups is.
    let d = c.args.self.now in
    let final : slice_get d.finals.items c.args.index ≡ None = read_copied _ _ _ _ c.deref-in-Some.ensures.value c.get-in-Some.ensures.lookup.0 c.get-in-Some.ensures.lookup.1 ∙ sym c.copied.ensures ∙ c.in-None-copied.is in
    none_holds (λ (s : DeclaredType). s.final)
    (λ (s : DeclaredType). not s.final && matches_composite (types_alone groups) (composite_in c.args.composite.now) s.composite)
    (slice_get (flat groups) c.args.index) (sym final ∙ final_at d groups is c.args.index)

pub returns-in-None : goal.returns-in-None
returns-in-None c = λ groups is.
    let d = c.args.self.now in
    let here : slice_get d.context.types.items c.args.index ≡ None = read_none _ _ _ c.deref.ensures.value c.in-None.ensures.lookup.0 in
    none_holds parts_of
    (λ (s : DeclaredType). not s.final && matches_composite (types_alone groups) (composite_in c.args.composite.now) s.composite)
    (slice_get (flat groups) c.args.index) (ap (option_map parts_here) (sym here) ∙ parts_at d groups is c.args.index)
