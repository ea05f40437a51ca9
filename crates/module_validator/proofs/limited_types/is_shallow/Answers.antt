use Rattle.std.proofs.Common.{◌≡◌, map, Option, Some, None, Bor, sym, ap, ◌∙◌}
use Rattle.std.specs.Prelude.{option_map}
use Rattle.wasm_typing.specs.Contexts as standard
use Rattle.wasm_context.specs.Contexts.{defined_of}
use Rattle.wasm_context.specs.declared.types.DefinedType.{DefinedType}
use Rattle.module_validator.specs.EngineLimits.{supertype_in}
use Rattle.module_validator.proofs.SupertypeLemmas.{one_above, none_above, all_above}
use Rattle.module_validator.proofs.limited_types.is_shallow.Goals as goal

-- as the definition has it
abbrev view : Option (Bor DefinedType) → Option standard.DefinedType
view o = option_map (λ ty. defined_of ty.now) o

pub returns-in-None : goal.returns-in-None
returns-in-None c =
    let at = c.supertypes in
    let ts = map defined_of c.args.types.now in
    let is : supertype_in ts at.declared ≡ None = sym c.supertype_in.ensures ∙ ap view c.in-None.is in
    at.invariant ∙ none_above 64 at.counter ts at.declared c.supertypes-test.true is

pub supertypes-preserved : goal.supertypes-preserved
supertypes-preserved c =
    let at = c.supertypes in
    let ts = map defined_of c.args.types.now in
    let t = defined_of c.in-Some.supertype.now in
    let is : supertype_in ts at.declared ≡ Some t = sym c.supertype_in.ensures ∙ ap view c.in-Some.is in
    at.invariant ∙ one_above 64 at.counter ts at.declared t c.supertypes-test.true is

pub returns : goal.returns
returns c =
    let at = c.supertypes in
    at.invariant ∙ all_above 64 at.counter (map defined_of c.args.types.now) at.declared c.supertypes-test.false
