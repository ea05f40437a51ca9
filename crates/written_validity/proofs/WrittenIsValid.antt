-- The law of written code: the raw body, part by part.
use Rattle.std.proofs.Common.{◌≡◌, ℕ, List, [], ◌++◌, length, map, take, Ok, sym, subst}
use Rattle.wasm_types.specs.declared.val_type.ValType.{ValType}
use Rattle.wasm_operators.specs.declared.types.Space.TheVariants.{Types}
use Rattle.wasm_operators.proofs.ListLaws.{one_list}
use Rattle.wasm_body.specs.Bytes.{tree_bytes}
use Rattle.wasm_body.specs.FunctionTree.{FunctionTree}
use Rattle.wasm_body.specs.LocalNumbers.{types_of, ids_of, uses_local, AreDeclared, numbering_locals, spread}
use Rattle.wasm_body.specs.NormalForm.{body_tree}
use Rattle.wasm_body.specs.Parsing.Accepted.{placed}
use Rattle.wasm_body.proofs.ReadBack.ReadingBack.{texts_of}
use Rattle.wasm_context.specs.Validation.{steps_through}
use Rattle.wasm_validation.specs.BodyValidation.{BodySetting, begin_state, IsValidCode}
use Rattle.renamed_locals.specs.DeclaredLocals.{parameter_indices, TypesKeepNumbers}
use Rattle.renamed_locals.specs.RenamedLocals.{context_with_locals}
use Rattle.renamed_locals.proofs.NumberedLocals.{declarations_have_types}
use Rattle.written_validity.specs.WrittenCode.{id_of_local, WrittenIsValid}
use Rattle.written_validity.proofs.OtherPlaces.{valid_at_each_place}
use Rattle.written_validity.proofs.WrittenValid.{valid_again}

-- what a body is validated against, if the locals after its parameters have these types
abbrev setting_with_types : BodySetting → List (ValType ℕ) → BodySetting
setting_with_types g types =
    record g { context = record g.context { operands = context_with_locals g.context.operands (take g.parameters g.context.operands.locals ++ types) } }

pub written_is_valid : (V : Type 0) → WrittenIsValid V
written_is_valid V given source b accepted g by same place valid_there raw pairs w start =
    let valid = valid_at_each_place g place given.start source valid_there in
    let env = given.environment in
    let tree : FunctionTree = body_tree env b in
    let args = map (id_of_local env) (parameter_indices g.parameters) in
    let operators : valid.operators ≡ map placed accepted.operators = one_list valid.operators (map placed accepted.operators) given.start source [] valid.leads.listed accepted.all.spelt in
    let steps : steps_through g.context (begin_state g) (map placed accepted.operators) ≡ Ok valid.reached = subst (λ xs. steps_through g.context (begin_state g) xs ≡ Ok valid.reached) operators valid.leads.steps in
    let keep : TypesKeepNumbers by.to = λ id n e. sym (same.is_module.index Types n id (same.numbers Types id n e)) in
    let types : spread w.declarations ≡ types_of w.others = declarations_have_types by.to keep (length by.args) w.others w.declarations w.declarations_are in
    let are : AreDeclared by.types args (uses_local tree) w.others = subst (λ ids. AreDeclared by.types ids (uses_local tree) w.others) same.args w.are_declared in
    let written : tree_bytes (numbering_locals by.to args (ids_of w.others)) tree ≡ Ok w.operators =
    subst (λ ids. tree_bytes (numbering_locals by.to ids (ids_of w.others)) tree ≡ Ok w.operators) same.args w.operators_are in
    let again = valid_again env accepted.operators b (texts_of accepted.operators given.start source [] accepted.all.spelt) accepted.lawful g.context same.is_module same.index_of same.indices
    by.types same.types g.parameters same.parameters same.have_ids by.to same.numbers same.balanced w.others are w.operators written start g.results valid.reached steps valid.closed in
    let whole : IsValidCode (setting_with_types g (types_of w.others)) start w.operators = record {
      operators = again.operators;
      reached = again.reached;
      leads = record { listed = again.listed; steps = again.steps };
      closed = again.closed;
    } in
    subst (λ ts. IsValidCode (setting_with_types g ts) start w.operators) (sym types) whole
