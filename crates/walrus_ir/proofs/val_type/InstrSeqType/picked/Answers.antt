use Rattle.std.proofs.Common.{◌≡◌, ◌<◌, length, Some, arith, ◌⊎◌, inl, inr, sym, subst, ◌∙◌, ap}
use Rattle.std.specs.Prelude.{IsSomeAnd}
use Rattle.std.specs.Option.{option_map}
use Rattle.std.proofs.lemmas.Bool.Decides.{nat_tests}
use Rattle.walrus_ir.specs.declared.val_type.InstrSeqType.TheVariants.{MultiValue}
use Rattle.walrus_ir.specs.Types.{signature, signature_of, find, existing, pick}
use Rattle.walrus_ir.proofs.Positions.{option_map_is, needs_type}
use Rattle.walrus_ir.proofs.val_type.InstrSeqType.picked.Goals as goal
use Rattle.walrus_ir.proofs.val_type.InstrSeqType.picked.Goals.{else-is_empty-via-then-is_empty+else-results-lt2, else-is_empty-via-else-is_empty}

pub returns : goal.returns
returns c =
    let types = c.args.types.now in
    let params = c.params_results.result.0.now in
    let results = c.params_results.result.1.now in
    let needed : (0 < length params) ⊎ (1 < length results) =
    elim c.else-is_empty.branch [
      | else-is_empty-via-then-is_empty+else-results-lt2 w ↦ inr (omega arith)
      | else-is_empty-via-else-is_empty w ↦ inl (grind (arith, nat_tests))
    ] in
    let is : signature_of types c.args.id ≡ Some (signature params results) = c.params_results.ensures in
    let found : c.first_alike.result ≡ find types params results =
    subst (λ o. IsSomeAnd o (λ s. c.first_alike.result ≡ find types s.parameters s.results)) is c.first_alike.ensures in
    let picked : c.map.result ≡ existing types params results =
    option_map_is MultiValue _ _ c.map.ensures.cases ∙ (ap (option_map MultiValue) found ∙ needs_type types params results needed) in
    subst (λ o. IsSomeAnd o (λ s. c.map.result ≡ pick types s)) (sym is) picked
