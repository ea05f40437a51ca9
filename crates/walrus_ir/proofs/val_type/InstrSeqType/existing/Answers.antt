use Rattle.std.proofs.Common.{◌<◌, length, arith, ◌⊎◌, inl, inr, ◌∙◌, ap}
use Rattle.std.specs.Option.{option_map}
use Rattle.std.proofs.lemmas.Bool.Decides.{nat_tests}
use Rattle.walrus_ir.specs.declared.val_type.InstrSeqType.TheVariants.{MultiValue}
use Rattle.walrus_ir.proofs.Positions.{option_map_is, needs_type}
use Rattle.walrus_ir.proofs.val_type.InstrSeqType.existing.Goals as goal
use Rattle.walrus_ir.proofs.val_type.InstrSeqType.existing.Goals.{else-is_empty-via-then-is_empty+else-results-lt2, else-is_empty-via-else-is_empty}

pub returns : goal.returns
returns c =
    let needed : (0 < length c.args.params.now) ⊎ (1 < length c.args.results.now) =
    elim c.else-is_empty.branch [
      | else-is_empty-via-then-is_empty+else-results-lt2 w ↦ inr (omega arith)
      | else-is_empty-via-else-is_empty w ↦ inl (grind (arith, nat_tests))
    ] in
    option_map_is MultiValue _ _ c.map.ensures.cases ∙ (ap (option_map MultiValue) c.find.ensures ∙ needs_type c.args.types.now c.args.params.now c.args.results.now needed)
