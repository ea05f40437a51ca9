use Rattle.std.proofs.Common.{[], ◌∷◌, Err, refl, inl}
use Rattle.module_removal.specs.CopiedParts.{writes, puts, ◌>+>◌}
use Rattle.module_removal.specs.CopiedConstants.{copied_constant}
use Rattle.module_removal.specs.CopiedItems.{copied_table_type}
use Rattle.module_removal.proofs.CopyLemmas.{then_copies, first_stops}
use Rattle.module_removal.proofs.copier.Copier.initialized.Goals as goal

pub returns-clause-is : goal.returns-clause-is
returns-clause-is c =
    then_copies (λ w. puts (0x40 ∷ 0x00 ∷ [])) (λ w u. copied_table_type w >+> λ u. copied_constant w) c.args.input.now.end c.args.input.now.rest.now c.args.self.now tt c.put.new.self c.args.input.now.end c.args.input.now.rest.now (writes (0x40 ∷ 0x00 ∷ []), refl, c.in-Ok.ensures.ok) refl
    c.constant.new.self c.constant.new.input.rest.now c.constant.result
    (then_copies copied_table_type (λ w u. copied_constant w) c.args.input.now.end c.args.input.now.rest.now c.put.new.self tt c.table_type.new.self c.table_type.new.input.end c.table_type.new.input.rest.now c.in-Ok-table_type.ensures.is c.in-Ok-table_type.ensures.same_end
    c.constant.new.self c.constant.new.input.rest.now c.constant.result
    c.constant.ensures.is)

pub returns-in-Err-clause-is : goal.returns-in-Err-clause-is
returns-in-Err-clause-is c =
    inl c.in-Err.ensures.err

pub returns-in-Err-table_type-clause-is : goal.returns-in-Err-table_type-clause-is
returns-in-Err-table_type-clause-is c =
    then_copies (λ w. puts (0x40 ∷ 0x00 ∷ [])) (λ w u. copied_table_type w >+> λ u. copied_constant w) c.args.input.now.end c.args.input.now.rest.now c.args.self.now tt c.put.new.self c.args.input.now.end c.args.input.now.rest.now (writes (0x40 ∷ 0x00 ∷ []), refl, c.in-Ok.ensures.ok) refl
    c.args.self.now [] (Err c.in-Err-table_type.error)
    (first_stops copied_table_type (λ w u. copied_constant w) c.args.input.now.end c.args.input.now.rest.now c.put.new.self c.in-Err-table_type.error c.in-Err-table_type.ensures.is)
