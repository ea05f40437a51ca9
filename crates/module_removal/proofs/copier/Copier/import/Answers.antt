use Rattle.std.proofs.Common.{[], Ok, Err}
use Rattle.wasm_sections.specs.declared.fault.ModuleFault.TheVariants as fault
use Rattle.module_removal.specs.LeftSpaces.{index_written}
use Rattle.module_removal.specs.CopiedParts.{◌>+>◌, with_other_value, copied_bytes}
use Rattle.module_removal.specs.CopiedItems.{copied_kind, copied_imported}
use Rattle.module_removal.proofs.CopyLemmas.{then_copies, first_stops, value_copies, value_fails}
use Rattle.module_removal.proofs.copier.Copier.import.Goals as goal

pub returns-in-Ok-imported-clause-is : goal.returns-in-Ok-imported-clause-is
returns-in-Ok-imported-clause-is c =
    then_copies (λ w. copied_bytes) (λ w u. copied_bytes >+> λ u. copied_kind fault.BadImportKind >+> λ space. with_other_value (λ u. space) (copied_imported w space)) c.args.input.now.end c.args.input.now.rest.now c.args.self.now tt c.bytes.new.self c.bytes.new.input.end c.bytes.new.input.rest.now c.in-Ok.ensures.is c.in-Ok.ensures.same_end
    c.imported.new.self c.imported.new.input.rest.now (Ok c.in-Ok-kind.value)
    (then_copies (λ w. copied_bytes) (λ w u. copied_kind fault.BadImportKind >+> λ space. with_other_value (λ u. space) (copied_imported w space)) c.bytes.new.input.end c.bytes.new.input.rest.now c.bytes.new.self tt c.bytes-2.new.self c.bytes-2.new.input.end c.bytes-2.new.input.rest.now c.in-Ok-bytes.ensures.is c.in-Ok-bytes.ensures.same_end
    c.imported.new.self c.imported.new.input.rest.now (Ok c.in-Ok-kind.value)
    (then_copies (λ w. copied_kind fault.BadImportKind) (λ w space. with_other_value (λ u. space) (copied_imported w space)) c.bytes-2.new.input.end c.bytes-2.new.input.rest.now c.bytes-2.new.self c.in-Ok-kind.value c.kind.new.self c.kind.new.input.end c.kind.new.input.rest.now c.in-Ok-kind.ensures.is c.in-Ok-kind.ensures.same_end
    c.imported.new.self c.imported.new.input.rest.now (Ok c.in-Ok-kind.value)
    (value_copies (λ u. c.in-Ok-kind.value) (copied_imported (index_written c.kind.new.self.left) c.in-Ok-kind.value) c.kind.new.input.end c.kind.new.input.rest.now c.kind.new.self c.imported.new.self c.imported.new.input.rest.now tt c.in-Ok-imported.ensures.is)))

pub returns-in-Err-imported-clause-is : goal.returns-in-Err-imported-clause-is
returns-in-Err-imported-clause-is c =
    then_copies (λ w. copied_bytes) (λ w u. copied_bytes >+> λ u. copied_kind fault.BadImportKind >+> λ space. with_other_value (λ u. space) (copied_imported w space)) c.args.input.now.end c.args.input.now.rest.now c.args.self.now tt c.bytes.new.self c.bytes.new.input.end c.bytes.new.input.rest.now c.in-Ok.ensures.is c.in-Ok.ensures.same_end
    c.imported.new.self c.imported.new.input.rest.now (Err c.in-Err-imported.error)
    (then_copies (λ w. copied_bytes) (λ w u. copied_kind fault.BadImportKind >+> λ space. with_other_value (λ u. space) (copied_imported w space)) c.bytes.new.input.end c.bytes.new.input.rest.now c.bytes.new.self tt c.bytes-2.new.self c.bytes-2.new.input.end c.bytes-2.new.input.rest.now c.in-Ok-bytes.ensures.is c.in-Ok-bytes.ensures.same_end
    c.imported.new.self c.imported.new.input.rest.now (Err c.in-Err-imported.error)
    (then_copies (λ w. copied_kind fault.BadImportKind) (λ w space. with_other_value (λ u. space) (copied_imported w space)) c.bytes-2.new.input.end c.bytes-2.new.input.rest.now c.bytes-2.new.self c.in-Ok-kind.value c.kind.new.self c.kind.new.input.end c.kind.new.input.rest.now c.in-Ok-kind.ensures.is c.in-Ok-kind.ensures.same_end
    c.imported.new.self c.imported.new.input.rest.now (Err c.in-Err-imported.error)
    (value_fails (λ u. c.in-Ok-kind.value) (copied_imported (index_written c.kind.new.self.left) c.in-Ok-kind.value) c.kind.new.input.end c.kind.new.input.rest.now c.kind.new.self c.imported.new.self c.imported.new.input.rest.now c.in-Err-imported.error c.in-Err-imported.ensures.is)))

pub returns-in-Err-clause-is : goal.returns-in-Err-clause-is
returns-in-Err-clause-is c =
    first_stops (λ w. copied_bytes) (λ w u. copied_bytes >+> λ u. copied_kind fault.BadImportKind >+> λ space. with_other_value (λ u. space) (copied_imported w space)) c.args.input.now.end c.args.input.now.rest.now c.args.self.now c.in-Err.error c.in-Err.ensures.is

pub returns-in-Err-bytes-clause-is : goal.returns-in-Err-bytes-clause-is
returns-in-Err-bytes-clause-is c =
    then_copies (λ w. copied_bytes) (λ w u. copied_bytes >+> λ u. copied_kind fault.BadImportKind >+> λ space. with_other_value (λ u. space) (copied_imported w space)) c.args.input.now.end c.args.input.now.rest.now c.args.self.now tt c.bytes.new.self c.bytes.new.input.end c.bytes.new.input.rest.now c.in-Ok.ensures.is c.in-Ok.ensures.same_end
    c.args.self.now [] (Err c.in-Err-bytes.error)
    (first_stops (λ w. copied_bytes) (λ w u. copied_kind fault.BadImportKind >+> λ space. with_other_value (λ u. space) (copied_imported w space)) c.bytes.new.input.end c.bytes.new.input.rest.now c.bytes.new.self c.in-Err-bytes.error c.in-Err-bytes.ensures.is)

pub returns-in-Err-kind-clause-is : goal.returns-in-Err-kind-clause-is
returns-in-Err-kind-clause-is c =
    then_copies (λ w. copied_bytes) (λ w u. copied_bytes >+> λ u. copied_kind fault.BadImportKind >+> λ space. with_other_value (λ u. space) (copied_imported w space)) c.args.input.now.end c.args.input.now.rest.now c.args.self.now tt c.bytes.new.self c.bytes.new.input.end c.bytes.new.input.rest.now c.in-Ok.ensures.is c.in-Ok.ensures.same_end
    c.args.self.now [] (Err c.in-Err-kind.error)
    (then_copies (λ w. copied_bytes) (λ w u. copied_kind fault.BadImportKind >+> λ space. with_other_value (λ u. space) (copied_imported w space)) c.bytes.new.input.end c.bytes.new.input.rest.now c.bytes.new.self tt c.bytes-2.new.self c.bytes-2.new.input.end c.bytes-2.new.input.rest.now c.in-Ok-bytes.ensures.is c.in-Ok-bytes.ensures.same_end
    c.args.self.now [] (Err c.in-Err-kind.error)
    (first_stops (λ w. copied_kind fault.BadImportKind) (λ w space. with_other_value (λ u. space) (copied_imported w space)) c.bytes-2.new.input.end c.bytes-2.new.input.rest.now c.bytes-2.new.self c.in-Err-kind.error c.in-Err-kind.ensures.is))
