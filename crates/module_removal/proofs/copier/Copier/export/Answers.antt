use Rattle.std.proofs.Common.{[], Err}
use Rattle.wasm_sections.specs.declared.fault.ModuleFault.TheVariants as fault
use Rattle.module_removal.specs.CopiedParts.{◌>+>◌, copied_bytes, copied_index}
use Rattle.module_removal.specs.CopiedItems.{copied_kind}
use Rattle.module_removal.proofs.CopyLemmas.{then_copies, first_stops}
use Rattle.module_removal.proofs.copier.Copier.export.Goals as goal

pub returns-clause-is : goal.returns-clause-is
returns-clause-is c =
    then_copies (λ w. copied_bytes) (λ w u. copied_kind fault.BadExportKind >+> copied_index w) c.args.input.now.end c.args.input.now.rest.now c.args.self.now tt c.bytes.new.self c.bytes.new.input.end c.bytes.new.input.rest.now c.in-Ok.ensures.is c.in-Ok.ensures.same_end
    c.index.new.self c.index.new.input.rest.now c.index.result
    (then_copies (λ w. copied_kind fault.BadExportKind) (λ w. copied_index w) c.bytes.new.input.end c.bytes.new.input.rest.now c.bytes.new.self c.in-Ok-kind.value c.kind.new.self c.kind.new.input.end c.kind.new.input.rest.now c.in-Ok-kind.ensures.is c.in-Ok-kind.ensures.same_end
    c.index.new.self c.index.new.input.rest.now c.index.result
    (c.index.ensures.is))

pub returns-in-Err-clause-is : goal.returns-in-Err-clause-is
returns-in-Err-clause-is c =
    first_stops (λ w. copied_bytes) (λ w u. copied_kind fault.BadExportKind >+> copied_index w) c.args.input.now.end c.args.input.now.rest.now c.args.self.now c.in-Err.error c.in-Err.ensures.is

pub returns-in-Err-kind-clause-is : goal.returns-in-Err-kind-clause-is
returns-in-Err-kind-clause-is c =
    then_copies (λ w. copied_bytes) (λ w u. copied_kind fault.BadExportKind >+> copied_index w) c.args.input.now.end c.args.input.now.rest.now c.args.self.now tt c.bytes.new.self c.bytes.new.input.end c.bytes.new.input.rest.now c.in-Ok.ensures.is c.in-Ok.ensures.same_end
    c.args.self.now [] (Err c.in-Err-kind.error)
    (first_stops (λ w. copied_kind fault.BadExportKind) (λ w. copied_index w) c.bytes.new.input.end c.bytes.new.input.rest.now c.bytes.new.self c.in-Err-kind.error c.in-Err-kind.ensures.is)
