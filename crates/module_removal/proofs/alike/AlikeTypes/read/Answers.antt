use Rattle.std.proofs.Common.{◌≡◌, List, ℕ, [], Result, Ok}
use Rattle.walrus_ir.specs.Types.{ModuleType}
use Rattle.wasm_sections.specs.declared.fault.ModuleError.{ModuleError}
use Rattle.wasm_sections.proofs.TypeReadingLemmas.{FailsUnlessMemory}
use Rattle.module_removal.proofs.AlikeLemmas.{types_of_section}
use Rattle.module_removal.proofs.alike.AlikeTypes.read.Goals as goal

pub returns-in-Ok : goal.returns-in-Ok
returns-in-Ok c =
    let following = c.add_groups.new.reader.input.rest.now in
    let reader = c.new-reader.result in (
      following,
      types_of_section (λ (r : Result (List ModuleType × List ℕ) ModuleError). r ≡ Ok (c.add_groups.new.self.types, following)) reader.limit c.args.count reader.input
          c.args.section c.new-reader.ensures.limit c.new-reader.ensures.input (c.in-Ok.ensures c.new.ensures),
    )

pub returns-in-Err : goal.returns-in-Err
returns-in-Err c =
    let reader = c.new-reader.result in (
      [],
      types_of_section (λ (r : Result (List ModuleType × List ℕ) ModuleError). FailsUnlessMemory c.in-Err.error r) reader.limit c.args.count reader.input c.args.section
          c.new-reader.ensures.limit c.new-reader.ensures.input (c.in-Err.ensures c.new.ensures),
    )
