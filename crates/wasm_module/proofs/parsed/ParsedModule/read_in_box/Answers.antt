use Rattle.std.proofs.Common.{Box, Global}
use Rattle.wasm_sections.specs.Components.{module_of}
use Rattle.wasm_module.specs.declared.parsed.ParsedModule.{ParsedModule}
use Rattle.wasm_module.specs.ReadModules.{components_of}
use Rattle.wasm_module.proofs.ReadStepLemmas.{boxed_given}
use Rattle.wasm_module.proofs.parsed.ParsedModule.read_in_box.Goals as goal

pub returns-clause-is : goal.returns-clause-is
returns-clause-is c =
    boxed_given components_of (λ (b : Box ParsedModule Global). b.value) c.read.result c.in_box.result (module_of c.args.bytes.now) c.in_box.ensures.value c.in_box.ensures.error
    c.read.ensures.is
