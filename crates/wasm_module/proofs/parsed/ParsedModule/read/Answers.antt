use Rattle.std.proofs.Common.{◌≡◌, ℕ, List, Result, IfOk, sym, subst, refl}
use Rattle.wasm_sections.specs.declared.fault.ModuleError.{ModuleError}
use Rattle.wasm_sections.specs.Components.{module_of}
use Rattle.wasm_sections.specs.NextItems.{AreIndices}
use Rattle.wasm_sections.specs.Parts.{GivesUnlessMemory}
use Rattle.wasm_module.specs.declared.parsed.ParsedModule.{ParsedModule}
use Rattle.wasm_module.specs.ReadModules.{components_of, StepsTo}
use Rattle.wasm_module.proofs.ReadStepLemmas.{read_given, read_indices, value_holds}
use Rattle.wasm_module.proofs.parsed.ParsedModule.read.Goals as goal

pub returns-clause-bytes : goal.returns-clause-bytes
returns-clause-bytes c =
    let parsed : ParsedModule = record c.read_sections-read.new.self { bytes = c.args.bytes } in
    subst (λ (r : Result ParsedModule ModuleError). IfOk r (λ p. p.bytes.now ≡ c.args.bytes.now)) (sym c.value_if.ensures)
    (value_holds (λ (p : ParsedModule). p.bytes.now ≡ c.args.bytes.now) c.read_sections-read.result parsed refl)

pub returns-clause-is : goal.returns-clause-is
returns-clause-is c =
    let parsed : ParsedModule = record c.read_sections-read.new.self { bytes = c.args.bytes } in
    let unread = c.unread-parsed in
    let done = c.read_sections-read in
    let steps =
    subst (λ (l : List ℕ). StepsTo (λ n. n) (components_of unread.result) unread.result.spaces done.result (module_of l) (components_of done.new.self) done.new.self.spaces)
    unread.ensures.bytes (done.ensures unread.ensures.components) in
    subst (λ (r : Result ParsedModule ModuleError). GivesUnlessMemory components_of r (module_of c.args.bytes.now)) (sym c.value_if.ensures)
    (read_given parsed (components_of unread.result) unread.result.spaces done.result (module_of c.args.bytes.now) steps unread.ensures.read)

pub returns-clause-indices : goal.returns-clause-indices
returns-clause-indices c =
    let parsed : ParsedModule = record c.read_sections-read.new.self { bytes = c.args.bytes } in
    let unread = c.unread-parsed in
    let done = c.read_sections-read in
    let steps =
    subst (λ (l : List ℕ). StepsTo (λ n. n) (components_of unread.result) unread.result.spaces done.result (module_of l) (components_of done.new.self) done.new.self.spaces)
    unread.ensures.bytes (done.ensures unread.ensures.components) in
    subst (λ (r : Result ParsedModule ModuleError). IfOk r (λ p. AreIndices (components_of p) p.spaces)) (sym c.value_if.ensures)
    (read_indices parsed (components_of unread.result) unread.result.spaces done.result (module_of c.args.bytes.now) steps unread.ensures.read)
