-- What is read of a module that was written, by any writing of its bodies.
use Rattle.std.proofs.Common.{List, ℕ}
use Rattle.wasm_sections.specs.declared.changes.Changes.{Changes}
use Rattle.wasm_sections.specs.declared.omissions.OmittedSections.{OmittedSections}
use Rattle.wasm_module.specs.declared.parsed.ParsedModule.{ParsedModule}
use Rattle.wasm_module.specs.WrittenModules.{BodyWriting, IsWrittenModule}
use Rattle.wasm_module.specs.WrittenSections.{IsReadAsWritten}
use Rattle.wasm_module.proofs.ModuleCodeLemmas.{of_sections}
use Rattle.wasm_module.proofs.SectionContentLemmas.{written_contents}
use Rattle.wasm_module.proofs.SectionOrderLemmas.{written_in_order}
use Rattle.wasm_module.proofs.SpelledModuleLemmas.{spelled_module}
use Rattle.wasm_module.proofs.WrittenSectionLemmas.{written_sections}

pub read_as_written :
    (writes : BodyWriting) (source : ParsedModule) (changes : Changes) (omits : OmittedSections) (new : List ℕ) → IsWrittenModule writes source changes omits new →
    IsReadAsWritten writes source changes omits new
read_as_written writes source changes omits new w =
    let h = written_sections writes source changes omits new w in
    record {
      written = h;
      spells = λ m. (λ e. of_sections new m h.sections e h.is_module, λ is. spelled_module new m h.sections h.is_module is);
      contents = λ m spells id some ten. written_contents id some writes source changes omits new h m spells ten;
      in_order = written_in_order writes source changes omits new h;
    }
