use Rattle.std.proofs.Common.{◌+◌, ℕ, List, subst, ◌∙◌}
use Rattle.wasm_module.specs.ImportedFunctions.{ImportsFunction}
use Rattle.wasm_module.proofs.parsed.ParsedModule.import_function.Goals as goal

pub returns-in-Ok-clause-adds : goal.returns-in-Ok-clause-adds
returns-in-Ok-clause-adds c all m =
    let old = c.args.changes.now in
    let new = c.write_import.new.changes in
    let numbers = c.in_ok-numbers.numbers in
    let item = c.deref.result.now in
    let first = c.args.self.now.imported + c.args.self.now.spaces.more_imports in
    let imported = subst (λ (n : ℕ). ImportsFunction all n numbers.added item old new) c.in_ok-numbers.ensures.imported (c.in_ok-write_import.ensures all m) in
    let added = subst (λ (n : ℕ). ImportsFunction all first n item old new) c.in_ok-numbers.ensures.added imported in
    record {
      type = c.in_ok-index.index;
      type_is = c.in_ok-index.ensures;
      imports = subst (λ (l : List ℕ). ImportsFunction all first 1 l old new) (c.deref.ensures.value ∙ c.in_ok-item.ensures) added;
    }
