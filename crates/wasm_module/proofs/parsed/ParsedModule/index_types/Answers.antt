use Rattle.std.proofs.Common.{◌∙◌, ap}
use Rattle.wasm_sections.specs.declared.spaces.Counts.{Counts}
use Rattle.wasm_module.specs.ReadModules.{components_of}
use Rattle.wasm_module.proofs.ReadingLemmas.{with_counts, index_fails, index_added}
use Rattle.wasm_module.proofs.parsed.ParsedModule.index_types.Goals as goal

pub returns-in-Err-clause-is : goal.returns-in-Err-clause-is
returns-in-Err-clause-is c = λ none so.
    let at = c.types in
    index_fails (components_of c.args.self.now) at.index c.args.count at.self.spaces c.add_type.new.self c.in-Err.error c.of_index.result (at.invariant.indexed none so)
    c.types-test.true c.in-Err.ensures.refused c.of_index.ensures.fault c.of_index.ensures.place

pub types-preserved : goal.types-preserved
types-preserved c =
    let at = c.types in
    let e = c.in-Ok.ensures in
    record {
      others = record {
        components = ap (λ (x : Counts). with_counts x (components_of at.self)) e.added.counts ∙ at.invariant.others.components;
        tags = ap (λ (x : Counts). x.tags) e.added.counts ∙ at.invariant.others.tags;
        types = at.invariant.others.types;
      };
      indexed = λ none so.
          index_added (components_of c.args.self.now) at.index c.new.result at.self.spaces c.add_type.new.self (at.invariant.indexed none so) c.new.ensures e.added e.numbered;
    }
