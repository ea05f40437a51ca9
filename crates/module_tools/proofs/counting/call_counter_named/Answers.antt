use Rattle.module_tools.proofs.counting.call_counter_named.Goals as goal

pub returns-in-Ok : goal.returns-in-Ok
returns-in-Ok c = record {
  kept = c.add_counter.ensures.kept;
  defines = c.in-Ok.ensures.defined;
  adds = λ all m.
      let added = c.in-Ok.ensures.adds all m in
      record {
        none = c.new-changes.result;
        none_given = c.new-changes.ensures.none_given;
        none_imported = c.new-changes.ensures.no_imports;
        between = added.0;
        adds_global = added.1;
        adds_export = added.2;
      };
}
