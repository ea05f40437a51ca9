use Rattle.std.proofs.Common.{◌≡◌}
use Rattle.wasm_sections.specs.Format.{members_part, next_type}
use Rattle.module_removal.proofs.AlikeLemmas.{TypesLeft}
use Rattle.module_removal.proofs.alike.AlikeTypes.add_group.Given as goal

abbrev pub invariant-group : goal.invariant-group
invariant-group l = record {
  same_limit : l.reader.limit ≡ l.fn.reader.limit;
  same_end : l.reader.input.end ≡ l.fn.reader.input.end;
  types :
      TypesLeft members_part (next_type l.fn.reader.limit) l.members l.counter l.fn.self.types l.self.types l.fn.reader.input.end l.fn.reader.input.rest.now l.reader.input.rest.now;
}
