use Rattle.std.proofs.Common.{◌≡◌, []}
use Rattle.wasm_sections.specs.Format.{next_group}
use Rattle.wasm_sections.specs.Parts.{number}
use Rattle.module_removal.proofs.AlikeLemmas.{TypesLeft}
use Rattle.module_removal.proofs.alike.AlikeTypes.add_groups.Given as goal

abbrev pub invariant-all : goal.invariant-all
invariant-all l = record {
  same_limit : l.reader.limit ≡ l.fn.reader.limit;
  same_end : l.reader.input.end ≡ l.fn.reader.input.end;
  types :
      l.fn.self.types ≡ [] →
      TypesLeft number (next_group l.fn.reader.limit) l.groups l.counter [] l.self.types l.fn.reader.input.end l.fn.reader.input.rest.now l.reader.input.rest.now;
}
