use Rattle.std.proofs.Common.{◌≡◌, ◌≤◌, ◌<◌, ◌+◌, ◌-◌, ◌^◌, List, length}
use Rattle.walrus_ir.specs.Types.{ModuleType}
use Rattle.wasm_sections.specs.Format.{next_group, next_type}
use Rattle.wasm_sections.proofs.TypeReadingLemmas.{CountedSoFar}
use Rattle.wasm_sections.proofs.types.count_group.Given as goal

abbrev pub invariant-group : goal.invariant-group
invariant-group l = record {
  same_limit : l.reader.limit ≡ l.fn.reader.limit;
  same_end : l.reader.input.end ≡ l.fn.reader.input.end;
  few : l.count + length l.reader.input.rest.now ≤ l.fn.count + length l.fn.reader.input.rest.now;
  is :
      (types : List ModuleType) → length types ≡ l.fn.count → l.fn.count + length l.fn.reader.input.rest.now < 2 ^ 64 →
      CountedSoFar (next_group l.fn.reader.limit types l.fn.reader.input.end l.fn.reader.input.rest.now) (next_type l.fn.reader.limit) (l.members - l.counter) l.count
      l.reader.input.end l.reader.input.rest.now;
}
