use Rattle.std.proofs.Common.{◌≡◌, ◌≤◌, ◌+◌, ◌-◌, length}
use Rattle.wasm_sections.specs.Format.{next_group, types_part}
use Rattle.wasm_sections.proofs.TypeReadingLemmas.{CountedSoFar}
use Rattle.wasm_sections.proofs.types.count_all.Given as goal

abbrev pub invariant-groups : goal.invariant-groups
invariant-groups l = record {
  same_limit : l.reader.limit ≡ l.fn.reader.limit;
  same_end : l.reader.input.end ≡ l.fn.reader.input.end;
  few : l.count + length l.reader.input.rest.now ≤ length l.initial.reader.input.rest.now;
  is :
      CountedSoFar (types_part l.fn.reader.limit l.fn.reader.input.end l.fn.reader.input.rest.now) (next_group l.fn.reader.limit) (l.groups - l.counter) l.count
      l.reader.input.end l.reader.input.rest.now;
}
