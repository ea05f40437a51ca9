use Rattle.std.proofs.Common.{◌≡◌, ◌≤◌, length, drop}
use Rattle.std.specs.Prelude.{IfSome}
use Rattle.dwarf.specs.IndexEntries.{target_from, no_target}
use Rattle.dwarf.proofs.IndexLemmas.{IsPlace}
use Rattle.dwarf.proofs.name_index.read_target.Given as goal

abbrev pub invariant-attributes : goal.invariant-attributes
invariant-attributes l = record {
  same : target_from l.fn.input.end l.attributes no_target l.fn.input.rest.now ≡ target_from l.fn.input.end (drop l.attribute-index l.attributes) l.target l.input.rest.now;
  place : IfSome l.target.offset IsPlace;
  same_end : l.input.end ≡ l.fn.input.end;
  shorter : length l.input.rest.now ≤ length l.fn.input.rest.now;
}
