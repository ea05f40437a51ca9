use Rattle.std.proofs.Common.{◌≤◌, ◌+◌}
use Rattle.wasm_module.proofs.MapLineLemmas.{LinesSoFar}
use Rattle.wasm_module.proofs.map_sink.write_lines.Given as goal

abbrev pub invariant-loop-pair : goal.invariant-loop-pair
invariant-loop-pair g l = record {
  fits : l.end + 34 ≤ 512;
  so_far : LinesSoFar l.body.start l.body.pairs.now l.pair-index l.buffer l.end (g.M.Write.contents l.fn.map) (g.M.Write.contents l.map);
}
