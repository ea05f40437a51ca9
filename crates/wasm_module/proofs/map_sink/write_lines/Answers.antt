use Rattle.std.proofs.Common.{◌+◌, ◌<◌, ℕ, length, subst, sym, arith}
use Rattle.wasm_module.proofs.MapLineLemmas.{LinesSoFar, one_more_pair, lines_out}
use Rattle.wasm_module.proofs.map_sink.write_lines.Goals as goal
use Rattle.wasm_module.proofs.map_sink.write_lines.Goals.{then-end+in_ok-write_all, else-end}

pub loop-pair-preserved : goal.loop-pair-preserved
loop-pair-preserved g c =
    let at = c.loop-pair in
    let contents = g.M.Write.contents in
    let old = contents c.args.map.now in
    let start = c.args.body.start in
    let pairs = c.args.body.pairs.now in
    let count = at.pair-index + 1 in
    let buffer = c.put_pair.new.buffer in
    let some : at.pair-index < length pairs = omega arith in
    let more =
    one_more_pair start pairs at.pair-index at.buffer buffer at.end c.in_ok-end.end old (contents at.map) c.pair-item.result at.invariant.so_far some c.pair-item.is
    c.in_ok-end.ensures.written in
    elim c.if-end.branch [
      | then-end+in_ok-write_all w ↦
          let out = lines_out start pairs count buffer c.in_ok-end.end old (contents at.map) (contents w.write_all.new.self) more w.in_ok-write_all.ensures.bytes in
          let ends = subst (λ (n : ℕ). LinesSoFar start pairs count buffer n old (contents w.write_all.new.self)) (sym w.end-is) out in
          record {
            fits = omega (arith, w.end-is);
            so_far = subst (λ (m : g.row.M.Denot). LinesSoFar start pairs count buffer c.if-end.end old (contents m)) (sym w.map-is) ends;
          }
      | else-end w ↦
          let ends = subst (λ (n : ℕ). LinesSoFar start pairs count buffer n old (contents at.map)) (sym w.end-is) more in
          record {
            fits = omega (arith, w.end-is, w.if-end.false);
            so_far = subst (λ (m : g.row.M.Denot). LinesSoFar start pairs count buffer c.if-end.end old (contents m)) (sym w.map-is) ends;
          }
    ]
