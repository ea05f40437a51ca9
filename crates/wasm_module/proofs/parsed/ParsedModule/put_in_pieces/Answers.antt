use Rattle.std.proofs.Common.{List, ◌++◌, sym, rules, arith}
use Rattle.wasm_body.specs.Pairs.{Pair}
use Rattle.wasm_sections.specs.CodeSections.{place_of}
use Rattle.wasm_module.specs.ToldBodies.{if_needed}
use Rattle.wasm_module.proofs.ToldLemmas.{more_needed}
use Rattle.wasm_module.proofs.parsed.ParsedModule.put_in_pieces.Goals as goal

pub returns-in-Ok-clause-written : goal.returns-in-Ok-clause-written
returns-in-Ok-clause-written g c = λ source e.
    let made = c.in-Ok.ensures.written source e in
    let name = made.4.0 in
    let appends = made.4.1 in
    let count = made.4.2 in
    let listener = made.4.3 in
    let records = g.T.MapSink.records in
    let needed = c.args.body.now.needs_pairs in
    let start = c.args.start in
    let old = place_of c.args.body.now.from in
    let last = c.write_large_body-written.new.sink.listener.now in
    let more = more_needed records c.args.sink.now last c.start.result start old needed made.0.pairs made.1 made.4.6 made.3 (sym c.start.ensures.place) in
    record {
      raw = made.0.bytes;
      pairs = made.1;
      is_written = made.2;
      len_is = omega (arith, count);
      appends = search rules;
      told = λ (first : g.row.T.Denot) (pairs : List Pair) before.
          let all : records first last (record { old_start = old; start = start; pairs = pairs ++ if_needed needed made.1 }) = more first pairs before in
          search rules;
    }
