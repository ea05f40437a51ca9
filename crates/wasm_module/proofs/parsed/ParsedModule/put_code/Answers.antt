use Rattle.std.proofs.Common.{◌≡◌, ◌+◌, ◌<◌, ℕ, Bool, length, refl, subst, ◌∙◌, arith}
use Rattle.std.specs.Prelude.{◌^◌}
use Rattle.wasm_operators.specs.Shortest.{short_number}
use Rattle.wasm_sections.specs.CodeSections.{place_of}
use Rattle.wasm_sections.specs.Sections.{section_at}
use Rattle.wasm_module.specs.ToldBodies.{if_needed}
use Rattle.wasm_sections.specs.GivenContents.{added_bodies}
use Rattle.wasm_module.specs.WrittenModules.{count_bodies}
use Rattle.wasm_module.proofs.ModuleLemmas.{extends_same, extends_then}
use Rattle.wasm_module.proofs.WritingLemmas.{if_so}
use Rattle.wasm_module.proofs.CodeLemmas.{CodeSoFar, no_bodies, one_more_body, all_bodies}
use Rattle.wasm_module.proofs.parsed.ParsedModule.put_code.Goals as goal

pub bodies-init : goal.bodies-init
bodies-init g c =
    let at = c.in_ok-count in
    let contents = g.W.Write.contents in
    record {
      extends = extends_same c.args.self.now;
      so_far = λ source e.
          no_bodies (g.B.BodyWriter.writes c.args.rewritten.now.bodies) source g.T.MapSink.records g.T.MapSink.needs c.args.self.now at.source (at.count + c.in_ok-more.more) (contents c.args.out.now) (contents c.put_number.new.out) c.args.at c.in_ok-end.end
          c.args.section.now.contents.end at.source.left.rest.now c.args.sink.now e refl at.ensures.end (at.ensures.first ∙ c.imported.ensures) c.in_ok-end.ensures.written;
    }

pub bodies-preserved : goal.bodies-preserved
bodies-preserved g c =
    let at = c.bodies in
    let contents = g.W.Write.contents in
    record {
      extends = extends_then c.args.self.now at.self c.put_body.new.self at.invariant.extends c.in_ok-end-2.ensures.extends;
      so_far = λ source e.
          let w = c.in_ok-end-2.ensures.written source (extends_then source c.args.self.now at.self e at.invariant.extends) in
          let tells =
          subst (λ (needed : Bool). g.T.MapSink.records at.sink c.put_body.new.sink (record { old_start = place_of c.in-Some.from; start = at.end + length (short_number (length w.raw)); pairs = if_needed needed w.pairs }))
          c.needs_pairs-needs_pairs.ensures w.told in
          one_more_body (g.B.BodyWriter.writes c.args.rewritten.now.bodies) source g.T.MapSink.records g.T.MapSink.needs c.args.section.now.contents.end c.in_ok-count.source.left.rest.now at.source c.next.new.self c.next.result c.in-Some.from
          at.counter (c.in_ok-count.count + c.in_ok-more.more) (contents c.args.out.now) (contents at.out) (contents c.put_body.new.out) c.args.at at.end c.in_ok-end-2.end w.raw w.pairs c.args.sink.now at.sink c.put_body.new.sink
          (at.invariant.so_far source e) c.in-Some.is c.next.ensures.steps w.is_written w.fits w.puts tells;
    }

pub returns-clause-written : goal.returns-clause-written
returns-clause-written g c = λ source e.
    let at = c.bodies in
    let contents = g.W.Write.contents in
    let writes = g.B.BodyWriter.writes c.args.rewritten.now.bodies in
    let old = contents c.args.out.now in
    let middle = contents at.out in
    let count = c.in_ok-count.count in
    let more = c.in_ok-more.more in
    let section = section_at c.args.section.now in
    let text = c.in_ok-count.source.left.rest.now in
    let all : at.counter ≡ count = omega arith in
    let known : count ≡ count_bodies c.args.self.now = omega (arith, c.body_count.ensures) in
    let small : count + more < 2 ^ 32 = omega (arith, c.in_ok-end.ensures.fits) in
    let so_far = subst (λ (n : ℕ). CodeSoFar writes source g.T.MapSink.records g.T.MapSink.needs section.end text at.source n (count + more) old middle c.args.at at.end c.args.sink.now at.sink) all (at.invariant.so_far source e) in
    if_so c.put.result c.put.ensures (λ end q.
    all_bodies writes source g.T.MapSink.records g.T.MapSink.needs c.args.self.now section text at.source count more (added_bodies c.args.rewritten.now.changes) c.in_ok-more.added.now old middle (contents c.put.new.out) c.args.at at.end end c.args.sink.now at.sink e
    c.in_ok-count.ensures.count_is_read known small so_far c.in_ok-finish.ensures c.in_ok-more.ensures q)
