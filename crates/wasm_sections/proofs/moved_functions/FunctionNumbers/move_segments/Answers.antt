use Rattle.std.proofs.Common.{◌≡◌, arith}
use Rattle.wasm_sections.specs.MovedFunctions.{MovesSegment}
use Rattle.wasm_sections.proofs.MovedLemmas.{none_moved, one_moved, all_moved}
use Rattle.wasm_sections.proofs.moved_functions.FunctionNumbers.move_segments.Goals as goal

pub items-init : goal.items-init
items-init c = none_moved (MovesSegment c.args.self.imported c.args.self.added) c.pass_count.new.input.rest.now c.pass_count.new.out.items

pub items-preserved : goal.items-preserved
items-preserved c =
    let at = c.items in
    let f = c.in-Ok-move_segment.ensures in
    one_moved (MovesSegment c.args.self.imported c.args.self.added) at.counter c.pass_count.new.input.rest.now at.input.rest.now
    c.move_segment.new.input.rest.now c.pass_count.new.out.items at.out.items c.move_segment.new.out.items f.0 at.invariant f.1 f.2

pub returns : goal.returns
returns c =
    let at = c.items in
    let all : at.counter ≡ c.in-Ok.count = omega arith in
    all_moved (MovesSegment c.args.self.imported c.args.self.added) at.counter c.in-Ok.count c.args.input.now.rest.now
    c.pass_count.new.input.rest.now at.input.rest.now c.args.out.now.items c.pass_count.new.out.items at.out.items all
    c.in-Ok.ensures.count c.in-Ok.ensures.appends at.invariant
