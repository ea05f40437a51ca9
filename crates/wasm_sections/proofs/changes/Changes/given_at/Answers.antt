use Rattle.std.proofs.Common.{◌≡◌, ◌≢◌, ◌<◌, length, get_or, arith}
use Rattle.wasm_sections.specs.Sections.{section_id}
use Rattle.wasm_sections.proofs.AdditionLemmas.{none_yet}
use Rattle.wasm_sections.proofs.changes.Changes.given_at.Goals as goal

pub returns-then-id-clause-found : goal.returns-then-id-clause-found
returns-then-id-clause-found c =
    let gs = c.args.self.now.given.items in
    let item = c.given-item.result in
    let is : item ≡ get_or gs c.given.at item = cc in
    let same : section_id item.kind ≡ section_id c.args.kind = cc in
    record { one = item; is_there = is; has_id = same; is_first = c.given.invariant }

pub given-preserved : goal.given-preserved
given-preserved c =
    let gs = c.args.self.now.given.items in
    let item = c.given-item.result in
    let is : item ≡ get_or gs c.given.at item = cc in
    let within : c.given.at < length gs = omega arith in
    let other : section_id item.kind ≢ section_id c.args.kind = λ e. c.if-id.false (cc) in
    none_yet gs c.given.at (section_id c.args.kind) item within is c.given.invariant other
