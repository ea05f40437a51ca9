use Rattle.std.proofs.Common.{◌≡◌, length, ap, ◌∙◌, arith}
use Rattle.wasm_sections.specs.declared.code.Bodies.{Bodies}
use Rattle.wasm_module.specs.WrittenModules.{count_bodies}
use Rattle.wasm_module.proofs.ModuleLemmas.{extends_same, extends_then}
use Rattle.wasm_module.proofs.ChangedLemmas.{none_kept, one_kept, all_kept}
use Rattle.wasm_module.proofs.parsed.ParsedModule.change_code.Goals as goal

pub bodies-init : goal.bodies-init
bodies-init g c =
    let change = g.C.ChangeFunction in
    let first = c.into_iter-body-iterator.result in
    record {
      extends = extends_same c.args.self.now;
      so_far =
          none_kept change.changes c.args.self.now (change.state c.args.change.now) c.in_ok-kept.kept first.next (c.in_ok-kept.ensures.first ∙ c.imported.ensures) c.in_ok-kept.ensures.none
          (ap (λ (s : Bodies). s.next) c.into_iter-body-iterator.ensures.into_iter_gives ∙ c.bodies-body-items.ensures.first);
    }

pub bodies-preserved : goal.bodies-preserved
bodies-preserved g c =
    let change = g.C.ChangeFunction in
    let at = c.bodies in
    record {
      extends = extends_then c.args.self.now at.self c.change_body.new.self at.invariant.extends c.in_ok-more.ensures.extends;
      so_far =
          one_kept change.changes c.args.self.now (change.state c.args.change.now) (change.state at.change) (change.state c.change_body.new.change) at.body-iterator c.next.new.self
          c.next.result c.in-Some.body at.kept c.change_body.new.kept at.invariant.so_far c.in-Some.is c.next.ensures.steps
          (c.in_ok-more.ensures.changed c.args.self.now at.invariant.extends);
    }

pub returns-clause-kept : goal.returns-clause-kept
returns-clause-kept g c =
    let change = g.C.ChangeFunction in
    let at = c.bodies in
    let all : length at.kept.bodies.items ≡ count_bodies c.args.self.now = omega (arith, c.len.ensures, c.body_count-count.ensures) in
    all_kept change.changes c.args.self.now (change.state c.args.change.now) at.kept at.body-iterator.next (change.state at.change) all at.invariant.so_far
