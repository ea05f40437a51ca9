use Rattle.wasm_module.proofs.ModuleLemmas.{extends_same, extends_then}
use Rattle.wasm_module.proofs.KeptPairLemmas.{none_kept_as}
use Rattle.wasm_module.proofs.parsed.ParsedModule.measure_code.Goals as goal

pub bodies-init : goal.bodies-init
bodies-init g c = record {
  extends = extends_same c.args.self.now;
  kept = λ source e. none_kept_as (g.B.BodyWriter.writes c.args.bodies.now) source c.keeper-keeper.result.kept c.keeper-keeper.ensures;
}

pub bodies-preserved : goal.bodies-preserved
bodies-preserved g c = record {
  extends = extends_then c.args.self.now c.bodies.self c.measure_body.new.self c.bodies.invariant.extends c.in_ok-measured.ensures.extends;
  kept = λ source e.
      c.in_ok-measured.ensures.kept source (extends_then source c.args.self.now c.bodies.self e c.bodies.invariant.extends) (c.bodies.invariant.kept source e);
}

pub returns-clause-kept : goal.returns-clause-kept
returns-clause-kept g c = c.bodies.invariant.kept
