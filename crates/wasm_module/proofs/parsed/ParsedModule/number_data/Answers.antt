use Rattle.std.proofs.Common.{◌+◌, ◌≤◌, ℕ, refl, sym, ap, ◌∙◌, arith}
use Rattle.wasm_operators.specs.declared.types.Space.TheVariants.{Data}
use Rattle.wasm_sections.specs.declared.spaces.Counts.{Counts}
use Rattle.wasm_sections.proofs.DefinedLemmas.{nothing_changed, numbers_kept, none_numbered, one_numbered}
use Rattle.wasm_module.specs.declared.parsed.ParsedModule.{ParsedModule}
use Rattle.wasm_module.proofs.parsed.ParsedModule.number_data.Goals as goal

pub segments-init : goal.segments-init
segments-init c = record {
  kept = record { kept = refl; numbers = nothing_changed Data c.args.self.now.spaces };
  reached = sym c.data_segments-counter.ensures;
  numbered = none_numbered c.data_segments-counter.result c.args.self.now.spaces c.data_segments-counter.ensures;
}

pub segments-preserved : goal.segments-preserved
segments-preserved c =
    let at = c.segments in
    let old = c.args.self.now.spaces in
    let new = c.define_data.new.self in
    let defined = c.in-Ok.ensures.defined in
    let here = defined.id_is ∙ at.invariant.reached in
    let from : old.counts.«data» ≤ at.counter = omega (arith, at.auto.counter, c.data_segments-counter.ensures) in
    record {
      kept = record {
        kept = ap (λ (m : ParsedModule). record m { spaces = new }) at.invariant.kept.kept;
        numbers = numbers_kept Data old at.self.spaces new at.invariant.kept.numbers c.in-Ok.ensures.kept;
      };
      reached = ap (λ (n : Counts). n.«data») defined.counts ∙ ap (λ (n : ℕ). n + 1) here;
      numbered = one_numbered at.counter c.in-Ok.field-0 old at.self.spaces new here from at.invariant.numbered defined;
    }
