use Rattle.std.proofs.Common.{inl}
use Rattle.wasm_sections.specs.CodeSections.{body_at}
use Rattle.wasm_module.proofs.VisitedLemmas.{if_visited, if_stopped}
use Rattle.wasm_module.proofs.parsed.ParsedModule.visit_function.Goals as goal

pub returns-in-Ok-clause-visited : goal.returns-in-Ok-clause-visited
returns-in-Ok-clause-visited g c =
    if_visited (goal.F-step g) c.args.self.now c.parse.new.self c.args.visit.now c.args.body.func (body_at c.args.body) _ c.visit.result c.visit.new.self c.in-Ok.ensures.parsed c.visit.ensures

pub returns-in-Ok-clause-stops : goal.returns-in-Ok-clause-stops
returns-in-Ok-clause-stops g c =
    if_stopped (goal.F-step g) c.args.self.now c.parse.new.self c.args.visit.now c.args.body.func (body_at c.args.body) _ c.visit.result c.visit.new.self c.in-Ok.ensures.parsed c.visit.ensures

pub returns-in-Err-clause-stops : goal.returns-in-Err-clause-stops
returns-in-Err-clause-stops g c = inl (c.parse.new.self, c.in-Err.ensures.refused)
