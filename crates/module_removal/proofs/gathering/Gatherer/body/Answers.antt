use Rattle.std.proofs.Common.{◌≡◌, ℕ, Some, Ok, arith, refl, subst, ◌∙◌}
use Rattle.wasm_operators.specs.declared.types.Space.TheVariants.{Funcs}
use Rattle.module_removal.specs.ItemNumbers.{number_of_item}
use Rattle.module_removal.specs.CopiedParts.{item_at}
use Rattle.module_removal.specs.NamedItems.{FindsOperators}
use Rattle.module_removal.proofs.GatherLemmas.{gathers_body}
use Rattle.module_removal.proofs.gathering.Gatherer.body.Goals as goal

pub returns : goal.returns
returns c = λ none.
    let old = c.args.self.now in
    let new = c.refer.new.self in
    let body = c.args.body.now in
    let func : c.in-Ok.func ≡ body.func = omega (arith, c.in-Ok.ensures) in
    gathers_body body.func body.input.end body.input.rest.now c.vector.new.input.rest.now old new c.clear.new.self c.vector.new.self
    c.find_operators.new.self (record { counts = old.references.counts; graph = old.references.graph; taken = c.find_operators.new.taken; numbered = c.self-1.given.0 }) c.in-Ok-number.value c.refer.result
    (c.clear.ensures.left ∙ none) c.clear.ensures.found c.in-Ok-vector.ensures.is
    (subst (λ (f : ℕ). FindsOperators f (c.vector.new.self, old.references.taken) (c.find_operators.new.self, c.find_operators.new.taken) (Ok tt) body.input.end c.vector.new.input.rest.now)
    func
    (subst (λ (n : ℕ). FindsOperators c.in-Ok.func (c.vector.new.self, old.references.taken) (c.find_operators.new.self, c.find_operators.new.taken) (Ok tt) n c.vector.new.input.rest.now)
    c.in-Ok-vector.ensures.same_end c.in-Ok-find_operators.ensures))
    (subst (λ (n : ℕ). number_of_item old.references.counts (item_at Funcs n) ≡ Some c.in-Ok-number.value) func c.in-Ok-number.ensures.ok)
    refl refl c.refer.ensures.same c.refer.ensures.ok
