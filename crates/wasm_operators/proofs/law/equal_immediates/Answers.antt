use Rattle.std.proofs.Common.{◌≡◌, true, sym, ◌∙◌}
use Rattle.std.specs.Prelude.{◌&&◌}
use Rattle.wasm_operators.specs.declared.immediates.Immediates.TheVariants.{Clauses}
use Rattle.wasm_operators.specs.Parts.{ListedImmediates}
use Rattle.wasm_operators.proofs.SameLists.{both}
use Rattle.wasm_operators.proofs.law.equal_immediates.Goals as goal

pub returns-in-Clauses-b : goal.returns-in-Clauses-b
returns-in-Clauses-b c = λ compared.
    let type = c.same_block_type-ty.result in
    let list = c.same_clauses-catches.result in
    let joined : (type && list) ≡ true =
    (λ i. c.same_block_type-ty.ensures.compares i && c.same_clauses-catches.ensures.compares i)
    ∙ rw (c.in-Clauses.is, c.in-Clauses-b.is) at compared in
    let p = both type list joined in
    let types = c.same_block_type-ty.ensures.same p.0 in
    let lists = c.same_clauses-catches.ensures.same p.1 in
    let following : ListedImmediates = Clauses c.in-Clauses.ty c.in-Clauses.catches in
    let other : ListedImmediates = Clauses c.in-Clauses-b.other c.in-Clauses-b.other_catches in
    let same : following ≡ other = λ i. Clauses (types i) (lists i) in
    c.in-Clauses.is ∙ (same ∙ sym c.in-Clauses-b.is)
