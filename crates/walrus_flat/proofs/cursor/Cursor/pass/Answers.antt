use Rattle.std.proofs.Common.{◌≡◌, refl, sym, ap, ◌∙◌}
use Rattle.wasm_operators.specs.Spelling.{read_operation}
use Rattle.wasm_ops.specs.Position.{Position}
use Rattle.wasm_ops.proofs.Fronts.{moved}
use Rattle.wasm_ops.proofs.Passing.{is_after}
use Rattle.walrus_flat.proofs.cursor.Cursor.pass.Goals as goal

pub returns-clause-moves : goal.returns-clause-moves
returns-clause-moves c =
    let bytes = c.self.inside.rest.now in
    let rest = c.args.rest.now in
    let same : bytes ≡ c.args.self.now.rest = ap (λ (p : Position). p.rest) c.self.view_is in
    let o = c.requires.0 in
    let t = c.law_front.ensures o rest (ap read_operation same ∙ c.requires.1) in
    is_after c.args.self.now _ o t.0 (moved c.args.self.now bytes c.self.inside.place rest t.0 rest c.self.view_is (sym same ∙ t.1) refl) t.2
