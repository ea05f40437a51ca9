use Rattle.std.proofs.Common.{◌≡◌, ℕ, List, ◌++◌, length, take, sym, ap, ◌∙◌}
use Rattle.std.proofs.lemmas.Bool.Decides.{Decides-eqb}
use Rattle.std.proofs.lemmas.Slice.Eq.{slice_eq-Decides}
use Rattle.std.proofs.Math.Seq.{take-append_seam}
use Rattle.wasm_numbers.proofs.Agreement.{ok_is}
use Rattle.module_items.proofs.custom.contents_if_named.Goals as goal

pub returns-else-eq : goal.returns-else-eq
returns-else-eq c = λ h.
    let own = c.in-Ok.own.now in
    let name = c.args.name.now in
    let is = ok_is (length own, own ++ c.in-Ok.contents.now) (length name, name ++ h.1.0) (sym c.in-Ok.ensures ∙ h.1.1) in
    let same : own ≡ name = sym (take-append_seam own c.in-Ok.contents.now) ∙ ap (λ (x : ℕ × List ℕ). take x.0 x.1) is ∙ take-append_seam name h.1.0 in
    let decides = slice_eq-Decides Decides-eqb own name c.eq.result c.eq.ensures in
    let yes = decides.1 same in
    let no = c.if-eq.false in
    absurd cc
