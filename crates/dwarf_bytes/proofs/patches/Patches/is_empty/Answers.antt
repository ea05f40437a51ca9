use Rattle.std.proofs.Common.{◌≡◌, length, ap, sym, ◌∙◌, eq-eqb, eqb-true, arith}
use Rattle.std.proofs.lemmas.List.{nil_from_length}
use Rattle.dwarf_bytes.specs.Patches.{changes_from}
use Rattle.dwarf_bytes.proofs.PatchLemmas.{no_changes}
use Rattle.dwarf_bytes.proofs.patches.Patches.is_empty.Goals as goal

pub returns : goal.returns
returns c =
    let s = c.args.self.now in
    let len : s.patches.len ≡ length s.patches.items = omega (arith, s.patches.ok.0) in (
      λ t. ap (λ ps. changes_from 0 ps s.bytes.items) (nil_from_length s.patches.items (sym len ∙ eqb-true s.patches.len 0 (sym c.is_empty.ensures ∙ t))),
      λ e. c.is_empty.ensures ∙ eq-eqb s.patches.len 0 (len ∙ ap length (no_changes 0 s.patches.items s.bytes.items e)),
    )
