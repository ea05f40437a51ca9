use Rattle.std.proofs.Common.{length, ap, sym, ◌∙◌, eq-eqb, eqb-true}
use Rattle.std.proofs.lemmas.List.{nil_from_length}
use Rattle.dwarf_bytes.proofs.cursor.Cursor.is_empty.Goals as goal

pub returns : goal.returns
returns c =
    let rest = c.args.self.now.rest.now in (
      λ t. nil_from_length rest (eqb-true (length rest) 0 (sym c.is_empty.ensures ∙ t)),
      λ e. c.is_empty.ensures ∙ eq-eqb (length rest) 0 (ap length e),
    )
