use Rattle.std.proofs.Common.{ℕ, List, ◌||◌, ◌&&◌, not, refl, ap, ◌∙◌, Bor}
use Rattle.wasm_sections.specs.Omissions.{texts_of, has_name, names_debug, names_source_map}
use Rattle.wasm_sections.proofs.OmissionLemmas.{one_more_name}
use Rattle.wasm_sections.proofs.omissions.OmittedSections.keep.Goals as goal

pub returns-in-Ok-clause-ok : goal.returns-in-Ok-clause-ok
returns-in-Ok-clause-ok c = record {
  names = ap texts_of c.in-Ok.ensures.items ∙ one_more_name c.args.self.now.kept.items c.args.name;
  rest = refl;
}

pub returns-in-Err-clause-err : goal.returns-in-Err-clause-err
returns-in-Err-clause-err c = λ name.
    let o = c.args.self.now in
    ap (λ (l : List (Bor (List ℕ))). not (has_name (texts_of l) name)
    && (o.is_all || (has_name (texts_of o.named.items) name || ((o.is_debug && names_debug name) || (o.is_source_map_url && names_source_map name))))) c.in-Err.ensures.items
