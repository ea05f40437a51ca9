use Rattle.std.proofs.Common.{◌≡◌, not, length, ap, sym, ◌∙◌, rules, vec_len}
use Rattle.wasm_sections.proofs.OmissionLemmas.{chosen_at_once, chosen_by_name}
use Rattle.wasm_sections.proofs.omissions.OmittedSections.may_omit.Goals as goal

pub returns-then-self-3-clause-some : goal.returns-then-self-3-clause-some
returns-then-self-3-clause-some c = λ e. chosen_at_once c.args.self.now (search rules)

pub returns-else-self-3-clause-some : goal.returns-else-self-3-clause-some
returns-else-self-3-clause-some c = λ e.
    let names = c.args.self.now.named in
    let counted : length names.items ≡ vec_len names = search rules in
    chosen_by_name c.args.self.now (vec_len names) counted (ap not (sym c.is_empty.ensures) ∙ e)
