use Rattle.std.proofs.Common.{ap, ◌∙◌}
use Rattle.wasm_sections.specs.declared.omissions.OmittedSections.{OmittedSections}
use Rattle.wrewrite_c.specs.Made.{without_all}
use Rattle.wrewrite_c.proofs.CallLemmas.{leaves_out}
use Rattle.wrewrite_c.proofs.stripping.strip.Goals as goal

pub returns-clause-omitted : goal.returns-clause-omitted
returns-clause-omitted g c =
    let wanted = c.args.wanted in
    let both = c.strip_all.ensures.omitted ∙ ap (λ (o : OmittedSections). without_all wanted.strips_all o) c.strip_debug.ensures.omitted in
    leaves_out wanted c.args.rewritten.now.omitted c.strip_all.new.rewritten.omitted c.requires both
