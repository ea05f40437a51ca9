use Rattle.wasm_sections.specs.CodeSections.{body_at}
use Rattle.wasm_module.proofs.ModuleLemmas.{extends_then}
use Rattle.wasm_module.proofs.RefusalLemmas.{if_not_rewritten_then}
use Rattle.wasm_module.proofs.RewritingLemmas.{rewritten_with_ok, parsed_ok}
use Rattle.wasm_module.proofs.parsed.ParsedModule.rewrite_with_pairs.Goals as goal

pub returns-in_ok-add_missing_types-in-Err-clause-extends : goal.returns-in_ok-add_missing_types-in-Err-clause-extends
returns-in_ok-add_missing_types-in-Err-clause-extends c =
    let first = extends_then c.args.self.now c.rewrite_once_with_pairs.new.self c.add_missing_types.new.self c.rewrite_once_with_pairs.ensures.extends c.add_missing_types.ensures.extends in
    extends_then c.args.self.now c.add_missing_types.new.self c.rewrite_once_with_pairs-in-Err.new.self first c.rewrite_once_with_pairs-in-Err.ensures.extends

pub returns-in_ok-add_missing_types-in-Err-clause-rewritten : goal.returns-in_ok-add_missing_types-in-Err-clause-rewritten
returns-in_ok-add_missing_types-in-Err-clause-rewritten c =
    let first = extends_then c.args.self.now c.rewrite_once_with_pairs.new.self c.add_missing_types.new.self c.rewrite_once_with_pairs.ensures.extends c.add_missing_types.ensures.extends in
    rewritten_with_ok c.args.self.now c.add_missing_types.new.self c.args.body.func (body_at c.args.body) c.rewrite_once_with_pairs-in-Err.new.scratch.raw.items _
    c.rewrite_once_with_pairs-in-Err.result first c.rewrite_once_with_pairs-in-Err.ensures.rewritten

pub returns-in_ok-add_missing_types-in-Err-clause-parsed : goal.returns-in_ok-add_missing_types-in-Err-clause-parsed
returns-in_ok-add_missing_types-in-Err-clause-parsed c =
    let first = extends_then c.args.self.now c.rewrite_once_with_pairs.new.self c.add_missing_types.new.self c.rewrite_once_with_pairs.ensures.extends c.add_missing_types.ensures.extends in
    parsed_ok c.args.self.now c.add_missing_types.new.self c.rewrite_once_with_pairs-in-Err.new.self c.args.body.func (body_at c.args.body) c.rewrite_once_with_pairs-in-Err.result first
    c.rewrite_once_with_pairs-in-Err.ensures.parsed

pub returns-in_ok-add_missing_types-in-Err-clause-refused : goal.returns-in_ok-add_missing_types-in-Err-clause-refused
returns-in_ok-add_missing_types-in-Err-clause-refused c =
    let first = extends_then c.args.self.now c.rewrite_once_with_pairs.new.self c.add_missing_types.new.self c.rewrite_once_with_pairs.ensures.extends c.add_missing_types.ensures.extends in
    if_not_rewritten_then c.args.self.now c.add_missing_types.new.self c.rewrite_once_with_pairs-in-Err.new.self c.args.body.func (body_at c.args.body) c.rewrite_once_with_pairs-in-Err.result first
    c.rewrite_once_with_pairs-in-Err.ensures.refused

pub returns-in_err-add_missing_types-in-Err-clause-extends : goal.returns-in_err-add_missing_types-in-Err-clause-extends
returns-in_err-add_missing_types-in-Err-clause-extends c =
    extends_then c.args.self.now c.rewrite_once_with_pairs.new.self c.add_missing_types.new.self c.rewrite_once_with_pairs.ensures.extends c.add_missing_types.ensures.extends
