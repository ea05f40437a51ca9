use Rattle.std.proofs.Common.{[], ◌∷◌, ◌++◌, length, is_ok, ap, ◌∙◌, arith}
use Rattle.wasm_sections.specs.CodeSections.{BodyAt, body_at}
use Rattle.wasm_module.specs.KeptCode.{bodies_in, raws_in}
use Rattle.wasm_module.proofs.KeptLemmas.{bodies_more, raws_more, same_body}
use Rattle.wasm_module.proofs.KeptPairLemmas.{packs_then, packs_pushed, within_pushed}
use Rattle.wasm_module.proofs.changing.kept_bodies.KeptBodies.keep_parts.Goals as goal

pub returns-clause-bodies : goal.returns-clause-bodies
returns-clause-bodies c =
    let same = same_body (record { start = c.start.result; bytes = c.bytes.result.now }) (body_at c.args.source) c.start.ensures.place c.bytes.ensures in
    ap bodies_in c.in_ok-push.ensures.items ∙ bodies_more _ _ ∙ ap (λ (b : BodyAt). bodies_in c.args.self.now.bodies.items ++ b ∷ []) same

pub returns-clause-raws : goal.returns-clause-raws
returns-clause-raws c = ap (raws_in c.args.self.now.raws.items) c.in_ok-push.ensures.items ∙ raws_more c.args.self.now.raws.items _ _

pub returns-clause-packs : goal.returns-clause-packs
returns-clause-packs c = packs_then c.args.self.now.pairs.items c.args.self.now.bodies.items c.push.new.self.items _ c.in_ok-push.ensures.items

pub invariant_of-self : goal.invariant_of-self
invariant_of-self c =
    let old = c.args.self.now in
    let len = length old.raws.items in
    record {
      within = within_pushed old.bodies.items c.push.new.self.items _ len len (is_ok c.push.result) c.push.ensures.items old.within (omega arith) c.requires.within;
      packs = packs_pushed old.pairs.items old.bodies.items c.push.new.self.items _ (is_ok c.push.result) c.push.ensures.items old.packs c.requires.pack;
    }
