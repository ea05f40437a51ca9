use Rattle.std.proofs.Common.{sym, ap, ◌∙◌, ◌≡◌}
use Rattle.walrus_body.specs.FunctionParts.{FunctionParts}
use Rattle.walrus_body.specs.LocalFunctions.{first_slot}
use Rattle.walrus_body.proofs.local_function.LocalFunction.emit_instructions.Goals as goal

pub returns-in-Some-clause-ok : goal.returns-in-Some-clause-ok
returns-in-Some-clause-ok c =
    let f = c.args.self.now.builder in
    let builder : c.self.inside.builder ≡ f = ap (λ (p : FunctionParts). p.builder) c.self.view_is in
    let some_entry = sym c.entry_block-entry.ensures ∙ c.requires.is in
    let entry : c.entry_block-entry.result ≡ first_slot f = cc some_entry in
    let written = rw (entry, builder) at c.emit_with_map.ensures.ok in
    rw c.in-Some.is written

pub returns-in-Some-clause-same_pairs : goal.returns-in-Some-clause-same_pairs
returns-in-Some-clause-same_pairs c = rw c.in-Some.is c.emit_with_map.ensures.same_pairs
