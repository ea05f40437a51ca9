use Rattle.std.proofs.Common.{◌≡◌, ℕ, true, List, Option, Some, Ok, refl, sym, ap, subst, ◌∙◌, option_map}
use Rattle.wasm_sections.specs.Sections.{section_id}
use Rattle.module_items.specs.Replacing.{placed_contents, IsItemReplaced}
use Rattle.module_items.proofs.replacing.replace.Goals as goal

pub returns-in-Ok-clause-ok : goal.returns-in-Ok-clause-ok
returns-in-Ok-clause-ok c = λ all m.
    let kind = c.args.kind in
    let place = c.args.place in
    let new = c.args.new in
    let contents = c.in-Ok-Some.contents in
    let old = c.args.changes.now in
    let are : Some (contents.end, contents.rest.now) ≡ placed_contents all old (section_id kind) =
    ap (λ (f : _). option_map (λ i. (i.end, i.rest.now)) f) (sym c.in-Ok-Some.field-0-is) ∙ c.in-Ok-Some.ensures.are all m in
    let made = c.in-Ok-Some-with_replaced in
    let is = made.ensures.made ∙ ap (λ (f : _). Ok (option_map (λ v. v.items) f)) made.field-0-is in
    subst (λ (o : Option (ℕ × List ℕ)). IsItemReplaced kind place new.count new.bytes.now o old c.set_contents.new.self true) are
    (Some made.made.items, is, (refl, c.in-Ok.ensures.sets))
