use Rattle.std.proofs.lemmas.Bool.Decides.{Decides-eqb}
use Rattle.std.proofs.lemmas.Slice.Eq.{starts_is}
use Rattle.wasm_module.proofs.NameLemmas.{same_name}
use Rattle.wasm_module.proofs.custom.has_name_of.Goals as goal

pub returns-in-Ok : goal.returns-in-Ok
returns-in-Ok c = λ is_true.
    let old = c.args.section.now.contents.rest.now in
    let new = c.args.contents.now in
    let front = c.until.result.now in
    let begins = (starts_is Decides-eqb new front c.starts_with.result c.starts_with.ensures.value).0 is_true in
    same_name old new c.in-Ok.field-0-0.now c.in-Ok.following.rest.now front c.in-Ok.ensures.value c.until.ensures begins
