use Rattle.std.proofs.Common.{drop, length, inr, codes}
use Rattle.std.proofs.lemmas.Bool.Decides.{Decides-eqb}
use Rattle.std.proofs.lemmas.Slice.Eq.{starts_is}
use Rattle.std.proofs.lemmas.Str.Pattern.{starts_text}
use Rattle.wasm_module.proofs.custom.follows_code.Goals as goal

pub returns-else-eq : goal.returns-else-eq
returns-else-eq c = λ is_true.
    let name = c.in-Ok.name.now in
    let front = codes "metadata.code." in
    let begins = (starts_is Decides-eqb name front c.starts_with.result (starts_text c.starts_with.result front name c.starts_with.ensures.cases)).0 is_true in
    (name, c.in-Ok.field-0-1.rest.now, c.in-Ok.ensures.value, inr (drop (length front) name, begins))
