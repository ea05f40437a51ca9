-- What the values of JSON texts are.
use Rattle.std.proofs.Common.{◌≡◌, ℕ, List, rules}
use Rattle.std.specs.Borrow.{Bor}
use Rattle.std.specs.declared.alloc.Global.{Global}
use Rattle.json.specs.Json.{string}
use Rattle.json.specs.Value.{value_view}
use Rattle.json.specs.declared.value.Value.{String, the_lemmas}

pub view_string : (text : Bor (List ℕ)) → value_view {A = Global} (String text) ≡ string text.now
view_string text = search (rules, the_lemmas)
