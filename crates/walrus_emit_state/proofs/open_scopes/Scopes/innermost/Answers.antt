use Rattle.std.proofs.Common.{◌≡◌, ◌-◌, ◌∙◌, ap, sym, length, List, Some}
use Rattle.std.specs.Option.{option_copied}
use Rattle.walrus_emit_state.specs.declared.open_scopes.EnteredScope.{EnteredScope}
use Rattle.std.specs.Prelude.{slice_get}
use Rattle.walrus_emit_state.specs.TreeWriting.ScopeLists.{ScopeLists}
use Rattle.walrus_emit_state.proofs.TreeWriting.ScopeTables.{innermost_is}
use Rattle.walrus_emit_state.proofs.open_scopes.Scopes.innermost.Goals as goal

pub returns : goal.returns
returns c =
    let s = c.self.inside in
    let last : slice_get s.entered.items (length s.entered.items - 1) ≡ Some c.in_ok-last.field-0.now =
    ap (λ (es : List EnteredScope). slice_get es (length es - 1)) (sym c.deref.ensures.value)
    ∙ sym c.last.ensures.value ∙ ap option_copied c.in_ok-last.was in
    let is = innermost_is s.entered.items c.in_ok-last.field-0.now last in
    (is.0, sym (ap (λ (v : ScopeLists). v.open_scopes) c.self.view_is) ∙ is.1)
