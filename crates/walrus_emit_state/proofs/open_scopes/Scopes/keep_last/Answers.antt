use Rattle.std.proofs.Common.{List, ap, sym, subst, ◌∙◌}
use Rattle.std.specs.Prelude.{reverse, length}
use Rattle.walrus_emit_state.specs.declared.closing.SequenceScope.{SequenceScope}
use Rattle.walrus_emit_state.specs.TreeWriting.ScopeLists.{ScopeLists}
use Rattle.walrus_emit_state.specs.TreeWriting.ScopeTables.{AreKnown}
use Rattle.walrus_emit_state.proofs.TreeWriting.ScopeTables.{known_first, kept_last}
use Rattle.walrus_emit_state.proofs.open_scopes.Scopes.keep_last.Goals as goal

pub invariant_of-self : goal.invariant_of-self
invariant_of-self c =
    let s = c.self.inside in
    let table = c.self.invariant in
    let known = known_first (length s.levels.items) c.args.count s.coming.items table.are_known in record {
      levels_are = table.levels_are;
      entered_are = table.entered_are;
      are_known = subst (λ (ss : List SequenceScope). AreKnown (length s.levels.items) (reverse ss)) (sym c.truncate.ensures.items) known;
    }

pub returns : goal.returns
returns c = λ more rest e many.
    let s = c.self.inside in
    let was = ap (λ (v : ScopeLists). v.coming) c.self.view_is ∙ e in
    let left = kept_last c.args.count s.coming.items more rest was many in
    λ i. record {
      count = ap (λ (v : ScopeLists). v.count) c.self.view_is i;
      coming = (ap (λ (ss : List SequenceScope). reverse ss) c.truncate.ensures.items ∙ left) i;
      open_scopes = ap (λ (v : ScopeLists). v.open_scopes) c.self.view_is i;
    }
