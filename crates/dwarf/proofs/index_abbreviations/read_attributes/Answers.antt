use Rattle.std.proofs.Common.{Some, None, inr, refl, sym}
use Rattle.std.proofs.lemmas.List.{append-nil}
use Rattle.std.proofs.lemmas.Result.{err_from_is_err_and}
use Rattle.dwarf.specs.IndexEntries.{kept_attributes}
use Rattle.dwarf.proofs.IndexTables.{kept_none, kept_more, kept_ended, kept_refused}
use Rattle.dwarf.proofs.index_abbreviations.read_attributes.Goals as goal

pub specifications-init : goal.specifications-init
specifications-init c = kept_none c.args.input.now.rest.now c.args.attributes.now.items

pub specifications-preserved-in-Continue-branch-2 : goal.specifications-preserved-in-Continue-branch-2
specifications-preserved-in-Continue-branch-2 c =
    let read = rw c.in-Attribute.is at c.in_ok-found.ensures.gives in
    kept_more _ _ _ _ c.specifications.invariant _ (Some c.in-Attribute.attribute) _ read c.in_ok-found.ensures.shorter c.in_ok-push-in-Attribute.ensures.items

pub specifications-preserved : goal.specifications-preserved
specifications-preserved c =
    let read = rw c.in-WithoutBytes.is at c.in_ok-found.ensures.gives in
    kept_more _ _ _ _ c.specifications.invariant _ None _ read c.in_ok-found.ensures.shorter (sym (append-nil _))

pub returns-in-End-clause-read : goal.returns-in-End-clause-read
returns-in-End-clause-read c =
    let s = c.specifications.invariant in
    let read = rw c.in-End.is at c.in_ok-found.ensures.gives in
    (kept_attributes s.done, s.now_is, kept_ended _ _ _ _ s _ read)

pub returns-in_err-found-clause-refused : goal.returns-in_err-found-clause-refused
returns-in_err-found-clause-refused c =
    let p = err_from_is_err_and c.from_residual.result c.from_residual.ensures.1 in
    rw (p.1, p.2) (inr (_, refl, kept_refused _ _ _ _ c.specifications.invariant _ c.in_err-found.ensures.gives))
