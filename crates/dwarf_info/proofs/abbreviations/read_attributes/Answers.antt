use Rattle.std.proofs.Common.{Some, None, inr, refl, sym, ◌∙◌}
use Rattle.std.proofs.lemmas.List.{append-nil}
use Rattle.std.proofs.lemmas.Result.{err_from_is_err_and}
use Rattle.dwarf_info.specs.Abbreviations.{taking_bytes}
use Rattle.dwarf_info.proofs.Tables.{attributes_none, attributes_more, attributes_ended, attributes_refused}
use Rattle.dwarf_info.proofs.abbreviations.read_attributes.Goals as goal

pub specifications-init : goal.specifications-init
specifications-init c = record { so_far = attributes_none c.args.input.now.rest.now c.args.attributes.now.items; same_end = refl }

pub specifications-preserved-in-Continue-branch-2 : goal.specifications-preserved-in-Continue-branch-2
specifications-preserved-in-Continue-branch-2 c =
    let read = rw c.in-Attribute.is at c.in_ok-found.ensures.gives in
    record {
      so_far = attributes_more _ _ _ _ _ c.specifications.invariant.so_far (Some c.in-Attribute.attribute) _ read c.in_ok-found.ensures.shorter c.in_ok-push-in-Attribute.ensures.items;
      same_end = c.in_ok-found.ensures.end ∙ c.specifications.invariant.same_end;
    }

pub specifications-preserved : goal.specifications-preserved
specifications-preserved c =
    let read = rw c.in-WithoutBytes.is at c.in_ok-found.ensures.gives in
    record {
      so_far = attributes_more _ _ _ _ _ c.specifications.invariant.so_far None _ read c.in_ok-found.ensures.shorter (sym (append-nil _));
      same_end = c.in_ok-found.ensures.end ∙ c.specifications.invariant.same_end;
    }

pub returns-in-End-clause-read : goal.returns-in-End-clause-read
returns-in-End-clause-read c =
    let s = c.specifications.invariant.so_far in
    let read = rw c.in-End.is at c.in_ok-found.ensures.gives in
    (taking_bytes s.done, s.now_is, attributes_ended _ _ _ _ _ s read)

pub returns-in_err-found-clause-refused : goal.returns-in_err-found-clause-refused
returns-in_err-found-clause-refused c =
    let p = err_from_is_err_and c.from_residual.result c.from_residual.ensures.1 in
    rw (p.1, p.2) (inr (_, refl, attributes_refused _ _ _ _ c.specifications.invariant.so_far _ c.in_err-found.ensures.gives))
