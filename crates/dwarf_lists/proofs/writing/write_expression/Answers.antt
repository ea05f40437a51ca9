use Rattle.std.proofs.Common.{◌≡◌, ◌++◌, Ok, length, sym, ◌∙◌, subst, append_assoc, rules}
use Rattle.dwarf_bytes.specs.Writing.{fixed_bytes}
use Rattle.dwarf_lists.specs.declared.entry.Kind.{Kind}
use Rattle.dwarf_lists.specs.Entries.{expression_of}
use Rattle.dwarf_lists.proofs.Written.{sized_read}
use Rattle.dwarf_lists.proofs.writing.write_expression.Goals as goal

pub returns-in_ok-extend_from_slice-in-Locations-clause-written : goal.returns-in_ok-extend_from_slice-in-Locations-clause-written
returns-in_ok-extend_from_slice-in-Locations-clause-written c =
    let expression = c.args.expression.now in
    let size = fixed_bytes 2 (length expression) in
    let text : c.extend_from_slice.new.self.items ≡ (c.args.out.now.items ++ size) ++ expression = search rules in (
      size ++ expression,
      text ∙ append_assoc c.args.out.now.items size expression,
      λ following. subst (λ (k : Kind). expression_of k ((size ++ expression) ++ following) ≡ Ok (expression, following)) (sym c.in-Locations.is) (sized_read expression following c.in_ok-write_sized-in-Locations.ensures.fits),
    )
