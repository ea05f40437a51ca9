use Rattle.std.proofs.Common.{◌≡◌, inr, Some, Err, sym, ap, subst, ◌∙◌}
use Rattle.walrus_ir.specs.Types.{Signature, signature_of_type}
use Rattle.walrus_flat.specs.Checked.{env_of_checker}
use Rattle.walrus_flat.specs.Checkers.{has_handler_type}
use Rattle.walrus_flat.proofs.checker.Checker.begin_clause.Goals as goal

pub returns-in-Err-clause-err : goal.returns-in-Err-clause-err
returns-in-Err-clause-err c =
    let closed = c.in-Some.ensures in
    let top = c.in-Some.top in
    inr (inr (record {
      others = c.close.new.self.«open».items;
      top = top;
      was = closed.was;
      is_try = sym c.has_clauses.ensures ∙ c.if-has_clauses.true;
      has_no_type = λ s t.
          sym (subst (λ v. (s : Signature) → signature_of_type v.types top.ty ≡ Some s → Err c.in-Err.error ≡ has_handler_type v c.args.tag s.results) (ap env_of_checker closed.is) c.in-Err.ensures s t);
    }))
