use Rattle.std.proofs.Common.{◌≡◌, inr, Ok, Err, sym, ap, subst}
use Rattle.walrus_ir.specs.Types.{Signature}
use Rattle.wasm_body.specs.Naming.{name_block, has_pick}
use Rattle.walrus_flat.specs.Checked.{env_of_checker}
use Rattle.walrus_flat.proofs.checker.Checker.begin.Goals as goal

pub returns-in-Err-has_pick_of-clause-err : goal.returns-in-Err-has_pick_of-clause-err
returns-in-Err-has_pick_of-clause-err c =
    inr (inr (
      c.in-Ok.ensures.parts,
      subst (λ v. (s : Signature) → name_block v c.args.ty ≡ Ok s → has_pick v s ≡ Err c.in-Err-has_pick_of.error) (ap env_of_checker c.in-Ok.ensures.same)
          (λ s n. sym (c.in-Err-has_pick_of.ensures s (c.in-Ok-named_type.ensures s n))),
    ))
