use Rattle.std.proofs.Common.{◌≡◌, reverse, Result, Ok, refl, sym, subst}
use Rattle.std.specs.Prelude.{IsOk}
use Rattle.wasm_operators.specs.Meaning.{meaning}
use Rattle.wasm_renumber.specs.Changes.{changed_operator}
use Rattle.std.specs.Prelude.{◌⊎◌, Err}
use Rattle.wasm_body.specs.declared.error.ParseError.TheVariants.{Memory}
use Rattle.walrus_flat.specs.Checked.{env_of_checker, checking_changes}
use Rattle.walrus_flat.proofs.checker.Checker.check_parts.Goals as goal

is_ok : {A E : Type 0} (r : Result A E) (x : A) → r ≡ Ok x → IsOk r
is_ok r x e = subst IsOk (sym e) refl

pub returns-in-Ok-clause-parts : goal.returns-in-Ok-clause-parts
returns-in-Ok-clause-parts c =
    subst (λ xs. IsOk (changed_operator (checking_changes (env_of_checker c.args.self.now) (reverse xs)) (meaning c.args.operator.now))) c.as_slice.ensures.value (is_ok _ _ c.in-Ok.ensures.0)

pub returns-in-Err-clause-parts : goal.returns-in-Err-clause-parts
returns-in-Err-clause-parts c =
    subst (λ xs. (c.in-Err.fault ≡ Memory) ⊎ (changed_operator (checking_changes (env_of_checker c.args.self.now) (reverse xs)) (meaning c.args.operator.now) ≡ Err c.in-Err.fault)) c.as_slice.ensures.value c.in-Err.ensures
