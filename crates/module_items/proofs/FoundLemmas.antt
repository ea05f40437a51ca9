-- What is found, where something is.
use Rattle.std.proofs.Common.{◌≡◌, Option, Some, subst}
use Rattle.std.specs.Prelude.{MatchOption}

-- of something that is there what is said of it holds
pub of_found : {A : Type 0} (P : Type 0) (Q : A → Type 0) {found : Option A} {x : A} → found ≡ Some x → MatchOption found P Q → Q x
of_found P Q is h = subst (λ o. MatchOption o P Q) is h
