-- The law of validity: the text of a normal form is that of a right rewriting of the body.
use Rattle.std.proofs.Common.{List, map}
use Rattle.wasm_body.specs.SourceTree.{Body}
use Rattle.wasm_body.specs.Translation.{Located}
use Rattle.wasm_body.specs.Naming.{NamedOperation}
use Rattle.wasm_body.specs.NormalForm.{Typing, typing_of, balances, construct_type, normal_form, name_at, named_body}
use Rattle.wasm_body.specs.Typed.{AreTyped}
use Rattle.wasm_body.specs.TextLaws.{IsNamedBody, IsTextOf}
use Rattle.wasm_body.specs.ValidityLaws.{StaysValid, NamedValidityKept, ValidityKept}
use Rattle.wasm_body.specs.RewrittenTree.{rewritten_body, rewritten_text}
use Rattle.wasm_body.proofs.NormalForm.NamedTexts.{has_text, text_is_body}
use Rattle.wasm_body.proofs.Bytes.LawfulTyped.{lawful_named}
use Rattle.wasm_body.proofs.Executions.NormalForms.{rewritten_rewrites}
use Rattle.wasm_body.proofs.Validity.ValidSequences.{valid_kept}
use Rattle.wasm_body.proofs.Validity.HeightsAgree.{valid_by_heights, valid_with_heights}

-- every text of the normal form
pub text_stays_valid : {T : Type 0} → (m : Typing) (xs : List (Located NamedOperation)) (b : Body (Located NamedOperation)) → IsNamedBody xs b → AreTyped m xs
    → (ys : List (Located NamedOperation)) → IsTextOf m (normal_form m b) ys → StaysValid T m xs ys
text_stays_valid m xs b hx h ys hy r rs ls v =
    let rewrites = rewritten_rewrites (λ o. balances m (construct_type m o)) b.sequence in
    valid_with_heights m r rs ls ys
    (valid_kept m r b (rewritten_body m b) rewrites xs ys hx (text_is_body m xs b hx h ys hy) rs ls (valid_by_heights m r rs ls xs v))

pub named_validity_kept : {T : Type 0} → NamedValidityKept T
named_validity_kept m xs b hx h =
    let t = has_text m xs b hx h in
    record { text = rewritten_text m b; is_text = t; stays_valid = text_stays_valid m xs b hx h (rewritten_text m b) t }

pub validity_kept : {T : Type 0} → ValidityKept T
validity_kept env xs b spelt lawful =
    let named = lawful_named env xs b spelt lawful in named_validity_kept (typing_of env) (map name_at xs) (named_body b) named.0 named.1
