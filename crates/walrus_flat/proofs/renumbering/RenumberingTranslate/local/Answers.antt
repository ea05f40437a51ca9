use Rattle.std.proofs.Common.{◌≡◌, ℕ, ◌<◌, true, Some, Result, Ok, Err, refl, sym, ap, ◌∙◌, arith}
use Rattle.std.specs.Prelude.{◌^◌, nat_lt, IfOk}
use Rattle.std.proofs.lemmas.Bool.Decides.{nat_tests}
use Rattle.std.proofs.lemmas.Result.{IfOk-at_ok}
use Rattle.wasm_numbers.specs.Results.{◌>>=◌, unless, with_fault, some_or}
use Rattle.wasm_body.specs.declared.error.EmitError.{EmitError}
use Rattle.wasm_body.specs.declared.error.EmitError.TheVariants.{Index, TooLarge, UnnumberedLocal}
use Rattle.wasm_body.specs.declared.error.IndexError.{IndexError}
use Rattle.wasm_body.specs.Bytes.{in_32_bits}
use Rattle.walrus_maps.specs.IndexMaps.{local_of}
use Rattle.walrus_numbering.specs.EmittedLocals.{number_in}
use Rattle.walrus_numbering.specs.NumberMaps.{numbers_by}
use Rattle.walrus_numbering.proofs.FittingNumbers.{local_number_is}
use Rattle.walrus_flat.specs.UsedLocals.{entries_of}
use Rattle.walrus_flat.proofs.renumbering.RenumberingTranslate.local.Goals as goal

below : (n : ℕ) → n < 2 ^ 32 → nat_lt n (2 ^ 32) ≡ true
below n h = grind (arith, nat_tests)

fits : (r : Result ℕ EmitError) → IfOk r (λ n. n < 2 ^ 32) → (r >>= in_32_bits) ≡ r
fits (Ok n) h = ap (λ b. unless b TooLarge >>= λ u. Ok n) (below n h)
fits (Err e) h = refl

numbered : (number : ℕ → Result ℕ EmitError) (l : Result ℕ IndexError) (id : ℕ) (r : Result ℕ EmitError) → l ≡ Ok id → r ≡ number id → IfOk r (λ n. n < 2 ^ 32) → r ≡ (with_fault Index l >>= λ k. number k >>= in_32_bits)
numbered number l id r e is few = sym (ap (λ k. with_fault Index k >>= λ k. number k >>= in_32_bits) e ∙ (ap (λ k. k >>= in_32_bits) (sym is) ∙ fits r few))

pub returns : goal.returns
returns c =
    let r = c.args.self.now in
    let entries = entries_of r.locals.now in
    let made = c.local_number.result in
    let id = c.in_ok-id.id in
    let few : (n : ℕ) → number_in entries id ≡ Some n → n < 2 ^ 32 =
    λ n is. IfOk-at_ok (λ n. n < 2 ^ 32) (c.local_number.ensures.number ∙ ap (λ o. some_or o UnnumberedLocal) is) c.local_number.ensures.fits in
    let number : made ≡ (numbers_by r.types.now r.ids.now entries).local_number id =
    c.local_number.ensures.number ∙ sym (local_number_is r.types.now r.ids.now entries id few) in
    numbered (numbers_by r.types.now r.ids.now entries).local_number (local_of r.indices.now r.function c.args.index) id made (sym c.in_ok-id.ensures) number c.local_number.ensures.fits
