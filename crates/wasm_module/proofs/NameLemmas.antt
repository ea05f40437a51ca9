-- Names of custom sections that are changed along with the code.
use Rattle.std.proofs.Common.{◌≡◌, ◌-◌, ℕ, List, ◌++◌, length, take, drop, Ok, sym, ap, ◌∙◌, arith, append_assoc, length-append}
use Rattle.std.proofs.Math.Seq.{take-append_seam}
use Rattle.wasm_numbers.specs.Numbers.{u32, unsigned}
use Rattle.wasm_sections.proofs.NumberLemmas.{number_again}
use Rattle.wasm_module.specs.WrittenModules.{HasSameName}

-- Contents that begin with the bytes of the name begin with the same name.
pub same_name :
    (old new name following front : List ℕ) → u32 old ≡ Ok (length name, name ++ following) → front ≡ take (length old - length following) old →
    new ≡ front ++ drop (length front) new → HasSameName old new
same_name old new name following front e is begins =
    let read = number_again unsigned 32 old (length name) (name ++ following) e in
    let sized : List ℕ = read.front ++ name in
    let parts : old ≡ sized ++ following = read.parts ∙ sym (append_assoc read.front name following) in
    let count : length old - length following ≡ length sized = let all = ap length parts ∙ length-append sized following in omega arith in
    let same : front ≡ sized =
    is ∙ ap (λ (n : ℕ). take n old) count ∙ ap (λ (l : List ℕ). take (length sized) l) parts ∙ take-append_seam sized following in
    let rest : List ℕ = drop (length front) new in
    let again : new ≡ read.front ++ (name ++ rest) = begins ∙ ap (λ (l : List ℕ). l ++ rest) same ∙ append_assoc read.front name rest in
    (name, (following, e), (rest, ap u32 again ∙ read.again (name ++ rest)))
