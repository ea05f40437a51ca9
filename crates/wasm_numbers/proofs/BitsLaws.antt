-- Reading bits one byte at a time.
use Rattle.std.proofs.Common.{◌≡◌, ℕ, zero, suc, ◌+◌, ◌-◌, ◌*◌, ◌<◌, List, ◌∷◌, Result, Ok, Err, refl, ap, arith}
use Rattle.wasm_numbers.specs.declared.fault.ReadFault.{ReadFault}
use Rattle.wasm_numbers.specs.Reading.{many}
use Rattle.wasm_numbers.specs.Numbers.{byte, joined, bits}
use Rattle.wasm_numbers.proofs.Agreement.{ok_is}
use Rattle.wasm_numbers.proofs.Powers.{bytes}
use Rattle.wasm_numbers.specs.Results.{◌>>=◌}

pub bits_none : (text : List ℕ) → bits 0 text ≡ Ok (0, text)
unfolding many
bits_none text = refl

pub bits_short : (count : ℕ) (text : List ℕ) (e : ReadFault) → 0 < count → byte text ≡ Err e → bits count text ≡ Err e
unfolding many
bits_short zero text e h p = absurd (omega arith)
bits_short (suc count) text e h p = rw p refl

-- the number of some bytes, and of the same bytes after one more
abbrev as_number : List ℕ × List ℕ → Result (ℕ × List ℕ) ReadFault
as_number x = Ok (joined x.0, x.1)

abbrev after_byte : ℕ → List ℕ × List ℕ → Result (List ℕ × List ℕ) ReadFault
after_byte b others = Ok (b ∷ others.0, others.1)

fault_after : (b : ℕ) (read : Result (List ℕ × List ℕ) ReadFault) (e : ReadFault) → (read >>= as_number) ≡ Err e → ((read >>= after_byte b) >>= as_number) ≡ Err e
fault_after b (Ok x) e p = absurd cc
fault_after b (Err d) e p = p

number_after : (b : ℕ) (read : Result (List ℕ × List ℕ) ReadFault) (high : ℕ) (rest : List ℕ) → (read >>= as_number) ≡ Ok (high, rest) → ((read >>= after_byte b) >>= as_number) ≡ Ok (b + 256 * high, rest)
number_after b (Ok x) high rest p =
    let both = ok_is (joined x.0, x.1) (high, rest) p in
    ap (λ (y : ℕ × List ℕ). Ok (b + 256 * y.0, y.1)) both
number_after b (Err d) high rest p = absurd cc

pub bits_fault : (count b : ℕ) (text following : List ℕ) (e : ReadFault) → 0 < count → byte text ≡ Ok (b, following) → bits (count - 1) following ≡ Err e → bits count text ≡ Err e
unfolding many
bits_fault zero b text following e h first p = absurd (omega arith)
bits_fault (suc count) b text following e h first p =
    let k : suc count - 1 ≡ count = omega arith in
    let q : bits count following ≡ Err e = rw (← k) p in
    rw first (fault_after b (many byte count following) e q)

pub bits_more : (count b : ℕ) (text following : List ℕ) (high : ℕ) (rest : List ℕ) → 0 < count → byte text ≡ Ok (b, following) → bits (count - 1) following ≡ Ok (high, rest) → bits count text ≡ Ok (b + 256 * high, rest)
unfolding many
bits_more zero b text following high rest h first p = absurd (omega arith)
bits_more (suc count) b text following high rest h first p =
    let k : suc count - 1 ≡ count = omega arith in
    let q : bits count following ≡ Ok (high, rest) = rw (← k) p in
    rw first (number_after b (many byte count following) high rest q)

pub ruleset reading = (bits_none, bits_short, bits_fault, bits_more, bytes)
