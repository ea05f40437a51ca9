-- A given number of bytes is read if there are at least that many.
use Rattle.std.proofs.Common.{◌≡◌, ℕ, zero, suc, ◌<◌, ◌≤◌, List, [], ◌∷◌, length, take, drop, Ok, Err, refl, arith}
use Rattle.wasm_numbers.specs.declared.fault.ReadFault.TheVariants.{Truncated}
use Rattle.wasm_numbers.specs.Reading.{many}
use Rattle.wasm_numbers.specs.Numbers.{byte}

pub many_bytes : (n : ℕ) (bytes : List ℕ) → n ≤ length bytes → many byte n bytes ≡ Ok (take n bytes, drop n bytes)
unfolding many
many_bytes zero bytes h = refl
many_bytes (suc n) [] h = absurd (omega arith)
many_bytes (suc n) (b ∷ bytes) h = rw (many_bytes n bytes (omega arith)) refl

pub few_bytes : (n : ℕ) (bytes : List ℕ) → length bytes < n → many byte n bytes ≡ Err Truncated
unfolding many
few_bytes zero bytes h = absurd (omega arith)
few_bytes (suc n) [] h = refl
few_bytes (suc n) (b ∷ bytes) h = rw (few_bytes n bytes (omega arith)) refl

pub ruleset reading_lanes = (many_bytes, few_bytes)
