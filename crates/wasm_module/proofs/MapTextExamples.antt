-- Numbers as `printf %x` prints them, and lines of a location map.
use Rattle.std.proofs.Common.{◌≡◌, [], ◌∷◌, refl}
use Rattle.std.specs.Prelude.{codes}
use Rattle.wasm_module.specs.MapText.{hex_digits_within, hexadecimal, pair_lines}

nothing_in_front : hexadecimal 0 ≡ codes "0"
unfolding hex_digits_within
nothing_in_front = refl

greatest_digit : hexadecimal 15 ≡ codes "f"
unfolding hex_digits_within
greatest_digit = refl

two_digits : hexadecimal 16 ≡ codes "10"
unfolding hex_digits_within
two_digits = refl

in_order : hexadecimal 2882400001 ≡ codes "abcdef01"
unfolding hex_digits_within
in_order = refl

zeros_within : hexadecimal 65539 ≡ codes "10003"
unfolding hex_digits_within
zeros_within = refl

greatest : hexadecimal 18446744073709551615 ≡ codes "ffffffffffffffff"
unfolding hex_digits_within
greatest = refl

-- an operator of the source, one that is new, and another one of the source: "25 32" and "28 34"
two_lines : pair_lines 48 ((37, 2) ∷ (4294967295, 3) ∷ (40, 4) ∷ []) ≡ 50 ∷ 53 ∷ 32 ∷ 51 ∷ 50 ∷ 10 ∷ 50 ∷ 56 ∷ 32 ∷ 51 ∷ 52 ∷ 10 ∷ []
unfolding hex_digits_within
two_lines = refl
