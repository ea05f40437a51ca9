-- A cursor that moves past what a reader has read.
use Rattle.std.proofs.Common.{◌≡◌, ℕ, ◌+◌, ◌-◌, ◌≤◌, List, length, drop, ap, sym, ◌∙◌, length-append, arith}
use Rattle.std.proofs.lemmas.List.{drop_at}
use Rattle.wasm_ops.specs.Position.{Position, Moves}

module _ (old new : Position) (text : List ℕ) (moves : Moves old text new) where
  whole : length old.rest ≡ length text + length new.rest
  whole = ap length moves.parts ∙ length-append text new.rest

  passed : length text ≡ length old.rest - length new.rest
  passed = omega (arith, whole)

  pub follows : drop (length old.rest - length new.rest) old.rest ≡ new.rest
  follows = ap (drop (length old.rest - length new.rest)) moves.parts ∙ drop_at text new.rest (length old.rest - length new.rest) passed

  pub is_within : length new.rest ≤ length old.rest
  is_within = omega (arith, whole)

  pub place_is : old.place + (length old.rest - length new.rest) ≡ new.place
  place_is = ap (λ (n : ℕ). old.place + n) (sym passed) ∙ sym moves.place
