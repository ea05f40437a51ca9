-- What the tools make of functions.
use Rattle.std.specs.Prelude.{◌≡◌, ◌==◌, ℕ, Bool, true, false, slice_get, Some}
use Rattle.std.specs.HashSet.{HashSet, contains}
use Rattle.walrus_ir.specs.declared.seq.InstrSeq.{InstrSeq}
use Rattle.walrus_body.specs.FunctionParts.{FunctionParts}
use Rattle.walrus_body.specs.LocalFunctions.{HasEntry, first_slot}
use Rattle.inserted_code.specs.InsertedCode.{EachBegins}
use Rattle.module_tools.specs.Sequences.{counting_instrs, trapping, with_first}

-- The function's first sequence is another, and all else is as it was.
abbrev pub ChangesFirst : (change : InstrSeq → InstrSeq) → (old new : FunctionParts) → Type 0
ChangesFirst change old new =
    (was : InstrSeq) → slice_get old.builder.sequences (first_slot old.builder) ≡ Some was → new ≡ record old { builder = with_first old.builder (change was) }

-- each function adds 1 to the global before all else
abbrev pub CountsCalls : (global function : ℕ) → (old new : FunctionParts) → Type 0
CountsCalls global function old new = EachBegins (λ index. counting_instrs global) function old new

-- where its body is taken away a function only traps, and else it is as it was
abbrev pub TrapsIf : (is_taken : Bool) → (old new : FunctionParts) → Type 0
TrapsIf is_taken old new =
    (is_taken ≡ true → HasEntry old.builder → ChangesFirst trapping old new) × (is_taken ≡ false → new ≡ old)

-- the bodies of these functions are taken away, and no others
abbrev pub Snips : {S : Type 0} → (taken : HashSet ℕ S) → (function : ℕ) → (old new : FunctionParts) → Type 0
Snips taken function old new = TrapsIf (contains (λ x y. x == y) taken function) old new
