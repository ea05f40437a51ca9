-- The instructions after the steps of a script.
use Rattle.std.proofs.Common.{◌≡◌, ◌+◌, ◌≤◌, List, [], ◌∷◌, ◌++◌, map, length, refl, ap, arith}
use Rattle.walrus_ir.specs.Unfolding.{LocatedInstr}
use Rattle.walrus_insertion.specs.declared.plain_instr.PlainInstr.{PlainInstr}
use Rattle.walrus_insertion.specs.declared.probe.Edit.{Edit}
use Rattle.walrus_insertion.specs.declared.probe.Edit.TheVariants.{Keep, Insert}
use Rattle.walrus_insertion.specs.Edits.{added, edited}

-- instructions that are inserted come first
pub edited_inserts : (ps : List PlainInstr) (es : List Edit) (xs : List LocatedInstr) → edited (map Insert ps ++ es) xs ≡ map added ps ++ edited es xs
edited_inserts [] es xs = refl
edited_inserts (p ∷ ps) es xs = ap (λ ys. added p ∷ ys) (edited_inserts ps es xs)

pub edited_alone : (ps : List PlainInstr) → edited (map Insert ps) [] ≡ map added ps
edited_alone [] = refl
edited_alone (p ∷ ps) = ap (λ ys. added p ∷ ys) (edited_alone ps)

-- the new instructions are no more than the old ones and the steps
pub edited_fits : (es : List Edit) (xs : List LocatedInstr) → length (edited es xs) ≤ length xs + length es
edited_fits [] xs = omega arith
edited_fits (Insert p ∷ es) xs = omega (arith, edited_fits es xs)
edited_fits (Keep ∷ es) [] = omega (arith, edited_fits es [])
edited_fits (Keep ∷ es) (x ∷ xs) = omega (arith, edited_fits es xs)
