-- The steps by which a sequence gets its new instructions.
use Rattle.std.specs.Prelude.{List, [], ◌∷◌, ◌++◌}
use Rattle.walrus_ir.specs.Locations.{default_location}
use Rattle.walrus_ir.specs.Unfolding.{LocatedInstr}
use Rattle.walrus_insertion.specs.declared.plain_instr.PlainInstr.{PlainInstr}
use Rattle.walrus_insertion.specs.declared.probe.Edit.{Edit}
use Rattle.walrus_insertion.specs.declared.probe.Edit.TheVariants.{Keep, Insert}
use Rattle.walrus_insertion.specs.PlainInstructions.{instr_of}

-- an inserted instruction: it comes from no place of the source
abbrev pub added : PlainInstr → LocatedInstr
added p = (instr_of p, default_location)

-- what a step appends to the new instructions, where these are left
abbrev pub appended_by : Edit → List LocatedInstr → List LocatedInstr
appended_by (Insert p) xs = added p ∷ []
appended_by Keep [] = []
appended_by Keep (x ∷ xs) = x ∷ []

-- what a step leaves of the instructions
abbrev pub left_by : Edit → List LocatedInstr → List LocatedInstr
left_by (Insert p) xs = xs
left_by Keep [] = []
left_by Keep (x ∷ xs) = xs

-- The instructions after these steps. Those that are left stay.
abbrev pub edited : List Edit → List LocatedInstr → List LocatedInstr
edited [] xs = xs
edited (e ∷ es) xs = appended_by e xs ++ edited es (left_by e xs)
