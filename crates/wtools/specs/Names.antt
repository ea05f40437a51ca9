-- What the programs are called.
use Rattle.std.specs.Prelude.{◌≢◌, ℕ, List, codes}
use Rattle.wtools.specs.declared.naming.Chosen.{Chosen}
use Rattle.wtools.specs.declared.naming.Chosen.TheVariants.{Rewrite, Snip, Count, Meter, Collect, Measure}

abbrev pub name_of : Chosen → List ℕ
name_of Rewrite = codes "wrewrite"
name_of Snip = codes "wsnip"
name_of Count = codes "wcount"
name_of Meter = codes "wmeter"
name_of Collect = codes "wgc"
name_of Measure = codes "wbench"

-- This text is the name of no program.
abbrev pub NamesNone : List ℕ → Type 0
NamesNone text = (chosen : Chosen) → name_of chosen ≢ text
