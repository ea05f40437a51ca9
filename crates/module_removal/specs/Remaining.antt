-- What is left of a module: its items, and the functions that have to be declared.
use Rattle.std.specs.Prelude.{◌≡◌, ◌↔◌, ℕ, Bool, true, List, length}
use Rattle.reaching.specs.Reaching.{edges_of, IsReachedFrom}
use Rattle.reaching.specs.Searching.{is_set}
use Rattle.module_removal.specs.declared.item.Item.{Item}
use Rattle.module_removal.specs.declared.references.References.{References}
use Rattle.module_removal.specs.declared.remainder.Remainder.{Remainder}
use Rattle.module_removal.specs.LeftSpaces.{AreMarked}
use Rattle.module_removal.specs.Declaring.{undeclared_in}
use Rattle.module_removal.specs.Edges.{roots_of}

-- The items are left that have a mark that is set, of one mark for each number.
pub record IsRemainder (r : References) (marks : List Bool) (x : Remainder) : Type 0 where
  pub left : AreMarked r.counts marks x.left
  pub undeclared : x.undeclared.items ≡ undeclared_in r.taken r.counts marks

-- The items are left that are reached from the module itself and from these.
abbrev pub IsReachedPart : References → (roots : List Item) → Remainder → Type 0
IsReachedPart r roots x =
    (marks : List Bool)
    × ((n : ℕ) → (is_set marks n ≡ true) ↔ IsReachedFrom (length r.graph.last.items) (edges_of r.graph) (roots_of r.counts roots) n)
    × IsRemainder r marks x
