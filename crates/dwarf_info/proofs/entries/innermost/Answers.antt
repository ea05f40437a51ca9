use Rattle.std.proofs.Common.{Option, ap}
use Rattle.std.specs.Prelude.{unwrap_or}
use Rattle.dwarf_info.specs.declared.scope.Scope.{Scope}
use Rattle.dwarf_info.specs.declared.scope.Scope.TheVariants as scopes
use Rattle.dwarf_info.proofs.entries.innermost.Goals as goal

pub returns-in-Some : goal.returns-in-Some
returns-in-Some c = ap (λ (o : Option Scope). unwrap_or o scopes.Unit) c.in-Some.ensures.value

pub returns-in-None : goal.returns-in-None
returns-in-None c = ap (λ (o : Option Scope). unwrap_or o scopes.Unit) c.in-None.ensures.value
