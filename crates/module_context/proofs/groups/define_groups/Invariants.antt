use Rattle.std.proofs.Common.{◌≡◌, ◌-◌, []}
use Rattle.wasm_context.specs.Definitions.{IsDefining}
use Rattle.module_context.specs.TypeSections.{groups_part}
use Rattle.module_context.proofs.GroupLemmas.{GroupsSoFar}
use Rattle.module_context.proofs.groups.define_groups.Given as goal

abbrev pub invariant-groups : goal.invariant-groups
invariant-groups l = record {
  same_end : l.input.end ≡ l.fn.input.end;
  so_far :
      IsDefining l.fn.definitions [] → GroupsSoFar (groups_part l.fn.input.end l.fn.input.rest.now) (l.count - l.counter) l.definitions l.input.end l.input.rest.now;
}
