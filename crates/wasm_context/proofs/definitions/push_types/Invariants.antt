-- What is there, before what is left, is all.
use Rattle.std.proofs.Common.{◌≡◌, ◌+◌, ◌++◌, length}
use Rattle.std.specs.Prelude.{map}
use Rattle.std.specs.List.{range_with_len, zip}
use Rattle.std.specs.Vec.Iter.{into_iter_items, into_iter_len}
use Rattle.wasm_typing.specs.RecursiveTypes.{defined}
use Rattle.wasm_context.specs.Contexts.{defined_of}
use Rattle.wasm_context.specs.Declarations.{declared_of}
use Rattle.wasm_context.specs.declared.declared_type.DeclaredType.{DeclaredType}
use Rattle.wasm_context.proofs.definitions.push_types.Given as goal

abbrev pub invariant-loop-ty : goal.invariant-loop-ty
invariant-loop-ty l = record {
  can_next : (goal.iterator-loop-ty).can_next l.ty-iterator;
  is_finite : (goal.iterator-loop-ty).is_finite l.ty-iterator;
  counted : into_iter_len l.ty-iterator ≡ length (into_iter_items l.ty-iterator);
  numbers : l.next + length (into_iter_items l.ty-iterator) ≡ l.fn.first + length l.fn.group.items;
  types :
      map defined_of l.types.items
      ++ map defined (zip (map declared_of (into_iter_items l.ty-iterator)) (range_with_len l.next (length (into_iter_items l.ty-iterator))))
      ≡ map defined_of l.fn.types.items ++ map defined (zip (map declared_of l.fn.group.items) (range_with_len l.fn.first (length l.fn.group.items)));
  finals :
      l.finals.items ++ map (λ (t : DeclaredType). t.is_final) (into_iter_items l.ty-iterator)
      ≡ l.fn.finals.items ++ map (λ (t : DeclaredType). t.is_final) l.fn.group.items;
}
