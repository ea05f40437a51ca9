use Rattle.std.proofs.Common.{ℕ, ap}
use Rattle.wasm_types.specs.declared.val_type.HeapType.{HeapType}
use Rattle.wasm_types.specs.declared.val_type.HeapType.TheVariants.{Concrete}
use Rattle.wasm_numbers.specs.Results.{with_fault}
use Rattle.module_removal.specs.LeftSpaces.{index_written}
use Rattle.module_removal.specs.CopiedParts.{fault_with_place}
use Rattle.module_removal.specs.CopiedConstants.{copied_heap}
use Rattle.module_removal.proofs.CopyLemmas.{puts_as}
use Rattle.module_removal.proofs.ItemCopies.{puts_heap}
use Rattle.module_removal.proofs.copier.Copier.put_heap.Goals as goal

pub returns-in-Ok : goal.returns-in-Ok
returns-in-Ok c =
    puts_as c.args.self.now c.put_heap_index.new.self c.put_heap_index.result (with_fault (fault_with_place c.args.at) (copied_heap (index_written c.args.self.now.left) (Concrete c.in-Concrete.index)))
    (with_fault (fault_with_place c.args.at) (copied_heap (index_written c.args.self.now.left) c.args.ty)) (ap (λ (h : HeapType ℕ). with_fault (fault_with_place c.args.at) (copied_heap (index_written c.args.self.now.left) h)) c.in-Concrete.is)
    (puts_heap (fault_with_place c.args.at) (index_written c.args.self.now.left) c.in-Concrete.index c.in-Ok.index c.args.self.now c.name.new.self c.put_heap_index.new.self c.put_heap_index.result c.in-Ok.ensures
    c.put_heap_index.ensures.ok c.put_heap_index.ensures.err)
