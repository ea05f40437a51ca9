use Rattle.std.proofs.Common.{ap}
use Rattle.wasm_operators.specs.declared.immediates.Immediates.TheVariants as immediates
use Rattle.wasm_operators.specs.Parts.{ListedImmediates}
use Rattle.wasm_operators.specs.Shortest.{short_number, short_opcode}
use Rattle.wasm_numbers.specs.Results.{with_fault}
use Rattle.module_removal.specs.LeftSpaces.{index_written}
use Rattle.module_removal.specs.CopiedParts.{fault_with_place, item_at, copied_item}
use Rattle.module_removal.specs.CopiedConstants.{before_bytes, copied_heap, copied_operation}
use Rattle.module_removal.proofs.CopyLemmas.{puts_as}
use Rattle.module_removal.proofs.ItemCopies.{puts_after, puts_before}
use Rattle.module_removal.proofs.copier.Copier.put_parts.Goals as goal

pub returns-in-Ok-put_index : goal.returns-in-Ok-put_index
returns-in-Ok-put_index c =
    puts_as c.args.self.now c.put_number.new.self c.put_number.result (with_fault (fault_with_place c.args.at) (copied_operation (index_written c.args.self.now.left) c.args.bytes.now c.args.opcode (immediates.IndexNumber c.in-IndexNumber.space c.in-IndexNumber.index c.in-IndexNumber.number))) (with_fault (fault_with_place c.args.at) (copied_operation (index_written c.args.self.now.left) c.args.bytes.now c.args.opcode c.args.parts))
    (ap (λ (p : ListedImmediates). with_fault (fault_with_place c.args.at) (copied_operation (index_written c.args.self.now.left) c.args.bytes.now c.args.opcode p)) c.in-IndexNumber.is)
    (puts_after (fault_with_place c.args.at) (λ w. before_bytes (short_number c.in-IndexNumber.number) (copied_item w (item_at c.in-IndexNumber.space c.in-IndexNumber.index))) (short_opcode c.args.opcode)
    c.args.self.now c.put_opcode-in-IndexNumber.new.self c.put_number.new.self c.put_number.result c.in-Ok-put_opcode.ensures.ok
    (puts_before (fault_with_place c.args.at) (copied_item (index_written c.put_opcode-in-IndexNumber.new.self.left) (item_at c.in-IndexNumber.space c.in-IndexNumber.index)) (short_number c.in-IndexNumber.number)
    c.put_opcode-in-IndexNumber.new.self c.put_index-in-IndexNumber.new.self c.put_number.new.self c.put_number.result c.in-Ok-put_index.ensures
    c.put_number.ensures.ok c.put_number.ensures.err))

pub returns-in-Ok-put_opcode-2 : goal.returns-in-Ok-put_opcode-2
returns-in-Ok-put_opcode-2 c =
    puts_as c.args.self.now c.put_heap.new.self c.put_heap.result (with_fault (fault_with_place c.args.at) (copied_operation (index_written c.args.self.now.left) c.args.bytes.now c.args.opcode (immediates.Heap c.in-Heap.ty))) (with_fault (fault_with_place c.args.at) (copied_operation (index_written c.args.self.now.left) c.args.bytes.now c.args.opcode c.args.parts))
    (ap (λ (p : ListedImmediates). with_fault (fault_with_place c.args.at) (copied_operation (index_written c.args.self.now.left) c.args.bytes.now c.args.opcode p)) c.in-Heap.is)
    (puts_after (fault_with_place c.args.at) (λ w. copied_heap w c.in-Heap.ty) (short_opcode c.args.opcode) c.args.self.now c.put_opcode-in-Heap.new.self c.put_heap.new.self
    c.put_heap.result c.in-Ok-put_opcode-2.ensures.ok c.put_heap.ensures)
