use Rattle.std.proofs.Common.{◌≡◌, ◌≤◌, ◌-◌, length}
use Rattle.wasm_sections.specs.Format.{field_part}
use Rattle.wasm_sections.specs.Parts.{repeated}
use Rattle.wasm_sections.specs.TypeParts.{fields_part}
use Rattle.wasm_sections.proofs.types.TypeReader.fields.Given as goal

abbrev pub invariant-fields : goal.invariant-fields
invariant-fields l = record {
  same_limit : l.self.limit ≡ l.fn.self.limit;
  same_end : l.self.input.end ≡ l.fn.self.input.end;
  shorter : length l.self.input.rest.now ≤ length l.fn.self.input.rest.now;
  is :
      fields_part l.fn.self.limit l.fn.self.input.end l.fn.self.input.rest.now
      ≡ repeated (λ u. field_part l.self.limit) (l.count - l.counter) tt l.self.input.end l.self.input.rest.now;
}
