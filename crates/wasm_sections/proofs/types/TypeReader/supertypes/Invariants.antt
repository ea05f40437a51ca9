use Rattle.std.proofs.Common.{◌≡◌, ◌≤◌, ◌-◌, length}
use Rattle.wasm_sections.specs.Format.{index_part, supertypes_part}
use Rattle.wasm_operators.specs.declared.types.Space.TheVariants as spaces
use Rattle.wasm_sections.specs.Parts.{repeated}
use Rattle.wasm_sections.proofs.types.TypeReader.supertypes.Given as goal

abbrev pub invariant-supertypes : goal.invariant-supertypes
invariant-supertypes l = record {
  same_limit : l.self.limit ≡ l.fn.self.limit;
  same_end : l.self.input.end ≡ l.fn.self.input.end;
  shorter : length l.self.input.rest.now ≤ length l.fn.self.input.rest.now;
  is :
      supertypes_part l.fn.self.limit l.fn.self.input.end l.fn.self.input.rest.now
      ≡ repeated (λ u. index_part l.self.limit spaces.Types) (l.count - l.counter) tt l.self.input.end l.self.input.rest.now;
}
