use Rattle.std.proofs.Common.{ℕ, List, sym, ap, subst, ◌∙◌}
use Rattle.wasm_types.specs.declared.val_type.ValType.{ValType}
use Rattle.walrus_rewrite.specs.RawBodies.{IsRawBodyOf}
use Rattle.wasm_module.specs.declared.bodies.Scratch.{Scratch}
use Rattle.wasm_module.specs.declared.parsed.ParsedModule.{ParsedModule}
use Rattle.wasm_module.specs.AddedFunctions.{input_with, AddsRawFunction}
use Rattle.wasm_sections.specs.Sections.{IsModule}
use Rattle.wasm_module.proofs.parsed.ParsedModule.add_function.Goals as goal

pub returns-in-Ok-clause-added : goal.returns-in-Ok-clause-added
returns-in-Ok-clause-added c = λ all m.
    let scratch = c.write_with.new.scratch in
    let f = c.args.function.now in
    let bytes = c.in_ok-id.ensures.bytes ∙ ap (λ (p : ParsedModule). p.bytes.now) c.in_ok-write_with.ensures.same in
    let here = subst (λ (l : List ℕ). IsModule l all) (sym bytes) m in
    record {
      type = c.in_ok-ty.ty;
      type_is = c.in_ok-ty.ensures.index;
      as_many = c.in_ok-ty.ensures.args;
      raw = scratch.raw.items;
      pairs = scratch.pairs.items;
      is_raw_body =
          subst (λ (ls : List (ValType ℕ)). IsRawBodyOf (input_with c.args.self.now ls f) f.builder scratch.raw.items scratch.pairs.items) c.in_ok-locals.ensures
          c.in_ok-write_with.ensures.written;
      adds =
          subst (λ (l : List ℕ). AddsRawFunction all c.args.changes.now c.add_raw_function.new.changes c.in_ok-ty.ty l) (c.deref-2.ensures.value ∙ ap (λ (s : Scratch). s.raw.items) c.deref.ensures) (c.in-Ok.ensures all here);
    }
