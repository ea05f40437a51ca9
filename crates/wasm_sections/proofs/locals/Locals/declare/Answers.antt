-- A group is its count and its type, and a type index of the type has an id.
use Rattle.std.proofs.Common.{sym, ◌∙◌}
use Rattle.wasm_sections.proofs.LocalLemmas.{reads_group, names_group, on_ok_so}
use Rattle.wasm_sections.proofs.locals.Locals.declare.Goals as goal

pub returns-in-Ok-clause-group : goal.returns-in-Ok-clause-group
returns-in-Ok-clause-group c =
    on_ok_so c.add.result c.add.ensures.types (λ new. record {
      declared = (c.in_ok-count.count, c.in_ok-ty.ty);
      is_read = reads_group c.args.input.now.rest.now c.number.new.self.rest.now c.value_type.new.self.rest.now c.in_ok-count.count c.in_ok-ty.ty c.in_ok-count.ensures.value c.in_ok-ty.ensures.value;
      named = (c.in_ok-count.count, c.in-Ok.ty);
      is_named = names_group c.args.indices.now c.in_ok-count.count c.in_ok-ty.ty c.in-Ok.ty (sym c.value_type-2.ensures ∙ c.in-Ok.is);
      new_are = new;
    })
