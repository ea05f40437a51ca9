use Rattle.wasm_module.proofs.parsed.ParsedModule.change_body.Goals as goal

pub returns-clause-changed : goal.returns-clause-changed
returns-clause-changed g c = λ source e. record {
  raw = c.change_function.new.memory.scratch.raw.items;
  pairs = c.change_function.new.memory.scratch.pairs.items;
  is_changed = c.in_ok-function.ensures.changed source e;
  first = c.in_ok-keep.ensures.first;
  bodies = c.in_ok-keep.ensures.bodies;
  raws = c.in_ok-keep.ensures.raws;
  fit = c.in_ok-keep.ensures.fit;
  packs = c.in_ok-keep.ensures.packs;
  len = c.in_ok-keep.ensures.len;
}
