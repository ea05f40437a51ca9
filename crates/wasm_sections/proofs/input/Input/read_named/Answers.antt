use Rattle.wasm_sections.proofs.input.Input.read_named.Goals as goal

pub returns-clause-begins : goal.returns-clause-begins
returns-clause-begins c = record {
  named = c.number.new.self.rest.now;
  index_is = c.in_ok-index.ensures.value;
  name_is = c.in_ok-name.ensures.value;
}
