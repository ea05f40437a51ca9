-- Faults of modules that are read, and aren't valid: refusals with numbers.
use Rattle.wasm_body.specs.declared.error.ParseError.TheVariants as parse
use Rattle.wasm_sections.specs.declared.fault.ModuleFault.{ModuleFault}
use Rattle.wasm_sections.specs.declared.fault.ModuleFault.TheVariants as fault

abbrev pub invalid_type : ModuleFault
invalid_type = fault.Parse (parse.Checked 1)

abbrev pub invalid_limits : ModuleFault
invalid_limits = fault.Parse (parse.Checked 2)

abbrev pub tag_results : ModuleFault
tag_results = fault.Parse (parse.Checked 3)

abbrev pub start_type : ModuleFault
start_type = fault.Parse (parse.Checked 4)

abbrev pub no_initial_value : ModuleFault
no_initial_value = fault.Parse (parse.Checked 5)

abbrev pub segment_type : ModuleFault
segment_type = fault.Parse (parse.Checked 6)

abbrev pub invalid_operator : ModuleFault
invalid_operator = fault.Parse (parse.Checked 7)
