use Rattle.std.proofs.Common.{◌≡◌, drop}
use Rattle.wasm_sections.specs.Omissions.{texts_of, has_name}
use Rattle.wasm_sections.proofs.omissions.has_name.Given as goal

abbrev pub invariant-names : goal.invariant-names
invariant-names l = has_name (texts_of (drop l.one-index l.names)) l.name ≡ has_name (texts_of l.names) l.name
