-- The environment of a body, from the values that a caller passes.
use Rattle.std.specs.Prelude.{ℕ}
use Rattle.walrus_ir.specs.declared.module.Module.{Module}
use Rattle.walrus_maps.specs.declared.indices_to_ids.IndicesToIds.{IndicesToIds}
use Rattle.walrus_maps.specs.IndexMaps.{id_of, local_of}
use Rattle.wasm_body.specs.Naming.{Environment}

-- the environment of this function, which has this type
abbrev pub environment_of : Module → IndicesToIds → (function type : ℕ) → Environment
environment_of m indices function type = record {
  types = m.types;
  tags = m.tags;
  id_of = id_of indices;
  local_of = local_of indices function;
  type = type;
}
