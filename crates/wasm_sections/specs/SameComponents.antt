-- When two modules consist of the same (WebAssembly core specification 3.0, binary format, modules), except for their code sections.
use Rattle.std.specs.Prelude.{◌≡◌, ℕ, List, Option, Some, None}
use Rattle.wasm_sections.specs.Components.{Components}

-- the number in the data count section, without its place
abbrev pub data_number : Option (ℕ × ℕ) → Option ℕ
data_number None = None
data_number (Some count) = Some count.0

-- how two code sections, if they are there, have to be related: each is the place where it ends, and its contents
abbrev pub CodeRelation : Type 1
CodeRelation = (old new : Option (ℕ × List ℕ)) → Type 0

-- Both consist of the same: only the place of the number in the data count section may differ, and the code sections, which are
-- related in this way.
pub record HasSameComponents (Code : CodeRelation) (old new : Components) : Type 0 where
  pub others : new ≡ record old { data_count = new.data_count; code = new.code }
  pub counted : data_number new.data_count ≡ data_number old.data_count
  pub code : Code old.code new.code
