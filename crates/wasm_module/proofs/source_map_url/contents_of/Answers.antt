use Rattle.std.proofs.Common.{◌≡◌, ℕ, List, [], ◌++◌}
use Rattle.wasm_sections.specs.CodeSections.{entry}
use Rattle.wasm_module.proofs.source_map_url.contents_of.Goals as goal

both_entries :
    (none first second a name b url : List ℕ) → none ≡ [] → a ≡ name → b ≡ url → first ≡ none ++ entry a → second ≡ first ++ entry b → second ≡ entry name ++ entry url
both_entries none first second a name b url p q r s t = rw (t, s, p, q, r)

pub returns-in-Ok-write_bytes : goal.returns-in-Ok-write_bytes
returns-in-Ok-write_bytes c =
    both_entries _ _ _ _ _ _ _ c.new-contents.ensures.items c.as_bytes.ensures.value c.as_bytes-2.ensures.value c.in-Ok.ensures.written c.in-Ok-write_bytes.ensures.written
