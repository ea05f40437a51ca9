-- Sections with debug information that have the names of others.
use Rattle.std.specs.Prelude.{◌≡◌, List, [], ◌∷◌}
use Rattle.module_debug.specs.declared.sections.DebugSection.{DebugSection}

-- as many sections as these, in order, each with the same name
abbrev pub AreNamedAs : (sections named : List DebugSection) → Type 0
AreNamedAs [] ts = ts ≡ []
AreNamedAs (s ∷ ss) ts = (t : DebugSection) × (rest : List DebugSection) × (ts ≡ t ∷ rest) × (t.name.now ≡ s.name.now) × AreNamedAs ss rest
