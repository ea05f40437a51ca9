-- Sections whose items are checked one by one.
use Rattle.std.proofs.Common.{◌≡◌, ℕ, List, refl}
use Rattle.wasm_sections.specs.declared.sections.SectionKind.{SectionKind}
use Rattle.wasm_sections.specs.declared.sections.SectionKind.TheVariants as kind
use Rattle.wasm_sections.specs.Parts.{whole_part}
use Rattle.wasm_sections.specs.Sections.{section_id}
use Rattle.module_context.specs.ModuleContexts.{ModuleSetting}
use Rattle.module_validator.specs.Checks.{item_rule}
use Rattle.module_validator.specs.ModuleRules.{each_rule, section_rule}

pub checks_items :
    (k : SectionKind) (s : ModuleSetting) (end : ℕ) (text : List ℕ) → (k ≡ kind.Custom → ⊥) → (k ≡ kind.Type → ⊥) → (k ≡ kind.Function → ⊥) → (k ≡ kind.Global → ⊥) →
    (k ≡ kind.Export → ⊥) → (k ≡ kind.Start → ⊥) → (k ≡ kind.DataCount → ⊥) → (k ≡ kind.Code → ⊥) →
    section_rule s (section_id k) tt end text ≡ whole_part (each_rule (item_rule (section_id k) s)) end text
checks_items kind.Custom s end text u t f g e b d c = absurd (u refl)
checks_items kind.Type s end text u t f g e b d c = absurd (t refl)
checks_items kind.Function s end text u t f g e b d c = absurd (f refl)
checks_items kind.Global s end text u t f g e b d c = absurd (g refl)
checks_items kind.Export s end text u t f g e b d c = absurd (e refl)
checks_items kind.Start s end text u t f g e b d c = absurd (b refl)
checks_items kind.DataCount s end text u t f g e b d c = absurd (d refl)
checks_items kind.Code s end text u t f g e b d c = absurd (c refl)
checks_items kind.Import s end text u t f g e b d c = refl
checks_items kind.Table s end text u t f g e b d c = refl
checks_items kind.Memory s end text u t f g e b d c = refl
checks_items kind.Tag s end text u t f g e b d c = refl
checks_items kind.Element s end text u t f g e b d c = refl
checks_items kind.Data s end text u t f g e b d c = refl
