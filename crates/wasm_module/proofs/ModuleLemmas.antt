-- The parts of a module that don't change while its bodies are rewritten.
use Rattle.std.proofs.Common.{◌≡◌, List, [], ◌∷◌, ◌++◌, Result, Ok, Err, OnOk, refl, sym, ap, ◌∙◌, append_assoc}
use Rattle.std.proofs.lemmas.List.{append-nil}
use Rattle.walrus_ir.specs.Types.{ModuleType}
use Rattle.wasm_module.specs.declared.parsed.ParsedModule.{ParsedModule}
use Rattle.wasm_sections.specs.OtherLocals.{HasOtherLocals}
use Rattle.wasm_module.specs.RewrittenCode.{Extends}
use Rattle.wasm_sections.proofs.SpaceLemmas.{others_same, others_then, others_kept}

-- Two modules with the same bytes, tags, function types and number of imported functions.
pub record Alike (a b : ParsedModule) : Type 0 where
  pub bytes : b.bytes.now ≡ a.bytes.now
  pub tags : b.module.tags ≡ a.module.tags
  pub func_types : b.func_types ≡ a.func_types
  pub imported : b.imported ≡ a.imported

-- the locals are replaced, and no type is added
pub extends_locals : (a b : ParsedModule) → Alike a b → b.module.types ≡ a.module.types → HasOtherLocals a.spaces b.spaces → Extends a b
extends_locals a b alike types others = record {
  bytes = alike.bytes;
  types = ([], types ∙ sym (append-nil a.module.types));
  tags = alike.tags;
  spaces = others;
  func_types = alike.func_types;
  imported = alike.imported;
}

pub extends_same : (a : ParsedModule) → Extends a a
extends_same a = extends_locals a a (record { bytes = refl; tags = refl; func_types = refl; imported = refl }) refl (others_same a.spaces)

-- a type is added
pub extends_types : (a : ParsedModule) (added : ModuleType) (types : List ModuleType) → types ≡ a.module.types ++ added ∷ [] → Extends a (record a { «module» = record a.module { types = types } })
extends_types a added types e = record {
  bytes = refl;
  types = (added ∷ [], e);
  tags = refl;
  spaces = others_same a.spaces;
  func_types = refl;
  imported = refl;
}

-- no type is added
pub extends_no_types : (a : ParsedModule) (types : List ModuleType) → types ≡ a.module.types → Extends a (record a { «module» = record a.module { types = types } })
extends_no_types a types e =
    extends_locals a (record a { «module» = record a.module { types = types } }) (record { bytes = refl; tags = refl; func_types = refl; imported = refl }) e (others_same a.spaces)

pub extends_then : (a b c : ParsedModule) → Extends a b → Extends b c → Extends a c
extends_then a b c p q = record {
  bytes = q.bytes ∙ p.bytes;
  types = (
    p.types.0 ++ q.types.0,
    q.types.1 ∙ ap (λ (ts : List ModuleType). ts ++ q.types.0) p.types.1 ∙ append_assoc a.module.types p.types.0 q.types.0,
  );
  tags = q.tags ∙ p.tags;
  spaces = others_then a.spaces b.spaces c.spaces p.spaces q.spaces;
  func_types = q.func_types ∙ p.func_types;
  imported = q.imported ∙ p.imported;
}

-- a step that adds no type, and changes no index space
pub extends_kept :
    (a b c : ParsedModule) → Extends a b → Alike b c → c.module.types ≡ b.module.types → c.spaces.indices ≡ b.spaces.indices → c.spaces.numbers ≡ b.spaces.numbers →
    Extends a c
extends_kept a b c p alike types indices numbers = record {
  bytes = alike.bytes ∙ p.bytes;
  types = (p.types.0, types ∙ p.types.1);
  tags = alike.tags ∙ p.tags;
  spaces = others_kept a.spaces b.spaces c.spaces p.spaces indices numbers;
  func_types = alike.func_types ∙ p.func_types;
  imported = alike.imported ∙ p.imported;
}

-- ---- if something succeeded

pub then_ok : {A E P : Type 0} (r : Result A E) → P → OnOk r P
then_ok (Ok x) p = p
then_ok (Err e) p = tt
