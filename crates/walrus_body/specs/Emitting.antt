-- What writing a part of a module does to the context.
use Rattle.std.specs.Prelude.{◌≡◌, ℕ, List, ◌++◌}
use Rattle.walrus_body.specs.declared.emit.EmitContext.{EmitContext}

-- The data that is written: bytes, and pairs of a location and a place.
pub record Written : Type 0 where
  pub bytes : List ℕ
  pub code_transform : List (ℕ × ℕ)

-- The context has the same values as before, and its lists the same items.
pub record IsUnchanged (old new : EmitContext) : Type 0 where
  pub «module» : new.module.now ≡ old.module.now
  pub indices : new.indices.now ≡ old.indices.now
  pub bytes : new.bytes.items ≡ old.bytes.items
  pub func_facts : new.func_facts ≡ old.func_facts
  pub code_transform : new.code_transform.items ≡ old.code_transform.items

-- The data was appended to the context, whose module is the same.
pub record AppendsData (written : Written) (old new : EmitContext) : Type 0 where
  pub «module» : new.module.now ≡ old.module.now
  pub bytes : new.bytes.items ≡ old.bytes.items ++ written.bytes
  pub code_transform : new.code_transform.items ≡ old.code_transform.items ++ written.code_transform

-- Some data of this kind was appended.
abbrev pub AppendsSome : (Written → Type 0) → (old new : EmitContext) → Type 0
AppendsSome Is old new = (written : Written) × Is written × AppendsData written old new

-- Apart from the appended data nothing changes.
pub record ChangesNothingElse (old new : EmitContext) : Type 0 where
  pub indices : new.indices.now ≡ old.indices.now
  pub func_facts : new.func_facts ≡ old.func_facts
