-- Operators whose types the module has.
use Rattle.std.specs.Prelude.{◌≡◌, List, [], Some}
use Rattle.std.specs.List.{AllByRecursion}
use Rattle.walrus_ir.specs.declared.val_type.InstrSeqType.{InstrSeqType}
use Rattle.walrus_ir.specs.Types.{Signature}
use Rattle.wasm_body.specs.Control.{Role, a_block, a_loop, an_if, a_try, a_try_table, role_of}
use Rattle.wasm_body.specs.Translation.{Located}
use Rattle.wasm_body.specs.Naming.{NamedOperation, block_types, block_signature}
use Rattle.wasm_body.specs.NormalForm.{Typing}

-- Each of these is the signature of the type of a sequence.
abbrev pub HasSignatures : Typing → InstrSeqType → List Signature → Type 0
HasSignatures m t ss = AllByRecursion (λ s. m.signature_of t ≡ Some s) ss

abbrev pub IsOpener : Typing → NamedOperation → Type 0
IsOpener m o = HasSignatures m (m.picked (block_signature o)) (block_types o.immediates)

-- If the operator opens a construct, the picked type of a sequence has its block type as signature; another operator has no
-- block type.
abbrev pub IsTypedAs : Typing → Role → NamedOperation → Type 0
IsTypedAs m a_block o = IsOpener m o
IsTypedAs m a_loop o = IsOpener m o
IsTypedAs m an_if o = IsOpener m o
IsTypedAs m a_try o = IsOpener m o
IsTypedAs m a_try_table o = IsOpener m o
IsTypedAs m _ o = block_types o.immediates ≡ []

abbrev pub AreTyped : Typing → List (Located NamedOperation) → Type 0
AreTyped m xs = AllByRecursion (λ x. IsTypedAs m (role_of x.op.opcode) x.op) xs
